use Rattle.std.proofs.Common.{ap, sym, ◌∙◌, ◌∷◌, [], arith}
use Rattle.fort_juxt.proofs.Joining.{joins_more}
use Rattle.fort_juxt.proofs.groupings.joined.Goals as goal

pub loop-at-preserved : goal.loop-at-preserved
loop-at-preserved c =
    joins_more c.args.from c.loop-at.at c.loop-at.grouping (omega arith) c.loop-at.invariant
    ∙ ap (λ g. g ∷ []) (sym c.in_ok-grouping.ensures)
