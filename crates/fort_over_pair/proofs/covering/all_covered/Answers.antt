use Rattle.std.proofs.Common.{refl, arith}
use Rattle.std.proofs.lemmas.Option.{slice_get_read}
use Rattle.fort_over_pair.proofs.Covered.{covered_more, covered_all}
use Rattle.fort_over_pair.proofs.covering.all_covered.Goals as goal

pub loop-types-preserved : goal.loop-types-preserved
loop-types-preserved c =
    covered_more c.args.table.now c.args.members.now c.args.first.now c.args.second.now
    c.args.choices.now c.types-item.result c.loop-types.types-index
    (slice_get_read _ _ _ _ refl c.loop-types-test.true c.types-item.is)
    (λ h k. (c.if-not-is_covered.ensures h k).0 refl) c.loop-types.invariant

pub returns : goal.returns
returns c h k =
    covered_all c.args.table.now c.args.members.now c.args.first.now c.args.second.now
    c.args.choices.now c.loop-types.types-index h k (omega arith) c.loop-types.invariant
