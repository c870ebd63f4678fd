use Rattle.std.proofs.Common.{sym, ap, ◌∙◌}
use Rattle.fort_link.specs.Whole.{components, all_declared_before}
use Rattle.fort_link.proofs.Seams.{one_taken}
use Rattle.fort_link.proofs.whole.declarations.Goals as goal

pub loop-unit-preserved : goal.loop-unit-preserved
loop-unit-preserved c =
    ap (all_declared_before (components c.pop.new.self)) c.in_ok-others.ensures
    ∙ (sym (one_taken c.loop-unit.units c.pop.new.self c.in-Some.unit c.loop-unit.others
    c.in-Some.ensures)
    ∙ c.loop-unit.invariant)
