use Rattle.std.proofs.Common.{[]}
use Rattle.fort_member_fields.proofs.Walking.{flat_more}
use Rattle.fort_form_walk.specs.FormsOf.{declared_bodies}
use Rattle.fort_form_walk.specs.Reading.{tables}
use Rattle.fort_form_walk.proofs.bodies.bodies.Goals as goal

pub loop-declared-preserved : goal.loop-declared-preserved
loop-declared-preserved c =
    flat_more (declared_bodies (tables c.args.lookup.now)) c.args.declarations.now
    c.loop-declared.declared-index c.declared-item.result [] _ _ c.loop-declared-test.true
    c.declared-item.is c.loop-declared.invariant c.in_ok-add_bodies.ensures
