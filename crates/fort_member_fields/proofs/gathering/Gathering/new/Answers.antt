use Rattle.fort_member_fields.proofs.GatherLaws.{copies_own}
use Rattle.fort_member_fields.proofs.gathering.Gathering.new.Goals as goal

pub returns-clause-gathers : goal.returns-clause-gathers
returns-clause-gathers c =
    copies_own c.args.own.now _ c.loop-field.field-index c.loop-field-test.false
    c.loop-field.invariant.1
