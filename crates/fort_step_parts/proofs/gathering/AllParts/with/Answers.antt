use Rattle.fort_machine.specs.Ends.{standing, has_stepped, at_value, at_throw}
use Rattle.fort_step_parts.proofs.ByStanding.{if_standing}
use Rattle.fort_step_parts.proofs.gathering.AllParts.with.Goals as goal

pub returns-in-Value : goal.returns-in-Value
returns-in-Value c =
    if_standing c.with_value.result c.args.self (standing c.args.part.now)
    (at_value c.in-Value.value.now) (has_stepped c.args.part.now) c.in-Value.ensures
    c.with_value.ensures

pub returns-in-Throw : goal.returns-in-Throw
returns-in-Throw c =
    if_standing c.with_throw.result c.args.self (standing c.args.part.now)
    (at_throw c.in-Throw.value.now) (has_stepped c.args.part.now) c.in-Throw.ensures
    c.with_throw.ensures
