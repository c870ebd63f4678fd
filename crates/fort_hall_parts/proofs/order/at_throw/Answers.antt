use Rattle.fort_hall_parts.proofs.Forms.{throw_found}
use Rattle.fort_hall_parts.proofs.order.at_throw.Goals as goal

pub returns-in-Some-clause-none : goal.returns-in-Some-clause-none
returns-in-Some-clause-none c =
    throw_found c.args.thrown.now c.get.result.now c.in_ok-value_of.field-0 c.in-Some._value
    c.get.ensures c.in-Some.is c.in_ok-value_of.ensures
