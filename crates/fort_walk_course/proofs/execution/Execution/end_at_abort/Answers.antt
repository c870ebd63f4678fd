use Rattle.fort_walk_course.proofs.Ended.{abort_is_last}
use Rattle.fort_walk_course.proofs.execution.Execution.end_at_abort.Goals as goal

pub out_of_fuel-requires : goal.out_of_fuel-requires
out_of_fuel-requires c =
    abort_is_last c.args.program.now c.args.self c.args.place.now c.in_ok-copy.field-0
    c.requires.may c.requires.passes c.in_ok-copy.ensures
