use Rattle.fort_walk_course.proofs.Ended.{step_is_last}
use Rattle.fort_walk_course.proofs.execution.Execution.end_at_step.Goals as goal

pub out_of_fuel-requires : goal.out_of_fuel-requires
out_of_fuel-requires c =
    step_is_last c.args.program.now c.args.self c.args.place.now c.in_ok-copy.field-0 c.args.loc.0
    c.requires c.in_ok-copy.ensures
