use Rattle.std.proofs.Common.{refl}
use Rattle.fort_core.specs.declared.journal.Ending.TheVariants.{Uncaught}
use Rattle.fort_walk_course.proofs.Ended.{ends_uncaught, root_ended}
use Rattle.fort_walk_course.proofs.execution.Execution.end_uncaught.Goals as goal

pub returns-clause-run : goal.returns-clause-run
returns-clause-run c =
    ends_uncaught c.args.program.now c.args.self c.ended.result c.args.thrown c.requires.come
    c.requires.outside (rw c.into_course.ensures at c.ended.ensures)

pub returns-clause-picks : goal.returns-clause-picks
returns-clause-picks c =
    root_ended c.args.self c.args.self c.args.self.outer (Uncaught c.args.thrown) c.ended.result
    (rw c.into_course.ensures at c.ended.ensures) c.requires.outside refl
