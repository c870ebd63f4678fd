use Rattle.fort_machine.specs.Ends.{throw_of}
use Rattle.fort_machine.specs.Attempts.{goes}
use Rattle.fort_store_effects.specs.declared.cell.Closing.TheVariants.{Failed}
use Rattle.fort_walk_course.proofs.Trying.{close_picks, fails, is_open}
use Rattle.fort_walk_course.proofs.execution.Execution.fail.Goals as goal

pub close-requires-clause-open : goal.close-requires-clause-open
close-requires-clause-open c =
    is_open c.args.program.now c.args.self (goes (throw_of c.args.thrown)) c.requires.come
    c.requires.inside

pub close-requires-clause-spent : goal.close-requires-clause-spent
close-requires-clause-spent c = c.requires.come.is_spent

pub returns-clause-going : goal.returns-clause-going
returns-clause-going c =
    fails c.args.program.now c.args.self _ c.args.thrown c.requires.come c.in_ok-course.ensures

pub returns-clause-picks : goal.returns-clause-picks
returns-clause-picks c = close_picks Failed c.args.self c.args.self.layers _ c.in_ok-course.ensures
