use Rattle.std.proofs.Common.{sym}
use Rattle.fort_machine.specs.Attempts.{aborts}
use Rattle.fort_store_effects.specs.declared.cell.Closing.TheVariants.{Aborted}
use Rattle.fort_walk_course.proofs.Trying.{aborted_stands, close_picks, come_same, has_attempt, is_open, nothing_thrown, one_waits}
use Rattle.fort_walk_course.proofs.execution.Execution.aborted.Goals as goal

pub unreachable-requires : goal.unreachable-requires
unreachable-requires c =
    one_waits c.args.self c.as_slice.result.now c.requires.inside
    (rw c.get_mut-run.ensures.value at c.as_slice.ensures) (sym c.in-None.ensures.value)

pub after_abort-requires : goal.after_abort-requires
after_abort-requires c =
    rw c.get_mut-run.ensures.value
    (has_attempt c.args.program.now c.args.self aborts c.requires.come c.requires.inside)

pub close-requires-clause-open : goal.close-requires-clause-open
close-requires-clause-open c =
    is_open c.args.program.now (record c.args.self { layers = c.after_abort.new.layers }) aborts
    (come_same c.args.program.now c.args.self aborts c.after_abort.new.layers c.requires.come
    (rw c.get_mut-run.ensures.value at c.after_abort.ensures.kept)) c.requires.inside

pub returns-in-None-at-clause-going : goal.returns-in-None-at-clause-going
returns-in-None-at-clause-going c =
    nothing_thrown c.args.program.now c.args.self c.as_slice.result.now c.in-Some.waiting.now
    c.in_ok-at-in-Some.at (rw c.get_mut-run.ensures.value at c.as_slice.ensures)
    (sym c.in-Some.ensures.value)
    (rw c.get_mut-run.ensures.value at c.in_ok-at-in-Some.ensures.becomes) c.in-None-at.is

pub returns-in_ok-course-in-Some-at-clause-going : goal.returns-in_ok-course-in-Some-at-clause-going
returns-in_ok-course-in-Some-at-clause-going c =
    aborted_stands c.args.program.now c.args.self c.after_abort.new.layers _ c.as_slice.result.now
    c.in-Some.waiting.now c.in_ok-at-in-Some.at c.in-Some-at.at c.requires.come
    (rw c.get_mut-run.ensures.value at c.after_abort.ensures.kept)
    (rw c.get_mut-run.ensures.value at c.as_slice.ensures)
    (sym c.in-Some.ensures.value)
    (rw c.get_mut-run.ensures.value at c.in_ok-at-in-Some.ensures.becomes) c.in-Some-at.is
    (rw c.get_mut-run.ensures.value at c.in_ok-course-in-Some-at.ensures)

pub returns-in_ok-course-in-Some-at-clause-picks : goal.returns-in_ok-course-in-Some-at-clause-picks
returns-in_ok-course-in-Some-at-clause-picks c =
    close_picks Aborted c.args.self c.after_abort.new.layers _
    (rw c.get_mut-run.ensures.value at c.in_ok-course-in-Some-at.ensures)
