use Rattle.std.proofs.Common.{subst, sym}
use Rattle.fort_walk_turns.specs.Walks.{Walks}
use Rattle.fort_walk.proofs.Writing.{moved_written, ran_ready, ran_within, ran_written}
use Rattle.fort_walk.proofs.walking.walk_side_by_side.Goals as goal

pub write_rest-progress-requires-clause-ready : goal.write_rest-progress-requires-clause-ready
write_rest-progress-requires-clause-ready g c =
    ran_ready _ _ c.in_ok-walked.walked c.in-Ran.ran c.in_ok-walked.progress
    c.in_ok-walked.ensures.written c.in-Ran.is

pub write_rest-progress-requires-clause-within : goal.write_rest-progress-requires-clause-within
write_rest-progress-requires-clause-within g c =
    rw c.as_slice.ensures
    (ran_within _ _ c.in_ok-walked.walked c.in-Ran.ran c.in_ok-walked.progress
    c.in_ok-walked.ensures.written c.in-Ran.is)

pub returns-clause-run : goal.returns-clause-run
returns-clause-run g c =
    subst (Walks c.args.tables.now.program.now c.args.fuel) c.in-Ran.is
    c.in_ok-walked.ensures.walks

pub returns-clause-written : goal.returns-clause-written
returns-clause-written g c =
    moved_written _ _ _ c.write_rest-progress.result
    (c.write_rest-progress.ensures.written _ _
    (moved_written _ _ _ c.in_ok-walked.progress
    (ran_written _ _ c.in_ok-walked.walked c.in-Ran.ran c.in_ok-walked.progress
    c.in_ok-walked.ensures.written c.in-Ran.is) (sym c.as_slice.ensures))) c.as_slice.ensures

pub unreachable-requires : goal.unreachable-requires
unreachable-requires g c =
    c.requires.never
    (subst (Walks c.args.tables.now.program.now c.args.fuel) c.in-Stuck.is
    c.in_ok-walked.ensures.walks)
