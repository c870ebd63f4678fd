-- The laws, each by its name.
use Rattle.fort_threads_law_whole.proofs.Threaded.{each_run_is_threaded}
use Rattle.fort_threads_law_thrown.proofs.Laws.{throws_finely, thrown_are_exceptions}
use Rattle.fort_threads_law_worked.specs.Worked.{worked, worked_names, worked_start, worked_own, worked_known, worked_ground, WorkedIsSound, WorkedIsThreaded, WorkedRunsAreThreaded}
use Rattle.fort_threads_law_worked.proofs.Sounding.{worked_sound}
use Rattle.fort_threads_law_worked.proofs.Completing.{worked_complete}
use Rattle.fort_threads_law_worked.proofs.Worked.{threaded_by}

pub worked_is_sound : WorkedIsSound
worked_is_sound = (worked_sound, worked_complete)

pub worked_is_threaded : WorkedIsThreaded
worked_is_threaded = threaded_by throws_finely thrown_are_exceptions

pub worked_runs_are_threaded : WorkedRunsAreThreaded
worked_runs_are_threaded picks t d run =
    let w = worked_is_threaded in
    each_run_is_threaded worked worked_names worked_start worked_own worked_known worked_ground w.1
    w.2 w.3 picks t d run
