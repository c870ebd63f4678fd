-- Each run of a program with spawned threads is one of the machine with threads.
use Rattle.fort_threads_law_whole.specs.Whole.{EachRunIsThreaded}
use Rattle.fort_threads_law_whole.proofs.Serving.{servers_go_on}
use Rattle.fort_threads_law_whole.proofs.ServeFirst.{first_goes_on}
use Rattle.fort_threads_law_whole.proofs.ThreadPicks.{threads_go_on, first_thread_goes_on}
use Rattle.fort_threads_law_whole.proofs.MayGoes.{threads_may_go, first_may_go}
use Rattle.fort_threads_law_whole.proofs.Begun.{all_begins}
use Rattle.fort_threads_law_whole.proofs.Early.{early_goes_on}
use Rattle.fort_threads_law_whole.proofs.Whole.{run_is_threaded}

pub each_run_is_threaded : EachRunIsThreaded
each_run_is_threaded p n m o k g is begins starts picks t d run =
    run_is_threaded
    (record {
      servers = servers_go_on;
      first = first_goes_on;
      threads = threads_go_on;
      first_thread = first_thread_goes_on;
      may = threads_may_go;
      first_may = first_may_go;
    })
    (record { early = early_goes_on; begins_all = all_begins })
    p n m o k g is begins starts picks t d run
