use Rattle.fort_threads_law_servers.proofs.Rooted.{each_run_is_served}
use Rattle.fort_threads_law_servers.proofs.each_run_is_served.Goals as goal

pub returns : goal.returns
returns c = each_run_is_served
