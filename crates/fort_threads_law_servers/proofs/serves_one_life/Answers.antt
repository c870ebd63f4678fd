use Rattle.fort_threads_law_servers.proofs.Lifetime.{serves_one_life}
use Rattle.fort_threads_law_servers.proofs.serves_one_life.Goals as goal

pub returns : goal.returns
returns c = serves_one_life
