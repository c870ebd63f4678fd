use Rattle.fort_threads.proofs.Objects.{objects_stand_apart}
use Rattle.fort_threads.proofs.objects_stand_apart.Goals as goal

pub returns : goal.returns
returns c = objects_stand_apart
