use Rattle.fort_sound_typed.proofs.Awake.{someone_may_go}
use Rattle.fort_sound_typed.proofs.someone_may_go.Goals as goal

pub returns : goal.returns
returns c = someone_may_go
