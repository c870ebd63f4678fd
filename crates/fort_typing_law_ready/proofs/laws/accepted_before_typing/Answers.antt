use Rattle.fort_typing_law_ready.proofs.AcceptedLaws.{keepers_accepted}
use Rattle.fort_typing_law_ready.proofs.laws.accepted_before_typing.Goals as goal

pub returns : goal.returns
returns c = keepers_accepted
