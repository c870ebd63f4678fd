use Rattle.fort_typing_law_ready.proofs.Ready.{forms_ready}
use Rattle.fort_typing_law_ready.proofs.laws.forms_are_ready.Goals as goal

pub returns : goal.returns
returns c = forms_ready c.accepted_before_typing.ensures c.forms_are_fit.ensures
