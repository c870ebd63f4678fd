use Rattle.fort_sound_forms.proofs.Sound.{forms_have_types}
use Rattle.fort_sound_forms.proofs.laws.forms_have_types.Goals as goal

pub returns : goal.returns
returns c = forms_have_types
