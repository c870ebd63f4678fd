use Rattle.fort_form_law_figures.proofs.Declarations.{forms_have_figures}
use Rattle.fort_form_law_figures.proofs.laws.forms_have_figures.Goals as goal

pub returns : goal.returns
returns c = forms_have_figures
