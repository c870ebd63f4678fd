use Rattle.std.proofs.Common.{rules}
use Rattle.fort_core.specs.declared.term.Term.{the_lemmas as term_lemmas}
use Rattle.fort_form_typed.specs.declared.typed_form.TypedForm.{the_lemmas}
use Rattle.fort_elab_meaning.specs.Translated.{part}
use Rattle.fort_elab_meaning.proofs.laws.forms_are_worked.Goals as goal

pub returns : goal.returns
unfolding part
returns c =
    λ g s x. (
      search (rules, the_lemmas),
      search (rules, the_lemmas),
      search (rules, the_lemmas),
      search (rules, the_lemmas),
      search (rules, the_lemmas, term_lemmas),
    )
