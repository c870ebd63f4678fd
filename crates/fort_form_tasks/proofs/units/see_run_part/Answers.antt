use Rattle.std.proofs.Common.{[], ◌∷◌, ap, ◌∙◌}
use Rattle.fort_tree.specs.declared.expr.RunPart.{RunPart}
use Rattle.fort_form_meaning.specs.Formed.{formed_run_part}
use Rattle.fort_form_meaning.proofs.FormsFlats.{forms-Atom, forms-Postfix}
use Rattle.fort_form_tasks.proofs.Steps.{one_seen}
use Rattle.fort_form_tasks.proofs.units.see_run_part.Goals as goal

pub returns-in_ok-see-in-Atom : goal.returns-in_ok-see-in-Atom
returns-in_ok-see-in-Atom c =
    λ k. one_seen k (c.in_ok-see-in-Atom.ensures k) (ap (λ
    (x : RunPart). formed_run_part k x ∷ []) c.in-Atom.is ∙ ap (λ u. u ∷ []) (forms-Atom k _))

pub returns-in_ok-see-in-Postfix : goal.returns-in_ok-see-in-Postfix
returns-in_ok-see-in-Postfix c =
    λ k. one_seen k (c.in_ok-see-in-Postfix.ensures k) (ap (λ
    (x : RunPart). formed_run_part k x ∷ []) c.in-Postfix.is
    ∙ ap (λ u. u ∷ []) (forms-Postfix k _))
