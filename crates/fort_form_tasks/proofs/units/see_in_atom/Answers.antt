use Rattle.std.proofs.Common.{[], ◌∷◌, ap, ◌∙◌}
use Rattle.fort_tree.specs.declared.expr.Expr.{Expr}
use Rattle.fort_tree.specs.declared.expr.Atom.{Atom, out-Atom}
use Rattle.fort_tree.specs.declared.delimited.Delimited.{Delimited}
use Rattle.fort_form_meaning.specs.Formed.{formed_delimited, formed_expr}
use Rattle.fort_form_tasks.specs.Tasks.{atom_at}
use Rattle.fort_form_tasks.proofs.Inside.{in-Name, in-Number, in-Text, in-True, in-False, in-Self_, in-Parens, in-Delimited, in-ArrayFill}
use Rattle.fort_form_tasks.proofs.Steps.{by, none_seen, one_seen, two_seen}
use Rattle.fort_form_tasks.proofs.units.see_in_atom.Goals as goal

pub returns-in-Name : goal.returns-in-Name
returns-in-Name c =
    λ k. none_seen k (ap (λ (x : Atom). atom_at k (out-Atom x)) c.in-Name.is ∙ in-Name k _)

pub returns-in-Number : goal.returns-in-Number
returns-in-Number c =
    λ k. none_seen k (ap (λ (x : Atom). atom_at k (out-Atom x)) c.in-Number.is ∙ in-Number k _ _)

pub returns-in-Text : goal.returns-in-Text
returns-in-Text c =
    λ k. none_seen k (ap (λ (x : Atom). atom_at k (out-Atom x)) c.in-Text.is ∙ in-Text k _ _)

pub returns-in-True : goal.returns-in-True
returns-in-True c =
    λ k. none_seen k (ap (λ (x : Atom). atom_at k (out-Atom x)) c.in-True.is ∙ in-True k _)

pub returns-in-False : goal.returns-in-False
returns-in-False c =
    λ k. none_seen k (ap (λ (x : Atom). atom_at k (out-Atom x)) c.in-False.is ∙ in-False k _)

pub returns-in-Self_ : goal.returns-in-Self_
returns-in-Self_ c =
    λ k. none_seen k (ap (λ (x : Atom). atom_at k (out-Atom x)) c.in-Self_.is ∙ in-Self_ k _)

pub returns-in_ok-see_in_list-in-Parens : goal.returns-in_ok-see_in_list-in-Parens
returns-in_ok-see_in_list-in-Parens c =
    λ k. one_seen k (c.in_ok-see_in_list-in-Parens.ensures k) (ap (λ
    (x : Atom). atom_at k (out-Atom x)) c.in-Parens.is ∙ in-Parens k _ _ _)

pub returns-in_ok-see-in-Delimited : goal.returns-in_ok-see-in-Delimited
returns-in_ok-see-in-Delimited c =
    λ k. one_seen k (by k (λ
    (x : Delimited). formed_delimited k x ∷ []) c.get.ensures
    (c.in_ok-see-in-Delimited.ensures k)) (ap (λ
    (x : Atom). atom_at k (out-Atom x)) c.in-Delimited.is ∙ in-Delimited k _)

pub returns-in_ok-see-in-ArrayFill-2 : goal.returns-in_ok-see-in-ArrayFill-2
returns-in_ok-see-in-ArrayFill-2 c =
    λ k. two_seen k _ _ (by k (λ
    (x : Expr). formed_expr k x ∷ []) c.get-in-ArrayFill.ensures
    (c.in_ok-see-in-ArrayFill.ensures k)) (by k (λ
    (x : Expr). formed_expr k x ∷ []) c.get-in-ArrayFill-2.ensures
    (c.in_ok-see-in-ArrayFill-2.ensures k)) (ap (λ
    (x : Atom). atom_at k (out-Atom x)) c.in-ArrayFill.is ∙ in-ArrayFill k _ _ _ _)
