use Rattle.std.proofs.Common.{◌≡◌, ◌+◌, List, [], ◌∷◌, ◌++◌, Option, Some, None, true, false, refl, sym, ap, ◌∙◌, length, arith, rules}
use Rattle.std.specs.Prelude.{map, option_map}
use Rattle.std.proofs.lemmas.List.{length-map}
use Rattle.fort_form.specs.declared.form.Form.{Form}
use Rattle.fort_form.specs.declared.form.Form.TheVariants as a_form
use Rattle.fort_tree.specs.declared.expr.Postfix.{Postfix, out-Postfix}
use Rattle.fort_form_meaning.specs.Formed.{formed_atom, formed_expr, formed_postfix}
use Rattle.fort_form_meaning.proofs.FormsFlats.{forms-Subscript, forms-Power, forms-Field, forms-Call}
use Rattle.fort_form_tasks.specs.Tasks.{postfix_at}
use Rattle.fort_form_tasks.proofs.Inside.{in-Subscript, in-Power, in-Field, in-Call}
use Rattle.fort_form_build.proofs.Giving.{named_as, nothing, of_one, one}
use Rattle.fort_form_build.proofs.flats.postfix.Goals as goal

pub returns-in_ok-index-in-Subscript : goal.returns-in_ok-index-in-Subscript
returns-in_ok-index-in-Subscript c =
    λ k. of_one (λ
    (x : Form). a_form.Subscript c.in-Subscript.left.place x)
    (one (formed_expr k _) c.in_ok-index-in-Subscript.ensures) (ap (λ
    (x : Postfix). postfix_at k (out-Postfix x)) c.in-Subscript.is
    ∙ in-Subscript k _ _ _) (ap (formed_postfix k) c.in-Subscript.is ∙ forms-Subscript k _ _ _)

pub returns-in_ok-exponent-in-Power : goal.returns-in_ok-exponent-in-Power
returns-in_ok-exponent-in-Power c =
    λ k. of_one (λ
    (x : Form). a_form.Power c.in-Power.power.place x)
    (one (formed_atom k _) c.in_ok-exponent-in-Power.ensures) (ap (λ
    (x : Postfix). postfix_at k (out-Postfix x)) c.in-Power.is
    ∙ in-Power k _ _) (ap (formed_postfix k) c.in-Power.is ∙ forms-Power k _ _)

pub returns-in-Field : goal.returns-in-Field
returns-in-Field c =
    λ k. named_as (nothing refl) (ap (λ
    (x : Postfix). postfix_at k (out-Postfix x)) c.in-Field.is
    ∙ in-Field k _ _) (ap (formed_postfix k) c.in-Field.is ∙ forms-Field k _ _)

pub returns-in_ok-given-in-Call : goal.returns-in_ok-given-in-Call
returns-in_ok-given-in-Call c =
    λ k. of_one (λ
    (xs : List Form). a_form.Method c.in-Call.dot.place c.in-Call.name.spot.place
    c.in-Call.name.id xs) (c.in_ok-given-in-Call.ensures k) (ap (λ
    (x : Postfix). postfix_at k (out-Postfix x)) c.in-Call.is
    ∙ in-Call k _ _ _ _ _) (ap (formed_postfix k) c.in-Call.is ∙ forms-Call k _ _ _ _ _)
