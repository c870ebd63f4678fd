use Rattle.std.proofs.Common.{◌≡◌, ◌+◌, List, [], ◌∷◌, ◌++◌, Option, Some, None, true, false, refl, sym, ap, ◌∙◌, length, arith, rules}
use Rattle.std.specs.Prelude.{map, option_map}
use Rattle.std.proofs.lemmas.List.{length-map}
use Rattle.fort_form.specs.declared.form.Form.{Form}
use Rattle.fort_form.specs.declared.form.Form.TheVariants as a_form
use Rattle.fort_tree.specs.declared.expr.ExprList.{ExprList, out-ExprList}
use Rattle.fort_tree.specs.declared.expr.NextExpr.{NextExpr}
use Rattle.fort_form_meaning.specs.Formed.{formed_expr, formed_expr_list, formed_next_expr}
use Rattle.fort_form_meaning.specs.Forming.{arguments_of, between}
use Rattle.fort_form_meaning.proofs.FormsFlats.{expr_list_forms}
use Rattle.fort_form_tasks.specs.Tasks.{inside_list}
use Rattle.fort_form_build.proofs.Giving.{by, named_as, nothing}
use Rattle.fort_form_build.proofs.Splitting.{as_many}
use Rattle.fort_form_build.proofs.flats.listed.Goals as goal

pub returns-in-None : goal.returns-in-None
returns-in-None c =
    λ k. by (inside_list k) (λ
    (o : Option ExprList). arguments_of (option_map (formed_expr_list k) o)) (sym c.in-None.is)
    (nothing c.new.ensures)

pub returns-in_ok-take_forms-in-Some : goal.returns-in_ok-take_forms-in-Some
returns-in_ok-take_forms-in-Some c =
    λ k. by (inside_list k) (λ
    (o : Option ExprList). arguments_of (option_map (formed_expr_list k) o)) (sym c.in-Some.is)
    (named_as
    (as_many (formed_expr k (out-ExprList c.in-Some.list).first
    ∷ map (formed_next_expr k) (out-ExprList c.in-Some.list).others)
    c.in_ok-take_forms-in-Some.ensures.taken
    (let l = length-map (out-ExprList c.in-Some.list).others (formed_next_expr k)
    in let n = c.in_ok-take_forms-in-Some.ensures.count
    in let s = ap length c.as_slice.ensures in omega arith))
    refl (expr_list_forms k _))
