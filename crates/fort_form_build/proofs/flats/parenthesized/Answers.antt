use Rattle.std.proofs.Common.{◌≡◌, ◌+◌, List, [], ◌∷◌, ◌++◌, Option, Some, None, true, false, refl, sym, ap, ◌∙◌, length, arith, rules}
use Rattle.std.specs.Prelude.{map, option_map}
use Rattle.std.proofs.lemmas.List.{length-map}
use Rattle.fort_form.specs.declared.form.Form.{Form}
use Rattle.fort_form.specs.declared.form.Form.TheVariants as a_form
use Rattle.fort_tree.specs.declared.expr.ExprList.{ExprList, out-ExprList}
use Rattle.fort_tree.specs.declared.expr.NextExpr.{NextExpr}
use Rattle.fort_form_meaning.specs.Formed.{formed_expr, formed_expr_list, formed_next_expr}
use Rattle.fort_form_meaning.specs.Forming.{arguments_of, between}
use Rattle.fort_form_meaning.proofs.FormsFlats.{expr_list_forms}
use Rattle.fort_form_tasks.specs.Tasks.{inside_list}
use Rattle.fort_form_build.proofs.Giving.{named_as, of_one, one}
use Rattle.fort_form_build.proofs.Parts.{between_many}
use Rattle.fort_form_build.proofs.Splitting.{as_many}
use Rattle.fort_form_build.proofs.flats.parenthesized.Goals as goal

pub returns-then-is_empty : goal.returns-then-is_empty
returns-then-is_empty c = λ k.
    let none : (out-ExprList c.args.list.now).others ≡ [] = c.is_empty.ensures.0 c.if-is_empty.true
    in
    of_one (λ
    (x : Form). a_form.Parens c.args.place x)
    (one (formed_expr k (out-ExprList c.args.list.now).first) c.in_ok-inner.ensures)
    (ap (λ (xs : List NextExpr). formed_expr k (out-ExprList c.args.list.now).first
    ∷ map (formed_next_expr k) xs) none)
    (ap (λ (xs : List Form). between c.args.place (Some xs)) (expr_list_forms k _ ∙ ap (λ
    (xs : List NextExpr). formed_expr k (out-ExprList c.args.list.now).first
    ∷ map (formed_next_expr k) xs) none))

pub returns : goal.returns
returns c = λ k.
    let some : ((out-ExprList c.args.list.now).others ≡ []
    → ⊥) = λ e. let h = c.is_empty.ensures.1 e in let f = c.if-is_empty.false in cc in
    of_one (λ (xs : List Form). a_form.Tuple c.args.place xs)
    (as_many (formed_expr k (out-ExprList c.args.list.now).first
    ∷ map (formed_next_expr k) (out-ExprList c.args.list.now).others)
    c.in_ok-parts.ensures.taken
    (let l = length-map (out-ExprList c.args.list.now).others (formed_next_expr k)
    in let n = c.in_ok-parts.ensures.count in let s = ap length c.as_slice.ensures
    in omega arith))
    refl (ap (λ
    (xs : List Form). between c.args.place (Some xs)) (expr_list_forms k _)
    ∙ between_many c.args.place _ (formed_next_expr k) (out-ExprList c.args.list.now).others
    some)
