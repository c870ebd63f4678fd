use Rattle.std.proofs.Common.{◌≡◌, List, [], ◌∷◌, map, refl, sym, ap, ◌∙◌}
use Rattle.fort_base.specs.declared.ids.NameId.{NameId}
use Rattle.fort_base.specs.declared.refusal.Place.{Place}
use Rattle.fort_base.specs.declared.ty.Ty.{Ty}
use Rattle.fort_form.specs.declared.form.Form.{Form}
use Rattle.fort_tree.specs.declared.declarations.Variable.{out-Variable}
use Rattle.fort_tree.specs.declared.delimited.Item.{Item, out-Item}
use Rattle.fort_tree.specs.declared.spot.NextName.{NextName}
use Rattle.fort_tree.specs.declared.types.TypeTree.{TypeTree}
use Rattle.fort_form_meaning.specs.Levels.{Placed}
use Rattle.fort_form_meaning.specs.Formed.{formed_expr, formed_item, formed_variable}
use Rattle.fort_form_meaning.specs.Forming.{binder}
use Rattle.fort_form_meaning.specs.Places.{place_of}
use Rattle.fort_form_meaning.proofs.FormsBlocks.{block_item_forms, forms-Variable, forms-Names, forms-Expr}
use Rattle.fort_form_tasks.specs.Tasks.{item_at}
use Rattle.fort_form_tasks.proofs.Inside.{in-Variable, in-Names, in-Expr}
use Rattle.fort_form_build.proofs.Giving.{of_top}
use Rattle.fort_form_build.proofs.ItemForms.{locals_at, expression_at, same_local}
use Rattle.fort_form_build.proofs.items.placed.Goals as goal

pub returns-in_ok-local-in-Variable : goal.returns-in_ok-local-in-Variable
returns-in_ok-local-in-Variable g c =
    let k = g.L.Lookup.source c.args.lookup.now in
    of_top (formed_expr k (out-Variable c.in-Variable.variable).value) c.in_ok-value.ensures
    (same_local k c.get.ensures c.in_ok-local-in-Variable.ensures)
    (ap (λ (x : Item). item_at k (out-Item x) ∷ []) c.in-Variable.is
    ∙ ap (λ u. u ∷ []) (in-Variable k _))
    (block_item_forms k c.args.entry.now ∙ ap (formed_item k) c.in-Variable.is
    ∙ forms-Variable k c.in-Variable.variable)

pub returns-in_ok-wanted-in-Names : goal.returns-in_ok-wanted-in-Names
returns-in_ok-wanted-in-Names g c =
    let k = g.L.Lookup.source c.args.lookup.now in
    let all : List (Place × NameId) =
    binder c.in-Names.first ∷ map (λ (next : NextName). binder next.name) c.in-Names.others in
    let names =
    c.in_ok-names-in-Names.ensures ∙ ap (λ
    (ns : List NextName). binder c.in-Names.first ∷ map (λ
    (next : NextName). binder next.name) ns) c.as_slice.ensures in
    let ty = c.in_ok-wanted-in-Names.ensures ∙ ap (λ
    (t : TypeTree). k.written t) c.get-in-Names.ensures in
    of_top (formed_expr k c.in-Names.value) c.in_ok-value.ensures
    (λ e. ap (λ
    (ns : List (Place × NameId)). locals_at c.in-Names.left.place ns
    c.in_ok-wanted-in-Names.wanted c.in_ok-value.value) names
    ∙ ap (λ (t : Ty). locals_at c.in-Names.left.place all t c.in_ok-value.value) ty
    ∙ ap (λ (v : Form). locals_at c.in-Names.left.place all (k.written c.in-Names.ty) v) e)
    (ap (λ (x : Item). item_at k (out-Item x) ∷ []) c.in-Names.is
    ∙ ap (λ u. u ∷ []) (in-Names k _ _ _ _ _ _ _ _))
    (block_item_forms k c.args.entry.now ∙ ap (formed_item k) c.in-Names.is
    ∙ forms-Names k _ _ _ _ _ _ _ _)

pub returns-in-Expr : goal.returns-in-Expr
returns-in-Expr g c =
    let k = g.L.Lookup.source c.args.lookup.now in
    of_top (formed_expr k _) c.in_ok-value.ensures
    (λ e. ap (λ (p : Place). expression_at p c.in_ok-value.value) c.place_of-place.ensures ∙ ap (λ
    (v : Form). expression_at (place_of v) v) e)
    (ap (λ (x : Item). item_at k (out-Item x) ∷ []) c.in-Expr.is ∙ ap (λ u. u ∷ []) (in-Expr k _))
    (block_item_forms k c.args.entry.now ∙ ap (formed_item k) c.in-Expr.is ∙ forms-Expr k _)
