-- Items of blocks with their places, by their parts.
use Rattle.std.proofs.Common.{◌≡◌, subst}
use Rattle.std.specs.Prelude.{Bool, List}
use Rattle.fort_base.specs.declared.ids.NameId.{NameId}
use Rattle.fort_base.specs.declared.refusal.Place.{Place}
use Rattle.fort_base.specs.declared.ty.Ty.{Ty}
use Rattle.fort_form.specs.declared.form.Form.{Form}
use Rattle.fort_form.specs.declared.form.Item.TheVariants as an_item
use Rattle.fort_tree.specs.declared.declarations.Variable.{Variable, out-Variable}
use Rattle.fort_tree.specs.declared.spot.Name.{Name}
use Rattle.fort_form_meaning.specs.Source.{Source}
use Rattle.fort_form_meaning.specs.Formed.{formed_expr, formed_variable}
use Rattle.fort_form_meaning.specs.Levels.{Placed}

abbrev pub local_at : Place → Name → Bool → Ty → Form → Placed
local_at p name mutable ty value =
    record { place = p; item = an_item.Local name.spot.place name.id mutable ty value }

abbrev pub locals_at : Place → List (Place × NameId) → Ty → Form → Placed
locals_at p names ty value = record { place = p; item = an_item.Locals p names ty value }

abbrev pub expression_at : Place → Form → Placed
expression_at p value = record { place = p; item = an_item.Expression value }

-- a local by another name of its declaration
pub same_local : (k : Source) {x y : Variable} {value : Form} {made : Placed} → x ≡ y
    → (value ≡ formed_expr k (out-Variable x).value → made ≡ formed_variable k x)
    → value ≡ formed_expr k (out-Variable y).value → made ≡ formed_variable k y
same_local k {value = value} {made = made} e f =
    subst (λ z. value ≡ formed_expr k (out-Variable z).value → made ≡ formed_variable k z) e f
