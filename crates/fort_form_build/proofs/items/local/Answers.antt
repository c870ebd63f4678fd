use Rattle.std.proofs.Common.{◌≡◌, sym, ap, ◌∙◌}
use Rattle.std.specs.Prelude.{Bool, is_some, ◌||◌}
use Rattle.fort_base.specs.declared.refusal.Place.{Place}
use Rattle.fort_base.specs.declared.ty.Ty.{Ty}
use Rattle.fort_form.specs.declared.form.Form.{Form}
use Rattle.fort_tree.specs.Measures.{var_spot}
use Rattle.fort_tree.specs.declared.declarations.Variable.{out-Variable}
use Rattle.fort_form_meaning.specs.Forming.{becomes}
use Rattle.fort_form_meaning.proofs.FormsBlocks.{variable_forms}
use Rattle.fort_form_build.proofs.ItemForms.{local_at}
use Rattle.fort_form_build.proofs.items.local.Goals as goal

pub returns : goal.returns
returns g c =
    let k = g.L.Lookup.source c.args.lookup.now in
    let v = out-Variable c.args.variable.now in
    λ e. ap (λ
    (p : Place). local_at p v.name c.is_mutable-mutable.result c.in_ok-ty.ty c.args.value)
    c.variable_place.ensures
    ∙ ap (λ (m : Bool). local_at (var_spot v.var v.name.spot).place v.name m c.in_ok-ty.ty
    c.args.value) c.is_mutable-mutable.ensures
    ∙ ap (λ (t : Ty). local_at (var_spot v.var v.name.spot).place v.name (is_some v.var
    || becomes v.sign) t c.args.value) c.in_ok-ty.ensures
    ∙ ap (λ (x : Form). local_at (var_spot v.var v.name.spot).place v.name (is_some v.var
    || becomes v.sign) (k.written v.ty) x) e
    ∙ sym (variable_forms k c.args.variable.now)
