use Rattle.std.proofs.Common.{◌≡◌, ℕ, ◌+◌, Option, Some, ap, sym, ◌∙◌, subst, IfOk}
use Rattle.std.specs.Prelude.{option_map, option_and_then}
use Rattle.fort_core.specs.declared.program.CoreShape.{CoreShape}
use Rattle.fort_core.specs.declared.value.Value.{out-Value}
use Rattle.fort_core.specs.declared.value.Value.TheVariants.{outs-Object}
use Rattle.fort_machine.specs.Forms.{field_of, place_of}
use Rattle.fort_step_forms.specs.Rows.{number_of}
use Rattle.fort_step_forms.proofs.Places.{place_first}
use Rattle.fort_step_forms.proofs.fields.field_of.Goals as goal

pub returns-in_ok-place_of-in-Some : goal.returns-in_ok-place_of-in-Some
returns-in_ok-place_of-in-Some c =
    let e : option_map (λ n. c.in-Object.base.0 + n) c.in_ok-place_of-in-Some.field-0
    ≡ field_of c.args.program.now c.args.field (out-Value c.args.object.now)
    = ap (option_map (λ n. c.in-Object.base.0 + n)) (c.in_ok-place_of-in-Some.ensures
    ∙ sym (place_first c.args.field c.in-Some.shape.now.fields))
    ∙ ap (option_and_then (λ
    (s : CoreShape). option_map (λ n. c.in-Object.base.0 + n) (place_of c.args.field s.fields)))
    c.in-Some.ensures.value
    ∙ sym (ap (field_of c.args.program.now c.args.field) (ap out-Value c.in-Object.is
    ∙ outs-Object c.in-Object.id c.in-Object.base)) in
    subst (λ (o : Option ℕ). IfOk c.behind.result (λ found. number_of found ≡ o)) e c.behind.ensures
