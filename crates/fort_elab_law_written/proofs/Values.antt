-- Values that the translation writes: they are as they are written, and no function is in them.
use Rattle.std.proofs.Common.{◌≡◌, ℕ, Bool, true, false, cond, pos, ℤ, List, [], ◌∷◌, refl, sym, ap, ◌∙◌, subst}
use Rattle.std.specs.Prelude.{nat_le, ◌-ℤ◌}
use Rattle.fort_base.specs.declared.ids.Loc.{Loc}
use Rattle.fort_base.specs.declared.ids.TypeId.{TypeId}
use Rattle.fort_base.specs.declared.ty.Ty.{Ty, out-Ty}
use Rattle.fort_form.specs.declared.form.Reduction.{Reduction}
use Rattle.fort_form.specs.declared.form.Reduction.TheVariants as a_reduction
use Rattle.fort_form_typed.specs.declared.typed_form.TypedForm.{TypedForm, out-TypedForm}
use Rattle.fort_form_typed.specs.declared.typed_form.TypedForm.TheOpen.{TypedForm-F}
use Rattle.fort_core.specs.declared.term.Term.{Term}
use Rattle.fort_core.specs.declared.term.Term as term
use Rattle.fort_core.specs.declared.term.Term.TheOpen.{Value-F}
use Rattle.fort_core.specs.declared.value.Value.{Value, Small, Large, Truth, Text, Object, Tuple, out-Value, map-Value, fold_out-Value}
use Rattle.fort_core.specs.declared.value.Value.TheVariants.{outs-Small, outs-Large, outs-Truth, outs-Text, outs-Object, outs-Tuple}
use Rattle.fort_core.specs.declared.value.Closure.{Closure}
use Rattle.fort_machine.specs.Acts.{unit}
use Rattle.fort_machine.specs.Ends.{throw_of}
use Rattle.fort_machine.specs.Parts.{values_of, bodies_of}
use Rattle.fort_machine.specs.Written.{IsWrittenValue, AllWritten, end_of_terms, WrittenValue, written_value, AllWrittenValues, end_of_values, StandOnce, functions_at, value_functions_at, closure_functions_at, functions_in, functions_in_value}
use Rattle.fort_elab_meaning.specs.Parts.{Given}
use Rattle.fort_elab_meaning.specs.Values.{unit_term, number, negative_at, negative_of, constant_at, constant, no_match, no_item, is_large_at, number_as, neutral}
use Rattle.fort_elab_law_written.proofs.Numbers.{Between, no_number}
use Rattle.fort_elab_law_written.proofs.Fine.{functions_in_closure, value_is}
use Rattle.fort_elab_law_written.proofs.Makers.{Still}
use Rattle.fort_elab_law_written.proofs.Forms.{fine-Throw}

-- A value as it is written, without a function.
pub record Plain (v : Value) : Type 0 where
  pub is_written : WrittenValue v
  pub functions : functions_in_value v ≡ []

abbrev pub functions_out_value : Value-F Term Value Closure → List ℕ
functions_out_value y =
    value_functions_at
    (map-Value Term Value Closure (List ℕ) (List ℕ) (List ℕ) functions_in functions_in_value
    functions_in_closure y)

pub value_functions_from : (v : Value) → functions_in_value v ≡ functions_out_value (out-Value v)
value_functions_from v =
    fold_out-Value (List ℕ) (List ℕ) (List ℕ) functions_at value_functions_at closure_functions_at v

plain_at : (v : Value) (y : Value-F Term Value Closure) → out-Value v ≡ y → IsWrittenValue y
    → AllWritten (bodies_of y) → AllWrittenValues (values_of y) → functions_out_value y ≡ []
    → Plain v
plain_at v y e w ts vs f = record {
  is_written =
      written_value (subst IsWrittenValue (sym e) w)
      (subst (λ z. AllWritten (bodies_of z)) (sym e) ts)
      (subst (λ z. AllWrittenValues (values_of z)) (sym e) vs);
  functions = value_functions_from v ∙ ap functions_out_value e ∙ f;
}

pub plain_unit : Plain unit
plain_unit = plain_at (Tuple []) _ (outs-Tuple []) tt end_of_terms end_of_values refl

pub plain-Object : (id : TypeId) (base : Loc) → Plain (Object id base)
plain-Object id base =
    plain_at (Object id base) _ (outs-Object id base) tt end_of_terms end_of_values refl

pub plain-Small : (z : ℤ) → Plain (Small z)
plain-Small z = plain_at (Small z) _ (outs-Small z) tt end_of_terms end_of_values refl

pub plain-Large : (z : ℤ) → Plain (Large z)
plain-Large z = plain_at (Large z) _ (outs-Large z) tt end_of_terms end_of_values refl

pub plain-Truth : (b : Bool) → Plain (Truth b)
plain-Truth b = plain_at (Truth b) _ (outs-Truth b) tt end_of_terms end_of_values refl

pub plain-Text : (s : List ℕ) → Plain (Text s)
plain-Text s = plain_at (Text s) _ (outs-Text s) tt end_of_terms end_of_values refl

-- its term
pub still_value : (v : Value) → Plain v → Still (term.Value v)
still_value v h lo hi flo fhi =
    value_is v h.is_written (subst (Between flo fhi) (sym h.functions) no_number)
    (subst StandOnce (sym h.functions) tt)

-- ---- constants

either : (b : Bool) (v w : Value) → Plain v → Plain w → Plain (cond b v w)
either true v w h k = h
either false v w h k = k

pub plain_number : (n : ℕ) (z : ℤ) → Plain (number n z)
plain_number n z = either (nat_le n 2147483647) (Small z) (Large z) (plain-Small z) (plain-Large z)

plain_negative : (x : TypedForm-F TypedForm) → Plain (negative_at x)
plain_negative (TypedForm-F.Number ty n) = plain_number n (pos 0 -ℤ pos n)
plain_negative _ = plain_unit

plain_negatives : (ts : List TypedForm) → Plain (negative_of ts)
plain_negatives [] = plain_unit
plain_negatives (t ∷ []) = plain_negative (out-TypedForm t)
plain_negatives (t ∷ u ∷ ts) = plain_unit

plain_constant_at : (texts : List (List ℕ)) (x : TypedForm-F TypedForm)
    → Plain (constant_at texts x)
plain_constant_at texts (TypedForm-F.Number ty n) = plain_number n (pos n)
plain_constant_at texts (TypedForm-F.Text ty n) = plain-Text _
plain_constant_at texts (TypedForm-F.Truth ty b) = plain-Truth b
plain_constant_at texts (TypedForm-F.Operation ty set operands) = plain_negatives operands
plain_constant_at texts _ = plain_unit

pub plain_constant : (texts : List (List ℕ)) (t : TypedForm) → Plain (constant texts t)
plain_constant texts t = plain_constant_at texts (out-TypedForm t)

-- ---- terms of values

pub still_unit : Still unit_term
still_unit = still_value unit plain_unit

pub still_throw : (v : Value) → Plain v → Still (throw_of v)
still_throw v h lo hi flo fhi =
    fine-Throw lo hi flo fhi (term.Value v) (still_value v h lo hi flo fhi)

pub still_match : (g : Given) → Still (no_match g)
still_match g = still_throw _ (plain-Object _ _)

still_item : (g : Given) → Still (no_item g)
still_item g = still_throw _ (plain-Object _ _)

still_as : (ty : Ty) (n : ℕ) → Still (number_as ty n)
still_as ty n =
    still_value _
    (either (is_large_at (out-Ty ty)) (Large (pos n)) (Small (pos n)) (plain-Large (pos n))
    (plain-Small (pos n)))

pub still_neutral : (g : Given) (r : Reduction) (ty : Ty) → Still (neutral g r ty)
still_neutral g a_reduction.Sum ty = still_as ty 0
still_neutral g a_reduction.Product ty = still_as ty 1
still_neutral g a_reduction.Maximum ty = still_item g
still_neutral g a_reduction.Minimum ty = still_item g
still_neutral g a_reduction.Conjunction ty = still_value _ (plain-Truth true)
still_neutral g a_reduction.Disjunction ty = still_value _ (plain-Truth false)
