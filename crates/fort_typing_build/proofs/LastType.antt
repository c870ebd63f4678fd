-- The type of the last of some typed forms.
use Rattle.std.proofs.Common.{◌≡◌, ◌-◌, List, [], ◌∷◌, length, slice_get, Some, None, refl}
use native.Mathlib.Numerals.{unary_clauses}
use Rattle.fort_form_typed.specs.declared.typed_form.TypedForm.{TypedForm}
use Rattle.fort_typing_rules.specs.Types.{unit, type_of}
use Rattle.fort_typing_meaning.specs.Closing.{last_type}

over_there : (x : TypedForm) (ts : List TypedForm) (t : TypedForm)
    → slice_get (x ∷ ts) (length ts) ≡ Some t → last_type (x ∷ ts) ≡ type_of t
over_there x [] t e = cc
over_there x (y ∷ ts) t e = over_there y ts t e

pub last_there : (ts : List TypedForm) (t : TypedForm) → slice_get ts (length ts - 1) ≡ Some t
    → last_type ts ≡ type_of t
last_there [] t e = absurd cc
last_there (x ∷ ts) t e = over_there x ts t (simp unary_clauses at e)

over_none : (x : TypedForm) (ts : List TypedForm) → slice_get (x ∷ ts) (length ts) ≡ None
    → last_type (x ∷ ts) ≡ unit
over_none x [] e = absurd cc
over_none x (y ∷ ts) e = over_none y ts e

pub none_there : (ts : List TypedForm) → slice_get ts (length ts - 1) ≡ None → last_type ts ≡ unit
none_there [] e = refl
none_there (x ∷ ts) e = over_none x ts (simp unary_clauses at e)
