-- Chapter "Terms and threads": the terms and values in a term. The code walks a term form by form.
use Rattle.std.specs.Prelude.{◌≡◌, ℕ, List, [], ◌∷◌, ◌++◌, map, option_to_list, ◌⊎◌}
use Rattle.fort_base.specs.declared.ids.Loc.{Loc}
use Rattle.fort_base.specs.declared.ty.Ty.{Ty}
use Rattle.fort_core.specs.declared.term.Term.{Term, out-Term}
use Rattle.fort_core.specs.declared.term.Term.TheOpen.{Term-F, Value-F}
use Rattle.fort_core.specs.declared.value.Closure.{Closure}
use Rattle.fort_core.specs.declared.value.Value.{Value}

-- Something is one of a list.
abbrev pub IsOneOf : {A : Type 0} → A → List A → Type 0
IsOneOf a [] = ⊥
IsOneOf a (b ∷ bs) = (a ≡ b) ⊎ IsOneOf a bs

-- What stands in clauses.
abbrev pub in_clauses : {A : Type 0} → List (A × Ty) → List A
in_clauses {A = A} cs = map (λ (c : A × Ty). c.0) cs

-- What stands directly in a form, bodies, rests and clauses included, but for the body of a
-- function.
abbrev pub parts_of : {A B C : Type 0} → Term-F A B C → List A
parts_of (Term-F.Throw a) = a ∷ []
parts_of (Term-F.Group parts) = parts
parts_of (Term-F.Call set arguments) = arguments
parts_of (Term-F.Operator set operands) = operands
parts_of (Term-F.Apply f a) = f ∷ a ∷ []
parts_of (Term-F.Fill ty n v) = n ∷ v ∷ []
parts_of (Term-F.Let xs a b) = a ∷ b ∷ []
parts_of (Term-F.Mutable x ty a b) = a ∷ b ∷ []
parts_of (Term-F.Write x a) = a ∷ []
parts_of (Term-F.ReadField o f) = o ∷ []
parts_of (Term-F.WriteField o f a) = o ∷ a ∷ []
parts_of (Term-F.ReadElement a i) = a ∷ i ∷ []
parts_of (Term-F.WriteElement a i b) = a ∷ i ∷ b ∷ []
parts_of (Term-F.Size a) = a ∷ []
parts_of (Term-F.Then a b) = a ∷ b ∷ []
parts_of (Term-F.If c a b) = c ∷ a ∷ b ∷ []
parts_of (Term-F.While c b) = c ∷ b ∷ []
parts_of (Term-F.Typecase x a cs b) = a ∷ b ∷ in_clauses cs
parts_of (Term-F.For order span x a b) = a ∷ b ∷ []
parts_of (Term-F.ForHalves a b) = a ∷ b ∷ []
parts_of (Term-F.Reduce order span set empty x a b) = empty ∷ a ∷ b ∷ []
parts_of (Term-F.ReduceHalves set a b) = a ∷ b ∷ []
parts_of (Term-F.Also blocks) = blocks
parts_of (Term-F.Try a x cs last) = a ∷ (option_to_list last ++ in_clauses cs)
parts_of (Term-F.Atomic mode a) = a ∷ []
parts_of (Term-F.Asleep marks a) = a ∷ []
parts_of (Term-F.Stepped a) = a ∷ []
parts_of _ = []

-- The terms directly in a form, the body of a function included.
abbrev pub terms_in : Term-F Term Value Closure → List Term
terms_in (Term-F.Fn c) = c.body ∷ []
terms_in form = parts_of form

-- The values that a closure holds.
abbrev pub held_values : Closure → List Value
held_values c = map (λ (h : ℕ × Value). h.1) c.held

-- The values directly in a form, marks included.
abbrev pub values_in : Term-F Term Value Closure → List Value
values_in (Term-F.Value v) = v ∷ []
values_in (Term-F.Fn c) = held_values c
values_in (Term-F.Asleep marks a) = map (λ (m : Loc × Value). m.1) marks
values_in _ = []

-- The values directly in a value.
abbrev pub values_of : Value-F Term Value Closure → List Value
values_of (Value-F.Tuple vs) = vs
values_of (Value-F.Function c) = held_values c
values_of _ = []

-- The bodies directly in a value.
abbrev pub bodies_of : Value-F Term Value Closure → List Term
bodies_of (Value-F.Function c) = c.body ∷ []
bodies_of _ = []

-- A term stands in another one, at any depth; values have none in them.
pub data Inside (u : Term) : Term → Type 0 where
  itself : {t : Term} → u ≡ t → Inside u t
  in_part : {t : Term} (a : Term) → IsOneOf a (terms_in (out-Term t)) → Inside u a → Inside u t
