-- Chapter "Substitution": a value, or a location, in place of a variable. The code keeps the values
-- of variables beside the term; here they stand in it.
use Rattle.std.specs.Prelude.{ℕ, ◌==◌, nat_lt, Bool, if◌then◌else◌, List, [], ◌∷◌, map, Option, Some, None, option_map}
use Rattle.std.specs.List.{list_any}
use Rattle.fort_base.specs.declared.ty.Ty.{Ty}
use Rattle.fort_core.specs.declared.form.Slot.{Slot}
use Rattle.fort_core.specs.declared.form.Slot.TheVariants as slot
use Rattle.fort_core.specs.declared.term.Term.{Term, Write, roll-Term, map-Term, fold-Term, para-Term}
use Rattle.fort_core.specs.declared.term.Term as term
use Rattle.fort_core.specs.declared.term.Term.TheVariants.{Variable, Read}
use Rattle.fort_core.specs.declared.term.Term.TheOpen.{Term-F, Value-F, Closure-F}
use Rattle.fort_core.specs.declared.value.Value.{Value, out-Value}
use Rattle.fort_core.specs.declared.value.Closure.{Closure}
use Rattle.fort_machine.specs.Ends.{group}
use Rattle.fort_machine.specs.Parts.{parts_of}
use Rattle.fort_machine.specs.Scopes.{function}

-- A part as it was, and as it is after the substitution.
abbrev pub Changed : Type 0
Changed = Term × Term

-- A part as it is after the substitution.
abbrev pub now : Changed → Term
now t = t.1

-- The same form with its parts as they are after the substitution; a tuple whose parts are values
-- now is a value.
abbrev pub remade : {A B : Type 0} → Term-F Changed (Value × A) (Closure × B) → Term
remade (Term-F.Group parts) = group (map now parts)
remade {A = A} {B = B} form =
    roll-Term (map-Term Changed (Value × A) (Closure
    × B) Term Value Closure now (λ v. v.0) (λ c. c.0) form)

-- An immutable variable stands in a form, or in what stands in it, bodies of functions included;
-- values are closed.
abbrev pub occurs_at : ℕ → Term-F Bool (Unit {0}) Bool → Bool
occurs_at x (Term-F.Variable y) = x == y
occurs_at x (Term-F.Fn c) = c
occurs_at x form = list_any (λ b. b) (parts_of form)

-- Whether an immutable variable stands in a term.
abbrev pub occurs : ℕ → Term → Bool
occurs x = fold-Term Bool (Unit {0}) Bool (occurs_at x) (λ v. tt) (λ c. c.body)

-- A pair in its place among the others, by the variables' numbers.
abbrev pub put_held : ℕ → Value → List (ℕ × Value) → List (ℕ × Value)
put_held x v [] = (x, v) ∷ []
put_held x v (h ∷ hs) = if nat_lt x h.0 then (x, v) ∷ h ∷ hs else h ∷ put_held x v hs

-- A function's body stays as it is written: where the variable stands in it, the function holds the
-- variable's value.
abbrev pub held_by : ℕ → Value → Closure → Closure
held_by x v c = if occurs x c.body then record c { held = put_held x v c.held } else c

-- A value in place of a variable, by the form.
abbrev pub with_value : {A B : Type 0} → ℕ → Value → Term-F Changed (Value × A) (Closure × B) → Term
with_value x v (Term-F.Variable y) = if x == y then term.Value v else Variable y
with_value x v (Term-F.Fn c) = function (held_by x v c.0)
with_value x v form = remade form

-- A term with a value in place of a variable; nothing is renamed, since values are closed.
unfoldable pub substituted : ℕ → Value → Term → Term
substituted x v = para-Term Term (Unit {0}) (Unit {0}) (with_value x v) (λ w. tt) (λ c. tt)

-- A term with values in place of variables, one after the other.
abbrev pub substituted_all : List (ℕ × Value) → Term → Term
substituted_all [] t = t
substituted_all (h ∷ hs) t = substituted_all hs (substituted h.0 h.1 t)

-- A mutable variable's place is its location from now on.
abbrev pub at_location : ℕ → ℕ → Slot → Slot
at_location x l (slot.Variable y) = if x == y then slot.Location (record { 0 = l })
    else slot.Variable y
at_location x l (slot.Location k) = slot.Location k

-- A location in place of a mutable variable, by the form; it goes into the bodies of functions too.
abbrev pub with_location : {A : Type 0} → ℕ → ℕ → Term-F Changed (Value × A) (Closure × Closure)
    → Term
with_location x l (Term-F.Read y) = Read (at_location x l y)
with_location x l (Term-F.Write y a) = Write (at_location x l y) (now a)
with_location x l (Term-F.Fn c) = function c.1
with_location x l form = remade form

-- A closure with its body as it is after the substitution.
abbrev pub closure_now : {A B : Type 0} → Closure-F Changed (Value × A) (Closure × B) → Closure
closure_now c =
    record {
      number = c.number;
      parameters = c.parameters;
      result = c.result;
      body = now c.body;
      held = map (λ (h : ℕ × (Value × _)). (h.0, h.1.0)) c.held;
    }

-- A term with a location in place of a mutable variable.
unfoldable pub located : ℕ → ℕ → Term → Term
located x l = para-Term Term (Unit {0}) Closure (with_location x l) (λ w. tt) closure_now

-- Variables with values, in their places, where there are as many.
abbrev pub paired : List (ℕ × Ty) → List Value → Option (List (ℕ × Value))
paired [] [] = Some []
paired (x ∷ xs) (v ∷ vs) = option_map (λ hs. (x.0, v) ∷ hs) (paired xs vs)
paired _ _ = None

-- Variables with the parts of a tuple, where there are as many.
abbrev pub parts_paired : List (ℕ × Ty) → Value-F Term Value Closure → Option (List (ℕ × Value))
parts_paired xs (Value-F.Tuple vs) = paired xs vs
parts_paired xs _ = None

-- One variable has the value, several have the parts of the tuple, where there are as many.
abbrev pub bound_to : List (ℕ × Ty) → Value → Option (List (ℕ × Value))
bound_to (x ∷ []) v = Some ((x.0, v) ∷ [])
bound_to xs v = parts_paired xs (out-Value v)
