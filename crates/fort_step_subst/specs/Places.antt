-- Chapter "Substitution": a value or a location in the place of a variable, as one. The code has
-- one function for both.
use Rattle.std.specs.Prelude.{ℕ, ◌==◌, Bool, true, false, if◌then◌else◌, List}
use Rattle.fort_core.specs.declared.form.Slot.{Slot}
use Rattle.fort_core.specs.declared.term.Term.{Term, out-Term}
use Rattle.fort_core.specs.declared.term.Term.TheOpen.{Term-F}
use Rattle.fort_core.specs.declared.term.Term as term
use Rattle.fort_core.specs.declared.term.Term.TheVariants.{Variable}
use Rattle.fort_core.specs.declared.value.Value.{Value}
use Rattle.fort_core.specs.declared.value.Closure.{Closure}
use Rattle.fort_machine.specs.Scopes.{function}
use Rattle.fort_machine.specs.Substitution.{substituted, located, held_by, put_held, at_location}
use Rattle.fort_step_subst.specs.declared.put.Put.{Put}
use Rattle.fort_step_subst.specs.declared.put.Put.TheVariants.{Given, Located}

-- A term with a value, or a location, in the place of a variable.
unfoldable pub placed : Put → Term → Term
placed (Given x v) t = substituted x v t
placed (Located x l) t = located x l.0 t

-- What stands in the place of an immutable variable.
abbrev pub variable_placed : Put → ℕ → Term
variable_placed (Given x v) y = if x == y then term.Value v else Variable y
variable_placed (Located x l) y = Variable y

-- What stands in the place of a mutable variable.
abbrev pub slot_placed : Put → Slot → Slot
slot_placed (Given x v) slot = slot
slot_placed (Located x l) slot = at_location x l.0 slot

-- The term of a function with another body.
unfoldable pub function_with : Closure → Term → Term
function_with c t = function (record c { body = t })

-- A function holds the value where the variable stands in its body; a location goes into its body.
abbrev pub function_placed : Put → Closure → Term
function_placed (Given x v) c = function (held_by x v c)
function_placed (Located x l) c = function_with c (placed (Located x l) c.body)

-- The pairs behind those that were gone over, with a new one in its place among them where it isn't
-- among the others.
abbrev pub held_behind : ℕ → Value → Bool → List (ℕ × Value) → List (ℕ × Value)
held_behind x v true hs = hs
held_behind x v false hs = put_held x v hs

-- Whether a form has one part, a body of a function apart.
abbrev pub has_one_part_at : Term-F Term Value Closure → Bool
has_one_part_at (Term-F.Throw a) = true
has_one_part_at (Term-F.Write a b) = true
has_one_part_at (Term-F.ReadField a b) = true
has_one_part_at (Term-F.Size a) = true
has_one_part_at (Term-F.Atomic a b) = true
has_one_part_at (Term-F.Asleep a b) = true
has_one_part_at (Term-F.Stepped a) = true
has_one_part_at _ = false

-- Whether a term is such a form.
abbrev pub has_one_part : Term → Bool
has_one_part t = has_one_part_at (out-Term t)

-- Whether a form has two parts, clauses apart.
abbrev pub has_two_parts_at : Term-F Term Value Closure → Bool
has_two_parts_at (Term-F.Apply a b) = true
has_two_parts_at (Term-F.Fill a b c) = true
has_two_parts_at (Term-F.Let a b c) = true
has_two_parts_at (Term-F.Mutable a b c d) = true
has_two_parts_at (Term-F.WriteField a b c) = true
has_two_parts_at (Term-F.ReadElement a b) = true
has_two_parts_at (Term-F.Then a b) = true
has_two_parts_at (Term-F.While a b) = true
has_two_parts_at (Term-F.For a b c d e) = true
has_two_parts_at (Term-F.ForHalves a b) = true
has_two_parts_at (Term-F.ReduceHalves a b c) = true
has_two_parts_at _ = false

-- Whether a term is such a form.
abbrev pub has_two_parts : Term → Bool
has_two_parts t = has_two_parts_at (out-Term t)

-- Whether a form has three parts, or clauses.
abbrev pub has_more_parts_at : Term-F Term Value Closure → Bool
has_more_parts_at (Term-F.WriteElement a b c) = true
has_more_parts_at (Term-F.If a b c) = true
has_more_parts_at (Term-F.Reduce a b c d e f g) = true
has_more_parts_at (Term-F.Typecase a b c d) = true
has_more_parts_at (Term-F.Try a b c d) = true
has_more_parts_at _ = false

-- Whether a term is such a form.
abbrev pub has_more_parts : Term → Bool
has_more_parts t = has_more_parts_at (out-Term t)
