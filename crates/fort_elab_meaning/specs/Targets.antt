-- "Forms" of docs/TRANSLATION.md: assignments.
use Rattle.std.specs.Prelude.{ℕ, Bool, true, false}
use Rattle.fort_base.specs.declared.ids.NameId.{NameId}
use Rattle.fort_types_builtin.specs.Objects.{location}
use Rattle.fort_core.specs.declared.form.Slot.{Slot}
use Rattle.fort_core.specs.declared.form.Slot.TheVariants as slot
use Rattle.fort_core.specs.declared.term.Term.{Term, Variable, Read, Write, ReadField, WriteField, ReadElement, WriteElement}
use Rattle.fort_form_typed.specs.declared.typed_form.Chosen.{Chosen}
use Rattle.fort_elab_meaning.specs.Making.{Maker, number_of, still, one, two, three, letting}
use Rattle.fort_elab_meaning.specs.Parts.{Given, Role, expression, local, locals, variable, top, field, element}
use Rattle.fort_elab_meaning.specs.Values.{unit_term}
use Rattle.fort_elab_meaning.specs.Calls.{operated}

-- An immutable variable stands for its value, a mutable one is read.
abbrev pub variable_term : Bool → ℕ → Term
variable_term false n = Variable n
variable_term true n = Read (slot.Variable n)

-- By the variable of a name.
abbrev pub of_variable : NameId → (Slot → Maker) → Maker
of_variable name f s c = f (slot.Variable (number_of s.names name)) s c

-- `t := e`, where t is one of the four targets.
abbrev pub assigned : Role → Maker → Maker
assigned (variable name) e = of_variable name (λ x. one (Write x) e)
assigned (top n) e = one (Write (slot.Location (location n))) e
assigned (field ty o f) e = two (λ t. WriteField t f) o e
assigned (element ty a ty1 i) e = three WriteElement a i e
assigned _ e = still unit_term

-- A variable with the sum of what it holds and another term.
abbrev pub raised : Given → Chosen → Slot → Term → Term
raised g c x t = Write x (operated g c (Read x) t)

-- `t += e`, `t -= e`: the target's parts are locals, the receiver of a field, the array and the
-- index of an element; then t is read, then e, then the sum is written.
abbrev pub updated : Given → Chosen → Role → Maker → Maker
updated g c (variable name) e = of_variable name (λ x. one (raised g c x) e)
updated g c (top n) e = one (raised g c (slot.Location (location n))) e
updated g c (field ty o f) e =
    letting ty o
    (λ n. one (λ t. WriteField (Variable n) f (operated g c (ReadField (Variable n) f) t)) e)
updated g c (element ty a ty1 i) e =
    letting ty a
    (λ n. letting ty1 i
    (λ m. one
    (λ t. WriteElement (Variable n) (Variable m)
    (operated g c (ReadElement (Variable n) (Variable m)) t)) e))
updated g c _ e = still unit_term
