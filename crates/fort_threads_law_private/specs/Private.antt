-- Chapter "Threads that are spawned" of docs/LANGUAGE.md: terms and values that leave alone what
-- of the prelude has a `'` in its name: no name of a component has one.
use Rattle.std.specs.Prelude.{◌≡◌, ℕ, ◌+◌, ◌<◌, ◌≤◌, List, [], ◌∷◌, Some}
use Rattle.fort_base.specs.declared.ids.NameId.{NameId}
use Rattle.fort_base.specs.declared.ids.SetId.{SetId}
use Rattle.fort_core.specs.declared.form.Slot.{Slot}
use Rattle.fort_core.specs.declared.form.Slot.TheVariants as slot
use Rattle.fort_core.specs.declared.form.Span.{Span}
use Rattle.fort_core.specs.declared.form.Span.TheVariants as span
use Rattle.fort_core.specs.declared.program.Program.{Program}
use Rattle.fort_core.specs.declared.term.Term.{Term, out-Term}
use Rattle.fort_core.specs.declared.term.Term as term
use Rattle.fort_core.specs.declared.term.Term.TheOpen.{Term-F, Value-F}
use Rattle.fort_core.specs.declared.value.Closure.{Closure}
use Rattle.fort_core.specs.declared.value.Value.{Value, out-Value}
use Rattle.fort_machine.specs.Forms.{field_of}
use Rattle.fort_machine.specs.Generators.{Items, numbers_from, elements_from, no_items, items_at}
use Rattle.fort_machine.specs.Marked.{In}
use Rattle.fort_machine.specs.Parts.{IsOneOf, terms_in, values_in, values_of, bodies_of}
use Rattle.fort_threads_law_servers.specs.Prelude.{Names}
use Rattle.fort_threads_law_servers.specs.Roots.{Start}
use Rattle.fort_threads_law_private.specs.Grounds.{Ground, Open, HasObject}

-- The sets that the prelude alone calls, and the fields that it alone uses.
abbrev pub secret_sets : Names → Start → List SetId
secret_sets n m = n.serve ∷ n.take ∷ n.go ∷ n.make ∷ m.main ∷ []

abbrev pub secret_fields : Names → List NameId
secret_fields n = n.body ∷ n.state ∷ n.value ∷ n.next ∷ []

abbrev pub IsSecretSet : Names → Start → SetId → Type 0
IsSecretSet n m set = IsOneOf set (secret_sets n m)

abbrev pub IsSecretField : Names → NameId → Type 0
IsSecretField n f = IsOneOf f (secret_fields n)

-- A variable's location is open; one that has none yet will be given one.
abbrev pub SlotIsOpen : Ground → Slot → Type 0
SlotIsOpen g (slot.Location l) = Open g l.0
SlotIsOpen g (slot.Variable x) = Unit {0}

-- How many items there are.
abbrev pub count_of : Items → ℕ
count_of (numbers_from first count) = count
count_of (elements_from base count) = count
count_of no_items = 0

-- What is left of a generator is within the items of its source, which is a value by then.
abbrev pub IsWithin : Span → Term → Type 0
IsWithin span.Whole source = Unit {0}
IsWithin (span.Part k count) source =
    (v : Value) × (source ≡ term.Value v) × (k + count ≤ count_of (items_at (out-Value v)))

-- A form leaves the prelude's own sets, fields and locations alone; what stands in it aside.
abbrev pub KeepsOff : Names → Start → Ground → Term-F Term Value Closure → Type 0
KeepsOff n m g (Term-F.Call set arguments) = IsSecretSet n m set → ⊥
KeepsOff n m g (Term-F.Operator set operands) = IsSecretSet n m set → ⊥
KeepsOff n m g (Term-F.Read x) = SlotIsOpen g x
KeepsOff n m g (Term-F.Write x a) = SlotIsOpen g x
KeepsOff n m g (Term-F.ReadField o f) = IsSecretField n f → ⊥
KeepsOff n m g (Term-F.WriteField o f a) = IsSecretField n f → ⊥
KeepsOff n m g (Term-F.For order s x a b) = IsWithin s a
KeepsOff n m g (Term-F.Reduce order s set empty x a b) = IsWithin s a × (IsSecretSet n m set → ⊥)
KeepsOff n m g (Term-F.ReduceHalves set a b) = IsSecretSet n m set → ⊥
KeepsOff n m g (Term-F.Asleep marks a) = (l : ℕ) (v : Value) → In l v marks → Open g l
KeepsOff n m g _ = Unit {0}

-- A value leads to open locations alone: an object's fields, but for the prelude's own, and an
-- array's elements. An object of a thread is one that was made.
abbrev pub LeadsToOpen : Program → Names → Ground → Value-F Term Value Closure → Type 0
LeadsToOpen p n g (Value-F.Object id base) =
    ((f : NameId) (l : ℕ) → (IsSecretField n f → ⊥)
    → field_of p f (Value-F.Object id base) ≡ Some l → Open g l)
    × (id ≡ n.thread → HasObject g base.0)
LeadsToOpen p n g (Value-F.Array element base size) = (i : ℕ) → i < size → Open g (base.0 + i)
LeadsToOpen p n g _ = Unit {0}

-- A term leaves the prelude's own names alone where each form in it does, bodies of functions and
-- what stands in values included.
module _ (p : Program) (n : Names) (m : Start) (g : Ground) where
  mutual
    pub data Private : Term → Type 0 where
      private : {t : Term} → KeepsOff n m g (out-Term t) → AllPrivate (terms_in (out-Term t))
          → AllPrivateValues (values_in (out-Term t)) → Private t

    pub data AllPrivate : List Term → Type 0 where
      no_terms : AllPrivate []
      one_more : {t : Term} {ts : List Term} → Private t → AllPrivate ts → AllPrivate (t ∷ ts)

    pub data PrivateValue : Value → Type 0 where
      private_value : {v : Value} → LeadsToOpen p n g (out-Value v)
          → AllPrivate (bodies_of (out-Value v)) → AllPrivateValues (values_of (out-Value v))
          → PrivateValue v

    pub data AllPrivateValues : List Value → Type 0 where
      no_values : AllPrivateValues []
      one_more_value : {v : Value} {vs : List Value} → PrivateValue v → AllPrivateValues vs
          → AllPrivateValues (v ∷ vs)
