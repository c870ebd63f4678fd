-- Chapter "Steps and costs": what a form does at its next step, before it is asked what the store
-- has. The code does it as it finds it out.
use Rattle.std.specs.Prelude.{ℕ, Bool, true, false, List, [], ◌∷◌, Option, Some, None}
use Rattle.fort_base.specs.declared.ids.SetId.{SetId}
use Rattle.fort_base.specs.declared.ids.TypeId.{TypeId}
use Rattle.fort_core.specs.declared.program.CoreKind.{CoreKind}
use Rattle.fort_core.specs.declared.program.CoreKind.TheVariants as kind
use Rattle.fort_core.specs.declared.program.CoreShape.{CoreShape}
use Rattle.fort_core.specs.declared.program.Program.{Program}
use Rattle.std.specs.Prelude.{slice_get, option_and_then}
use Rattle.fort_core.specs.declared.term.Term.{Term}
use Rattle.fort_core.specs.declared.value.Value.{Value, Object, Tuple}
use Rattle.fort_machine.specs.Ends.{Standing, at_value, at_throw, open_yet, standing, throw_of, has_stepped}

-- What a form does: nothing; it goes on as a term, with a text that it prints, at a cost; as a body
-- that it runs, at the cost of 1; it reads a location, and goes on by what stands there, at the
-- cost of 1; it writes to one, at the cost of 1; it makes locations with these values, or one with
-- `()` where there are none, and goes on by the first, at a cost; it calls a set; or it ends its
-- machine.
pub data Act : Type 0 where
  stuck : Act
  turns : (next : Term) (output : List ℕ) (cost : ℕ) → Act
  enters : (body next : Term) → Act
  asks : (location : ℕ) (next : Value → Term) → Act
  sets : (location : ℕ) (value : Value) → Act
  makes : (values : List Value) (next : ℕ → Term) (cost : ℕ) → Act
  calls : (set : SetId) (values : List Value) → Act
  ends : Act

-- It goes on as a term, at the cost of 1.
abbrev pub becomes : Term → Act
becomes t = turns t [] 1

-- The value `()`.
abbrev pub unit : Value
unit = Tuple []

-- An object of a type, where the type has one value.
abbrev pub object_of : TypeId → CoreShape → Option Value
object_of id s = single_of s.kind
  where
    single_of : CoreKind → Option Value
    single_of (kind.Single base) = Some (Object id base)
    single_of _ = None

-- The value of a single object, by its type.
abbrev pub single : Program → TypeId → Option Value
single p id = option_and_then (object_of id) (slice_get p.shapes id.0)

-- It throws a single object, at the cost of 1.
abbrev pub throws_object : Option Value → Act
throws_object (Some v) = becomes (throw_of v)
throws_object None = stuck

-- It throws a built-in exception.
abbrev pub throwing : Program → TypeId → Act
throwing p id = throws_object (single p id)

-- A form goes on by its next part: by its value, or as its throw.
abbrev pub by_standing : Standing → (Value → Act) → Act
by_standing (at_value v) f = f v
by_standing (at_throw v) f = becomes (throw_of v)
by_standing open_yet f = stuck

-- A form goes on by a part, once that is finished.
abbrev pub after : Term → (Value → Act) → Act
after t f = by_standing (standing t) f

-- Parts that go from left to right: the first throw is the form's, else the form goes on by all
-- their values.
abbrev pub after_all : List Term → (List Value → Act) → Act
after_all [] f = f []
after_all (t ∷ ts) f = after t (λ v. after_all ts (λ vs. f (v ∷ vs)))

-- How the parts of a parallel node stand: all at values; a leftmost throw, and each other part
-- finished or passed over; no throw, and no step taken in those that are open; or one of them open
-- in which a step was taken.
pub data Together : Type 0 where
  at_values : (values : List Value) → Together
  leftmost : (thrown : Value) → Together
  some_still : Together
  some_open : Together

-- A part, marked or not, with the parts behind it; one that is open and marked keeps all waiting.
abbrev pub with_first : Standing → Bool → Together → Together
with_first (at_value v) marked (at_values vs) = at_values (v ∷ vs)
with_first (at_value v) marked g = g
with_first (at_throw v) marked some_open = some_open
with_first (at_throw v) marked g = leftmost v
with_first open_yet true g = some_open
with_first open_yet false (at_values vs) = some_still
with_first open_yet false g = g

-- How the parts of a parallel node stand.
abbrev pub standing_together : List Term → Together
standing_together [] = at_values []
standing_together (t ∷ ts) = with_first (standing t) (has_stepped t) (standing_together ts)

-- A parallel node goes on by its parts: by their values, or as the leftmost throw.
abbrev pub by_together : Together → (List Value → Act) → Act
by_together (at_values vs) f = f vs
by_together (leftmost v) f = becomes (throw_of v)
by_together some_still f = stuck
by_together some_open f = stuck

-- Parts that go beside each other: once each is finished or passed over, the leftmost throw is the
-- node's, else the node goes on by all their values.
abbrev pub once_all : List Term → (List Value → Act) → Act
once_all ts f = by_together (standing_together ts) f
