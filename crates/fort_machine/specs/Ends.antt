-- Chapter "Terms and threads": how a term stands, and a tuple, which is a value once its parts are.
-- The code keeps an environment and frames in place of terms.
use Rattle.std.specs.Prelude.{◌≡◌, nat_le, Bool, true, false, not, if◌then◌else◌, List, [], ◌∷◌, Option, Some, None, option_map, option_and_then}
use Rattle.fort_core.specs.declared.term.Term.{Term, Throw, Group, Stepped, out-Term}
use Rattle.fort_core.specs.declared.term.Term as term
use Rattle.fort_core.specs.declared.term.Term.TheOpen.{Term-F}
use Rattle.fort_core.specs.declared.value.Value.{Value, Tuple}
use Rattle.fort_core.specs.declared.value.Closure.{Closure}
use Rattle.fort_machine.specs.Texts.{depth, deepest}

-- How a term stands: at a value, at a throw of a value, or open, with steps to take.
pub data Standing : Type 0 where
  at_value : (value : Value) → Standing
  at_throw : (thrown : Value) → Standing
  open_yet : Standing

-- A throw is at a throw once what it throws is a value.
abbrev pub of_thrown : Term-F Term Value Closure → Standing
of_thrown (Term-F.Value v) = at_throw v
of_thrown _ = open_yet

-- How a form stands: a value and a throw of one are finished.
abbrev pub standing_at : Term-F Term Value Closure → Standing
standing_at (Term-F.Value v) = at_value v
standing_at (Term-F.Throw t) = of_thrown (out-Term t)
standing_at _ = open_yet

-- How a term stands.
abbrev pub standing : Term → Standing
standing t = standing_at (out-Term t)

-- The term that is a throw of a value.
abbrev pub throw_of : Value → Term
throw_of v = Throw (term.Value v)

-- A term is finished where it is a value or a throw of a value.
pub data Finished (t : Term) : Type 0 where
  value : (v : Value) → t ≡ term.Value v → Finished t
  throw : (v : Value) → t ≡ throw_of v → Finished t

-- The value of what stands at one.
abbrev pub value_at : Standing → Option Value
value_at (at_value v) = Some v
value_at _ = None

-- The values of terms that all are values.
abbrev pub values_of : List Term → Option (List Value)
values_of [] = Some []
values_of (t ∷ ts) =
    option_and_then (λ v. option_map (λ vs. v ∷ vs) (values_of ts)) (value_at (standing t))

-- A tuple that isn't too deep is a value.
abbrev pub tuple_of : List Term → Option (List Value) → Term
tuple_of ts (Some vs) = if nat_le (depth (Tuple vs)) deepest then term.Value (Tuple vs)
    else Group ts
tuple_of ts None = Group ts

-- The term `(a, b)`: the tuple itself where all parts are values and it isn't too deep.
abbrev pub group : List Term → Term
group ts = tuple_of ts (values_of ts)

-- A part with its mark that a step was taken in it; a finished part stands by itself.
abbrev pub marked_by : Standing → Term → Term
marked_by open_yet t = Stepped t
marked_by _ t = t

-- A part in which a step was taken.
abbrev pub stepped : Term → Term
stepped t = marked_by (standing t) t

-- Whether a form is such a mark.
abbrev pub is_mark : Term-F Term Value Closure → Bool
is_mark (Term-F.Stepped t) = true
is_mark _ = false

-- Whether a term is a part that is marked.
abbrev pub has_stepped : Term → Bool
has_stepped t = is_mark (out-Term t)

-- Open, and not marked.
abbrev pub still_by : Standing → Bool → Bool
still_by open_yet marked = not marked
still_by _ marked = false

-- Whether a part isn't finished and no step was taken in it.
abbrev pub is_still : Term → Bool
is_still t = still_by (standing t) (has_stepped t)

-- Whether it is at a throw.
abbrev pub throws_by : Standing → Bool
throws_by (at_throw v) = true
throws_by _ = false

-- Whether a term is a throw of a value.
abbrev pub is_thrown : Term → Bool
is_thrown t = throws_by (standing t)
