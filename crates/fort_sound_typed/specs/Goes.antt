-- Chapter "Nothing is stuck": where a typed term goes on. The code of a run finds the thread; here
-- it is enough that there is one.
use Rattle.std.specs.Prelude.{◌≡◌, ◌≢◌, ℕ, ◌≤◌, Bool, true, false, ◌⊎◌, List, Some, None}
use Rattle.fort_base.specs.declared.ids.Loc.{Loc}
use Rattle.fort_base.specs.declared.ids.NameId.{NameId}
use Rattle.fort_base.specs.declared.ids.TypeId.{TypeId}
use Rattle.fort_base.specs.declared.ty.Ty.{Ty}
use Rattle.fort_core.specs.declared.form.Mode.{Mode}
use Rattle.fort_core.specs.declared.program.CoreShape.{CoreShape}
use Rattle.fort_core.specs.declared.program.Program.{Program}
use Rattle.fort_core.specs.declared.term.Term.{Term}
use Rattle.fort_core.specs.declared.value.Value.{Value, Object}
use Rattle.fort_machine.specs.Acts.{ends, single}
use Rattle.fort_core.specs.declared.pick.Pick.{Pick}
use Rattle.fort_machine.specs.Attempts.{Form, MayTry, Ended}
use Rattle.fort_machine.specs.Runs.{Runs}
use Rattle.fort_machine.specs.Effects.{Store, Effect, FitsAll, afterwards}
use Rattle.fort_machine.specs.Ends.{Finished, throw_of}
use Rattle.fort_machine.specs.Frames.{Frame, plug, passed}
use Rattle.fort_machine.specs.Marked.{Bare}
use Rattle.fort_machine.specs.Steps.{Acts, Local}
use Rattle.fort_machine.specs.OneDefinition.{IsOne}
use Rattle.fort_machine.specs.Written.{WrittenProgram}
use Rattle.fort_machine.specs.Journals.{IsNext}
use Rattle.fort_machine.specs.Proper.{Proper, Reached}
use Rattle.fort_sound_typed.specs.Envs.{Sig, none}
use Rattle.fort_sound_typed.specs.Typing.{ShapeOf, Makes, FieldOf, Has}
use Rattle.fort_sound_typed.specs.Sound.{IsFailure, Under, Sound, Defined, StoreOk, Typed}

-- The built-in types whose values are of their own kind.
abbrev pub IsBuiltIn : Program → TypeId → Type 0
IsBuiltIn p id =
    let b = p.built_in in (id ≡ b.small) ⊎ (id ≡ b.large) ⊎ (id ≡ b.text) ⊎ (id ≡ b.truth)
    ⊎ (id ≡ b.range)

-- What an accepted program has besides, so that nothing gets stuck: it is as it is written; each
-- exception that steps throw has its single object; and the built-in leaves are five types, above
-- no other ones, made by no object, without fields, and none of them below `Exception`.
pub record Complete (p : Program) : Type 0 where
  pub written : WrittenProgram p
  pub singles : (id : TypeId) → IsFailure p id → (v : Value) × (single p id ≡ Some v)
  pub only : (b i : TypeId) → IsBuiltIn p b → Under p i b → i ≡ b
  pub unmade : (b : TypeId) (s : CoreShape) → IsBuiltIn p b → ShapeOf p b s → Makes s.kind → ⊥
  pub fieldless : (b i : TypeId) (f : NameId) (A : Ty) → IsBuiltIn p b → Under p b i
      → FieldOf p i f A → ⊥
  pub unthrown : (b : TypeId) → IsBuiltIn p b → Under p b p.built_in.exception → ⊥
  pub small_large : p.built_in.small ≢ p.built_in.large
  pub small_text : p.built_in.small ≢ p.built_in.text
  pub small_truth : p.built_in.small ≢ p.built_in.truth
  pub small_range : p.built_in.small ≢ p.built_in.range
  pub truth_large : p.built_in.truth ≢ p.built_in.large
  pub truth_text : p.built_in.truth ≢ p.built_in.text
  pub truth_range : p.built_in.truth ≢ p.built_in.range
  pub range_large : p.built_in.range ≢ p.built_in.large
  pub range_text : p.built_in.range ≢ p.built_in.text
  pub large_text : p.built_in.large ≢ p.built_in.text

-- From some number on a store has nothing.
abbrev pub Finite : Store → Type 0
Finite s = (n : ℕ) × ((l : ℕ) → n ≤ l → s l ≡ None)

-- What stands where a thread is: a form that has a legal step; a call of `abort()` in an attempt;
-- an atomic form, before an attempt or asleep.
pub data Stands (p : Program) (inner : Bool) (s : Store) (a : Term) : Type 0 where
  at_step : (loc : ℕ) (b : Term) (d : Effect) → Local p inner loc a b d → FitsAll d s
      → Stands p inner s a
  at_abort : inner ≡ true → Acts p a ends → Stands p inner s a
  at_atomic : (m : Mode) (body : Term) → Form a m body → Bare body → Stands p inner s a

-- A term is finished, or a thread of it that isn't passed over stands somewhere.
pub data Goes (p : Program) (inner : Bool) (s : Store) (t : Term) : Type 0 where
  done : Finished t → Goes p inner s t
  goes_at : (fs : List Frame) (a : Term) → t ≡ plug fs a → passed fs a ≡ false → Stands p inner s a
      → Goes p inner s t

-- A term that is typed and proper, over a store of its types, is finished or goes on.
abbrev pub NeverStuck : Type 0
NeverStuck = (p : Program) → Sound p → Defined p → Complete p
    → (inner : Bool) (S : Sig) (s : Store) (t : Term) (T : Ty)
    → StoreOk p S s → Finite s → Has p S none t T → Proper t → Goes p inner s t

-- Each machine of an accepted program, the root's or an attempt's, has a typed term and store
-- wherever it comes to.
abbrev pub ReachedIsTyped : Type 0
ReachedIsTyped = (p : Program) → Sound p → (inner : Bool) (s : Store) (t : Term)
    → Reached p inner s t → (T : Ty) × Typed p t s T

-- There each call of values has exactly one declaration that it runs, and that one isn't abstract.
abbrev pub ReachedIsOne : Type 0
ReachedIsOne = (p : Program) → Sound p → Defined p → (inner : Bool) (s : Store) (t : Term)
    → Reached p inner s t → IsOne p t

-- What a typed term throws, where it is finished, is an object.
abbrev pub ThrownIsObject : Type 0
ThrownIsObject = (p : Program) → Sound p → Complete p → (s : Store) (t : Term) (T : Ty)
    → Typed p t s T → (v : Value) → t ≡ throw_of v
    → (id : TypeId) × (base : Loc) × (v ≡ Object id base)

-- And no machine is stuck: its term is finished, or a thread that isn't passed over has a legal
-- step, stands at `abort()` in an attempt, or stands at an atomic form.
abbrev pub NoRunIsStuck : Type 0
NoRunIsStuck = (p : Program) → Sound p → Defined p → Complete p
    → (inner : Bool) (s : Store) (t : Term) → Reached p inner s t → Goes p inner s t

-- A run leaves a store finite.
abbrev pub StaysFinite : Type 0
StaysFinite = (p : Program) (inner strict : Bool) (s : Store) (picks : List Pick) (t : Term)
    (r : Ended) (d : Effect) → Finite s → Runs p inner strict s picks t r d
    → Finite (afterwards d s)

-- What a thread may do next, the rule on sleeping forms kept: a legal step; `abort()` in an
-- attempt; an attempt of an atomic form that may be tried.
pub data MayGo (p : Program) (inner : Bool) (s : Store) (t : Term) (fs : List Frame)
    (a : Term) : Type 0 where
  steps_on : (loc : ℕ) (b : Term) (d : Effect) → Local p inner loc a b d → FitsAll d s
      → MayGo p inner s t fs a
  aborts_here : inner ≡ true → Acts p a ends → MayGo p inner s t fs a
  tries : (m : Mode) (body : Term) → Form a m body → Bare body → MayTry true s t fs a
      → MayGo p inner s t fs a

-- No thread of a term may go on.
abbrev pub NobodyMayGo : Program → Bool → Store → Term → Type 0
NobodyMayGo p inner s t = (fs : List Frame) (a : Term) → t ≡ plug fs a → passed fs a ≡ false
    → MayGo p inner s t fs a → ⊥

-- Where a machine of an accepted program isn't at its end, it isn't so that nobody may go on: where
-- all who are awake have gone, a sleeper may be tried. Which thread it is can't be said here, since
-- no test tells whether a store has a value.
abbrev pub SomeoneMayGo : Type 0
SomeoneMayGo = (p : Program) → Sound p → Defined p → Complete p
    → (inner : Bool) (s : Store) (t : Term) → Reached p inner s t → (Finished t → ⊥)
    → NobodyMayGo p inner s t → ⊥

-- So there is a pick that may come next in the root machine, a legal one or an attempt that isn't
-- finished: none can't be.
abbrev pub NextThere : Type 0
NextThere = (p : Program) → Sound p → Defined p → Complete p → (s : Store) (t : Term)
    → Reached p false s t → (Finished t → ⊥)
    → ((pick : Pick) (d : Effect) → IsNext p s t pick d → ⊥) → ⊥
