-- Chapter "Programs as written": what the terms of a run are, and that no body in which a form
-- sleeps is ever run. The code begins from what it translated, and has no such test.
use Rattle.std.specs.Prelude.{◌≡◌, ℕ, Bool, true, false, List, [], ◌∷◌, ◌++◌, Some, option_to_list}
use Rattle.fort_core.specs.declared.form.Mode.{Mode}
use Rattle.fort_core.specs.declared.pick.Pick.{Pick}
use Rattle.fort_core.specs.declared.program.Program.{Program}
use Rattle.fort_core.specs.declared.term.Term.{Term, out-Term}
use Rattle.fort_core.specs.declared.term.Term.TheOpen.{Term-F}
use Rattle.fort_core.specs.declared.value.Closure.{Closure}
use Rattle.fort_core.specs.declared.value.Value.{Value, out-Value}
use Rattle.fort_machine.specs.Effects.{Store, Effect, afterwards}
use Rattle.fort_machine.specs.Ends.{open_yet, standing}
use Rattle.fort_machine.specs.Frames.{Frame, plug}
use Rattle.fort_machine.specs.Parts.{in_clauses, parts_of, terms_in, values_in, values_of, bodies_of}
use Rattle.fort_machine.specs.Acts.{enters}
use Rattle.fort_machine.specs.Marked.{Bare}
use Rattle.fort_machine.specs.Written.{IsNoValue, WrittenProgram}
use Rattle.fort_machine.specs.Steps.{Acts}
use Rattle.fort_machine.specs.Attempts.{Form, goes}
use Rattle.fort_machine.specs.Runs.{Runs}
use Rattle.fort_machine.specs.Journals.{opening_store}

-- No form stands at rest that sleeps or is marked.
abbrev pub RestsUntouched : Term-F Term Value Closure → Type 0
RestsUntouched (Term-F.Asleep marks a) = ⊥
RestsUntouched (Term-F.Stepped a) = ⊥
RestsUntouched _ = Unit {0}

-- A term at rest is one in which no step was taken: a body, a rest, a clause. No form in it sleeps
-- or is marked, and what could be a value is one; so it is in the bodies of functions and in
-- values.
mutual
  pub data Resting : Term → Type 0 where
    resting : {t : Term} → RestsUntouched (out-Term t) → IsNoValue (out-Term t)
        → AllResting (terms_in (out-Term t)) → AllRestingValues (values_in (out-Term t)) → Resting t

  pub data AllResting : List Term → Type 0 where
    no_rests : AllResting []
    next_rest : {t : Term} {ts : List Term} → Resting t → AllResting ts → AllResting (t ∷ ts)

  pub data RestingValue : Value → Type 0 where
    resting_value : {v : Value} → AllResting (bodies_of (out-Value v))
        → AllRestingValues (values_of (out-Value v)) → RestingValue v

  pub data AllRestingValues : List Value → Type 0 where
    no_resting_values : AllRestingValues []
    next_resting_value : {v : Value} {vs : List Value} → RestingValue v → AllRestingValues vs
        → AllRestingValues (v ∷ vs)

-- The parts of a form that go, each a thread or the form's own.
abbrev pub going_in : Term-F Term Value Closure → List Term
going_in (Term-F.Let xs a b) = a ∷ []
going_in (Term-F.Mutable x ty a b) = a ∷ []
going_in (Term-F.Then a b) = a ∷ []
going_in (Term-F.If c a b) = c ∷ []
going_in (Term-F.While c b) = []
going_in (Term-F.Typecase x a cs b) = a ∷ []
going_in (Term-F.For order s x a b) = a ∷ []
going_in (Term-F.Reduce order s set empty x a b) = a ∷ []
going_in (Term-F.Try a x cs last) = a ∷ []
going_in (Term-F.Atomic m a) = []
going_in (Term-F.Asleep marks a) = []
going_in form = parts_of form

-- What stands in a form at rest: bodies, rests and clauses.
abbrev pub resting_in : Term-F Term Value Closure → List Term
resting_in (Term-F.Fn c) = c.body ∷ []
resting_in (Term-F.Let xs a b) = b ∷ []
resting_in (Term-F.Mutable x ty a b) = b ∷ []
resting_in (Term-F.Then a b) = b ∷ []
resting_in (Term-F.If c a b) = a ∷ b ∷ []
resting_in (Term-F.While c b) = c ∷ b ∷ []
resting_in (Term-F.Typecase x a cs b) = b ∷ in_clauses cs
resting_in (Term-F.For order s x a b) = b ∷ []
resting_in (Term-F.Reduce order s set empty x a b) = empty ∷ b ∷ []
resting_in (Term-F.Try a x cs last) = option_to_list last ++ in_clauses cs
resting_in (Term-F.Atomic m a) = a ∷ []
resting_in (Term-F.Asleep marks a) = a ∷ []
resting_in _ = []

-- A mark is round an open part.
abbrev pub MarksOpen : Term-F Term Value Closure → Type 0
MarksOpen (Term-F.Stepped a) = standing a ≡ open_yet
MarksOpen _ = Unit {0}

-- A term of a run: what could be a value is one, marks are round open parts, and what doesn't go is
-- at rest.
mutual
  pub data Proper : Term → Type 0 where
    proper : {t : Term} → MarksOpen (out-Term t) → IsNoValue (out-Term t)
        → AllProper (going_in (out-Term t)) → AllResting (resting_in (out-Term t))
        → AllRestingValues (values_in (out-Term t)) → Proper t

  pub data AllProper : List Term → Type 0 where
    no_propers : AllProper []
    next_proper : {t : Term} {ts : List Term} → Proper t → AllProper ts → AllProper (t ∷ ts)

-- The values of a store are at rest.
abbrev pub ProperStore : Store → Type 0
ProperStore s = (l : ℕ) (v : Value) → s l ≡ Some v → RestingValue v

-- Where the machines of a program come to: the root's begins at its first term, from its opening
-- store; a machine goes on by its runs; an attempt's begins at the body of an atomic form, from the
-- store of the machine round it.
pub data Reached (p : Program) : (inner : Bool) (s : Store) (t : Term) → Type 0 where
  at_first : {inner : Bool} {s : Store} {t : Term} → inner ≡ false → s ≡ opening_store p
      → t ≡ p.first → Reached p inner s t
  by_run : {inner : Bool} {s s' : Store} {t t' : Term} {picks : List Pick} {d : Effect}
      → Reached p inner s t → Runs p inner true s picks t (goes t') d → s' ≡ afterwards d s
      → Reached p inner s' t'
  in_attempt : {inner outer : Bool} {s : Store} {t a body : Term} {m : Mode} (fs : List Frame)
      → Reached p outer s t → t ≡ plug fs a → Form a m body → inner ≡ true → Reached p inner s body

-- The term and the store of each machine of a written program are those of a run.
abbrev pub ReachedIsProper : Type 0
ReachedIsProper = (p : Program) → WrittenProgram p → (inner : Bool) (s : Store) (t : Term)
    → Reached p inner s t → Proper t × ProperStore s

-- So no form sleeps in a body that is run next, a declaration's, a function's or an attempt's.
abbrev pub EntersBare : Type 0
EntersBare = (p : Program) → WrittenProgram p → (inner : Bool) (s : Store) (t : Term)
    → Reached p inner s t → (fs : List Frame) (a : Term) → t ≡ plug fs a
    → ((body next : Term) → Acts p a (enters body next) → Bare body)
    × ((m : Mode) (body : Term) → Form a m body → Bare body)
