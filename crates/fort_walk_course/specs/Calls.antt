-- Chapters "Runs", "Atomic" and "Journals": what carries a run on, and how it ends.
use Rattle.std.specs.Prelude.{◌≡◌, ℕ, ◌+◌, ◌<◌, true, List, [], ◌∷◌, ◌++◌, Option, Some, None, IsSome}
use Rattle.fort_core.specs.declared.form.Mode.{Mode}
use Rattle.fort_core.specs.declared.form.Mode.TheVariants as mode
use Rattle.fort_core.specs.declared.journal.Ending.{Ending}
use Rattle.fort_core.specs.declared.pick.Pick.{Step, Attempt}
use Rattle.fort_core.specs.declared.program.Program.{Program}
use Rattle.fort_core.specs.declared.term.Term.{Term, Asleep}
use Rattle.fort_core.specs.declared.value.Value.{Value}
use Rattle.fort_machine.specs.Effects.{Effect, FitsAll, printed}
use Rattle.fort_machine.specs.Ends.{throw_of}
use Rattle.fort_machine.specs.Acts.{ends, single}
use Rattle.fort_machine.specs.Steps.{Acts, Local}
use Rattle.fort_machine.specs.Marked.{Bare, Marks}
use Rattle.fort_machine.specs.Attempts.{Form}
use Rattle.fort_machine.specs.Runs.{location}
use Rattle.fort_machine.specs.Journals.{MakesWithinBounds}
use Rattle.fort_frames.specs.Frames.{frames, rebuilt}
use Rattle.fort_frames.specs.States.{term_at}
use Rattle.fort_frames.specs.declared.place.Place.{Place}
use Rattle.fort_frames.specs.declared.state.At.{At}
use Rattle.fort_store_effects.specs.Calls.{Adds, AreMarks}
use Rattle.fort_store_effects.specs.Closes.{Closes}
use Rattle.fort_store_effects.specs.Levels.{Levels, levels_of, opened, seen, spent, undone}
use Rattle.fort_store_effects.specs.declared.cell.Closing.{Closing}
use Rattle.fort_walk_law_course.specs.Picks.{MayBeTried}
use Rattle.fort_walk_law_course.specs.Course.{Held, is_inner}
use Rattle.fort_walk_law_course.specs.Ends.{HasRun}
use Rattle.fort_walk_course.specs.Courses.{StandsAt, around}
use Rattle.fort_walk_course.specs.declared.course.Course.{Course}
use Rattle.fort_walk_course.specs.declared.attempts.Standing.{Standing}
use Rattle.fort_walk_course.specs.declared.attempts.Undone.{Undone}
use Rattle.fort_walk_course.specs.declared.course.Turn.{Turn}
use Rattle.fort_walk_course.specs.declared.course.Waiting.{Waiting}
use Rattle.fort_walk_course.specs.declared.ending.Ran.{Ran}

-- A form at a place may take this step.
pub record MayStep (p : Program) (c : Course) (place : Place) (loc : ℕ) (b : Term)
    (e : Effect) : Type 0 where
  pub form : Term
  pub stands : StandsAt p c place form
  pub local : Local p (is_inner (around c)) loc form b e

-- An atomic form at a place may be tried.
pub record MayTry (p : Program) (c : Course) (place : Place) (m : Mode) (body : Term) : Type 0 where
  pub form : Term
  pub stands : StandsAt p c place form
  pub is_form : Form form m body
  pub bare : Bare body
  pub may : MayBeTried (seen (levels_of c.layers)) (rebuilt c.clock (frames place.stack) form) form

-- It is this form.
abbrev pub MayTryThis : Program → Course → Place → Term → Mode → Term → Type 0
MayTryThis p c place a m body = (may : MayTry p c place m body) × (may.form ≡ a)

-- A form at a place of an attempt's machine ends that machine by its step.
pub record MayAbort (p : Program) (c : Course) (place : Place) : Type 0 where
  pub form : Term
  pub stands : StandsAt p c place form
  pub acts : Acts p form ends
  pub inside : is_inner (around c) ≡ true

-- A form at a place has a step next that passes what is left of the fuel.
pub record PassesAt (p : Program) (c : Course) (place : Place) (loc : ℕ) : Type 0 where
  pub next : Term
  pub effect : Effect
  pub may : MayStep p c place loc next effect
  pub fits : FitsAll effect (seen (levels_of c.layers))
  pub bounded : MakesWithinBounds effect
  pub passes : c.fuel < c.spent + effect.cost

-- A step was taken at a place, at a cost; what it did in the layers was done before.
pub record StepsTo (old : Course) (place : Place) (loc cost : ℕ) (new : Course) : Type 0 where
  pub layers : new.layers ≡ old.layers
  pub picks : new.picks ≡ old.picks ++ Step place.path (location loc) ∷ []
  pub outer : new.outer ≡ old.outer
  pub clock : old.clock < new.clock
  pub spent : new.spent ≡ old.spent + cost
  pub fuel : new.fuel ≡ old.fuel
  pub fresh : new.fresh ≡ old.fresh

-- An attempt of a form at a place begins: its machine has picked nothing, and the one round it
-- waits, with what it was before.
pub record BeginsTo (old : Course) (place : Place) (kept : Option Term) (m : Mode) (body : Term)
    (turn : Turn) (new : Course) : Type 0 where
  pub layers : levels_of new.layers ≡ opened (levels_of old.layers)
  pub picks : new.picks ≡ []
  pub outer : new.outer
      ≡ old.outer ++ record {
        place = place;
        form = kept;
        mode = m;
        body = body;
        clock = old.clock;
        fresh = old.fresh;
        picks = old.picks;
        turn = turn;
      } ∷ []
  pub clock : new.clock ≡ old.clock
  pub spent : new.spent ≡ old.spent + 1
  pub fuel : new.fuel ≡ old.fuel
  pub fresh : new.fresh ≡ old.fresh

-- A step of `abort()` is taken at a place, at the cost of 1.
pub record StopsTo (old : Course) (place : Place) (new : Course) : Type 0 where
  pub layers : Adds (printed [] 1) (levels_of old.layers) (levels_of new.layers)
  pub picks : new.picks ≡ old.picks ++ Step place.path (location 0) ∷ []
  pub outer : new.outer ≡ old.outer
  pub clock : new.clock ≡ old.clock
  pub spent : new.spent ≡ old.spent + 1
  pub fuel : new.fuel ≡ old.fuel
  pub fresh : new.fresh ≡ old.fresh

-- The innermost attempt ended so, and is the last pick of the machine that waited for it, which
-- goes on at the place of its form.
pub record ClosesTo (c : Closing) (old : Course) (new : Course × Place) : Type 0 where
  pub waiting : Waiting
  pub outer : old.outer ≡ new.0.outer ++ waiting ∷ []
  pub is_place : new.1 ≡ waiting.place
  pub layers : Closes c (levels_of old.layers) (levels_of new.0.layers)
  pub picks : new.0.picks ≡ waiting.picks ++ Attempt waiting.place.path old.picks ∷ []
  pub clock : old.clock < new.0.clock
  pub spent : new.0.spent ≡ old.spent
  pub fuel : new.0.fuel ≡ old.fuel
  pub fresh : new.0.fresh ≡ old.fresh

-- The form of the innermost attempt is kept.
abbrev pub KeepsForm : List Held → Type 0
KeepsForm [] = ⊥
KeepsForm (h ∷ hs) = IsSome h.form

-- The innermost attempt is undone: the machine that waited for it is the innermost one, and all is
-- as it was before the attempt began.
pub record Undoes (old new : Course) (w : Waiting) : Type 0 where
  pub outer : old.outer ≡ new.outer ++ w ∷ []
  pub layers : levels_of new.layers ≡ undone (levels_of old.layers)
  pub picks : new.picks ≡ w.picks
  pub clock : new.clock ≡ w.clock
  pub fresh : new.fresh ≡ w.fresh
  pub is_spent : new.spent ≡ spent (levels_of new.layers)
  pub fuel : new.fuel ≡ old.fuel

-- With the place and the form at which it began.
pub record IsUndone (old : Course) (u : Undone) : Type 0 where
  pub waiting : Waiting
  pub undoes : Undoes old u.course waiting
  pub is_place : u.place ≡ waiting.place
  pub is_form : u.form ≡ waiting.form
  pub is_turn : u.turn ≡ waiting.turn

-- The run stands at the attempt's form, as it was kept.
pub record Leaves (old : Course) (s : Standing) : Type 0 where
  pub waiting : Waiting
  pub undoes : Undoes old s.course waiting
  pub is_place : s.place ≡ waiting.place
  pub is_form : waiting.form ≡ Some s.form
  pub is_turn : s.turn ≡ waiting.turn

-- The innermost attempt is of a `tryatomic`, and the program has no single object to be thrown
-- where it is aborted.
abbrev pub CannotThrow : Program → List Held → Type 0
CannotThrow p [] = ⊥
CannotThrow p (h ∷ hs) = (h.mode ≡ mode.Try) × (single p p.built_in.try_atomic_failure ≡ None)

-- What an atomic form becomes whose attempt was aborted: asleep with what the attempt read, or the
-- throw of the single object.
pub data Becomes (p : Program) (h : Held) (v : Levels) (b : Term) : Type 0 where
  sleeping : (marks : Marks) → h.mode ≡ mode.Atomic → AreMarks marks v.attempts
      → b ≡ Asleep marks h.body → Becomes p h v b
  throwing : (x : Value) → h.mode ≡ mode.Try → single p p.built_in.try_atomic_failure ≡ Some x
      → b ≡ throw_of x → Becomes p h v b

-- It becomes so, or the program has no such object.
abbrev pub Aborts : Program → Held → Levels → Option At → Type 0
Aborts p h v None = (h.mode ≡ mode.Try) × (single p p.built_in.try_atomic_failure ≡ None)
Aborts p h v (Some a) = Becomes p h v (term_at a)

-- A run ends so, with its picks and what the root's run printed and cost.
pub record IsEnded (c : Course) (ending : Ending) (r : Ran) : Type 0 where
  pub is_fuel : r.journal.fuel ≡ c.fuel
  pub are_picks : r.journal.picks ≡ c.picks
  pub is_ending : r.journal.ending ≡ ending
  pub is_output : r.output ≡ (levels_of c.layers).output
  pub is_cost : r.cost ≡ (levels_of c.layers).cost

-- A run was carried to its end: the journal is that of a run of the program with this fuel, and has
-- the run's output and cost beside it.
pub record IsRun (p : Program) (fuel : ℕ) (r : Ran) : Type 0 where
  pub is_fuel : r.journal.fuel ≡ fuel
  pub run : HasRun p fuel r.journal.picks r.journal.ending r.output r.cost
