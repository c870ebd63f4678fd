-- Chapters "Runs" and "Journals": what keeps the course of a run, step by step, into attempts and
-- out of them, to its end.
use Rattle.std.specs.Prelude.{◌≡◌, ℕ, ◌+◌, ◌<◌, ◌≤◌, List, [], ◌∷◌, ◌++◌, Option, Some, IfSome}
use Rattle.fort_core.specs.declared.form.Mode.{Mode}
use Rattle.fort_core.specs.declared.form.Mode.TheVariants as mode
use Rattle.fort_core.specs.declared.journal.Ending.TheVariants.{Completed, Uncaught, OutOfFuel}
use Rattle.fort_core.specs.declared.pick.Pick.{Pick, Step, Attempt}
use Rattle.fort_core.specs.declared.program.Program.{Program}
use Rattle.fort_core.specs.declared.term.Term.{Term, Asleep}
use Rattle.fort_core.specs.declared.term.Term as term
use Rattle.fort_core.specs.declared.value.Value.{Value}
use Rattle.fort_machine.specs.Effects.{Effect, paid, FitsAll}
use Rattle.fort_machine.specs.Ends.{throw_of}
use Rattle.fort_machine.specs.Acts.{enters, ends, unit, single}
use Rattle.fort_machine.specs.Steps.{Acts, Local}
use Rattle.fort_machine.specs.Marked.{Bare, Marks}
use Rattle.fort_machine.specs.Written.{WrittenProgram}
use Rattle.fort_machine.specs.Attempts.{Form, Ended, goes, aborts}
use Rattle.fort_machine.specs.Runs.{location}
use Rattle.fort_machine.specs.Proper.{Reached}
use Rattle.fort_machine.specs.Journals.{opening_store, MakesWithinBounds}
use Rattle.fort_frames.specs.Frames.{frames, rebuilt, Reaches}
use Rattle.fort_frames.specs.declared.place.Place.{Place}
use Rattle.fort_store_effects.specs.Calls.{Adds, AreMarks}
use Rattle.fort_store_effects.specs.Closes as layers
use Rattle.fort_store_effects.specs.declared.cell.Closing.TheVariants as closing
use Rattle.fort_store_effects.specs.Levels.{Levels, seen, spent, first_levels, opened, undone, with_attempts}
use Rattle.fort_walk_law_course.specs.Picks.{MayBeTried}
use Rattle.fort_walk_law_course.specs.Course.{Held, Comes, IsCourse, NothingFrom, is_inner}
use Rattle.fort_walk_law_course.specs.Ends.{HasRun, PassesLast}

-- A run begins at the program's first term, on its opening store.
abbrev pub Begins : Type 0
Begins = (p : Program) (fuel clock fresh : ℕ) (place : Place) → frames place.stack ≡ []
    → NothingFrom fresh (opening_store p)
    → IsCourse p fuel (first_levels p) [] [] clock fresh place p.first

-- The same term at another place is as far.
abbrev pub MovesKeep : Type 0
MovesKeep = (p : Program) (fuel : ℕ) (v : Levels) (picks : List Pick) (ws : List Held)
    (clock fresh : ℕ) (old new : Place) (a b : Term)
    → IsCourse p fuel v picks ws clock fresh old a
    → rebuilt clock (frames new.stack) b ≡ rebuilt clock (frames old.stack) a
    → Reaches clock (frames new.stack) b
    → IsCourse p fuel v picks ws clock fresh new b

-- A step of the form that the fuel covers is one pick more. The clock rises.
abbrev pub StepKeeps : Type 0
StepKeeps = (p : Program) (fuel : ℕ) (v w : Levels) (picks : List Pick) (ws : List Held)
    (clock later fresh fresher loc : ℕ) (place : Place) (a b : Term) (e : Effect)
    → IsCourse p fuel v picks ws clock fresh place a → Local p (is_inner ws) loc a b e → Adds e v w
    → clock < later → spent w ≤ fuel → MakesWithinBounds e → NothingFrom fresher (seen w)
    → IsCourse p fuel w (picks ++ Step place.path (location loc) ∷ []) ws later fresher place b

-- An attempt begins within: its machine is at the body, and has picked nothing. Where the form is
-- kept it is this one.
abbrev pub OpeningKeeps : Type 0
OpeningKeeps = (p : Program) (fuel : ℕ) (v : Levels) (picks : List Pick) (ws : List Held)
    (clock fresh : ℕ) (place root : Place) (m : Mode) (a body : Term) (kept : Option Term)
    → IsCourse p fuel v picks ws clock fresh place a → Form a m body → Bare body
    → MayBeTried (seen v) (rebuilt clock (frames place.stack) a) a → IfSome kept (λ b. b ≡ a)
    → spent v + 1 ≤ fuel → frames root.stack ≡ []
    → IsCourse p fuel (opened v) []
    (record {
      place = place;
      form = kept;
      mode = m;
      body = body;
      clock = clock;
      fresh = fresh;
      picks = picks;
    } ∷ ws) clock fresh root body

-- Where an attempt's form was kept, the run without the attempt is as far as it was before: at that
-- form, which may be tried.
abbrev pub LeavingKeeps : Type 0
LeavingKeeps = (p : Program) (fuel : ℕ) (v : Levels) (picks : List Pick) (h : Held)
    (ws : List Held) (now : ℕ) (r : Ended) (a : Term)
    → Comes p fuel v picks (h ∷ ws) now r → h.form ≡ Some a
    → IsCourse p fuel (undone v) h.picks ws h.clock h.fresh h.place a × Form a h.mode h.body
    × Bare h.body × MayBeTried (seen (undone v)) (rebuilt h.clock (frames h.place.stack) a) a

-- A step of `abort()` ends an attempt's machine.
abbrev pub AbortKeeps : Type 0
AbortKeeps = (p : Program) (fuel : ℕ) (v w : Levels) (picks : List Pick) (h : Held) (ws : List Held)
    (clock fresh : ℕ) (place : Place) (a : Term)
    → IsCourse p fuel v picks (h ∷ ws) clock fresh place a → Acts p a ends → Adds (paid 1) v w
    → spent w ≤ fuel
    → Comes p fuel w (picks ++ Step place.path (location 0) ∷ []) (h ∷ ws) clock aborts
    × NothingFrom fresh (seen w)

-- An attempt whose machine came to a value is completed, and the whole of it is one pick of the
-- machine round it.
abbrev pub CompletionKeeps : Type 0
CompletionKeeps = (p : Program) (fuel : ℕ) (v w : Levels) (picks : List Pick) (h : Held)
    (ws : List Held) (clock later fresh : ℕ) (x : Value)
    → Comes p fuel v picks (h ∷ ws) clock (goes (term.Value x)) → NothingFrom fresh (seen v)
    → layers.Closes closing.Completed v w → clock < later
    → IsCourse p fuel w (h.picks ++ Attempt h.place.path picks ∷ []) ws later fresh h.place
    (term.Value x)

-- One whose machine came to a throw is failed.
abbrev pub FailureKeeps : Type 0
FailureKeeps = (p : Program) (fuel : ℕ) (v w : Levels) (picks : List Pick) (h : Held)
    (ws : List Held) (clock later fresh : ℕ) (x : Value)
    → Comes p fuel v picks (h ∷ ws) clock (goes (throw_of x)) → NothingFrom fresh (seen v)
    → layers.Closes closing.Failed v w → clock < later
    → IsCourse p fuel w (h.picks ++ Attempt h.place.path picks ∷ []) ws later fresh h.place
    (throw_of x)

-- One that aborted throws as `tryatomic`.
abbrev pub GivingUpKeeps : Type 0
GivingUpKeeps = (p : Program) (fuel : ℕ) (v w : Levels) (picks : List Pick) (h : Held)
    (ws : List Held) (clock later fresh : ℕ) (x : Value)
    → Comes p fuel v picks (h ∷ ws) clock aborts → NothingFrom fresh (seen v) → h.mode ≡ mode.Try
    → single p p.built_in.try_atomic_failure ≡ Some x → layers.Closes closing.Aborted v w
    → clock < later
    → IsCourse p fuel w (h.picks ++ Attempt h.place.path picks ∷ []) ws later fresh h.place
    (throw_of x)

-- As `atomic` it sleeps, with marks of what it read.
abbrev pub FallingAsleepKeeps : Type 0
FallingAsleepKeeps = (p : Program) (fuel : ℕ) (v w : Levels) (picks : List Pick) (h : Held)
    (ws : List Held) (clock later fresh : ℕ) (marks : Marks)
    → Comes p fuel v picks (h ∷ ws) clock aborts → NothingFrom fresh (seen v) → h.mode ≡ mode.Atomic
    → AreMarks marks v.attempts → layers.Closes closing.Aborted v w → clock < later
    → IsCourse p fuel w (h.picks ++ Attempt h.place.path picks ∷ []) ws later fresh h.place
    (Asleep marks h.body)

-- At `()` the root's run is completed.
abbrev pub CompletedRun : Type 0
CompletedRun = (p : Program) (fuel : ℕ) (v : Levels) (picks : List Pick) (now : ℕ)
    → Comes p fuel v picks [] now (goes (term.Value unit))
    → HasRun p fuel picks Completed v.output v.cost

-- At a throw it is uncaught.
abbrev pub UncaughtRun : Type 0
UncaughtRun = (p : Program) (fuel : ℕ) (v : Levels) (picks : List Pick) (now : ℕ) (x : Value)
    → Comes p fuel v picks [] now (goes (throw_of x))
    → HasRun p fuel picks (Uncaught x) v.output v.cost

-- A step that the fuel doesn't cover is the last pick.
abbrev pub StepPasses : Type 0
StepPasses = (p : Program) (fuel : ℕ) (v : Levels) (picks : List Pick) (ws : List Held)
    (clock fresh loc : ℕ) (place : Place) (a b : Term) (e : Effect)
    → IsCourse p fuel v picks ws clock fresh place a → Local p (is_inner ws) loc a b e
    → FitsAll e (seen v) → MakesWithinBounds e → fuel < spent v + e.cost
    → PassesLast p fuel v picks ws clock (Step place.path (location loc))

-- So is a step of `abort()` in an attempt.
abbrev pub AbortPasses : Type 0
AbortPasses = (p : Program) (fuel : ℕ) (v : Levels) (picks : List Pick) (h : Held) (ws : List Held)
    (clock fresh : ℕ) (place : Place) (a : Term)
    → IsCourse p fuel v picks (h ∷ ws) clock fresh place a → Acts p a ends → fuel < spent v + 1
    → PassesLast p fuel v picks (h ∷ ws) clock (Step place.path (location 0))

-- So is an attempt that would begin, without an inner pick.
abbrev pub AttemptPasses : Type 0
AttemptPasses = (p : Program) (fuel : ℕ) (v : Levels) (picks : List Pick) (ws : List Held)
    (clock fresh : ℕ) (place : Place) (m : Mode) (a body : Term)
    → IsCourse p fuel v picks ws clock fresh place a → Form a m body → Bare body
    → MayBeTried (seen v) (rebuilt clock (frames place.stack) a) a → fuel < spent v + 1
    → PassesLast p fuel v picks ws clock (Attempt place.path [])

-- The last pick of an attempt's machine makes the attempt, with its picks so far, the last one of
-- the machine round it.
abbrev pub LastGoesOut : Type 0
LastGoesOut = (p : Program) (fuel : ℕ) (v : Levels) (picks : List Pick) (h : Held) (ws : List Held)
    (now : ℕ) (pick : Pick)
    → PassesLast p fuel v picks (h ∷ ws) now pick
    → (es : List Effect)
    × PassesLast p fuel (with_attempts v es) h.picks ws now
    (Attempt h.place.path (picks ++ pick ∷ []))

-- The root's run ends before its last pick.
abbrev pub RunPasses : Type 0
RunPasses = (p : Program) (fuel : ℕ) (v : Levels) (picks : List Pick) (now : ℕ) (pick : Pick)
    → PassesLast p fuel v picks [] now pick → HasRun p fuel picks (OutOfFuel pick) v.output v.cost

-- Where a run has come is where the machines of its program come to.
abbrev pub ReachedHere : Type 0
ReachedHere = (p : Program) (fuel : ℕ) (v : Levels) (picks : List Pick) (ws : List Held) (now : ℕ)
    (t : Term) → Comes p fuel v picks ws now (goes t) → Reached p (is_inner ws) (seen v) t

-- So in a written program no form sleeps in a body that is run next.
abbrev pub BareHere : Type 0
BareHere = (p : Program) → WrittenProgram p
    → (fuel : ℕ) (v : Levels) (picks : List Pick) (ws : List Held) (clock fresh : ℕ) (place : Place)
    (a : Term) → IsCourse p fuel v picks ws clock fresh place a
    → ((body next : Term) → Acts p a (enters body next) → Bare body)
    × ((m : Mode) (body : Term) → Form a m body → Bare body)
