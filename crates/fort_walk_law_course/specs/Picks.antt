-- Chapter "Runs": picks at a state's place, as those of the run so far. The run keeps the rule on
-- sleeping forms, as the root's and every attempt's does.
use Rattle.std.specs.Prelude.{◌≡◌, ℕ, ◌<◌, Bool, true, false, List, [], ◌∷◌, ◌++◌, ◌⊎◌}
use Rattle.fort_core.specs.declared.form.Mode.{Mode}
use Rattle.fort_core.specs.declared.pick.Pick.{Pick, Step, Attempt}
use Rattle.fort_core.specs.declared.program.Program.{Program}
use Rattle.fort_core.specs.declared.term.Term.{Term}
use Rattle.fort_machine.specs.Effects.{Store, Effect, FitsAll, afterwards, both, paid, aborting}
use Rattle.fort_machine.specs.Frames.{Frame}
use Rattle.fort_machine.specs.Acts.{ends}
use Rattle.fort_machine.specs.Steps.{Acts, Local}
use Rattle.fort_machine.specs.Marked.{Bare}
use Rattle.fort_machine.specs.Attempts.{Form, Sleeps, Awake, MayTry, Ended, goes, aborts, Closes}
use Rattle.fort_machine.specs.Runs.{Runs, Begun, location}
use Rattle.fort_frames.specs.Frames.{frames, rebuilt, Reaches}
use Rattle.fort_frames.specs.declared.place.Place.{Place}

-- A run so far has come to a term, which is a form at a state's place; the form may go on.
pub record Stage (p : Program) (inner : Bool) (s : Store) (picks : List Pick) (first : Term)
    (d : Effect) (clock : ℕ) (place : Place) (a : Term) : Type 0 where
  pub runs : Runs p inner true s picks first (goes (rebuilt clock (frames place.stack) a)) d
  pub reached : Reaches clock (frames place.stack) a

-- No thread of a term is awake.
abbrev pub NoneAwake : Store → Term → Type 0
NoneAwake s t = (path : List ℕ) → Awake s t path → ⊥

-- A form doesn't sleep, or no thread of its machine's term is awake.
abbrev pub MayBeTried : Store → Term → Term → Type 0
MayBeTried s t a = (Sleeps s a → ⊥) ⊎ NoneAwake s t

-- A step of the form is a pick; after it the form has become another one, and the clock has risen.
abbrev pub StepIsPick : Type 0
StepIsPick = (p : Program) (inner : Bool) (s : Store) (picks : List Pick) (first : Term)
    (d e : Effect) (clock later loc : ℕ) (place : Place) (a b : Term)
    → Stage p inner s picks first d clock place a → clock < later → Local p inner loc a b e
    → FitsAll e (afterwards d s)
    → Stage p inner s (picks ++ Step place.path (location loc) ∷ []) first (both d e) later place b

-- A whole attempt of an atomic form is a pick.
abbrev pub AttemptIsPick : Type 0
AttemptIsPick = (p : Program) (inner : Bool) (m : Mode) (s : Store) (picks within : List Pick)
    (first body : Term) (r : Ended) (d d1 e : Effect) (clock later : ℕ) (place : Place) (a b : Term)
    → Stage p inner s picks first d clock place a → clock < later → Form a m body → Bare body
    → MayBeTried (afterwards d s) (rebuilt clock (frames place.stack) a) a
    → Runs p true true (afterwards d s) within body r d1 → Closes p m body r d1 b e
    → Stage p inner s (picks ++ Attempt place.path within ∷ []) first (both d e) later place b

-- A step of `abort()` ends an attempt's machine.
abbrev pub InnerAbortEnds : Type 0
InnerAbortEnds = (p : Program) (s : Store) (picks : List Pick) (first : Term) (d : Effect)
    (clock : ℕ) (place : Place) (a : Term)
    → Stage p true s picks first d clock place a → Acts p a ends
    → Runs p true true s (picks ++ Step place.path (location 0) ∷ []) first aborts (both d (paid 1))

-- A step that may be taken is legal by itself.
abbrev pub StepIsNext : Type 0
StepIsNext = (p : Program) (inner : Bool) (s : Store) (e : Effect) (clock later loc : ℕ)
    (place : Place) (a b : Term)
    → Reaches clock (frames place.stack) a → clock < later → Local p inner loc a b e → FitsAll e s
    → Runs p inner true s (Step place.path (location loc) ∷ [])
    (rebuilt clock (frames place.stack) a) (goes (rebuilt later (frames place.stack) b)) e

-- An attempt is begun by inner picks that are legal so far.
abbrev pub AttemptIsBegun : Type 0
AttemptIsBegun = (p : Program) (m : Mode) (s : Store) (within : List Pick) (body : Term) (r : Ended)
    (d : Effect) (clock : ℕ) (place : Place) (a : Term)
    → Reaches clock (frames place.stack) a → Form a m body → Bare body
    → MayBeTried s (rebuilt clock (frames place.stack) a) a → Runs p true true s within body r d
    → Begun p true s (Attempt place.path within) (rebuilt clock (frames place.stack) a) (aborting d)

-- So it is by inner picks and an attempt that is begun behind them.
abbrev pub BegunWithin : Type 0
BegunWithin = (p : Program) (m : Mode) (s : Store) (within : List Pick) (last : Pick)
    (body u : Term) (d e : Effect) (clock : ℕ) (place : Place) (a : Term)
    → Reaches clock (frames place.stack) a → Form a m body → Bare body
    → MayBeTried s (rebuilt clock (frames place.stack) a) a
    → Runs p true true s within body (goes u) d → Begun p true (afterwards d s) last u e
    → Begun p true s (Attempt place.path (within ++ last ∷ []))
    (rebuilt clock (frames place.stack) a) (aborting (both d e))

-- Where no thread is awake each form may be tried.
abbrev pub NobodyAwake : Type 0
NobodyAwake = (s : Store) (t : Term) (fs : List Frame) (a : Term) → MayBeTried s t a
    → MayTry true s t fs a
