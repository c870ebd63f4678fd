-- Chapter "Atomic": an atomic form goes on by whole attempts of it, each one pick; and what the
-- attempts of a run leave, those within others too.
use Rattle.std.specs.Prelude.{◌≡◌, ℕ, Bool, true, List, [], ◌∷◌, ◌++◌, Some}
use Rattle.std.specs.List.{Contains}
use Rattle.fort_core.specs.declared.form.Mode.{Mode}
use Rattle.fort_core.specs.declared.pick.Pick.{Pick, Attempt, out-Pick}
use Rattle.fort_core.specs.declared.pick.Pick.TheOpen.{Pick-F}
use Rattle.fort_core.specs.declared.program.Program.{Program}
use Rattle.fort_core.specs.declared.term.Term.{Term}
use Rattle.fort_core.specs.declared.term.Term as term
use Rattle.fort_core.specs.declared.value.Value.{Value}
use Rattle.fort_machine.specs.Effects.{Store, Effect, afterwards}
use Rattle.fort_machine.specs.Frames.{Frame, plug, road}
use Rattle.fort_machine.specs.Attempts.{Form, Ended, Closes}
use Rattle.fort_machine.specs.Runs.{Runs, none, step, stop, attempt, path_to}

-- An attempt: the store that it found, its form's mode and body, its inner picks, how these ended
-- and what they did; then what the form became, and what the attempt did.
pub record OneAttempt (p : Program) : Type 0 where
  pub before : Store
  pub mode : Mode
  pub body : Term
  pub within : List Pick
  pub ended : Ended
  pub done : Effect
  pub becomes : Term
  pub effect : Effect
  pub runs : Runs p true true before within body ended done
  pub closes : Closes p mode body ended done becomes effect

-- The path of the thread that a pick takes on.
abbrev pub path_at : Pick-F Pick → List ℕ
path_at (Pick-F.Step q loc) = q.0
path_at (Pick-F.Attempt q within) = q.0

abbrev pub path_of : Pick → List ℕ
path_of pick = path_at (out-Pick pick)

-- A pick is one attempt of the form that stands at the end of frames, on a store.
pub record IsAttemptOf (p : Program) (s : Store) (pick : Pick) (fs : List Frame)
    (a : Term) : Type 0 where
  pub tried : OneAttempt p
  pub is_pick : pick ≡ Attempt (path_to fs) tried.within
  pub is_form : Form a tried.mode tried.body
  pub found : tried.before ≡ s

-- In each run of a program, the next pick, where it is at or below the path of an atomic form,
-- asleep or not, is one attempt of that very form at its path. A run may be parted before each of
-- its picks, so this is said of all of them.
abbrev pub GoesInWhole : Program → Type 0
GoesInWhole p = (inner strict : Bool) (s : Store) (pick : Pick) (rest : List Pick) (t : Term)
    (r : Ended) (d : Effect) → Runs p inner strict s (pick ∷ rest) t r d
    → (fs : List Frame) (a body : Term) (m : Mode) → t ≡ plug fs a → Form a m body
    → (more : List ℕ) → path_of pick ≡ road fs ++ more → IsAttemptOf p s pick fs a

-- So it is of every program.
abbrev pub GoesOnByAttempts : Type 0
GoesOnByAttempts = (p : Program) → GoesInWhole p

-- The attempts of a run, each before those within it.
abbrev pub attempts_of : {p : Program} {inner strict : Bool} {s : Store} {picks : List Pick}
    {t : Term} {r : Ended} {d : Effect} → Runs p inner strict s picks t r d → List (OneAttempt p)
attempts_of (none a b c) = []
attempts_of (step fs a b c e f rest g) = attempts_of rest
attempts_of (stop fs a b c e f g h) = []
attempts_of {s = s} (attempt {m = m} {within = within} {b = b} {body = body} {ended = ended}
    {d1 = d1} {d2 = d2} fs x y z form bare may inside closes rest e) =
    record {
      before = s;
      mode = m;
      body = body;
      within = within;
      ended = ended;
      done = d1;
      becomes = b;
      effect = d2;
      runs = inside;
      closes = closes;
    } ∷ (attempts_of inside ++ attempts_of rest)

-- An attempt came to no value: it failed or was aborted.
abbrev pub IsUndone : {p : Program} → OneAttempt p → Type 0
IsUndone x = (v : Value) → x.becomes ≡ term.Value v → ⊥

-- After an attempt each location that was there before it has the value that it had.
abbrev pub GivesAllBack : {p : Program} → OneAttempt p → Type 0
GivesAllBack x = (l : ℕ) (w : Value) → x.before l ≡ Some w → afterwards x.effect x.before l ≡ Some w

-- So it is after each attempt of a run that failed or was aborted.
abbrev pub GiveBack : {p : Program} {inner strict : Bool} {s : Store} {picks : List Pick} {t : Term}
    {r : Ended} {d : Effect} → Runs p inner strict s picks t r d → Type 0
GiveBack {p = p} run = (x : OneAttempt p) → Contains (attempts_of run) x → IsUndone x
    → GivesAllBack x

abbrev pub AttemptsGiveBack : Type 0
AttemptsGiveBack = (p : Program) (inner strict : Bool) (s : Store) (picks : List Pick) (t : Term)
    (r : Ended) (d : Effect) (run : Runs p inner strict s picks t r d) → GiveBack run
