-- Chapter "Terms and threads": the thread of a path. The code goes from a thread to another one by
-- the first part in which their paths differ.
use Rattle.std.specs.Prelude.{◌≡◌, ℕ, ◌<◌, ◌≤◌, Bool, true, false, List, length, take}
use Rattle.fort_core.specs.declared.path.Path.{Path}
use Rattle.fort_core.specs.declared.term.Term.{Term, Stepped}
use Rattle.fort_core.specs.declared.term.Term as term
use Rattle.fort_machine.specs.Effects.{Store}
use Rattle.fort_machine.specs.Ends.{Finished, open_yet, standing, throw_of}
use Rattle.fort_machine.specs.Frames.{Frame, plug, passed}
use Rattle.fort_machine.specs.Attempts.{Ready, Awake}
use Rattle.fort_machine.specs.Runs.{path_to}
use Rattle.fort_machine_law_marks.specs.Marks.{LeavesPart}
use Rattle.fort_frames.specs.Frames.{frames, rebuilt, Reaches}
use Rattle.fort_frames.specs.Heads.{form_of, suits}
use Rattle.fort_frames.specs.States.{term_at, Stands}
use Rattle.fort_frames.specs.declared.place.Place.{Place}
use Rattle.fort_frames.specs.declared.state.At.{At}
use Rattle.fort_frames.specs.declared.state.At.TheVariants as at
use Rattle.fort_frames.specs.declared.state.State.{State}
use Rattle.fort_frames_moves.specs.Turns.{IsStep, IsTry}
use Rattle.fort_walk_law_course.specs.Picks.{NoneAwake}
use Rattle.fort_plain.specs.declared.find.Found.{Found}
use Rattle.fort_plain.specs.declared.find.Found.TheVariants as found
use Rattle.fort_plain.specs.declared.find.Seek.{Seek}
use Rattle.fort_plain.specs.declared.find.Seek.TheVariants as seek
use Rattle.fort_plain.specs.declared.aside.Out.{Out}
use Rattle.fort_plain.specs.declared.aside.Out.TheVariants as out
use Rattle.fort_plain.specs.declared.settled.Settled.{Settled}
use Rattle.fort_plain.specs.declared.settled.Settled.TheVariants as settled

-- The term that a state stands for.
abbrev pub whole : ℕ → State → Term
whole clock s = rebuilt clock (frames s.place.stack) (term_at s.«at»)

-- In a term a mark stands round an open part of a parallel form, and nowhere else.
pub record MarksStandIn (t : Term) : Type 0 where
  pub stand : (fs : List Frame) (a : Term) → t ≡ plug fs (Stepped a)
      → LeavesPart fs × (standing a ≡ open_yet)

-- No thread of a term that may go on has a path.
pub record NoThread (t : Term) (path : Path) : Type 0 where
  pub none : (fs : List Frame) (a : Term) → t ≡ plug fs a → passed fs a ≡ false → Ready a
      → path_to fs ≡ path → ⊥

-- What has a path: a thread's form, an atomic form, or no thread.
abbrev pub IsFound : ℕ → Term → Path → Found → Type 0
IsFound clock t path (found.Steps place r) = IsStep clock t place r × (place.path ≡ path)
IsFound clock t path (found.Tries place a) = IsTry clock t place a × (place.path ≡ path)
IsFound clock t path found.Nothing = NoThread t path

-- On the way there: at another place of the same term, or there.
abbrev pub IsSought : ℕ → Term → Path → Seek → Type 0
IsSought clock t path (seek.Moves s) = Stands clock t s
IsSought clock t path (seek.Stops f) = IsFound clock t path f

-- At an open part of a term, inside more than so many numbers, the first of which are those of a
-- path.
pub record IsInside (clock : ℕ) (t : Term) (keep : ℕ) (path : Path) (place : Place)
    (part : Term) : Type 0 where
  pub is_term : rebuilt clock (frames place.stack) part ≡ t
  pub reached : Reaches clock (frames place.stack) part
  pub is_open : standing part ≡ open_yet
  pub deeper : keep < length place.path.0
  pub same_first : take keep place.path.0 ≡ take keep path.0

-- At a parallel form of a term, one part of which is open.
pub record IsBeside (clock : ℕ) (t : Term) (keep : ℕ) (path : Path) (place : Place)
    (form : Term) : Type 0 where
  pub is_term : rebuilt clock (frames place.stack) form ≡ t
  pub reached : Reaches clock (frames place.stack) form
  pub is_open : standing form ≡ open_yet
  pub not_above : keep ≤ length place.path.0
  pub same_first : take keep place.path.0 ≡ take keep path.0

-- Out of one frame: at a form that goes from left to right, whose path is the same; or at a
-- parallel form, by its parts.
abbrev pub IsOut : ℕ → Term → ℕ → Path → Out → Type 0
IsOut clock t keep path (out.Form place part) = IsInside clock t keep path place part
IsOut clock t keep path (out.Node place head parts) = suits head parts ≡ true
    × IsBeside clock t keep path place (form_of head parts)

-- Where one is then.
abbrev pub place_out : Out → Place
place_out (out.Form place part) = place
place_out (out.Node place head parts) = place

-- At an open part of a term.
pub record IsOpenAt (clock : ℕ) (t : Term) (place : Place) (part : Term) : Type 0 where
  pub is_term : rebuilt clock (frames place.stack) part ≡ t
  pub reached : Reaches clock (frames place.stack) part
  pub is_open : standing part ≡ open_yet

-- Out of one frame, whatever the paths: at an open form of the same term.
abbrev pub IsOutOf : ℕ → Term → Out → Type 0
IsOutOf clock t (out.Form place part) = IsOpenAt clock t place part
IsOutOf clock t (out.Node place head parts) = suits head parts ≡ true
    × IsOpenAt clock t place (form_of head parts)

-- A term is settled: a value, a throw, or not finished.
abbrev pub IsSettled : Term → Settled → Type 0
IsSettled t (settled.Value v) = t ≡ term.Value v
IsSettled t (settled.Throw v) = t ≡ throw_of v
IsSettled t settled.Open = Finished t → ⊥

-- Whether all threads of a term sleep, or one is awake.
abbrev pub AllSleep : Store → Term → Bool → Type 0
AllSleep s t true = NoneAwake s t
AllSleep s t false = (path : List ℕ) × Awake s t path

-- Nothing stands there to be gone into.
abbrev pub IsNoForm : At → Type 0
IsNoForm (at.Form t) = ⊥
IsNoForm a = Unit {0}
