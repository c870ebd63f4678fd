-- Chapter "Atomic": which threads stand to the left of a place. A sleeping form is tried only where
-- no other thread is awake, so whoever goes from thread to thread must miss none. The code goes
-- from left to right.
use Rattle.std.specs.Prelude.{◌≡◌, ℕ, ◌<◌, false, List, [], ◌∷◌, slice_get, Some, ◌⊎◌}
use Rattle.fort_core.specs.declared.term.Term.{Term}
use Rattle.fort_machine.specs.Ends.{Finished, open_yet, standing, is_thrown}
use Rattle.fort_machine.specs.Frames.{plug, passed}
use Rattle.fort_machine.specs.Frames as machine
use Rattle.fort_machine.specs.Parts.{IsOneOf}
use Rattle.fort_machine.specs.Attempts.{Ready}
use Rattle.fort_frames.specs.Frames.{frames}
use Rattle.fort_frames.specs.declared.frame.Frame.{Frame}
use Rattle.fort_frames.specs.declared.frame.Frame.TheVariants as frame
use Rattle.fort_frames.specs.declared.state.At.{At}
use Rattle.fort_frames.specs.declared.state.At.TheVariants as at
use Rattle.fort_frames.specs.declared.place.Place.{Place}
use Rattle.fort_frames.specs.declared.state.State.{State}
use Rattle.fort_frames_moves.specs.Turns.{IsOver}
use Rattle.fort_frames_moves.specs.declared.turn.Stop.{Stop}
use Rattle.fort_frames_moves.specs.declared.turn.Stop.TheVariants as stop
use Rattle.fort_frames_moves.specs.declared.turn.Turn.{Turn}
use Rattle.fort_frames_moves.specs.declared.turn.Turn.TheVariants as turn

-- Each thread of a term that isn't passed over is one of these.
pub record AllMet (met : List Term) (t : Term) : Type 0 where
  pub all : (fs : List machine.Frame) (a : Term) → t ≡ plug fs a → passed fs a ≡ false → Ready a
      → IsOneOf a met

-- A part is finished or passed over, or has no threads but these.
abbrev pub IsMet : List Term → List Term → ℕ → Type 0
IsMet met ts i = IsOver ts i ⊎ ((t : Term) → slice_get ts i ≡ Some t → AllMet met t)

-- So are as many parts, from the first on.
pub record AreMet (met ts : List Term) (count : ℕ) : Type 0 where
  pub each : (i : ℕ) → i < count → IsMet met ts i

-- The parts to the left of the one that is gone into have no threads but these; and that one is no
-- throw.
abbrev pub SweptAt : List Term → Frame → Type 0
SweptAt met (frame.Node n) = AreMet met n.parts n.«at»
    × ((t : Term) → slice_get n.parts n.«at» ≡ Some t → is_thrown t ≡ false)
SweptAt met f = Unit {0}

-- The threads to the left of a place are among these.
abbrev pub Swept : List Term → List Frame → Type 0
Swept met [] = Unit {0}
Swept met (f ∷ fs) = SweptAt met f × Swept met fs

-- What is left at a place is open, and has no threads but these.
pub record IsLeft (met : List Term) (t : Term) : Type 0 where
  pub is_open : standing t ≡ open_yet
  pub all_met : AllMet met t

abbrev pub IsLeftAt : List Term → At → Type 0
IsLeftAt met (at.Left t) = IsLeft met t
IsLeftAt met a = Unit {0}

-- The threads to the left of where a state stands are among these, with what is left there.
pub record SweptTo (met : List Term) (s : State) : Type 0 where
  pub swept : Swept met (frames s.place.stack)
  pub is_left : IsLeftAt met s.«at»

-- So are those to the left of where moves lead.
abbrev pub SweptStop : List Term → Stop → Type 0
SweptStop met (stop.Steps place r) = Swept met (frames place.stack)
SweptStop met (stop.Groups place parts) = Swept met (frames place.stack)
SweptStop met (stop.Tries place part) = Swept met (frames place.stack)
SweptStop met (stop.Odd place part) = Swept met (frames place.stack)
SweptStop met (stop.Ends a) = IsLeftAt met a

abbrev pub SweptTurn : List Term → Turn → Type 0
SweptTurn met (turn.Moves s) = SweptTo met s
SweptTurn met (turn.Stops s) = SweptStop met s

-- A move misses no thread: whatever the threads to the left were among, they still are.
pub record Keeps (before : List Term → Type 0) (t : Turn) : Type 0 where
  pub keeps : (met : List Term) → before met → SweptTurn met t

-- Several moves miss none.
pub record MissesNone (s : State) (t : Stop) : Type 0 where
  pub keeps : (met : List Term) → SweptTo met s → SweptStop met t
