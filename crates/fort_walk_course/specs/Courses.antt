-- Chapter "Runs": how far a run has come, by what the code keeps of it: the machines that wait, the
-- root's first, and what all has cost beside the layers.
use Rattle.std.specs.Prelude.{◌≡◌, List, [], ◌∷◌}
use Rattle.fort_core.specs.declared.program.Program.{Program}
use Rattle.fort_core.specs.declared.term.Term.{Term}
use Rattle.fort_machine.specs.Attempts.{Ended}
use Rattle.fort_frames.specs.Frames.{frames}
use Rattle.fort_frames.specs.States.{term_at}
use Rattle.fort_frames.specs.declared.place.Place.{Place}
use Rattle.fort_frames.specs.declared.state.At.TheVariants as at
use Rattle.fort_frames.specs.declared.state.State.{State}
use Rattle.fort_store_effects.specs.Levels.{levels_of, seen, spent}
use Rattle.fort_walk_law_course.specs.Course.{Held, Comes, IsCourse, NothingFrom}
use Rattle.fort_walk_course.specs.declared.course.Course.{Course}
use Rattle.fort_walk_course.specs.declared.course.Going.{Going}
use Rattle.fort_walk_course.specs.declared.course.Waiting.{Waiting}

-- A machine that waits for the end of an attempt.
abbrev pub held : Waiting → Held
held w =
    record {
      place = w.place;
      form = w.form;
      mode = w.mode;
      body = w.body;
      clock = w.clock;
      fresh = w.fresh;
      picks = w.picks;
    }

-- Machines that wait, the innermost one first, before others.
abbrev pub inwards : List Waiting → List Held → List Held
inwards [] hs = hs
inwards (w ∷ ws) hs = inwards ws (held w ∷ hs)

-- The machines round the innermost one.
abbrev pub around : Course → List Held
around c = inwards c.outer []

-- A run has come to this: its innermost machine's picks are a run to this end or term; no location
-- is there from a number on; and what all has cost is known.
pub record HasCome (p : Program) (c : Course) (r : Ended) : Type 0 where
  pub comes : Comes p c.fuel (levels_of c.layers) c.picks (around c) c.clock r
  pub nothing : NothingFrom c.fresh (seen (levels_of c.layers))
  pub is_spent : c.spent ≡ spent (levels_of c.layers)

-- Its innermost machine's term is a form at a place, which may go on.
pub record StandsAt (p : Program) (c : Course) (place : Place) (a : Term) : Type 0 where
  pub course : IsCourse p c.fuel (levels_of c.layers) c.picks (around c) c.clock c.fresh place a
  pub is_spent : c.spent ≡ spent (levels_of c.layers)

-- So it is where its state stands.
abbrev pub IsGoing : Program → Going → Type 0
IsGoing p g = StandsAt p g.course g.state.place (term_at g.state.«at»)

-- A state stands at its whole term, which is to be gone into.
abbrev pub IsWhole : State → Type 0
IsWhole s = (frames s.place.stack ≡ []) × (t : Term) × (s.«at» ≡ at.Form t)
