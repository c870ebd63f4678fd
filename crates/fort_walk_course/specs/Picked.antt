-- Chapter "Runs": the picks of a run, and the machines that wait in it, after a pick more. Who
-- replays a journal must know them; who walks a program need not.
use Rattle.std.specs.Prelude.{◌≡◌, ℕ, List, [], ◌∷◌, ◌++◌}
use Rattle.fort_core.specs.declared.pick.Pick.{Pick, Step, Attempt}
use Rattle.fort_machine.specs.Runs.{location}
use Rattle.fort_frames.specs.declared.place.Place.{Place}
use Rattle.fort_walk_course.specs.declared.course.Course.{Course}
use Rattle.fort_walk_course.specs.declared.course.Waiting.{Waiting}

-- A step at a place is one pick more of the innermost machine.
pub record PicksStep (old : Course) (place : Place) (loc : ℕ) (new : Course) : Type 0 where
  pub picks : new.picks ≡ old.picks ++ Step place.path (location loc) ∷ []
  pub outer : new.outer ≡ old.outer

-- An attempt's machine is the innermost one, and has picked nothing; the one round it waits at a
-- place.
pub record PicksNothing (old : Course) (place : Place) (new : Course) : Type 0 where
  pub picks : new.picks ≡ []
  pub waiting : Waiting
  pub outer : new.outer ≡ old.outer ++ waiting ∷ []
  pub is_place : waiting.place ≡ place
  pub before : waiting.picks ≡ old.picks

-- The innermost machine ended with these picks, and they are an attempt, which is one pick more of
-- the machine that waited.
pub record PicksAttempt (old : Course) (within : List Pick) (new : Course) : Type 0 where
  pub waiting : Waiting
  pub outer : old.outer ≡ new.outer ++ waiting ∷ []
  pub picks : new.picks ≡ waiting.picks ++ Attempt waiting.place.path within ∷ []

-- The picks of the first of machines that wait, the root's first, or these where none does.
abbrev pub picks_from : List Waiting → List Pick → List Pick
picks_from [] picks = picks
picks_from (w ∷ ws) picks = w.picks

-- The picks of the root's machine, whichever attempts are open in it.
abbrev pub root_picks : Course → List Pick
root_picks c = picks_from c.outer c.picks

-- Nothing was picked, and no machine waits.
pub record PicksNone (c : Course) : Type 0 where
  pub picks : c.picks ≡ []
  pub outer : c.outer ≡ []
