-- Chapter "Legs": legs as picks of a run.
use Rattle.std.specs.Prelude.{◌≡◌, ◌≢◌, ℕ, ◌+◌, ◌<◌, ◌≤◌, false, List, [], ◌++◌, map, Option}
use Rattle.fort_core.specs.declared.pick.Pick.{Pick}
use Rattle.fort_core.specs.declared.program.Program.{Program}
use Rattle.fort_core.specs.declared.term.Term.{Term}
use Rattle.fort_core.specs.declared.value.Value.{Value}
use Rattle.fort_machine.specs.Cells.{made}
use Rattle.fort_machine.specs.Effects.{Effect}
use Rattle.fort_machine.specs.Ends.{has_stepped}
use Rattle.fort_machine.specs.Journals.{MakesWithinBounds}
use Rattle.fort_machine.specs.Threads.{under}
use Rattle.fort_frames.specs.declared.place.Place.{Place}
use Rattle.fort_store_effects.specs.Calls.{Adds}
use Rattle.fort_store_effects.specs.Levels.{levels_of, seen}
use Rattle.fort_walk_law_course.specs.Course.{is_inner}
use Rattle.fort_hall_law_books.specs.Legs.{Legs}
use Rattle.fort_walk_course.specs.declared.course.Course.{Course}
use Rattle.fort_walk_course.specs.Courses.{StandsAt, around}

-- The form at a place has become another one by legs, attempts among them, which were taken over the
-- layers as they are.
pub record MayTakeIn (p : Program) (c : Course) (place : Place) (b : Term) (e : Effect)
    (picks : List Pick) : Type 0 where
  pub form : Term
  pub stands : StandsAt p c place form
  pub unmarked : has_stepped form ≡ false
  pub legs : Legs p (is_inner (around c)) (seen (levels_of c.layers)) form picks b e
  pub some : picks ≢ []
  pub bounded : MakesWithinBounds e

-- All locations that were made have numbers below this one.
abbrev pub MakesBelow : ℕ → Effect → Type 0
MakesBelow n e = (l : ℕ) (v : Option Value) → e.cells l ≡ made v → l < n

-- Legs of the form at a place were taken in. They made no location from a number on.
pub record TakesIn (old : Course) (place : Place) (e : Effect) (more : List Pick)
    (new : Course) : Type 0 where
  pub layers : Adds e (levels_of old.layers) (levels_of new.layers)
  pub picks : new.picks ≡ old.picks ++ map (under place.path.0) more
  pub outer : new.outer ≡ old.outer
  pub clock : old.clock < new.clock
  pub spent : new.spent ≡ old.spent + e.cost
  pub fuel : new.fuel ≡ old.fuel
  pub bound : ℕ
  pub fresher : (old.fresh ≤ new.fresh) × (bound ≤ new.fresh)
  pub below : MakesBelow bound e

-- Several steps at a place are picks more of the innermost machine.
pub record PicksMore (old : Course) (place : Place) (more : List Pick) (new : Course) : Type 0 where
  pub picks : new.picks ≡ old.picks ++ map (under place.path.0) more
  pub outer : new.outer ≡ old.outer
