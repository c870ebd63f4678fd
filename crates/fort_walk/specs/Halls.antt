-- Chapter "Legs": a hall of workers in a walk.
use Rattle.std.specs.Prelude.{◌≡◌, ℕ, ◌+◌, ◌++◌, ◌≤◌, false, [], length}
use Rattle.fort_core.specs.declared.program.Program.{Program}
use Rattle.fort_core.specs.declared.term.Term.{Term}
use Rattle.fort_machine.specs.Ends.{has_stepped}
use Rattle.fort_machine.specs.Journals.{MakesWithinBounds}
use Rattle.fort_frames.specs.States.{term_at}
use Rattle.fort_frames.specs.declared.state.At.{At}
use Rattle.fort_frames.specs.declared.state.At.TheVariants as at
use Rattle.fort_store_effects.specs.Levels.{effect_of, levels_of, seen}
use Rattle.fort_hall_law_books.specs.Books.{Origin}
use Rattle.fort_hall_law_books.specs.Legs.{Legs}
use Rattle.fort_hall_books.specs.declared.book.Closed.{Closed}
use Rattle.fort_hall_program.specs.States.{StandsIn}
use Rattle.fort_hall_legs.specs.Made.{form_origin}
use Rattle.fort_hall_legs.specs.declared.legs.HallForm.{HallForm}
use Rattle.fort_hall_legs.specs.declared.legs.HallLegs.{HallLegs}
use Rattle.fort_walk_law_course.specs.Course.{is_inner}
use Rattle.fort_walk_course.specs.Courses.{around}
use Rattle.fort_walk_course.specs.declared.course.Course.{Course}
use Rattle.fort_walk_turns.specs.Grows.{GrowsFrom}
use Rattle.fort_walk_turns.specs.Idles.{IsWalking}
use Rattle.fort_walk_turns.specs.declared.next.Walking.{Walking}
use Rattle.fort_walk.specs.declared.beside.Round.{Round}
use Rattle.fort_walk.specs.Written.{printed_by}

-- A walk goes on from a course, with the fuel that it had.
pub record GoesOn (p : Program) (old : Course) (r : Round) : Type 0 where
  pub walking : IsWalking p r.walking
  pub fuel : r.walking.going.course.fuel ≡ old.fuel
  pub grows : GrowsFrom old r.walking.going.course

-- A form that is to be gone into, and no mark.
abbrev pub IsUnmarked : At → Type 0
IsUnmarked a = (t : Term) × (a ≡ at.Form t) × (has_stepped t ≡ false)

-- No attempt is open, and it stands at such a form.
abbrev pub IsAtRoot : Walking → Type 0
IsAtRoot w = (w.going.course.outer ≡ []) × IsUnmarked w.going.state.«at»

-- Where the legs of a hall begin that takes on the form at which a walk stands.
abbrev pub origin_of : Walking → Origin
origin_of w =
    record {
      inner = false;
      store = seen (levels_of w.going.course.layers);
      first = term_at w.going.state.«at»;
    }

-- That form, for a hall, which may cost no more than what is left of the fuel.
pub record IsFormOf (p : Program) (w : Walking) (f : HallForm) : Type 0 where
  pub origin : form_origin f ≡ origin_of w
  pub stands : StandsIn p (form_origin f)
  pub alone : (levels_of f.view).attempts ≡ []
  pub root : w.going.course.outer ≡ []
  pub affords : w.going.course.spent + f.most ≤ w.going.course.fuel

-- Legs of the form at which the innermost machine stands, attempts among them, which the fuel
-- covers.
pub record AreNext (p : Program) (w : Walking) (x : Closed) : Type 0 where
  pub legs : Legs p (is_inner (around w.going.course)) (seen (levels_of w.going.course.layers))
      (term_at w.going.state.«at») x.picks x.term (effect_of x.done)
  pub bounded : MakesWithinBounds (effect_of x.done)
  pub affords : w.going.course.spent + (effect_of x.done).cost ≤ w.going.course.fuel

-- A walk has taken in what a hall made: what that printed stands behind what was printed before,
-- and so does what was written of it.
pub record HasTakenIn (p : Program) (w : Walking) (x : HallLegs) (after : Round) : Type 0 where
  pub goes_on : GoesOn p w.going.course after
  pub output : printed_by after.walking.going.course
      ≡ printed_by w.going.course ++ (effect_of x.closed.done).output
  pub failed : after.progress.failed ≡ x.progress.failed
  pub bytes : x.progress.failed ≡ false
      → after.progress.bytes ≡ length (printed_by w.going.course) + x.progress.bytes
