-- The chapter "Books" of docs/THREADS.md: what legs of the form at which a run stands are to the
-- run, and that the part of a task is in reach.
use Rattle.std.specs.Prelude.{◌≡◌, ◌≢◌, ℕ, ◌<◌, ◌≤◌, Bool, false, List, [], ◌++◌, map}
use Rattle.fort_core.specs.declared.pick.Pick.{Pick}
use Rattle.fort_core.specs.declared.program.Program.{Program}
use Rattle.fort_core.specs.declared.term.Term.{Term}
use Rattle.fort_machine.specs.Attempts.{goes}
use Rattle.fort_machine.specs.Effects.{Store, Effect, afterwards}
use Rattle.fort_machine.specs.Ends.{has_stepped}
use Rattle.fort_machine.specs.Frames.{Frame, plug, passed}
use Rattle.fort_machine.specs.Journals.{MakesWithinBounds}
use Rattle.fort_machine.specs.OneDefinition.{IsOne}
use Rattle.fort_machine.specs.Proper.{Reached}
use Rattle.fort_machine.specs.Threads.{under, round_after}
use Rattle.fort_frames.specs.declared.place.Place.{Place}
use Rattle.fort_store_effects.specs.Calls.{Adds}
use Rattle.fort_store_effects.specs.Levels.{Levels, seen, spent}
use Rattle.fort_walk_law_course.specs.Course.{Held, IsCourse, NothingFrom, is_inner}
use Rattle.fort_walk_legs.specs.Legs.{IsInReach}
use Rattle.fort_hall_law_books.specs.Taken.{IsStepped}
use Rattle.fort_hall_law_books.specs.Legs.{Legs}

-- Legs of the form at which a run stands, attempts among them, are picks of its innermost machine.
-- The clock rises.
abbrev pub LegsKeep : Type 0
LegsKeep = (p : Program) (fuel : ℕ) (v w : Levels) (picks more : List Pick) (ws : List Held)
    (clock later fresh fresher : ℕ) (place : Place) (a b : Term) (e : Effect)
    → IsCourse p fuel v picks ws clock fresh place a → has_stepped a ≡ false
    → Legs p (is_inner ws) (seen v) a more b e → more ≢ [] → Adds e v w
    → clock < later → spent w ≤ fuel → MakesWithinBounds e → NothingFrom fresher (seen w)
    → IsCourse p fuel w (picks ++ map (under place.path.0) more) ws later fresher place b

-- Steps of a part of a term to which machines of the program come lead to such a term.
abbrev pub TaskIsInReach : Type 0
TaskIsInReach = (p : Program) (inner : Bool) (s : Store) (fs : List Frame) (t u : Term)
    (picks : List Pick) (d : Effect)
    → Reached p inner s (plug fs t) → passed fs t ≡ false → has_stepped t ≡ false
    → IsStepped p inner s t picks (goes u) d
    → Reached p inner (afterwards d s) (plug (round_after picks fs) u)

-- A part of the term to which legs lead from a part of such a term is in reach: that is asked of a
-- task of which a leg is taken. Each call in the terms of runs has its one definition.
abbrev pub TaskMayGo : Type 0
TaskMayGo = (p : Program) (inner : Bool) (s : Store) (first t : Term) (picks : List Pick)
    (d : Effect) (around fs : List Frame)
    → ((i : Bool) (s' : Store) (t' : Term) → Reached p i s' t' → IsOne p t')
    → Reached p inner s (plug around first) → passed around first ≡ false
    → has_stepped first ≡ false → Legs p inner s first picks (plug fs t) d
    → passed fs t ≡ false → has_stepped t ≡ false → IsInReach p inner (afterwards d s) t
