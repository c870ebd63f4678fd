-- Chapter "Legs": what legs are to the run that takes them in.
use Rattle.std.specs.Prelude.{◌≡◌, ◌≢◌, ℕ, ◌<◌, ◌≤◌, Bool, false, List, [], ◌++◌, map}
use Rattle.fort_core.specs.declared.pick.Pick.{Pick}
use Rattle.fort_core.specs.declared.program.Program.{Program}
use Rattle.fort_core.specs.declared.term.Term.{Term}
use Rattle.fort_machine.specs.Effects.{Store, Effect, FitsAll, afterwards, both}
use Rattle.fort_machine.specs.Ends.{has_stepped}
use Rattle.fort_machine.specs.Frames.{Frame, plug, road, passed}
use Rattle.fort_machine.specs.Journals.{MakesWithinBounds}
use Rattle.fort_machine.specs.OneDefinition.{IsOne}
use Rattle.fort_machine.specs.Proper.{Reached}
use Rattle.fort_machine.specs.Threads.{under, round_after}
use Rattle.fort_frames.specs.declared.place.Place.{Place}
use Rattle.fort_store_effects.specs.Calls.{Adds}
use Rattle.fort_store_effects.specs.Levels.{Levels, seen, spent}
use Rattle.fort_walk_law_course.specs.Course.{Held, IsCourse, NothingFrom, is_inner}
use Rattle.fort_walk_legs.specs.Legs.{IsLeg, IsInReach}

-- A leg on one store is one on each store that suits what it does.
abbrev pub LegIsFramed : Type 0
LegIsFramed = (p : Program) (inner : Bool) (s s' : Store) (t u : Term) (picks : List Pick)
    (d : Effect)
    → IsLeg p inner s t picks u d → FitsAll d s' → IsLeg p inner s' t picks u d

-- A leg behind another one makes one leg of both.
abbrev pub LegsJoin : Type 0
LegsJoin = (p : Program) (inner : Bool) (s : Store) (t u v : Term) (picks more : List Pick)
    (d e : Effect)
    → IsLeg p inner s t picks u d → IsLeg p inner (afterwards d s) u more v e
    → IsLeg p inner s t (picks ++ more) v (both d e)

-- A leg of a part is one of the whole term, the part's path before each of its steps, where the
-- part isn't passed over; the mark is none of the part's term.
abbrev pub LegLifts : Type 0
LegLifts = (p : Program) (inner : Bool) (fs : List Frame) (s : Store) (t u : Term)
    (picks : List Pick) (d : Effect)
    → passed fs t ≡ false → has_stepped t ≡ false → IsLeg p inner s t picks u d
    → IsLeg p inner s (plug fs t) (map (under (road fs)) picks) (plug (round_after picks fs) u) d

-- A part of a term in reach is in reach.
abbrev pub PartIsInReach : Type 0
PartIsInReach = (p : Program) (inner : Bool) (fs : List Frame) (s : Store) (t : Term)
    → passed fs t ≡ false → has_stepped t ≡ false → IsInReach p inner s (plug fs t)
    → IsInReach p inner s t

-- A leg of the form at which a run stands is picks of its innermost machine. The clock rises.
abbrev pub LegKeeps : Type 0
LegKeeps = (p : Program) (fuel : ℕ) (v w : Levels) (picks more : List Pick) (ws : List Held)
    (clock later fresh fresher : ℕ) (place : Place) (a b : Term) (e : Effect)
    → IsCourse p fuel v picks ws clock fresh place a → has_stepped a ≡ false
    → IsLeg p (is_inner ws) (seen v) a more b e → more ≢ [] → Adds e v w
    → clock < later → spent w ≤ fuel → MakesWithinBounds e → NothingFrom fresher (seen w)
    → IsCourse p fuel w (picks ++ map (under place.path.0) more) ws later fresher place b

-- The form at which a run stands is in reach, where each call in the terms of runs has its one
-- definition.
abbrev pub CourseIsInReach : Type 0
CourseIsInReach = (p : Program) (fuel : ℕ) (v : Levels) (picks : List Pick) (ws : List Held)
    (clock fresh : ℕ) (place : Place) (a : Term)
    → ((inner : Bool) (s : Store) (t : Term) → Reached p inner s t → IsOne p t)
    → IsCourse p fuel v picks ws clock fresh place a → has_stepped a ≡ false
    → IsInReach p (is_inner ws) (seen v) a
