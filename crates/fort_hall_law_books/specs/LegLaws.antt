-- The chapter "Books" of docs/THREADS.md: what legs are, on other stores, in a whole term, behind
-- one another, and to a run.
use Rattle.std.specs.Prelude.{◌≡◌, ◌≢◌, Bool, true, false, List, [], ◌++◌, map}
use Rattle.fort_core.specs.declared.pick.Pick.{Pick}
use Rattle.fort_core.specs.declared.program.Program.{Program}
use Rattle.fort_core.specs.declared.term.Term.{Term}
use Rattle.fort_machine.specs.Attempts.{Sleeps, Ended, goes}
use Rattle.fort_machine.specs.Effects.{Store, Effect, both, FitsAll, afterwards}
use Rattle.fort_machine.specs.Ends.{has_stepped}
use Rattle.fort_machine.specs.Frames.{Frame, plug, road, passed, trodden}
use Rattle.fort_machine.specs.Proper.{Reached}
use Rattle.fort_machine.specs.Runs.{Runs}
use Rattle.fort_machine.specs.Threads.{under, ended_in, round_after}
use Rattle.fort_walk_law_course.specs.Picks.{MayBeTried}
use Rattle.fort_walk_legs.specs.Legs.{IsLeg}
use Rattle.fort_hall_law_books.specs.Taken.{IsStepped, IsTried}
use Rattle.fort_hall_law_books.specs.Legs.{Legs}

-- Steps on one store are steps on each store that suits what they do.
abbrev pub SteppedIsFramed : Type 0
SteppedIsFramed = (p : Program) (inner : Bool) (s s' : Store) (t : Term) (picks : List Pick)
    (r : Ended) (d : Effect)
    → IsStepped p inner s t picks r d → FitsAll d s' → IsStepped p inner s' t picks r d

-- An attempt on one store is one on each store that suits what it does.
abbrev pub TriedIsFramed : Type 0
TriedIsFramed = (p : Program) (s s' : Store) (t form u : Term) (picks : List Pick) (d : Effect)
    → IsTried p s t form picks u d → FitsAll d s' → IsTried p s' t form picks u d

-- Steps of a part are steps of the whole term, with the part's path before each step's own, where
-- the part isn't passed over; the mark is none of the part's term.
abbrev pub SteppedLifts : Type 0
SteppedLifts = (p : Program) (inner : Bool) (fs : List Frame) (s : Store) (t : Term)
    (picks : List Pick) (r : Ended) (d : Effect)
    → passed fs t ≡ false → has_stepped t ≡ false → IsStepped p inner s t picks r d
    → IsStepped p inner s (plug fs t) (map (under (road fs)) picks)
    (ended_in (round_after picks fs) r) d

-- So is an attempt.
abbrev pub TriedLifts : Type 0
TriedLifts = (p : Program) (fs : List Frame) (s : Store) (t form u : Term) (picks : List Pick)
    (d : Effect)
    → passed fs t ≡ false → has_stepped t ≡ false → IsTried p s t form picks u d
    → IsTried p s (plug fs t) form (map (under (road fs)) picks) (plug (trodden fs) u) d

-- Where the form doesn't sleep, or nobody in the term is awake, an attempt is a run.
abbrev pub TriedRuns : Type 0
TriedRuns = (p : Program) (inner : Bool) (s : Store) (t form u : Term) (picks : List Pick)
    (d : Effect)
    → IsTried p s t form picks u d → MayBeTried s t form → Runs p inner true s picks t (goes u) d

-- Legs are a run.
abbrev pub LegsRun : Type 0
LegsRun = (p : Program) (inner : Bool) (s : Store) (t u : Term) (picks : List Pick) (d : Effect)
    → Legs p inner s t picks u d → Runs p inner true s picks t (goes u) d

-- Legs behind legs are legs.
abbrev pub LegsAppend : Type 0
LegsAppend = (p : Program) (inner : Bool) (s : Store) (t u v : Term) (picks more : List Pick)
    (d e : Effect)
    → Legs p inner s t picks u d → Legs p inner (afterwards d s) u more v e
    → Legs p inner s t (picks ++ more) v (both d e)

-- Legs of a part are legs of the whole term.
abbrev pub LegsLift : Type 0
LegsLift = (p : Program) (inner : Bool) (fs : List Frame) (s : Store) (t u : Term)
    (picks : List Pick) (d : Effect)
    → passed fs t ≡ false → has_stepped t ≡ false → Legs p inner s t picks u d
    → Legs p inner s (plug fs t) (map (under (road fs)) picks) (plug (round_after picks fs) u) d

-- Steps of a part of the term to which legs lead, taken on whatever store, go on from there where
-- the store to which the legs lead suits what they do.
abbrev pub LegsTakeSteps : Type 0
LegsTakeSteps = (p : Program) (inner : Bool) (s s' : Store) (first t u : Term) (fs : List Frame)
    (picks more : List Pick) (d e : Effect)
    → Legs p inner s first picks (plug fs t) d → passed fs t ≡ false → has_stepped t ≡ false
    → more ≢ [] → IsStepped p inner s' t more (goes u) e → FitsAll e (afterwards d s)
    → Legs p inner s first (picks ++ map (under (road fs)) more) (plug (trodden fs) u) (both d e)

-- So does an attempt, where its form doesn't sleep on that store either.
abbrev pub LegsTakeAttempt : Type 0
LegsTakeAttempt = (p : Program) (inner : Bool) (s s' : Store) (first t form u : Term)
    (fs : List Frame) (picks more : List Pick) (d e : Effect)
    → Legs p inner s first picks (plug fs t) d → passed fs t ≡ false → has_stepped t ≡ false
    → IsTried p s' t form more u e → FitsAll e (afterwards d s)
    → (Sleeps (afterwards d s) form → ⊥)
    → Legs p inner s first (picks ++ map (under (road fs)) more) (plug (trodden fs) u) (both d e)

-- Legs lead from where machines of the program come to such a place.
abbrev pub LegsReach : Type 0
LegsReach = (p : Program) (inner : Bool) (s : Store) (t u : Term) (picks : List Pick) (d : Effect)
    → Reached p inner s t → Legs p inner s t picks u d → Reached p inner (afterwards d s) u

-- A leg of steps that has some is legs.
abbrev pub LegIsLegs : Type 0
LegIsLegs = (p : Program) (inner : Bool) (s : Store) (t u : Term) (picks : List Pick) (d : Effect)
    → picks ≢ [] → IsLeg p inner s t picks u d → Legs p inner s t picks u d
