-- Chapter "Runs": a pick of the root's machine that is being replayed, with the attempts that are
-- open in it. The code keeps a stack of picks.
use Rattle.std.specs.Prelude.{◌≡◌, ◌≢◌, ℕ, Bool, true, false, ◌+◌, ◌*◌, ◌<◌, ◌&&◌, List, [], ◌∷◌, ◌++◌, length, drop, Option}
use Rattle.fort_core.specs.declared.path.Path.{Path}
use Rattle.fort_core.specs.declared.pick.Pick.{Pick, Attempt}
use Rattle.fort_core.specs.declared.program.Program.{Program}
use Rattle.fort_core.specs.Nodes.{all_nodes}
use Rattle.fort_core.specs.declared.term.Term.{Term}
use Rattle.fort_machine.specs.Effects.{Effect}
use Rattle.fort_machine.specs.Attempts.{goes}
use Rattle.fort_machine.specs.Runs.{Runs}
use Rattle.fort_machine.specs.Journals.{MakesWithinBounds, opening_store}
use Rattle.fort_store_effects.specs.Levels.{levels_of}
use Rattle.fort_walk_law_course.specs.Course.{Held}
use Rattle.fort_walk_course.specs.Courses.{IsGoing, around}
use Rattle.fort_walk_course.specs.declared.course.Course.{Course}
use Rattle.fort_walk_course.specs.declared.course.Going.{Going}
use Rattle.fort_plain.specs.Legal.{AreLegal, NoRun}
use Rattle.fort_plain.specs.Takes.{IsCost}
use Rattle.fort_plain.specs.declared.take.Source.{Source}
use Rattle.fort_plain.specs.declared.take.Within.{Within}
use Rattle.fort_plain.specs.declared.take.Taken.{Taken}
use Rattle.fort_plain.specs.declared.take.Taken.TheVariants as taken
use Rattle.fort_plain.specs.declared.take.Next.{Next}
use Rattle.fort_plain.specs.declared.take.Next.TheVariants as next

-- The innermost source first.
abbrev pub inmost : List Source → List Source → List Source
inmost [] ss = ss
inmost (o ∷ os) ss = inmost os (o ∷ ss)

-- Nothing comes behind.
abbrev pub is_none : List Pick → Bool
is_none [] = true
is_none (pick ∷ picks) = false

-- Picks of a machine are those that it took, the attempt for whose end it waits, and others; where
-- nothing comes behind and the machine may be left unfinished, so may the attempt.
pub record IsSource (picks : List Pick) (ajar : Bool) (h : Held) (within : Source) : Type 0 where
  pub behind : List Pick
  pub are_picks : picks ≡ h.picks ++ Attempt h.place.path within.picks.now ∷ behind
  pub is_open : within.ajar ≡ (ajar && is_none behind)

-- The root's machine waits for the last of its picks.
pub record IsFirst (picks : List Pick) (ajar : Bool) (h : Held) (hs : List Held)
    (within : Source) : Type 0 where
  pub are_picks : picks ≡ h.picks ++ Attempt h.place.path within.picks.now ∷ []
  pub is_open : within.ajar ≡ ajar
  pub is_root : hs ≡ []

-- So it is with each machine that waits, up to the root's.
abbrev pub AreSources : List Pick → Bool → List Held → List Source → Source → Type 0
AreSources picks ajar [] ss within = ⊥
AreSources picks ajar (h ∷ hs) [] within = IsFirst picks ajar h hs within
AreSources picks ajar (h ∷ hs) (s ∷ ss) within = IsSource s.picks.now s.ajar h within
    × AreSources picks ajar hs ss s

-- The sources of a run within attempts of the last of some picks.
abbrev pub HasSources : List Pick → Bool → Within → Type 0
HasSources picks ajar w = AreSources picks ajar (around w.going.course) (inmost w.outer []) w.source

-- A run goes on in an attempt, and has taken some of its picks.
pub record IsWithin (p : Program) (w : Within) : Type 0 where
  pub going : IsGoing p w.going
  pub inside : w.going.course.outer ≢ []
  pub left : List Pick
  pub taken : w.source.picks.now ≡ w.going.course.picks ++ left

-- A pick is the next one of the innermost attempt, and the last one or not.
pub record IsHere (w : Within) (pick : Pick) (is_last : Bool) : Type 0 where
  pub behind : List Pick
  pub next : w.source.picks.now ≡ w.going.course.picks ++ pick ∷ behind
  pub last : is_last ≡ is_none behind

-- A pick is an attempt.
pub record IsAttempt (pick : Pick) : Type 0 where
  pub path : Path
  pub within : List Pick
  pub is : pick ≡ Attempt path within

-- The picks of an attempt are a source.
abbrev pub IsSourceOf : Pick → Bool → Source → Type 0
IsSourceOf pick ajar s = (s.ajar ≡ ajar) × ((path : Path) × (pick ≡ Attempt path s.picks.now))

-- The run went on by a pick, which is finished.
pub record TakesPick (p : Program) (fuel : ℕ) (ajar : Bool) (picks : List Pick)
    (g : Going) : Type 0 where
  pub going : IsGoing p g
  pub fuel_is : g.course.fuel ≡ fuel
  pub are_picks : g.course.picks ≡ picks
  pub outside : g.course.outer ≡ []
  pub shut : ajar ≡ false

-- The picks are legal, the last of them perhaps an attempt that isn't finished; they cost so much;
-- and what the root's machine printed and cost before the last one stands in the layers.
pub record EndsWith (p : Program) (before : List Pick) (pick : Pick) (c : Course)
    (cost : Option ℕ) : Type 0 where
  pub effect : Effect
  pub legal : AreLegal p true false (opening_store p) (before ++ pick ∷ []) p.first effect
  pub bounded : MakesWithinBounds effect
  pub is_cost : IsCost effect.cost cost
  pub root : Effect
  pub term : Term
  pub is_root : Runs p false true (opening_store p) before p.first (goes term) root
  pub output : (levels_of c.layers).output ≡ root.output
  pub root_cost : (levels_of c.layers).cost ≡ root.cost

-- Picks are none of a run of the program, with any fuel.
pub record NeverRuns (p : Program) (ajar : Bool) (picks : List Pick) : Type 0 where
  pub never : (fuel : ℕ) → NoRun p ajar fuel picks

-- They are none within a fuel.
pub record NotWithin (p : Program) (ajar : Bool) (fuel : ℕ) (picks : List Pick) : Type 0 where
  pub none : NoRun p ajar fuel picks

-- The last of all, which may be left unfinished, is legal.
pub record TakesLast (p : Program) (ajar : Bool) (before : List Pick) (pick : Pick) (c : Course)
    (cost : Option ℕ) : Type 0 where
  pub is_open : ajar ≡ true
  pub ends : EndsWith p before pick c cost

-- What the last of some picks comes to.
abbrev pub Takes : Program → ℕ → Bool → List Pick → Pick → Taken → Type 0
Takes p fuel ajar before pick (taken.Out g) = TakesPick p fuel ajar (before ++ pick ∷ []) g
Takes p fuel ajar before pick taken.Illegal = NeverRuns p ajar (before ++ pick ∷ [])
Takes p fuel ajar before pick taken.Passes = NotWithin p ajar fuel (before ++ pick ∷ [])
Takes p fuel ajar before pick (taken.Last c cost) = TakesLast p ajar before pick c cost

-- The run goes on within the last of some picks.
pub record IsInside (p : Program) (fuel : ℕ) (ajar : Bool) (picks : List Pick)
    (w : Within) : Type 0 where
  pub within : IsWithin p w
  pub fuel_is : w.going.course.fuel ≡ fuel
  pub sources : HasSources picks ajar w

-- After the first of the picks within.
abbrev pub TakesOn : Program → ℕ → Bool → List Pick → Pick → Next → Type 0
TakesOn p fuel ajar before pick (next.Goes w) = IsInside p fuel ajar (before ++ pick ∷ []) w
TakesOn p fuel ajar before pick (next.Ends t) = Takes p fuel ajar before pick t

-- After one pick more within, for whatever picks the run is in.
pub record GoesWithin (p : Program) (w : Within) (n : Next) : Type 0 where
  pub goes : (ajar : Bool) (before : List Pick) (pick : Pick)
      → HasSources (before ++ pick ∷ []) ajar w → TakesOn p w.going.course.fuel ajar before pick n

-- What is left of the machines round the innermost one, but of the root's: the picks behind the
-- attempt for whose end each waits, with those inside them, and that end. Each pick counts twice.
abbrev pub left_round : List Held → List Source → ℕ
left_round [] ss = 0
left_round (h ∷ hs) [] = 0
left_round (h ∷ hs) (s ∷ ss) = 1 + 2 * all_nodes (drop (length h.picks + 1) s.picks.now)
    + left_round hs ss

-- What is left of a run within attempts: that, and the innermost machine's picks.
abbrev pub left_within : Within → ℕ
left_within w = 2 * all_nodes (drop (length w.going.course.picks) w.source.picks.now)
    + left_round (around w.going.course) (inmost w.outer [])

-- One pick more, or the end of an attempt, leaves less.
abbrev pub LeavesLess : Within → Next → Type 0
LeavesLess w (next.Goes v) = left_within v < left_within w
LeavesLess w (next.Ends t) = Unit {0}

-- Out of an attempt: to the machine round it, the root's or another attempt's.
abbrev pub IsLeft : Going → List Source → Next → Type 0
IsLeft g outer (next.Goes w) = (w.going ≡ g) × (outer ≡ w.outer ++ w.source ∷ [])
IsLeft g outer (next.Ends t) = (t ≡ taken.Out g) × (outer ≡ [])
