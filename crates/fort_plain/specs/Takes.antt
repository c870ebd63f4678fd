-- Chapter "Runs": one pick of the innermost machine of a run. The code does what the form's row
-- says; the definition asks for every legal pick.
use Rattle.std.specs.Prelude.{◌≡◌, ◌≢◌, ℕ, ◌+◌, ◌≤◌, ◌^◌, Bool, true, false, List, [], ◌∷◌, ◌++◌, Option, Some, None}
use Rattle.fort_core.specs.declared.pick.Pick.{Pick, Step, Attempt}
use Rattle.fort_core.specs.declared.program.Program.{Program}
use Rattle.fort_core.specs.declared.term.Term.{Term}
use Rattle.fort_machine.specs.Effects.{Store, Effect, paid, printed}
use Rattle.fort_machine.specs.Ends.{Finished}
use Rattle.fort_machine.specs.Acts.{Act, ends}
use Rattle.fort_machine.specs.Attempts.{Ready, Sleeps, Awake, aborts}
use Rattle.fort_machine.specs.Runs.{Runs}
use Rattle.fort_machine.specs.Steps.{Acts, Local}
use Rattle.fort_machine.specs.Journals.{MakesWithinBounds}
use Rattle.fort_frames.specs.Frames.{frames, rebuilt}
use Rattle.fort_frames.specs.declared.place.Place.{Place}
use Rattle.fort_store_effects.specs.Levels.{levels_of, seen}
use Rattle.fort_walk_law_course.specs.Picks.{MayBeTried}
use Rattle.fort_walk_law_course.specs.Course.{is_inner}
use Rattle.fort_walk_course.specs.Courses.{StandsAt, IsGoing, around}
use Rattle.fort_walk_course.specs.Calls.{CannotThrow}
use Rattle.fort_walk_course.specs.Picked.{PicksAttempt}
use Rattle.fort_walk_course.specs.declared.course.Course.{Course}
use Rattle.fort_walk_course.specs.declared.course.Going.{Going}
use Rattle.fort_walk_course.specs.declared.course.Waiting.{Waiting}
use Rattle.fort_step_acting.specs.Only.{OnlyDoes}
use Rattle.fort_step_deal.specs.declared.deal.Deal.{Deal}
use Rattle.fort_step_deal.specs.declared.deal.Deal.TheVariants as deal
use Rattle.fort_plain.specs.Legal.{AreLegal, NoWay}
use Rattle.fort_plain.specs.declared.act.Acted.{Acted}
use Rattle.fort_plain.specs.declared.act.Acted.TheVariants as acted
use Rattle.fort_plain.specs.declared.act.Turn.{Turn}

-- The innermost machine can't go on with a pick within a fuel, whatever comes behind it; where it
-- isn't the machine's last one, something does.
pub record NoPick (p : Program) (c : Course) (t : Term) (fuel : ℕ) (turn : Turn)
    (pick : Pick) : Type 0 where
  pub none : (ajar : Bool) (more : List Pick) → (turn.is_last ≡ false → more ≢ [])
      → NoWay p ajar (is_inner (around c)) (seen (levels_of c.layers)) t c.spent fuel (pick ∷ more)

-- Nor can it with any other fuel.
pub record IsIllegal (p : Program) (c : Course) (t : Term) (turn : Turn)
    (pick : Pick) : Type 0 where
  pub never : (fuel : ℕ) → NoPick p c t fuel turn pick

-- The run goes on with one pick more of the innermost machine, which isn't the last of all.
pub record GoesOn (p : Program) (c : Course) (turn : Turn) (pick : Pick) (g : Going) : Type 0 where
  pub going : IsGoing p g
  pub fuel : g.course.fuel ≡ c.fuel
  pub picks : g.course.picks ≡ c.picks ++ pick ∷ []
  pub outer : g.course.outer ≡ c.outer
  pub not_end : turn.is_end ≡ false

-- An attempt begins, with these picks before it.
pub record Begins (p : Program) (c : Course) (pick : Pick) (g : Going) : Type 0 where
  pub going : IsGoing p g
  pub fuel : g.course.fuel ≡ c.fuel
  pub picks : g.course.picks ≡ []
  pub waiting : Waiting
  pub outer : g.course.outer ≡ c.outer ++ waiting ∷ []
  pub before : waiting.picks ≡ c.picks
  pub within : List Pick
  pub is_pick : pick ≡ Attempt waiting.place.path within

-- The innermost machine ended with these picks, and they are one pick more of the machine round it.
pub record Leaves (p : Program) (c : Course) (picks : List Pick) (g : Going) : Type 0 where
  pub going : IsGoing p g
  pub fuel : g.course.fuel ≡ c.fuel
  pub picked : PicksAttempt c picks g.course

-- The machine's last pick ends it, and isn't the last of all.
pub record LeavesBy (p : Program) (c : Course) (turn : Turn) (pick : Pick)
    (g : Going) : Type 0 where
  pub leaves : Leaves p c (c.picks ++ pick ∷ []) g
  pub last : turn.is_last ≡ true
  pub not_end : turn.is_end ≡ false

-- The pick is a step of `abort()` that ends an attempt's machine, and the attempt has no end, since
-- the program has no single object to throw.
pub record Stops (p : Program) (c : Course) (t : Term) (turn : Turn) (pick : Pick) : Type 0 where
  pub cannot : CannotThrow p (around c)
  pub runs : Runs p true true (seen (levels_of c.layers)) (pick ∷ []) t aborts (paid 1)
  pub last : turn.is_last ≡ true
  pub not_end : turn.is_end ≡ false

-- What all has cost, where it is below 2 to the 64; else it is above each fuel.
abbrev pub IsCost : ℕ → Option ℕ → Type 0
IsCost n (Some cost) = cost ≡ n
IsCost n None = 2 ^ 64 ≤ n

-- The pick is the last of all, and is legal; with it all has cost so much.
pub record IsLast (p : Program) (c : Course) (t : Term) (turn : Turn) (pick : Pick) (d : Course)
    (cost : Option ℕ) : Type 0 where
  pub same : d ≡ c
  pub effect : Effect
  pub legal : AreLegal p true (is_inner (around c)) (seen (levels_of c.layers)) (pick ∷ []) t effect
  pub bounded : MakesWithinBounds effect
  pub is_cost : IsCost (c.spent + effect.cost) cost
  pub last : turn.is_last ≡ true
  pub all : turn.is_end ≡ true

-- What a pick comes to in the innermost machine of a run, at a term.
abbrev pub ActsOn : Program → Course → Term → Turn → Pick → Acted → Type 0
ActsOn p c t turn pick (acted.Goes g) = GoesOn p c turn pick g
ActsOn p c t turn pick (acted.Opens g) = Begins p c pick g
ActsOn p c t turn pick (acted.Leaves g) = LeavesBy p c turn pick g
ActsOn p c t turn pick acted.Unclosed = Stops p c t turn pick
ActsOn p c t turn pick acted.Illegal = IsIllegal p c t turn pick
ActsOn p c t turn pick acted.Passes = NoPick p c t c.fuel turn pick
ActsOn p c t turn pick (acted.Last d cost) = IsLast p c t turn pick d cost

-- A turn that ends all is the machine's last.
abbrev pub IsTurn : Turn → Type 0
IsTurn turn = turn.is_end ≡ true → turn.is_last ≡ true

-- A thread stands at a place of the innermost machine.
pub record IsThreadAt (p : Program) (c : Course) (place : Place) (a : Term) : Type 0 where
  pub stands : StandsAt p c place a
  pub ready : Ready a

-- It does this, and nothing else.
pub record DoesOnly (p : Program) (c : Course) (place : Place) (a : Term) (x : Act) : Type 0 where
  pub thread : IsThreadAt p c place a
  pub acts : Acts p a x
  pub only : OnlyDoes p a x

-- It goes on as a term and prints a text, at a cost, and does nothing else.
pub record TurnsOnly (p : Program) (c : Course) (place : Place) (a next : Term) (text : List ℕ)
    (cost : ℕ) : Type 0 where
  pub thread : IsThreadAt p c place a
  pub local : Local p (is_inner (around c)) 0 a next (printed text cost)
  pub only : (loc : ℕ) (b : Term) (d : Effect) → Local p (is_inner (around c)) loc a b d
      → (loc ≡ 0) × (d ≡ printed text cost)
  pub no_abort : is_inner (around c) ≡ true → Acts p a ends → ⊥

-- The term at a place.
abbrev pub term_round : Course → Place → Term → Term
term_round c place a = rebuilt c.clock (frames place.stack) a

-- What a step comes to that a pick takes at a place.
abbrev pub StepsOn : Program → Course → Place → Term → Turn → ℕ → Acted → Type 0
StepsOn p c place a turn loc r =
    ActsOn p c (term_round c place a) turn (Step place.path (record { 0 = loc })) r

-- The innermost attempt ends with its picks; or it has no end, since its machine's term isn't
-- finished.
abbrev pub Closes : Program → Course → Term → Option Going → Type 0
Closes p c t None = Finished t → ⊥
Closes p c t (Some g) = Leaves p c c.picks g

-- What a form does looks at the store, or ends its machine.
abbrev pub TouchesStore : Deal → Type 0
TouchesStore deal.Stuck = ⊥
TouchesStore (deal.Turns t output cost) = ⊥
TouchesStore (deal.Enters body t) = ⊥
TouchesStore (deal.Calls set vs) = ⊥
TouchesStore (deal.Asks l g) = Unit {0}
TouchesStore (deal.Sets l v) = Unit {0}
TouchesStore (deal.Makes m) = Unit {0}
TouchesStore deal.Ends = Unit {0}

-- Whether a form of a term waits: it sleeps, and a thread of the term is awake; else it may be
-- tried.
abbrev pub MustWait : Store → Term → Term → Bool → Type 0
MustWait s t a true = Sleeps s a × ((path : List ℕ) × Awake s t path)
MustWait s t a false = MayBeTried s t a
