-- Chapter "Legs": a leg while it is taken. The code keeps the part's term taken apart at one place.
use Rattle.std.specs.Prelude.{◌≡◌, ℕ, ◌+◌, ◌<◌, ◌≤◌, Bool, [], ◌∷◌, ◌++◌, length}
use Rattle.fort_core.specs.declared.pick.Pick.{Step}
use Rattle.fort_core.specs.declared.program.Program.{Program}
use Rattle.fort_core.specs.declared.term.Term.{Term}
use Rattle.fort_machine.specs.Effects.{Store, Effect, afterwards, idle}
use Rattle.fort_machine.specs.Journals.{MakesWithinBounds}
use Rattle.fort_machine.specs.Runs.{location}
use Rattle.fort_machine.specs.Steps.{Local, or_unit}
use Rattle.fort_frames.specs.States.{term_at}
use Rattle.fort_frames.specs.declared.place.Place.{Place}
use Rattle.fort_step_deal.specs.declared.deal.Deal.{Deal}
use Rattle.fort_step_deal.specs.declared.deal.Deal.TheVariants as deal
use Rattle.fort_step_deal.specs.Deals.{making_cost, new_values}
use Rattle.fort_store_effects.specs.Calls.{AreFree}
use Rattle.fort_store_effects.specs.Levels.{effect_of}
use Rattle.fort_walk_law_course.specs.Picks.{Stage}
use Rattle.fort_walk_legs.specs.Legs.{AreSteps, IsInReach, IsLeg}
use Rattle.fort_walk_stretch.specs.Goes.{Goes, MakesBelow}
use Rattle.fort_walk_stretch.specs.declared.leg.Room.{Room}
use Rattle.fort_walk_stretch.specs.declared.stretch.Stretch.{Stretch}
use Rattle.fort_walk_stretch.specs.declared.stretch.Turned.{Turned}
use Rattle.fort_walk_stretch.specs.declared.stretch.Turned.TheVariants as turned

-- Before the first step of a term.
pub record IsFirst (t : Term) (from : ℕ) (x : Stretch) : Type 0 where
  pub done : effect_of x.done ≡ idle
  pub picks : x.picks ≡ []
  pub first : x.first ≡ t
  pub fresh : x.fresh ≡ from

-- With a step more at a place.
pub record IsPicked (old : Stretch) (place : Place) (loc : ℕ) (new : Stretch) : Type 0 where
  pub done : new.done ≡ old.done
  pub picks : new.picks ≡ old.picks ++ Step place.path (location loc) ∷ []
  pub first : new.first ≡ old.first
  pub clock : old.clock < new.clock
  pub fresh : new.fresh ≡ old.fresh

-- The steps so far are a leg within the room, and have led to a form at a place, which may go on.
pub record IsOn (p : Program) (inner : Bool) (s : Store) (room : Room) (x : Stretch) (place : Place)
    (a : Term) : Type 0 where
  pub stage : Stage p inner s x.picks x.first (effect_of x.done) x.clock place a
  pub steps : AreSteps x.picks
  pub affords : (effect_of x.done).cost ≤ room.cost
  pub bounded : MakesWithinBounds (effect_of x.done)
  pub below : MakesBelow x.fresh (effect_of x.done)
  pub from : room.from ≤ x.fresh
  pub reach : IsInReach p inner s x.first

-- The steps so far are a leg within the room, and have led to this term.
pub record IsWhole (p : Program) (inner : Bool) (s : Store) (room : Room) (x : Stretch)
    (u : Term) : Type 0 where
  pub leg : IsLeg p inner s x.first x.picks u (effect_of x.done)
  pub affords : (effect_of x.done).cost ≤ room.cost
  pub bounded : MakesWithinBounds (effect_of x.done)
  pub below : MakesBelow x.fresh (effect_of x.done)
  pub from : room.from ≤ x.fresh

-- A form at a place may take this step.
pub record MayTake (p : Program) (inner : Bool) (s : Store) (room : Room) (x : Stretch)
    (place : Place) (loc : ℕ) (b : Term) (e : Effect) : Type 0 where
  pub form : Term
  pub on : IsOn p inner s room x place form
  pub local : Local p inner loc form b e

-- What a deal costs, where it is a step.
abbrev pub price : Deal → ℕ
price (deal.Turns t output cost) = cost
price (deal.Makes m) = making_cost m
price _ = 1

-- So many numbers from one on are within a room, and a store has no location with one of them.
abbrev pub AreLeft : Store → ℕ → ℕ → ℕ → Type 0
AreLeft s fresh count until = (fresh + count ≤ until) × AreFree fresh count s

-- So are those of the new locations of a deal.
abbrev pub HasNumbers : Store → ℕ → ℕ → Deal → Type 0
HasNumbers s fresh until (deal.Makes m) = AreLeft s fresh (length (or_unit (new_values m))) until
HasNumbers s fresh until _ = Unit {0}

-- There is room for what a deal costs, and for what it makes behind what was done so far.
pub record HasRoom (s : Store) (room : Room) (x : Stretch) (d : Deal) : Type 0 where
  pub affords : (effect_of x.done).cost + price d ≤ room.cost
  pub numbers : HasNumbers (afterwards (effect_of x.done) s) x.fresh room.until d

-- What comes next: the leg goes on, or it is whole.
abbrev pub Follows : Program → Bool → Store → Term → Room → Turned → Type 0
Follows p inner s t room (turned.Goes x state) =
    IsOn p inner s room x state.place (term_at state.«at») × (x.first ≡ t)
Follows p inner s t room (turned.Ends leg) = Goes p inner s t room leg
