-- Chapter "Legs": a leg of a part, within the room that was given for it.
use Rattle.std.specs.Prelude.{◌≡◌, ℕ, ◌<◌, ◌≤◌, Bool, Option}
use Rattle.fort_core.specs.declared.program.Program.{Program}
use Rattle.fort_core.specs.declared.term.Term.{Term}
use Rattle.fort_core.specs.declared.value.Value.{Value}
use Rattle.fort_machine.specs.Cells.{made, untouched}
use Rattle.fort_machine.specs.Effects.{Store, Effect}
use Rattle.fort_machine.specs.Journals.{MakesWithinBounds}
use Rattle.fort_store_effects.specs.Levels.{effect_of}
use Rattle.fort_walk_law_course.specs.Course.{NothingFrom}
use Rattle.fort_walk_legs.specs.Legs.{IsLeg}
use Rattle.fort_walk_stretch.specs.declared.leg.Leg.{Leg}
use Rattle.fort_walk_stretch.specs.declared.leg.Room.{Room}

-- Each location that was made has a number below this one.
abbrev pub MakesBelow : ℕ → Effect → Type 0
MakesBelow n d = (l : ℕ) (v : Option Value) → d.cells l ≡ made v → l < n

-- A leg of a term, taken on a store within a room.
pub record Goes (p : Program) (inner : Bool) (s : Store) (t : Term) (room : Room)
    (x : Leg) : Type 0 where
  pub leg : IsLeg p inner s t x.picks x.term (effect_of x.done)
  pub affords : (effect_of x.done).cost ≤ room.cost
  pub bounded : MakesWithinBounds (effect_of x.done)
  pub below : MakesBelow x.fresh (effect_of x.done)
  pub from : room.from ≤ x.fresh

-- Where the store has no location from the first number of the room on, a leg touches none with the
-- number `fresh` or a higher one.
abbrev pub LegStaysBelow : Type 0
LegStaysBelow = (p : Program) (inner : Bool) (s : Store) (t : Term) (room : Room) (x : Leg)
    → Goes p inner s t room x → NothingFrom room.from s
    → (l : ℕ) → x.fresh ≤ l → (effect_of x.done).cells l ≡ untouched
