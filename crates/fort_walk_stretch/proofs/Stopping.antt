-- Where the moves of a leg come to.
use Rattle.std.proofs.Common.{◌≡◌, Bool, true, List, sym, subst}
use Rattle.fort_core.specs.declared.program.Program.{Program}
use Rattle.fort_core.specs.declared.term.Term.{Term}
use Rattle.fort_machine.specs.Effects.{Store}
use Rattle.fort_machine.specs.Ends.{group}
use Rattle.fort_frames.specs.Frames.{frames, rebuilt}
use Rattle.fort_frames.specs.States.{term_at}
use Rattle.fort_frames.specs.declared.place.Place.{Place}
use Rattle.fort_frames.specs.declared.state.At.{At}
use Rattle.fort_frames.specs.declared.state.State.{State}
use Rattle.fort_store_effects.specs.Levels.{effect_of}
use Rattle.fort_walk_legs.specs.Legs.{IsLeg}
use Rattle.fort_frames_moves.specs.Turns.{IsAt, IsGathered, IsOdd, IsStep, IsStop, IsTry, ready_term}
use Rattle.fort_frames_moves.specs.declared.turn.Ready.{Ready}
use Rattle.fort_frames_moves.specs.declared.turn.Stop.{Stop}
use Rattle.fort_frames_moves.specs.declared.turn.Stop.TheVariants as stop
use Rattle.fort_walk_stretch.specs.Goes.{Goes}
use Rattle.fort_walk_stretch.specs.Stretches.{IsOn, IsWhole}
use Rattle.fort_walk_stretch.specs.declared.leg.Room.{Room}
use Rattle.fort_walk_stretch.specs.declared.stretch.Stretch.{Stretch}
use Rattle.fort_walk_stretch.proofs.Turning.{moves_on, whole_on}

-- what a part has become, by a state of it
abbrev pub term_of : Stretch → State → Term
term_of x state = rebuilt x.clock (frames state.place.stack) (term_at state.«at»)

-- at another place of the same term
pub place_on : (p : Program) (inner : Bool) (s : Store) (room : Room) (x : Stretch) (state : State)
    (place : Place) (a : Term) → IsOn p inner s room x state.place (term_at state.«at»)
    → IsAt x.clock (term_of x state) place a → IsOn p inner s room x place a
place_on p inner s room x state place a h to =
    moves_on p inner s room x state.place place (term_at state.«at») a h to.is_term to.reached

-- where a thread has its step
pub step_of : (x : Stretch) (state : State) (m : Stop) (place : Place) (r : Ready)
    → IsStop x.clock (term_of x state) m → m ≡ stop.Steps place r
    → IsStep x.clock (term_of x state) place r
step_of x state m place r to e = subst (IsStop x.clock (term_of x state)) e to

-- at a thread
pub step_on : (p : Program) (inner : Bool) (s : Store) (room : Room) (x : Stretch) (state : State)
    (m : Stop) (place : Place) (r : Ready) → IsOn p inner s room x state.place (term_at state.«at»)
    → IsStop x.clock (term_of x state) m → m ≡ stop.Steps place r
    → IsOn p inner s room x place (ready_term r)
step_on p inner s room x state m place r h to e =
    place_on p inner s room x state place (ready_term r) h
    (step_of x state m place r to e).thread.is_at

-- at a tuple
pub group_on : (p : Program) (inner : Bool) (s : Store) (room : Room) (x : Stretch) (state : State)
    (m : Stop) (place : Place) (ts : List Term) (u : Term)
    → IsOn p inner s room x state.place (term_at state.«at»)
    → IsStop x.clock (term_of x state) m → m ≡ stop.Groups place ts → u ≡ group ts
    → IsOn p inner s room x place u
group_on p inner s room x state m place ts u h to e same =
    let k : IsGathered x.clock (term_of x state) place ts =
    subst (IsStop x.clock (term_of x state)) e to in
    subst (IsOn p inner s room x place) (sym same)
    (place_on p inner s room x state place (group ts) h k.is_at)

-- at an atomic form
pub try_on : (p : Program) (inner : Bool) (s : Store) (room : Room) (x : Stretch) (state : State)
    (m : Stop) (place : Place) (a : Term) → IsOn p inner s room x state.place (term_at state.«at»)
    → IsStop x.clock (term_of x state) m → m ≡ stop.Tries place a
    → IsOn p inner s room x place a
try_on p inner s room x state m place a h to e =
    let k : IsTry x.clock (term_of x state) place a =
    subst (IsStop x.clock (term_of x state)) e to in
    place_on p inner s room x state place a h k.is_at

-- at a mark at an odd place
pub odd_on : (p : Program) (inner : Bool) (s : Store) (room : Room) (x : Stretch) (state : State)
    (m : Stop) (place : Place) (a : Term) → IsOn p inner s room x state.place (term_at state.«at»)
    → IsStop x.clock (term_of x state) m → m ≡ stop.Odd place a
    → IsOn p inner s room x place a
odd_on p inner s room x state m place a h to e =
    let k : IsOdd x.clock (term_of x state) place a =
    subst (IsStop x.clock (term_of x state)) e to in
    place_on p inner s room x state place a h k.is_at

-- out of the whole part
pub end_on : (p : Program) (inner : Bool) (s : Store) (room : Room) (x : Stretch) (state : State)
    (m : Stop) (a : At) → IsOn p inner s room x state.place (term_at state.«at»)
    → IsStop x.clock (term_of x state) m → m ≡ stop.Ends a
    → IsWhole p inner s room x (term_at a)
end_on p inner s room x state m a h to e =
    let same : term_at a ≡ term_of x state = subst (IsStop x.clock (term_of x state)) e to in
    whole_on p inner s room x state.place (term_at state.«at») (term_at a) h same

-- the flags of a leg say nothing of where it stands
pub flags_on : (p : Program) (inner : Bool) (s : Store) (room : Room) (x : Stretch) (place : Place)
    (a : Term) (b c : Bool) → IsOn p inner s room x place a
    → IsOn p inner s room (record x { full = b; left_out = c }) place a
flags_on p inner s room x place a b c h = record {
  stage = record { runs = h.stage.runs; reached = h.stage.reached };
  steps = h.steps;
  affords = h.affords;
  bounded = h.bounded;
  below = h.below;
  from = h.from;
  reach = h.reach;
}

-- the same form stands there where no further step is taken
pub full_on : (p : Program) (inner : Bool) (s : Store) (room : Room) (x : Stretch) (place : Place)
    (a b : Term) → IsOn p inner s room x place a → b ≡ a
    → IsOn p inner s room (record x { full = true }) place b
full_on p inner s room x place a b h same =
    subst (IsOn p inner s room (record x { full = true }) place) (sym same)
    (flags_on p inner s room x place a true x.left_out h)

-- the leg of a part that is whole
pub whole_goes : (p : Program) (inner : Bool) (s : Store) (room : Room) (x : Stretch) (u v : Term)
    → IsWhole p inner s room x u → v ≡ u
    → Goes p inner s x.first room
    (record { done = x.done; picks = x.picks; term = v; fresh = x.fresh; left_out = x.left_out })
whole_goes p inner s room x u v h same = record {
  leg = subst (λ t. IsLeg p inner s x.first x.picks t (effect_of x.done)) (sym same) h.leg;
  affords = h.affords;
  bounded = h.bounded;
  below = h.below;
  from = h.from;
}
