-- From turn to turn of a leg.
use Rattle.std.proofs.Common.{◌≡◌, ◌≤◌, Bool, true, [], refl, ap, sym, ◌∙◌, subst, arith}
use Rattle.fort_core.specs.declared.program.Program.{Program}
use Rattle.fort_core.specs.declared.term.Term.{Term}
use Rattle.fort_machine.specs.Attempts.{goes}
use Rattle.fort_machine.specs.Effects.{Store, Effect}
use Rattle.fort_machine.specs.Journals.{MakesWithinBounds}
use Rattle.fort_machine.specs.Runs.{Runs, none}
use Rattle.fort_frames.specs.Frames.{frames, rebuilt, Reaches}
use Rattle.fort_frames.specs.States.{term_at, Stands}
use Rattle.fort_frames.specs.declared.place.Place.{Place}
use Rattle.fort_frames.specs.declared.state.State.{State}
use Rattle.fort_store_effects.specs.Levels.{effect_of}
use Rattle.fort_walk_legs.specs.Legs.{AreSteps, IsInReach}
use Rattle.fort_walk_stretch.specs.Goes.{MakesBelow}
use Rattle.fort_walk_stretch.specs.Stretches.{IsFirst, IsOn, IsWhole}
use Rattle.fort_walk_stretch.specs.declared.leg.Room.{Room}
use Rattle.fort_walk_stretch.specs.declared.stretch.Stretch.{Stretch}

-- before the first step
pub begins : (p : Program) (inner : Bool) (s : Store) (room : Room) (x : Stretch) (t : Term)
    (state : State) → IsFirst t room.from x → Stands x.clock t state
    → IsInReach p inner s t
    → IsOn p inner s room x state.place (term_at state.«at»)
begins p inner s room x t state h st reach =
    let none_spent : 0 ≤ room.cost = omega arith in
    let now = goes (rebuilt x.clock (frames state.place.stack) (term_at state.«at»)) in
    record {
      stage = record {
        runs = subst (λ ps. Runs p inner true s ps x.first now (effect_of x.done)) (sym h.picks)
            (subst (λ d. Runs p inner true s [] x.first now d) (sym h.done)
            (none refl (ap goes (st.is_term ∙ sym h.first)) refl));
        reached = st.reached;
      };
      steps = subst AreSteps (sym h.picks) tt;
      affords = subst (λ (d : Effect). d.cost ≤ room.cost) (sym h.done) none_spent;
      bounded = subst MakesWithinBounds (sym h.done) (λ l v e. let q = e in cc);
      below = subst (MakesBelow x.fresh) (sym h.done) (λ l v e. let q = e in cc);
      from = let same = h.fresh in omega (arith, same);
      reach = subst (IsInReach p inner s) (sym h.first) reach;
    }

-- at another place of the same term
pub moves_on : (p : Program) (inner : Bool) (s : Store) (room : Room) (x : Stretch)
    (old new : Place) (a b : Term) → IsOn p inner s room x old a
    → rebuilt x.clock (frames new.stack) b ≡ rebuilt x.clock (frames old.stack) a
    → Reaches x.clock (frames new.stack) b → IsOn p inner s room x new b
moves_on p inner s room x old new a b h is reached =
    record {
      stage = record {
        runs = subst (λ t. Runs p inner true s x.picks x.first (goes t) (effect_of x.done)) (sym is)
            h.stage.runs;
        reached = reached;
      };
      steps = h.steps;
      affords = h.affords;
      bounded = h.bounded;
      below = h.below;
      from = h.from;
      reach = h.reach;
    }

-- out of the whole part
pub whole_on : (p : Program) (inner : Bool) (s : Store) (room : Room) (x : Stretch)
    (place : Place) (a u : Term) → IsOn p inner s room x place a
    → u ≡ rebuilt x.clock (frames place.stack) a → IsWhole p inner s room x u
whole_on p inner s room x place a u h is =
    record {
      leg = record {
        runs = subst (λ t. Runs p inner true s x.picks x.first (goes t) (effect_of x.done)) (sym is)
            h.stage.runs;
        steps = h.steps;
      };
      affords = h.affords;
      bounded = h.bounded;
      below = h.below;
      from = h.from;
    }
