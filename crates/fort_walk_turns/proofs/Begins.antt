-- A sweep begins.
use Rattle.std.proofs.Common.{◌≡◌, true, false, [], sym, ◌∙◌, subst}
use Rattle.fort_core.specs.declared.program.Program.{Program}
use Rattle.fort_core.specs.declared.term.Term.{Term}
use Rattle.fort_frames.specs.Frames.{frames, rebuilt}
use Rattle.fort_frames.specs.States.{term_at}
use Rattle.fort_frames_moves.specs.Sweeps.{IsLeftAt, Swept, SweptTo}
use Rattle.fort_walk_course.specs.declared.course.Course.{Course}
use Rattle.fort_walk_course.specs.declared.course.Going.{Going}
use Rattle.fort_walk_course.specs.Courses.{IsGoing, IsWhole}
use Rattle.fort_walk_turns.specs.declared.sweep.Sweep.{Sweep}
use Rattle.fort_walk_turns.specs.Idles.{AreAsleep, IsAtForm}

-- a sweep begins at the left end
pub sweep_begins : (p : Program) (g : Going) (w : Sweep) → IsGoing p g → IsWhole g.state
    → w.stuck ≡ false
    → AreAsleep g.course w
    (rebuilt g.course.clock (frames g.state.place.stack) (term_at g.state.«at»))
    → IsAtForm p g.course w g.state.place (term_at g.state.«at») (λ met. SweptTo met g.state)
sweep_begins p g w going whole none asleep = record {
  stands = going;
  idles = λ e. record {
    met = [];
    swept = record {
      swept = subst (Swept []) (sym whole.0) tt;
      is_left = subst (IsLeftAt []) (sym whole.2) tt;
    };
    idle = λ a h. absurd h;
    awake = λ z. let q : true ≡ false = sym z ∙ none in absurd cc;
  };
  asleep = asleep;
}

pub not_waking : (c : Course) (w : Sweep) (t : Term) → w.wakes ≡ false → AreAsleep c w t
not_waking c w t none e = let q : true ≡ false = sym e ∙ none in absurd cc
