-- Where moves lead.
use Rattle.std.proofs.Common.{◌≡◌, List, refl, sym, subst}
use Rattle.fort_core.specs.declared.form.Mode.{Mode}
use Rattle.fort_core.specs.declared.program.Program.{Program}
use Rattle.fort_core.specs.declared.term.Term.{Term}
use Rattle.fort_machine.specs.Attempts.{Form}
use Rattle.fort_machine.specs.Ends.{group}
use Rattle.fort_frames.specs.Frames.{frames, rebuilt}
use Rattle.fort_frames.specs.States.{term_at}
use Rattle.fort_frames.specs.declared.place.Place.{Place}
use Rattle.fort_frames.specs.declared.state.At.{At}
use Rattle.fort_frames.specs.declared.state.State.{State}
use Rattle.fort_store_effects.specs.Levels.{levels_of, seen}
use Rattle.fort_walk_law_course.specs.Picks.{NoneAwake}
use Rattle.fort_walk_law_course.specs.Course.{is_inner}
use Rattle.fort_walk_law_course.proofs.Keeps.{moves_keep}
use Rattle.fort_machine.specs.Written.{WrittenProgram}
use Rattle.fort_frames_moves.specs.Sweeps.{IsLeftAt, MissesNone, Swept, SweptTo, SweptStop}
use Rattle.fort_frames_moves.specs.Turns.{IsAt, IsGathered, IsMade, IsStep, IsStop, IsTry, ready_term}
use Rattle.fort_frames_moves.specs.declared.turn.Ready.{Ready}
use Rattle.fort_frames_moves.specs.declared.turn.Stop.{Stop}
use Rattle.fort_frames_moves.specs.declared.turn.Stop.TheVariants as stop
use Rattle.fort_walk_course.specs.declared.course.Course.{Course}
use Rattle.fort_walk_course.specs.Courses.{around}
use Rattle.fort_walk_turns.specs.declared.sweep.Sweep.{Sweep}
use Rattle.fort_walk_turns.specs.Idles.{IsAtForm, IsAtPlace, IsAtThread, IsAtEndOf}
use Rattle.fort_walk_turns.proofs.Idle.{idles_on}
use Rattle.fort_walk_turns.proofs.Giving.{stands_come}
use Rattle.fort_walk.proofs.Odd.{never_odd}

-- where a run stands, by the state's place
abbrev pub IsAtState : Program → Course → Sweep → State → Type 0
IsAtState p c w s = IsAtForm p c w s.place (term_at s.«at») (λ met. SweptTo met s)

abbrev pub whole_of : Course → State → Term
whole_of c s = rebuilt c.clock (frames s.place.stack) (term_at s.«at»)

pub moved_to : (p : Program) (c : Course) (w : Sweep) (s : State) (place : Place) (a : Term)
    → IsAtState p c w s → IsAt c.clock (whole_of c s) place a
    → ((met : List Term) → SweptTo met s → Swept met (frames place.stack))
    → IsAtPlace p c w place a
moved_to p c w s place a h to keeps =
    let whole = rebuilt c.clock (frames place.stack) a in
    record {
      stands = record {
        course = moves_keep p c.fuel (levels_of c.layers) c.picks (around c) c.clock c.fresh s.place
            place (term_at s.«at») a h.stands.course to.is_term to.reached;
        is_spent = h.stands.is_spent;
      };
      idles = λ e. idles_on p (is_inner (around c)) (seen (levels_of c.layers)) w (whole_of c s)
          whole (λ met. SweptTo met s) (λ met. Swept met (frames place.stack)) keeps
          (sym to.is_term) (h.idles e);
      asleep = λ e. subst (NoneAwake (seen (levels_of c.layers))) (sym to.is_term) (h.asleep e);
    }

pub moved_out : (p : Program) (c : Course) (w : Sweep) (s : State) (a : At) → IsAtState p c w s
    → term_at a ≡ whole_of c s → ((met : List Term) → SweptTo met s → IsLeftAt met a)
    → IsAtEndOf p c w a
moved_out p c w s a h e keeps = record {
  come = stands_come p c s.place (term_at s.«at») (term_at a) h.stands e;
  idles = λ i. idles_on p (is_inner (around c)) (seen (levels_of c.layers)) w (whole_of c s)
      (term_at a) (λ met. SweptTo met s) (λ met. IsLeftAt met a) keeps (sym e) (h.idles i);
  asleep = λ i. subst (NoneAwake (seen (levels_of c.layers))) (sym e) (h.asleep i);
}

-- where moves come to
pub steps_at : (p : Program) (c : Course) (w : Sweep) (s : State) (x : Stop) (place : Place)
    (r : Ready) → IsAtState p c w s → IsStop c.clock (whole_of c s) x → MissesNone s x
    → x ≡ stop.Steps place r
    → IsAtThread p c w place (ready_term r) × IsMade r
steps_at p c w s x place r h to keeps e =
    let k : IsStep c.clock (whole_of c s) place r = subst (IsStop c.clock (whole_of c s)) e to in (
      (
        moved_to p c w s place (ready_term r) h k.thread.is_at
            (λ met i. subst (SweptStop met) e (keeps.keeps met i)),
        k.thread.ready,
      ),
      k.made,
    )

pub groups_at : (p : Program) (c : Course) (w : Sweep) (s : State) (x : Stop) (place : Place)
    (ts : List Term) → IsAtState p c w s → IsStop c.clock (whole_of c s) x → MissesNone s x
    → x ≡ stop.Groups place ts → IsAtPlace p c w place (group ts)
groups_at p c w s x place ts h to keeps e =
    let k : IsGathered c.clock (whole_of c s) place ts = subst (IsStop c.clock (whole_of c s)) e to
    in moved_to p c w s place (group ts) h k.is_at
    (λ met i. subst (SweptStop met) e (keeps.keeps met i))

pub tries_at : (p : Program) (c : Course) (w : Sweep) (s : State) (x : Stop) (place : Place)
    (a : Term) → IsAtState p c w s → IsStop c.clock (whole_of c s) x → MissesNone s x
    → x ≡ stop.Tries place a
    → IsAtPlace p c w place a × ((m : Mode) × (body : Term) × Form a m body)
tries_at p c w s x place a h to keeps e =
    let k : IsTry c.clock (whole_of c s) place a = subst (IsStop c.clock (whole_of c s)) e to in (
      moved_to p c w s place a h k.is_at (λ met i. subst (SweptStop met) e (keeps.keeps met i)),
      (k.mode, k.body, k.is_form),
    )

pub ends_at : (p : Program) (c : Course) (w : Sweep) (s : State) (x : Stop) (a : At)
    → IsAtState p c w s → IsStop c.clock (whole_of c s) x → MissesNone s x → x ≡ stop.Ends a
    → IsAtEndOf p c w a
ends_at p c w s x a h to keeps e =
    moved_out p c w s a h (subst (IsStop c.clock (whole_of c s)) e to)
    (λ met i. subst (SweptStop met) e (keeps.keeps met i))

pub odd_at : (p : Program) → WrittenProgram p
    → (c : Course) (w : Sweep) (s : State) (x : Stop) (place : Place) (a : Term) → IsAtState p c w s
    → IsStop c.clock (whole_of c s) x → x ≡ stop.Odd place a → ⊥
odd_at p written c w s x place a h to e =
    never_odd p written c (whole_of c s) place a
    (stands_come p c s.place (term_at s.«at») (whole_of c s) h.stands refl)
    (subst (IsStop c.clock (whole_of c s)) e to)
