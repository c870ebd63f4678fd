-- Attempts that picks make: begun, or not legal, or past the fuel; and where a pick's thread isn't
-- what it says.
use Rattle.std.proofs.Common.{◌≡◌, ℕ, ◌+◌, ◌<◌, Bool, true, List, ◌∷◌, ap, sym, ◌∙◌, subst, arith, ◌⊎◌, inl, inr}
use Rattle.fort_core.specs.declared.form.Mode.{Mode}
use Rattle.fort_core.specs.declared.path.Path.{Path}
use Rattle.fort_core.specs.declared.pick.Pick.{Pick, Step, Attempt}
use Rattle.fort_core.specs.declared.program.Program.{Program}
use Rattle.fort_core.specs.declared.term.Term.{Term, out-Term}
use Rattle.fort_core.specs.declared.term.Term.TheVariants.{outs-Asleep, outs-Atomic}
use Rattle.fort_machine.specs.Effects.{Effect}
use Rattle.fort_machine.specs.Frames.{Frame}
use Rattle.fort_machine.specs.Acts.{Act, stuck, ends}
use Rattle.fort_machine.specs.Forms.{act, act_at}
use Rattle.fort_machine.specs.Steps.{Acts, by_itself, by_call, Local, steps}
use Rattle.fort_machine.specs.Attempts.{Form, fresh, slept, Ready, Sleeps, Awake, MayTry as MayTryThere, goes}
use Rattle.fort_machine.specs.Runs.{location}
use Rattle.fort_machine.specs.Written.{WrittenProgram}
use Rattle.fort_machine.proofs.Places.{one_place}
use Rattle.fort_machine.proofs.Ready.{form_ready, does_not_stuck}
use Rattle.fort_frames.specs.Frames.{frames, outward}
use Rattle.fort_frames.specs.States.{term_at}
use Rattle.fort_frames.specs.declared.place.Place.{Place}
use Rattle.fort_frames.specs.declared.state.State.{State}
use Rattle.fort_frames.proofs.Same.{same_term}
use Rattle.fort_store_effects.specs.Levels.{levels_of, seen}
use Rattle.fort_walk_law_course.specs.Picks.{NoneAwake}
use Rattle.fort_walk_law_course.specs.Course.{is_inner}
use Rattle.fort_walk_law_course.proofs.Keeps.{moves_keep}
use Rattle.fort_walk_law_course.proofs.Reaches.{bare_here}
use Rattle.fort_frames_moves.specs.Turns.{IsAt, IsStep, IsTry, ready_term}
use Rattle.fort_frames_moves.specs.declared.turn.Ready as code
use Rattle.fort_walk_course.specs.declared.course.Course.{Course}
use Rattle.fort_walk_course.specs.declared.course.Going.{Going}
use Rattle.fort_walk_course.specs.Courses.{HasCome, StandsAt, IsGoing, around}
use Rattle.fort_walk_course.specs.Calls.{MayTry}
use Rattle.fort_walk_course.specs.Picked.{PicksNothing, PicksAttempt}
use Rattle.fort_plain.specs.Legal.{AreLegal}
use Rattle.fort_plain.specs.Paths.{NoThread, whole}
use Rattle.fort_plain.specs.Takes.{NoPick, IsIllegal, Begins, Leaves, IsThreadAt, ActsOn, term_round}
use Rattle.fort_plain.specs.declared.act.Acted.{Acted}
use Rattle.fort_plain.specs.declared.act.Turn.{Turn}
use Rattle.fort_plain.proofs.Picked.{OwnStep, own, own_stop, own_step, own_attempt, no_step_there, no_attempt_there}
use Rattle.fort_plain.proofs.Tries.{made_is_not_tried}
use Rattle.fort_plain.proofs.Within.{path_is}

-- ---- attempts

pub sleeper_waits : (p : Program) (c : Course) (place : Place) (a : Term) (turn : Turn)
    (within : List Pick) (m : Mode) (body : Term) → StandsAt p c place a → Form a m body
    → Sleeps (seen (levels_of c.layers)) a
    → (path : List ℕ) × Awake (seen (levels_of c.layers)) (term_round c place a) path
    → IsIllegal p c (term_round c place a) turn (Attempt place.path within)
sleeper_waits p c place a turn within m body s f sleeps awake =
    record {
      never =
          λ fuel. record { none = λ ajar more behind d k b z. by_may (try_of ajar more d k) };
    }
  where
    gs : List Frame
    gs = outward c.clock (frames place.stack)

    try_of : (ajar : Bool) (more : List Pick) (d : Effect)
        → AreLegal p ajar (is_inner (around c)) (seen (levels_of c.layers))
        (Attempt place.path within ∷ more) (term_round c place a) d
        → MayTryThere true (seen (levels_of c.layers)) (term_round c place a)
        (outward c.clock (frames place.stack)) a
    try_of ajar more d k =
        (own_attempt p ajar (is_inner (around c)) (seen (levels_of c.layers))
        (outward c.clock (frames place.stack)) a (term_round c place a) place.path within
        more d (same_term c.clock (frames place.stack) a) (path_is c.clock place)
        (form_ready a m body f) k).3

    by_may : MayTryThere true (seen (levels_of c.layers)) (term_round c place a)
        (outward c.clock (frames place.stack)) a → ⊥
    by_may (inl n) = n sleeps
    by_may (inr all) =
        let aw = awake.1 in
        let same =
        one_place aw.frames (outward c.clock (frames place.stack)) aw.part a (sym aw.is_term
        ∙ same_term c.clock (frames place.stack) a) (sym aw.is_path
        ∙ all awake.0 aw) aw.ready (form_ready a m body f) in
        aw.sleepless (subst (Sleeps (seen (levels_of c.layers))) (sym same.1) sleeps)

pub attempt_passes : (p : Program) (c : Course) (place : Place) (a : Term) (turn : Turn)
    (within : List Pick) → StandsAt p c place a → Ready a → c.fuel < c.spent + 1
    → NoPick p c (term_round c place a) c.fuel turn (Attempt place.path within)
attempt_passes p c place a turn within s r over = record {
  none = λ ajar more behind d k b z.
      let i = own_attempt p ajar (is_inner (around c)) (seen (levels_of c.layers))
      (outward c.clock (frames place.stack)) a (term_round c place a) place.path within more d
      (same_term c.clock (frames place.stack) a) (path_is c.clock place) r k in
      let price = i.4 in omega (arith, over, price, z);
}

pub begins : (p : Program) (c : Course) (place : Place) (within : List Pick) (g : Going)
    → IsGoing p g → g.course.fuel ≡ c.fuel → PicksNothing c place g.course
    → Begins p c (Attempt place.path within) g
begins p c place within g s f k =
    record {
      going = s;
      fuel = f;
      picks = k.picks;
      waiting = k.waiting;
      outer = k.outer;
      before = k.before;
      within = within;
      is_pick = ap (λ (x : Place). Attempt x.path within) (sym k.is_place);
    }

pub may_try : (p : Program) (c : Course) (place : Place) (a : Term) (m : Mode) (body : Term)
    → WrittenProgram p → StandsAt p c place a → Form a m body
    → (Sleeps (seen (levels_of c.layers)) a → ⊥)
    ⊎ NoneAwake (seen (levels_of c.layers)) (term_round c place a)
    → MayTry p c place m body
may_try p c place a m body w s f may = record {
  form = a;
  stands = s;
  is_form = f;
  bare = (bare_here p w c.fuel (levels_of c.layers) c.picks (around c) c.clock c.fresh place a
      s.course).1 m body f;
  may = may;
}

-- ---- what stands at a path

pub stands_there : (p : Program) (c : Course) (s : State) (place : Place) (a : Term)
    → IsGoing p (record { course = c; state = s }) → IsAt c.clock (whole c.clock s) place a
    → StandsAt p c place a
stands_there p c s place a g h = record {
  course = moves_keep p c.fuel (levels_of c.layers) c.picks (around c) c.clock c.fresh s.place place
      (term_at s.«at») a g.course h.is_term h.reached;
  is_spent = g.is_spent;
}

pub thread_there : (p : Program) (c : Course) (s : State) (place : Place) (r : code.Ready)
    → IsGoing p (record { course = c; state = s }) → IsStep c.clock (whole c.clock s) place r
    → IsThreadAt p c place (ready_term r)
thread_there p c s place r g h =
    record {
      stands = stands_there p c s place (ready_term r) g h.thread.is_at;
      ready = h.thread.ready;
    }

pub acts_there : (p : Program) (c : Course) (t : Term) (place : Place) (a : Term) (path : Path)
    (turn : Turn) (loc : ℕ) (r : Acted) → IsAt c.clock t place a → place.path ≡ path
    → ActsOn p c (term_round c place a) turn (Step place.path (location loc)) r
    → ActsOn p c t turn (Step path (location loc)) r
acts_there p c t place a path turn loc r h e k =
    subst (λ x. ActsOn p c t turn (Step x (location loc)) r) e
    (subst (λ x. ActsOn p c x turn (Step place.path (location loc)) r) h.is_term k)

pub tries_there : (p : Program) (c : Course) (t : Term) (place : Place) (a : Term) (path : Path)
    (turn : Turn) (within : List Pick) (r : Acted) → IsAt c.clock t place a → place.path ≡ path
    → ActsOn p c (term_round c place a) turn (Attempt place.path within) r
    → ActsOn p c t turn (Attempt path within) r
tries_there p c t place a path turn within r h e k =
    subst (λ x. ActsOn p c t turn (Attempt x within) r) e
    (subst (λ x. ActsOn p c x turn (Attempt place.path within) r) h.is_term k)

pub nothing_steps : (p : Program) (c : Course) (t : Term) (path : Path) (turn : Turn) (loc : ℕ)
    → NoThread t path → IsIllegal p c t turn (Step path (location loc))
nothing_steps p c t path turn loc barred =
    record {
      never =
          λ fuel. record {
            none =
                λ ajar more behind d k b z. no_step_there p ajar (is_inner (around c))
                (seen (levels_of c.layers)) t path loc more d barred k;
          };
    }

pub nothing_tried : (p : Program) (c : Course) (t : Term) (path : Path) (turn : Turn)
    (within : List Pick) → NoThread t path → IsIllegal p c t turn (Attempt path within)
nothing_tried p c t path turn within barred =
    record {
      never =
          λ fuel. record {
            none =
                λ ajar more behind d k b z. no_attempt_there p ajar (is_inner (around c))
                (seen (levels_of c.layers)) t path within more d barred k;
          };
    }

-- an atomic form takes no step
form_stuck : (p : Program) (a : Term) (m : Mode) (body : Term) → Form a m body → act p a ≡ stuck
form_stuck p a m body (fresh e) = ap (act_at p) (ap out-Term e ∙ outs-Atomic m body)
form_stuck p a m body (slept ms q e) = ap (act_at p) (ap out-Term e ∙ outs-Asleep ms body)

stuck_acts : (p : Program) (a : Term) (x : Act) → act p a ≡ stuck → Acts p a x → x ≡ stuck
stuck_acts p a x e (by_itself q) = sym q ∙ e
stuck_acts p a x e (by_call q h k) = absurd cc

stuck_local : (p : Program) (inner : Bool) (loc : ℕ) (a b : Term) (d : Effect) → act p a ≡ stuck
    → Local p inner loc a b d → ⊥
stuck_local p inner loc a b d e (steps x h k) =
    does_not_stuck p inner loc x b d k (stuck_acts p a x e h)

pub form_no_step : (p : Program) (c : Course) (t : Term) (place : Place) (a : Term) (path : Path)
    (turn : Turn) (loc : ℕ) → IsTry c.clock t place a → place.path ≡ path
    → IsIllegal p c t turn (Step path (location loc))
form_no_step p c t place a path turn loc h e = record {
  never = λ fuel. record {
    none = λ ajar more behind d k b z.
        go more d
        (own_step p ajar (is_inner (around c)) (seen (levels_of c.layers))
        (outward c.clock (frames place.stack)) a t path loc more d (sym h.is_at.is_term
        ∙ same_term c.clock (frames place.stack) a) (sym e
        ∙ path_is c.clock place) (form_ready a h.mode h.body h.is_form) k);
  };
}
  where
    go : (more : List Pick) (d : Effect)
        → OwnStep p (is_inner (around c)) (seen (levels_of c.layers)) a loc more d → ⊥
    go more d (own b e2 l f m v) =
        stuck_local p (is_inner (around c)) loc a b e2 (form_stuck p a h.mode h.body h.is_form) l
    go more d (own_stop i q x y v) =
        let z : ends ≡ stuck = stuck_acts p a ends (form_stuck p a h.mode h.body h.is_form) x in cc

pub thread_not_tried : (p : Program) (c : Course) (t : Term) (place : Place) (r : code.Ready)
    (path : Path) (turn : Turn) (within : List Pick) → IsStep c.clock t place r → place.path ≡ path
    → IsIllegal p c t turn (Attempt path within)
thread_not_tried p c t place r path turn within h e = record {
  never = λ fuel. record {
    none = λ ajar more behind d k b z.
        let i = own_attempt p ajar (is_inner (around c)) (seen (levels_of c.layers))
        (outward c.clock (frames place.stack)) (ready_term r) t path within more d
        (sym h.thread.is_at.is_term
        ∙ same_term c.clock (frames place.stack) (ready_term r)) (sym e
        ∙ path_is c.clock place) h.thread.ready k in
        made_is_not_tried r i.0 i.1 h.made i.2;
  };
}

-- ---- the end of a machine's term

pub come_by : (p : Program) (c : Course) (s : State) (u : Term)
    → IsGoing p (record { course = c; state = s }) → whole c.clock s ≡ u → HasCome p c (goes u)
come_by p c s u g e =
    subst (λ x. HasCome p c (goes x)) e
    (record { comes = g.course.comes; nothing = g.course.nothing; is_spent = g.is_spent })

pub leaves : (p : Program) (c : Course) (g : Going) → IsGoing p g → g.course.fuel ≡ c.fuel
    → PicksAttempt c c.picks g.course → Leaves p c c.picks g
leaves p c g s f k = record { going = s; fuel = f; picked = k }
