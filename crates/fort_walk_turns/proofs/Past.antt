-- Past a thread that doesn't go on now, and on to the next turn.
use Rattle.std.proofs.Common.{◌≡◌, ℕ, Bool, true, false, List, Some, None, refl, sym, ◌∙◌, subst, rules}
use Rattle.fort_core.specs.declared.program.Program.{Program}
use Rattle.fort_core.specs.declared.term.Term.{Term}
use Rattle.fort_core.specs.declared.value.Value.{Value}
use Rattle.fort_machine.specs.Cells.{found, Fits}
use Rattle.fort_machine.specs.Effects.{Store, Effect, FitsAll, writing, only_at}
use Rattle.fort_machine.specs.Acts as acts
use Rattle.fort_machine.specs.Acts.{single}
use Rattle.fort_machine.specs.Steps.{Does}
use Rattle.fort_machine.specs.Attempts.{Sleeps}
use Rattle.fort_machine.proofs.Single.{reads_what_is_there}
use Rattle.fort_frames.specs.Frames.{frames, rebuilt}
use Rattle.fort_frames.specs.declared.place.Place.{Place}
use Rattle.fort_frames.specs.declared.state.At.TheVariants as at
use Rattle.fort_store_effects.specs.Levels.{levels_of, seen}
use Rattle.fort_walk_law_course.specs.Course.{is_inner}
use Rattle.fort_frames_moves.specs.Sweeps.{SweptTo}
use Rattle.fort_frames_moves.specs.Turns.{IsMade, ready_term}
use Rattle.fort_frames_moves.specs.declared.turn.Ready as code
use Rattle.fort_walk_course.specs.declared.course.Course.{Course}
use Rattle.fort_walk_course.specs.Courses.{StandsAt, around}
use Rattle.fort_walk_turns.specs.declared.sweep.Sweep.{Sweep}
use Rattle.fort_walk_turns.specs.Idles.{HasNoStep, IsAtForm, IsAtPlace, IsAtThread, IsAtLeft}
use Rattle.fort_step_acting.specs.Only.{OnlyDoes}
use Rattle.fort_step_acting.proofs.Acted.{does_this, ends_only}
use Rattle.fort_walk_turns.proofs.Idle.{past_sleeper, past_stuck}
use Rattle.fort_walk_turns.proofs.Tries.{made_is_not_tried}

pub stuck_left : (p : Program) (c : Course) (w v : Sweep) (place : Place) (a b : Term)
    → IsAtThread p c w place a → HasNoStep p (is_inner (around c)) (seen (levels_of c.layers)) a
    → v.wakes ≡ w.wakes → v.stuck ≡ true → v.idle ≡ w.idle
    → b ≡ a → IsAtLeft p c v place b
stuck_left p c w v place a b t none ew es ei same =
    subst (IsAtLeft p c v place) (sym same) (record {
      stands = t.0.stands;
      idles = λ e. let i = t.0.idles (sym ei ∙ e) in
          past_stuck p (is_inner (around c)) (seen (levels_of c.layers)) w v c.clock
          (rebuilt c.clock (frames place.stack) a) a i.met place i.swept i.idle t.1
          t.0.stands.course.reached refl none ew es;
      asleep = λ e. t.0.asleep (sym ew ∙ e);
    })

pub sleeper_left : (p : Program) (c : Course) (w v : Sweep) (place : Place) (a : Term)
    → IsAtThread p c w place a → w.wakes ≡ false → Sleeps (seen (levels_of c.layers)) a
    → v.wakes ≡ w.wakes → v.stuck ≡ w.stuck → v.idle ≡ w.idle
    → IsAtLeft p c v place a
sleeper_left p c w v place a t wakes sleeps ew es ei = record {
  stands = t.0.stands;
  idles = λ e. let i = t.0.idles (sym ei ∙ e) in
      past_sleeper p (is_inner (around c)) (seen (levels_of c.layers)) w v
      (rebuilt c.clock (frames place.stack) a) a i.met place i.swept i.idle i.awake t.1 wakes
      sleeps ew es;
  asleep = λ e. t.0.asleep (sym ew ∙ e);
}

-- a thread whose turn is over, after picks
pub over_left : (p : Program) (c : Course) (w v : Sweep) (place : Place) (a b : Term)
    → IsAtThread p c w place a → w.idle ≡ false → v.wakes ≡ w.wakes → v.idle ≡ w.idle → b ≡ a
    → IsAtLeft p c v place b
over_left p c w v place a b t busy ew ei same = subst (IsAtLeft p c v place) (sym same) (record {
  stands = t.0.stands;
  idles = λ e. let z : true ≡ false = sym e ∙ ei ∙ busy in absurd cc;
  asleep = λ e. t.0.asleep (sym ew ∙ e);
})

-- ---- what has no step

none_of : (p : Program) (inner : Bool) (s : Store) (r : code.Ready) (x : acts.Act) → IsMade r
    → OnlyDoes p (ready_term r) x
    → ((loc : ℕ) (b : Term) (d : Effect) → Does p inner loc x b d → FitsAll d s → ⊥)
    → (inner ≡ true → acts.ends ≡ x → ⊥)
    → HasNoStep p inner s (ready_term r)
none_of p inner s r x made o none_fits end = record {
  no_step = λ loc b d l f. none_fits loc b d (does_this p inner loc (ready_term r) b x d o l) f;
  no_abort = λ i h. end i (ends_only p (ready_term r) x o h);
  no_attempt = λ m body f. made_is_not_tried r m body made f;
}

pub stuck_none : (p : Program) (inner : Bool) (s : Store) (r : code.Ready) → IsMade r
    → OnlyDoes p (ready_term r) acts.stuck → HasNoStep p inner s (ready_term r)
stuck_none p inner s r made o =
    none_of p inner s r acts.stuck made o (λ loc b d k f. k) (λ i e. let z = e in cc)

pub asks_none : (p : Program) (inner : Bool) (s : Store) (r : code.Ready) (l : ℕ)
    (next : Value → Term) → IsMade r → OnlyDoes p (ready_term r) (acts.asks l next) → s l ≡ None
    → HasNoStep p inner s (ready_term r)
asks_none p inner s r l next made o none =
    none_of p inner s r (acts.asks l next) made o
    (λ loc b d k f. let q : Some k.0 ≡ None =
    sym (reads_what_is_there l k.0 s (subst (λ e. FitsAll e s) k.3 f)) ∙ none
    in absurd cc) (λ i e. let z = e in cc)

here : (l : ℕ) (v : Value) → only_at l (found None (Some v)) l ≡ found None (Some v)
here l v = search rules

writes_there : (l : ℕ) (v : Value) (s : Store) → FitsAll (writing l v) s → s l ≡ None → ⊥
writes_there l v s f none =
    subst (Fits (found None (Some v))) none (subst (λ c. Fits c (s l)) (here l v) (f l))

pub sets_none : (p : Program) (inner : Bool) (s : Store) (r : code.Ready) (l : ℕ) (v : Value)
    → IsMade r → OnlyDoes p (ready_term r) (acts.sets l v) → s l ≡ None
    → HasNoStep p inner s (ready_term r)
sets_none p inner s r l v made o none =
    none_of p inner s r (acts.sets l v) made o
    (λ loc b d k f. writes_there l v s (subst (λ e. FitsAll e s) k.2 f) none) (λ i e. let z = e
    in cc)

pub ends_none : (p : Program) (inner : Bool) (s : Store) (r : code.Ready) → IsMade r
    → OnlyDoes p (ready_term r) acts.ends → inner ≡ false → single p p.built_in.abort_outside ≡ None
    → HasNoStep p inner s (ready_term r)
ends_none p inner s r made o root none =
    none_of p inner s r acts.ends made o (λ loc b d k f. let q : Some k.0 ≡ None = sym k.3 ∙ none
    in absurd cc) (λ i e. let z : true ≡ false = sym i ∙ root in absurd cc)

-- ---- on to the next turn

-- after a pick
pub picked_form : (p : Program) (c : Course) (w : Sweep) (place : Place) (a : Term)
    (before : List Term → Type 0) → StandsAt p c place a → w.idle ≡ false → w.wakes ≡ false
    → IsAtForm p c w place a before
picked_form p c w place a before s busy awake = record {
  stands = s;
  idles = λ e. let z : true ≡ false = sym e ∙ busy in absurd cc;
  asleep = λ e. let z : true ≡ false = sym e ∙ awake in absurd cc;
}

-- a form at the same place, gone into
pub form_entered : (p : Program) (c : Course) (w : Sweep) (place : Place) (a : Term)
    → IsAtPlace p c w place a
    → IsAtForm p c w place a (λ met. SweptTo met (record { place = place; «at» = at.Form a }))
form_entered p c w place a h = record {
  stands = h.stands;
  idles = λ e. let i = h.idles e
      in record {
        met = i.met;
        swept = record { swept = i.swept; is_left = tt };
        idle = i.idle;
        awake = i.awake;
      };
  asleep = h.asleep;
}
