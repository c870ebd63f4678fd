-- Where a sweep met no thread that goes on nobody may go on.
use Rattle.std.proofs.Common.{◌≡◌, ℕ, Bool, true, false, ◌||◌, List, [], ◌∷◌, refl, ap, sym, ◌∙◌, subst, ◌⊎◌, inl, inr}
use Rattle.fort_core.specs.declared.form.Mode.TheVariants as mode
use Rattle.fort_core.specs.declared.program.Program.{Program}
use Rattle.fort_core.specs.declared.term.Term.{Term, Asleep, out-Term}
use Rattle.fort_core.specs.declared.term.Term as term
use Rattle.fort_core.specs.declared.term.Term.TheVariants.{outs-Asleep}
use Rattle.fort_core.specs.declared.value.Value.{Value}
use Rattle.fort_machine.specs.Effects.{Store, Effect}
use Rattle.fort_machine.specs.Ends.{open_yet, standing, at_value, Finished, throw_of}
use Rattle.fort_machine.specs.Ends as ends
use Rattle.fort_machine.specs.Frames.{Frame, plug, on, road, passes, passed}
use Rattle.fort_machine.specs.Acts.{Act, stuck, calls, unit}
use Rattle.fort_machine.specs.Acts as acts
use Rattle.fort_machine.specs.Forms.{act, act_at}
use Rattle.fort_machine.specs.Parts.{IsOneOf}
use Rattle.fort_machine.specs.Steps.{Acts, by_itself, by_call, Local, steps}
use Rattle.fort_machine.specs.Attempts.{slept, Ready, Sleeps, Awake}
use Rattle.fort_machine.proofs.Standing.{not_finished, or_false}
use Rattle.fort_machine.proofs.Places.{plug_open, ready_open, one_place}
use Rattle.fort_machine.proofs.Ready.{local_ready, stop_ready, form_ready, does_not_stuck}
use Rattle.fort_frames.specs.Frames.{frames, outward, rebuilt, Reaches}
use Rattle.fort_frames.specs.declared.frame.Frame as code
use Rattle.fort_frames.specs.declared.frame.Frame.TheVariants as frame
use Rattle.fort_frames.specs.declared.place.Place.{Place}
use Rattle.fort_frames.specs.declared.state.At.TheVariants as at
use Rattle.fort_frames.proofs.Same.{same_term, not_passed}
use Rattle.fort_frames_moves.specs.Sweeps.{AllMet, IsMet, SweptAt, Swept, IsLeft, SweptTo}
use Rattle.fort_walk_turns.specs.declared.sweep.Sweep.{Sweep}
use Rattle.fort_walk_turns.specs.Stops.{MayGo, steps_on, aborts_here, tries, NobodyMayGo, IsAtEnd}
use Rattle.fort_walk_turns.specs.Idles.{HasNoStep, IsIdle, Idles}

-- one form more among those that were met
more_met : (met : List Term) (a t : Term) → AllMet met t → AllMet (a ∷ met) t
more_met met a t h = record { all = λ fs b e p r. inr (h.all fs b e p r) }

more_at : (met : List Term) (a : Term) (ts : List Term) (i : ℕ) → IsMet met ts i
    → IsMet (a ∷ met) ts i
more_at met a ts i (inl h) = inl h
more_at met a ts i (inr h) = inr (λ t q. more_met met a t (h t q))

swept_at_more : (met : List Term) (a : Term) (f : code.Frame) → SweptAt met f → SweptAt (a ∷ met) f
swept_at_more met a (frame.Node n) h =
    (record { each = λ i low. more_at met a n.parts i (h.0.each i low) }, h.1)
swept_at_more met a _ h = tt

swept_more : (met : List Term) (a : Term) (fs : List code.Frame) → Swept met fs → Swept (a ∷ met) fs
swept_more met a [] h = tt
swept_more met a (f ∷ fs) h = (swept_at_more met a f h.0, swept_more met a fs h.1)

-- a thread has no other thread in it
no_inner : (a : Term) (f : Frame) (gs : List Frame) (b : Term) → Ready a → a ≡ on f (plug gs b)
    → passes f (plug gs b) ≡ false → Ready b → ⊥
no_inner a f gs b r e n rb = go (r.no_part f (plug gs b) e)
  where
    go : Finished (plug gs b) ⊎ (passes f (plug gs b) ≡ true) → ⊥
    go (inl h) = not_finished (plug gs b) (plug_open gs b (ready_open b rb)) h
    go (inr h) = let z : true ≡ false = sym h ∙ n in cc

thread_met : (met : List Term) (a : Term) → Ready a → (fs : List Frame) (b : Term) → a ≡ plug fs b
    → passed fs b ≡ false → Ready b → IsOneOf b (a ∷ met)
thread_met met a r [] b e p rb = inl (sym e)
thread_met met a r (f ∷ gs) b e p rb =
    absurd (no_inner a f gs b r e (or_false (passes f (plug gs b)) (passed gs b) p).0 rb)

pub thread_left : (met : List Term) (a : Term) → Ready a → IsLeft (a ∷ met) a
thread_left met a r =
    record { is_open = ready_open a r; all_met = record { all = thread_met met a r } }

-- past a thread that doesn't go on
flags_on : (p : Program) (inner : Bool) (store : Store) (s t : Sweep) (a : Term) → t.wakes ≡ s.wakes
    → (s.stuck ≡ true → t.stuck ≡ true) → IsIdle p inner store s a → IsIdle p inner store t a
flags_on p inner store s t a w k (inl h) = inl (w ∙ h.0, h.1)
flags_on p inner store s t a w k (inr h) = inr (k h.0, h.1)

idle_more : (p : Program) (inner : Bool) (store : Store) (s t : Sweep) (met : List Term) (a : Term)
    → t.wakes ≡ s.wakes → (s.stuck ≡ true → t.stuck ≡ true)
    → ((b : Term) → IsOneOf b met → IsIdle p inner store s b) → IsIdle p inner store t a
    → (b : Term) → IsOneOf b (a ∷ met) → IsIdle p inner store t b
idle_more p inner store s t met a w k h i b (inl e) = subst (IsIdle p inner store t) (sym e) i
idle_more p inner store s t met a w k h i b (inr q) = flags_on p inner store s t b w k (h b q)

pub past_sleeper : (p : Program) (inner : Bool) (store : Store) (s t : Sweep) (whole a : Term)
    (met : List Term) (place : Place) → Swept met (frames place.stack)
    → ((b : Term) → IsOneOf b met → IsIdle p inner store s b)
    → (s.stuck ≡ true → (path : List ℕ) × Awake store whole path) → Ready a → s.wakes ≡ false
    → Sleeps store a → t.wakes ≡ s.wakes → t.stuck ≡ s.stuck
    → Idles p inner store t whole (λ xs. SweptTo xs (record { place = place; «at» = at.Left a }))
past_sleeper p inner store s t whole a met place swept idle awake r w sleeps tw ts = record {
  met = a ∷ met;
  swept = record {
    swept = swept_more met a (frames place.stack) swept;
    is_left = thread_left met a r;
  };
  idle = idle_more p inner store s t met a tw (λ e. ts ∙ e) idle (inl (tw ∙ w, sleeps));
  awake = λ e. awake (sym ts ∙ e);
}

awake_here : (p : Program) (inner : Bool) (store : Store) (clock : ℕ) (place : Place)
    (whole a : Term) → Ready a → Reaches clock (frames place.stack) a
    → rebuilt clock (frames place.stack) a ≡ whole → HasNoStep p inner store a
    → (path : List ℕ) × Awake store whole path
awake_here p inner store clock place whole a r reached e none = (
  road (outward clock (frames place.stack)),
  record {
    frames = outward clock (frames place.stack);
    part = a;
    is_term = sym e ∙ same_term clock (frames place.stack) a;
    is_path = refl;
    ready = r;
    reached = not_passed clock (frames place.stack) a reached;
    sleepless = λ h. none.no_attempt mode.Atomic h.body (slept h.marks refl h.is_asleep);
  },
)

pub past_stuck : (p : Program) (inner : Bool) (store : Store) (s t : Sweep) (clock : ℕ)
    (whole a : Term) (met : List Term) (place : Place) → Swept met (frames place.stack)
    → ((b : Term) → IsOneOf b met → IsIdle p inner store s b)
    → Ready a → Reaches clock (frames place.stack) a → rebuilt clock (frames place.stack) a ≡ whole
    → HasNoStep p inner store a → t.wakes ≡ s.wakes → t.stuck ≡ true
    → Idles p inner store t whole (λ xs. SweptTo xs (record { place = place; «at» = at.Left a }))
past_stuck p inner store s t clock whole a met place swept idle r reached e none tw ts = record {
  met = a ∷ met;
  swept = record {
    swept = swept_more met a (frames place.stack) swept;
    is_left = thread_left met a r;
  };
  idle = idle_more p inner store s t met a tw (λ x. ts) idle (inr (ts, none));
  awake = λ x. awake_here p inner store clock place whole a r reached e none;
}

-- moves miss none
pub idles_on : (p : Program) (inner : Bool) (store : Store) (s : Sweep) (whole other : Term)
    (A B : List Term → Type 0) → ((met : List Term) → A met → B met) → whole ≡ other
    → Idles p inner store s whole A → Idles p inner store s other B
idles_on p inner store s whole other A B f e h =
    record {
      met = h.met;
      swept = f h.met h.swept;
      idle = h.idle;
      awake = subst (λ w. s.stuck ≡ true
          → (path : List ℕ) × Awake store w path) e h.awake;
    }

-- a form that sleeps has no step
asleep_stuck : (p : Program) (s : Store) (a : Term) → Sleeps s a → act p a ≡ stuck
asleep_stuck p s a h = ap (act_at p) (ap out-Term h.is_asleep ∙ outs-Asleep h.marks h.body)

asleep_acts : (p : Program) (a : Term) (x : Act) → act p a ≡ stuck → Acts p a x → x ≡ stuck
asleep_acts p a x e (by_itself q) = sym q ∙ e
asleep_acts p a x e (by_call q h k) = absurd cc

asleep_local : (p : Program) (inner : Bool) (loc : ℕ) (a b : Term) (d : Effect) → act p a ≡ stuck
    → Local p inner loc a b d → ⊥
asleep_local p inner loc a b d e (steps x h k) =
    does_not_stuck p inner loc x b d k (asleep_acts p a x e h)

-- nobody may go on
goes_ready : (p : Program) (inner : Bool) (s : Store) (t : Term) (fs : List Frame) (a : Term)
    → MayGo p inner s t fs a → Ready a
goes_ready p inner s t fs a (steps_on loc b d l f) = local_ready p inner loc a b d l
goes_ready p inner s t fs a (aborts_here i h) = stop_ready p a h
goes_ready p inner s t fs a (tries m body form bare may) = form_ready a m body form

or_right : (a b : Bool) → (a || b) ≡ true → b ≡ false → a ≡ true
or_right true b e q = refl
or_right false b e q = let z : true ≡ false = sym e ∙ q in cc

sleeper_stays : (p : Program) (inner : Bool) (store : Store) (t : Term) (fs : List Frame) (a : Term)
    → t ≡ plug fs a → Sleeps store a → (path : List ℕ) → Awake store t path
    → MayGo p inner store t fs a → ⊥
sleeper_stays p inner store t fs a e s path aw (steps_on loc b d l f) =
    asleep_local p inner loc a b d (asleep_stuck p store a s) l
sleeper_stays p inner store t fs a e s path aw (aborts_here i h) =
    let z : acts.ends ≡ stuck = asleep_acts p a acts.ends (asleep_stuck p store a s) h in cc
sleeper_stays p inner store t fs a e s path aw (tries k body form bare (inl n)) = n s
sleeper_stays p inner store t fs a e s path aw (tries k body form bare (inr all)) =
    let same =
    one_place aw.frames fs aw.part a (sym aw.is_term ∙ e) (sym aw.is_path
    ∙ all path aw) aw.ready (form_ready a k body form) in
    aw.sleepless (subst (Sleeps store) (sym same.1) s)

idle_stays : (p : Program) (inner : Bool) (store : Store) (sw : Sweep) (t : Term) (fs : List Frame)
    (a : Term) → t ≡ plug fs a → (sw.stuck ≡ true → (path : List ℕ) × Awake store t path)
    → (sw.stuck || sw.wakes) ≡ true
    → IsIdle p inner store sw a → MayGo p inner store t fs a → ⊥
idle_stays p inner store sw t fs a e awake over (inl h) g =
    let w = awake (or_right sw.stuck sw.wakes over h.0)
    in sleeper_stays p inner store t fs a e h.1 w.0 w.1 g
idle_stays p inner store sw t fs a e awake over (inr h) (steps_on loc b d l f) =
    h.1.no_step loc b d l f
idle_stays p inner store sw t fs a e awake over (inr h) (aborts_here i x) = h.1.no_abort i x
idle_stays p inner store sw t fs a e awake over (inr h) (tries k body form bare may) =
    h.1.no_attempt k body form

pub nobody_goes : (p : Program) (inner : Bool) (store : Store) (sw : Sweep) (met : List Term)
    (t : Term) → IsLeft met t → ((a : Term) → IsOneOf a met → IsIdle p inner store sw a)
    → (sw.stuck ≡ true → (path : List ℕ) × Awake store t path) → (sw.stuck || sw.wakes) ≡ true
    → NobodyMayGo p inner store t
nobody_goes p inner store sw met t left idle awake over fs a e n g =
    idle_stays p inner store sw t fs a e awake over
    (idle a (left.all_met.all fs a e n (goes_ready p inner store t fs a g))) g

pub open_no_end : (inner : Bool) (t : Term) → standing t ≡ open_yet → IsAtEnd inner t → ⊥
open_no_end true t o h = not_finished t o h
open_no_end false t o (inl e) = not_finished t o (ends.Finished.value unit e)
open_no_end false t o (inr h) = not_finished t o (ends.Finished.throw h.0 h.1)

-- a value has no thread
value_plug : (v : Value) (fs : List Frame) (a : Term) → term.Value v ≡ plug fs a → Ready a → ⊥
value_plug v fs a e r =
    let o : standing (plug fs a) ≡ open_yet = plug_open fs a (ready_open a r) in
    not_finished (plug fs a) o (ends.Finished.value v (sym e))

pub value_stays : (p : Program) (inner : Bool) (s : Store) (v : Value)
    → NobodyMayGo p inner s (term.Value v)
value_stays p inner s v fs a e n g =
    value_plug v fs a e (goes_ready p inner s (term.Value v) fs a g)
