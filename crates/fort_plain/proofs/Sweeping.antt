-- A sweep through the threads of a term.
use Rattle.std.proofs.Common.{◌≡◌, ℕ, true, false, List, [], ◌∷◌, refl, ap, sym, ◌∙◌, subst, ◌⊎◌, inl, inr}
use Rattle.fort_core.specs.declared.form.Mode.TheVariants as mode
use Rattle.fort_core.specs.declared.term.Term.{Term}
use Rattle.fort_machine.specs.Effects.{Store}
use Rattle.fort_machine.specs.Ends.{Finished}
use Rattle.fort_machine.specs.Ends as ends
use Rattle.fort_machine.specs.Frames.{Frame, plug, on, road, passes, passed}
use Rattle.fort_machine.specs.Parts.{IsOneOf}
use Rattle.fort_machine.specs.Attempts.{slept, Ready, Sleeps, Awake}
use Rattle.fort_machine.proofs.Standing.{not_finished, or_false}
use Rattle.fort_machine.proofs.Places.{plug_open, ready_open}
use Rattle.fort_machine.proofs.Ready.{form_ready}
use Rattle.fort_frames.specs.Frames.{frames, outward, rebuilt, Reaches}
use Rattle.fort_frames.specs.States.{Stands, term_at}
use Rattle.fort_frames.specs.declared.frame.Frame as code
use Rattle.fort_frames.specs.declared.frame.Frame.TheVariants as frame
use Rattle.fort_frames.specs.declared.place.Place.{Place}
use Rattle.fort_frames.specs.declared.state.At.{At}
use Rattle.fort_frames.specs.declared.state.At.TheVariants as at
use Rattle.fort_frames.specs.declared.state.State.{State}
use Rattle.fort_frames.proofs.Same.{same_term, not_passed}
use Rattle.fort_walk_law_course.specs.Picks.{NoneAwake}
use Rattle.fort_frames_moves.specs.Sweeps.{AllMet, IsMet, SweptAt, Swept, IsLeft, SweptTo, MissesNone}
use Rattle.fort_frames_moves.specs.Turns.{IsAt, IsStep, IsTry, IsGathered, ready_term}
use Rattle.fort_frames_moves.specs.declared.turn.Ready as ready
use Rattle.fort_frames_moves.specs.declared.turn.Stop.TheVariants as stop
use Rattle.fort_plain.specs.Paths.{IsNoForm, whole}
use Rattle.fort_plain.proofs.Tries.{made_is_not_tried}

more_met : (met : List Term) (a t : Term) → AllMet met t → AllMet (a ∷ met) t
more_met met a t h = record { all = λ fs b e p r. inr (h.all fs b e p r) }

more_at : (met : List Term) (a : Term) (ts : List Term) (i : ℕ) → IsMet met ts i
    → IsMet (a ∷ met) ts i
more_at met a ts i (inl h) = inl h
more_at met a ts i (inr h) = inr (λ t q. more_met met a t (h t q))

swept_at_more : (met : List Term) (a : Term) (f : code.Frame) → SweptAt met f → SweptAt (a ∷ met) f
swept_at_more met a (frame.Node n) h =
    (record { each = λ i low. more_at met a n.parts i (h.0.each i low) }, h.1)
swept_at_more met a _ h = tt

swept_more : (met : List Term) (a : Term) (fs : List code.Frame) → Swept met fs → Swept (a ∷ met) fs
swept_more met a [] h = tt
swept_more met a (f ∷ fs) h = (swept_at_more met a f h.0, swept_more met a fs h.1)

no_inner : (a : Term) (f : Frame) (gs : List Frame) (b : Term) → Ready a → a ≡ on f (plug gs b)
    → passes f (plug gs b) ≡ false → Ready b → ⊥
no_inner a f gs b r e n rb = go (r.no_part f (plug gs b) e)
  where
    go : Finished (plug gs b) ⊎ (passes f (plug gs b) ≡ true) → ⊥
    go (inl h) = not_finished (plug gs b) (plug_open gs b (ready_open b rb)) h
    go (inr h) = let z : true ≡ false = sym h ∙ n in cc

thread_met : (met : List Term) (a : Term) → Ready a → (fs : List Frame) (b : Term) → a ≡ plug fs b
    → passed fs b ≡ false → Ready b → IsOneOf b (a ∷ met)
thread_met met a r [] b e p rb = inl (sym e)
thread_met met a r (f ∷ gs) b e p rb =
    absurd (no_inner a f gs b r e (or_false (passes f (plug gs b)) (passed gs b) p).0 rb)

-- so far all threads sleep
pub record SleepsSoFar (store : Store) (clock : ℕ) (t : Term) (s : State) : Type 0 where
  pub stands : Stands clock t s
  pub met : List Term
  pub swept : SweptTo met s
  pub asleep : (a : Term) → IsOneOf a met → Sleeps store a

pub from_left : (store : Store) (clock : ℕ) (t : Term) (place : Place) → frames place.stack ≡ []
    → SleepsSoFar store clock t (record { place = place; «at» = at.Form t })
from_left store clock t place e = record {
  stands = record {
    is_term = ap (λ fs. rebuilt clock fs t) e;
    reached = subst (λ fs. Reaches clock fs t) (sym e) tt;
  };
  met = [];
  swept = record { swept = subst (λ fs. Swept [] fs) (sym e) tt; is_left = tt };
  asleep = λ a k. absurd k;
}

pub again_from_left : (store : Store) (clock : ℕ) (t form : Term) (s : State) (a : At)
    (place : Place) → SleepsSoFar store clock t s → frames place.stack ≡ []
    → term_at a ≡ whole clock s → term_at a ≡ form
    → SleepsSoFar store clock t (record { place = place; «at» = at.Form form })
again_from_left store clock t form s a place h e k q =
    let same : form ≡ t = sym q ∙ k ∙ h.stands.is_term in
    subst (λ x. SleepsSoFar store clock t (record { place = place; «at» = at.Form x })) (sym same)
    (from_left store clock t place e)

pub past_sleeper : (store : Store) (clock : ℕ) (t a : Term) (s : State) (place : Place)
    → SleepsSoFar store clock t s → IsTry clock (whole clock s) place a
    → MissesNone s (stop.Tries place a) → Sleeps store a
    → SleepsSoFar store clock t (record { place = place; «at» = at.Left a })
past_sleeper store clock t a s place h y m sleeps = record {
  stands = record { is_term = y.is_at.is_term ∙ h.stands.is_term; reached = y.is_at.reached };
  met = a ∷ h.met;
  swept = record {
    swept = swept_more h.met a (frames place.stack) (m.keeps h.met h.swept);
    is_left =
        (let r = form_ready a y.mode y.body y.is_form
        in record {
          is_open = ready_open a r;
          all_met = record { all = thread_met h.met a r };
        });
  };
  asleep = λ b k. one_of b k;
}
  where
    one_of : (b : Term) → IsOneOf b (a ∷ h.met) → Sleeps store b
    one_of b (inl e) = subst (Sleeps store) (sym e) sleeps
    one_of b (inr q) = h.asleep b q

pub past_group : (store : Store) (clock : ℕ) (t a : Term) (ts : List Term) (s : State)
    (place : Place) → SleepsSoFar store clock t s → IsGathered clock (whole clock s) place ts
    → MissesNone s (stop.Groups place ts) → a ≡ ends.group ts
    → SleepsSoFar store clock t (record { place = place; «at» = at.Form a })
past_group store clock t a ts s place h y m e = record {
  stands = record {
    is_term =
        ap (rebuilt clock (frames place.stack)) e ∙ y.is_at.is_term ∙ h.stands.is_term;
    reached = subst (Reaches clock (frames place.stack)) (sym e) y.is_at.reached;
  };
  met = h.met;
  swept = record { swept = m.keeps h.met h.swept; is_left = tt };
  asleep = h.asleep;
}

awake_at : (store : Store) (clock : ℕ) (t u a : Term) (place : Place) → u ≡ t → IsAt clock u place a
    → Ready a → (Sleeps store a → ⊥) → (path : List ℕ) × Awake store t path
awake_at store clock t u a place e h r n = (
  road (outward clock (frames place.stack)),
  record {
    frames = outward clock (frames place.stack);
    part = a;
    is_term = sym e ∙ sym h.is_term ∙ same_term clock (frames place.stack) a;
    is_path = refl;
    ready = r;
    reached = not_passed clock (frames place.stack) a h.reached;
    sleepless = n;
  },
)

pub thread_awake : (store : Store) (clock : ℕ) (t : Term) (s : State) (place : Place)
    (r : ready.Ready) → SleepsSoFar store clock t s → IsStep clock (whole clock s) place r
    → (path : List ℕ) × Awake store t path
thread_awake store clock t s place r h y =
    awake_at store clock t (whole clock s) (ready_term r) place h.stands.is_term y.thread.is_at
    y.thread.ready
    (λ k. made_is_not_tried r mode.Atomic k.body y.made (slept k.marks refl k.is_asleep))

pub form_awake : (store : Store) (clock : ℕ) (t a : Term) (s : State) (place : Place)
    → SleepsSoFar store clock t s → IsTry clock (whole clock s) place a → (Sleeps store a → ⊥)
    → (path : List ℕ) × Awake store t path
form_awake store clock t a s place h y n =
    awake_at store clock t (whole clock s) a place h.stands.is_term y.is_at
    (form_ready a y.mode y.body y.is_form) n

finished_asleep : (store : Store) (t u : Term) → Finished u → u ≡ t → NoneAwake store t
finished_asleep store t u f e path aw =
    not_finished u (ap ends.standing (e ∙ aw.is_term)
    ∙ plug_open aw.frames aw.part (ready_open aw.part aw.ready)) f

left_asleep : (store : Store) (met : List Term) (t u : Term) → IsLeft met u
    → ((a : Term) → IsOneOf a met → Sleeps store a) → u ≡ t → NoneAwake store t
left_asleep store met t u l h e path aw =
    aw.sleepless (h aw.part (l.all_met.all aw.frames aw.part (e ∙ aw.is_term) aw.reached aw.ready))

pub all_asleep : (store : Store) (clock : ℕ) (t : Term) (s : State) (a : At)
    → SleepsSoFar store clock t s → term_at a ≡ whole clock s → MissesNone s (stop.Ends a)
    → IsNoForm a → NoneAwake store t
all_asleep store clock t s (at.Value v) h e m n =
    finished_asleep store t (term_at (at.Value v)) (ends.Finished.value v refl) (e
    ∙ h.stands.is_term)
all_asleep store clock t s (at.Throw v) h e m n =
    finished_asleep store t (term_at (at.Throw v)) (ends.Finished.throw v refl) (e
    ∙ h.stands.is_term)
all_asleep store clock t s (at.Form x) h e m n = absurd n
all_asleep store clock t s (at.Left x) h e m n =
    left_asleep store h.met t x (m.keeps h.met h.swept) h.asleep (e ∙ h.stands.is_term)
