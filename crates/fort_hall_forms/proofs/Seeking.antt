-- An atomic form is sought.
use Rattle.std.proofs.Common.{◌≡◌, List, [], ◌∷◌, None, refl, ap, sym, ◌∙◌, subst, inl, inr}
use Rattle.fort_core.specs.declared.form.Mode.{Mode}
use Rattle.fort_core.specs.declared.program.Program.{Program}
use Rattle.fort_core.specs.declared.term.Term.{Term}
use Rattle.fort_core.specs.declared.term.Term as term
use Rattle.fort_machine.specs.Attempts.{Form, Ready, Sleeps}
use Rattle.fort_machine.specs.Effects.{Store}
use Rattle.fort_machine.specs.Ends.{Finished, group, throw_of}
use Rattle.fort_machine.specs.Ends as ends
use Rattle.fort_machine.specs.Frames.{plug}
use Rattle.fort_machine.specs.Runs.{path_to}
use Rattle.fort_machine.specs.Written.{WrittenProgram}
use Rattle.fort_machine.proofs.Places.{plug_open, ready_open}
use Rattle.fort_machine.proofs.Ready.{form_ready}
use Rattle.fort_machine.proofs.Standing.{not_finished}
use Rattle.fort_frames.specs.Frames.{frames, outward, rebuilt, Reaches}
use Rattle.fort_frames.specs.States.{term_at}
use Rattle.fort_frames.specs.declared.place.Place.{Place}
use Rattle.fort_frames.specs.declared.state.At.{At}
use Rattle.fort_frames.specs.declared.state.At.TheVariants as at
use Rattle.fort_frames.specs.declared.state.State.{State}
use Rattle.fort_frames.proofs.Same.{not_passed, same_term, same_thread}
use Rattle.fort_frames_moves.specs.Sweeps.{IsLeftAt, MissesNone, Swept, SweptStop, SweptTo}
use Rattle.fort_frames_moves.specs.Turns.{IsAt, IsGathered, IsOdd, IsStep, IsStop, IsTry, ready_term}
use Rattle.fort_frames_moves.specs.declared.turn.Ready as code
use Rattle.fort_frames_moves.specs.declared.turn.Stop.{Stop}
use Rattle.fort_frames_moves.specs.declared.turn.Stop.TheVariants as stop
use Rattle.fort_hall_books.specs.Legs.{Watches}
use Rattle.fort_hall_forms.specs.Forms.{FormsSleep, HasFirstForm, IsFirstForm, IsPartOfRun, Sleepers}
use Rattle.fort_hall_forms.specs.Sought.{IsSought, whole}
use Rattle.fort_hall_forms.specs.declared.form.AtForm.{AtForm}
use Rattle.fort_hall_forms.proofs.Odd.{body_is_bare}
use Rattle.fort_hall_forms.proofs.Past.{swept_more, thread_left}

-- ---- from the left end

abbrev pub at_form : Place → Term → State
at_form place t = record { place = place; «at» = at.Form t }

pub begins : (s : Store) (place : Place) (t : Term) → frames place.stack ≡ []
    → IsSought s (at_form place t)
begins s place t e = record {
  reached = subst (λ fs. Reaches 0 fs t) (sym e) tt;
  left = record {
    met = [];
    swept = record { swept = subst (Swept []) (sym e) tt; is_left = tt };
    sleep = λ a h. absurd h;
  };
}

pub is_whole : (place : Place) (t : Term) → frames place.stack ≡ [] → whole (at_form place t) ≡ t
is_whole place t e = ap (λ fs. rebuilt 0 fs t) e

-- ---- on to a stop

-- who was met, by what is known of them elsewhere
sleepers_on : (s : Store) (A B : List Term → Type 0) → ((met : List Term) → A met → B met)
    → Sleepers s A → Sleepers s B
sleepers_on s A B f h = record { met = h.met; swept = f h.met h.swept; sleep = h.sleep }

-- what is known at a form
pub record IsHere (p : Program) (s : Store) (t : Term) (place : Place) (a : Term) : Type 0 where
  pub same : rebuilt 0 (frames place.stack) a ≡ t
  pub part : IsPartOfRun p (rebuilt 0 (frames place.stack) a)
  pub reached : Reaches 0 (frames place.stack) a
  pub left : Sleepers s (λ met. Swept met (frames place.stack))

here : (p : Program) (s : Store) (state : State) (place : Place) (a : Term)
    → IsPartOfRun p (whole state) → IsSought s state → IsAt 0 (whole state) place a
    → ((met : List Term) → SweptTo met state → Swept met (frames place.stack))
    → IsHere p s (whole state) place a
here p s state place a part h to keeps = record {
  same = to.is_term;
  part = subst (IsPartOfRun p) (sym to.is_term) part;
  reached = to.reached;
  left = sleepers_on s (λ met. SweptTo met state) (λ met. Swept met (frames place.stack)) keeps
      h.left;
}

-- the same of the same form, told otherwise
told : (p : Program) (s : Store) (t : Term) (place : Place) (a b : Term) → b ≡ a
    → IsHere p s t place a → IsHere p s t place b
told p s t place a b e h = subst (IsHere p s t place) (sym e) h

pub steps_here : (p : Program) (s : Store) (state : State) (m : Stop) (place : Place)
    (r : code.Ready) (a : Term) → IsPartOfRun p (whole state) → IsSought s state
    → IsStop 0 (whole state) m → MissesNone state m → m ≡ stop.Steps place r → a ≡ ready_term r
    → IsHere p s (whole state) place a × Ready a
steps_here p s state m place r a part h to misses e same =
    let k : IsStep 0 (whole state) place r = subst (IsStop 0 (whole state)) e to in (
      told p s (whole state) place (ready_term r) a same
          (here p s state place (ready_term r) part h k.thread.is_at
          (λ met i. subst (SweptStop met) e (misses.keeps met i))),
      subst Ready (sym same) k.thread.ready,
    )

pub tries_here : (p : Program) (s : Store) (state : State) (m : Stop) (place : Place) (a : Term)
    → IsPartOfRun p (whole state) → IsSought s state → IsStop 0 (whole state) m
    → MissesNone state m → m ≡ stop.Tries place a → IsHere p s (whole state) place a × Ready a
tries_here p s state m place a part h to misses e =
    let k : IsTry 0 (whole state) place a = subst (IsStop 0 (whole state)) e to in (
      here p s state place a part h k.is_at
          (λ met i. subst (SweptStop met) e (misses.keeps met i)),
      form_ready a k.mode k.body k.is_form,
    )

-- at a mark at an odd place
pub stopped : (state : State) (m : Stop) (place : Place) (a : Term) → IsStop 0 (whole state) m
    → m ≡ stop.Odd place a → IsOdd 0 (whole state) place a
stopped state m place a to e = subst (IsStop 0 (whole state)) e to

-- on into a tuple
pub gathered : (s : Store) (state : State) (m : Stop) (place : Place) (ts : List Term) (u : Term)
    → IsSought s state → IsStop 0 (whole state) m
    → MissesNone state m → m ≡ stop.Groups place ts → u ≡ group ts
    → IsSought s (at_form place u) × (whole (at_form place u) ≡ whole state)
gathered s state m place ts u h to misses e same =
    let k : IsGathered 0 (whole state) place ts = subst (IsStop 0 (whole state)) e to in (
      record {
        reached = subst (Reaches 0 (frames place.stack)) (sym same) k.is_at.reached;
        left = sleepers_on s (λ met. SweptTo met state) (λ met. SweptTo met (at_form place u))
            (λ met i. record {
              swept = subst (SweptStop met) e (misses.keeps met i);
              is_left = tt;
            }) h.left;
      },
      ap (rebuilt 0 (frames place.stack)) same ∙ k.is_at.is_term,
    )

-- ---- past a thread

more_asleep : (s : Store) (met : List Term) (a : Term) → FormsSleep s met
    → ((m : Mode) (body : Term) → Form a m body → Sleeps s a) → FormsSleep s (a ∷ met)
more_asleep s met a h k b (inl e) m body f =
    subst (Sleeps s) (sym e) (k m body (subst (λ t. Form t m body) e f))
more_asleep s met a h k b (inr q) m body f = h b q m body f

abbrev pub at_left : Place → Term → State
at_left place a = record { place = place; «at» = at.Left a }

pub goes_past : (s : Store) (place : Place) (a : Term) → Ready a → Reaches 0 (frames place.stack) a
    → Sleepers s (λ met. Swept met (frames place.stack))
    → ((m : Mode) (body : Term) → Form a m body → Sleeps s a) → IsSought s (at_left place a)
goes_past s place a ready reached left sleeps = record {
  reached = reached;
  left = record {
    met = a ∷ left.met;
    swept = record {
      swept = swept_more left.met a (frames place.stack) left.swept;
      is_left = thread_left left.met a ready;
    };
    sleep = more_asleep s left.met a left.sleep sleeps;
  };
}

-- ---- what is found

path_is : (place : Place) → place.path ≡ path_to (outward 0 (frames place.stack))
path_is place = λ i. record { 0 = (place.is_path ∙ same_thread 0 (frames place.stack)) i }

pub finds : (p : Program) (s : Store) (x : AtForm) → WrittenProgram p
    → IsPartOfRun p (rebuilt 0 (frames x.place.stack) x.form)
    → Reaches 0 (frames x.place.stack) x.form
    → Sleepers s (λ met. Swept met (frames x.place.stack)) → Form x.form x.mode x.body
    → Watches x.watched x.form → (Sleeps s x.form → ⊥)
    → IsFirstForm (rebuilt 0 (frames x.place.stack) x.form) s x
finds p s x w part reached left form watched awake =
    let fs = frames x.place.stack in
    let same = same_term 0 fs x.form in
    record {
      stands = record {
        is_term = same;
        reached = not_passed 0 fs x.form reached;
        is_path = path_is x.place;
        is_form = form;
        watched = watched;
        leads = reached;
      };
      bare = body_is_bare p w (rebuilt 0 fs x.form) (outward 0 fs) x.form x.mode x.body part same
          form;
      awake = awake;
      left = left;
    }

-- ---- out of the whole part

-- what is finished has no atomic form in it
none_in : (t : Term) (s : Store) → Finished t → HasFirstForm t s None
none_in t s h fs a m body e n f =
    absurd (not_finished (plug fs a) (plug_open fs a (ready_open a (form_ready a m body f)))
    (subst Finished e h))

pub ends_left : (t : Term) (s : Store) → Sleepers s (λ met. IsLeftAt met (at.Left t))
    → HasFirstForm t s None
ends_left t s h fs a m body e n f =
    h.sleep a (h.swept.all_met.all fs a e n (form_ready a m body f)) m body f

-- where nothing is to be gone into, no form was found
pub ends_at : (a : At) (s : Store) → Sleepers s (λ met. IsLeftAt met a)
    → ((t : Term) → a ≡ at.Form t → ⊥) → HasFirstForm (term_at a) s None
ends_at (at.Value v) s h n = none_in (term.Value v) s (ends.Finished.value v refl)
ends_at (at.Throw v) s h n = none_in (throw_of v) s (ends.Finished.throw v refl)
ends_at (at.Form t) s h n = absurd (n t refl)
ends_at (at.Left t) s h n = ends_left t s h

-- out of the whole part
pub ended : (s : Store) (state : State) (m : Stop) (a : At) → IsSought s state
    → IsStop 0 (whole state) m → MissesNone state m → m ≡ stop.Ends a
    → Sleepers s (λ met. IsLeftAt met a) × (term_at a ≡ whole state)
ended s state m a h to misses e = (
  sleepers_on s (λ met. SweptTo met state) (λ met. IsLeftAt met a)
      (λ met i. subst (SweptStop met) e (misses.keeps met i)) h.left,
  subst (IsStop 0 (whole state)) e to,
)
