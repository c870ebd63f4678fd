-- The way to a thread.
use Rattle.std.proofs.Common.{◌≡◌, ℕ, List, refl, ap, sym, ◌∙◌, subst, Result, IfOk}
use Rattle.std.proofs.lemmas.Result.{IfOk-weaker}
use Rattle.fort_base.specs.declared.refusal.Memory.{Memory}
use Rattle.fort_core.specs.declared.path.Path.{Path}
use Rattle.fort_core.specs.declared.term.Term.{Term}
use Rattle.fort_core.specs.declared.value.Value.{Value}
use Rattle.fort_machine.specs.Ends as ends
use Rattle.fort_machine.specs.Attempts.{Ready}
use Rattle.fort_frames.specs.Frames.{frames, rebuilt, Reaches}
use Rattle.fort_frames.specs.States.{Stands, term_at}
use Rattle.fort_frames.specs.declared.place.Place.{Place}
use Rattle.fort_frames.specs.declared.state.At.{At}
use Rattle.fort_frames.specs.declared.state.At.TheVariants as at
use Rattle.fort_frames.specs.declared.state.State.{State}
use Rattle.fort_frames_moves.specs.Turns.{IsAt, IsGathered, IsStep, IsTry, ready_term}
use Rattle.fort_frames_moves.specs.declared.turn.Ready as code
use Rattle.fort_machine.proofs.Ready.{form_ready}
use Rattle.fort_plain.specs.Paths.{NoThread, IsFound, IsSought}
use Rattle.fort_plain.specs.declared.find.Seek.{Seek}
use Rattle.fort_plain.specs.declared.find.Found.{Found}
use Rattle.fort_plain.proofs.Paths.{finished_none}

pub value_none : (a : At) (v : Value) (path : Path) → a ≡ at.Value v → NoThread (term_at a) path
value_none a v path e = finished_none (term_at a) path (ends.Finished.value v (ap term_at e))

pub throw_none : (a : At) (v : Value) (path : Path) → a ≡ at.Throw v → NoThread (term_at a) path
throw_none a v path e = finished_none (term_at a) path (ends.Finished.throw v (ap term_at e))

pub left_again : (a : At) (t : Term) (clock : ℕ) (s : State) → a ≡ at.Left t
    → ((c : ℕ) → Stands c t s) → Stands clock (term_at a) s
left_again a t clock s e h = subst (λ x. Stands clock x s) (sym (ap term_at e)) (h clock)

pub form_again : (a : At) (t : Term) (clock : ℕ) (s : State) → a ≡ at.Form t
    → ((c : ℕ) → Stands c t s) → Stands clock (term_at a) s
form_again a t clock s e h = subst (λ x. Stands clock x s) (sym (ap term_at e)) (h clock)

pub sought_on : (clock : ℕ) (t : Term) (place : Place) (a form : Term) (path : Path) (s : Seek)
    → IsAt clock t place a → form ≡ a
    → IsSought clock (rebuilt clock (frames place.stack) form) path s → IsSought clock t path s
sought_on clock t place a form path s h e k =
    subst (λ x. IsSought clock x path s) (ap (rebuilt clock (frames place.stack)) e ∙ h.is_term) k

pub reaches_on : (clock : ℕ) (t : Term) (place : Place) (a form : Term) → IsAt clock t place a
    → form ≡ a → Reaches clock (frames place.stack) form
reaches_on clock t place a form h e = subst (Reaches clock (frames place.stack)) (sym e) h.reached

pub ready_on : (a form : Term) → Ready a → form ≡ a → Ready form
ready_on a form r e = subst Ready (sym e) r

pub found_on : (clock : ℕ) (t u : Term) (path : Path) (f : Found) → u ≡ t → IsFound clock u path f
    → IsFound clock t path f
found_on clock t u path f e k = subst (λ x. IsFound clock x path f) e k

-- where a search from a thread comes to, it comes to from the whole term
pub own_step : (clock : ℕ) (t : Term) (place : Place) (r : code.Ready) → IsStep clock t place r
    → IsStep clock (rebuilt clock (frames place.stack) (ready_term r)) place r
own_step clock t place r h =
    record {
      thread =
          record {
            is_at = record { is_term = refl; reached = h.thread.is_at.reached };
            ready = h.thread.ready;
          };
      made = h.made;
    }

pub step_sought : (clock : ℕ) (t : Term) (place : Place) (r : code.Ready) (path : Path)
    (x : Result Seek Memory) → IsStep clock t place r
    → IfOk x (IsSought clock (rebuilt clock (frames place.stack) (ready_term r)) path)
    → IfOk x (IsSought clock t path)
step_sought clock t place r path x h k =
    subst (λ u. IfOk x (IsSought clock u path)) h.thread.is_at.is_term k

pub own_try : (clock : ℕ) (t a : Term) (place : Place) → IsTry clock t place a
    → IsTry clock (rebuilt clock (frames place.stack) a) place a
own_try clock t a place h =
    record {
      mode = h.mode;
      body = h.body;
      is_form = h.is_form;
      is_at = record { is_term = refl; reached = h.is_at.reached };
    }

pub try_sought : (clock : ℕ) (t a : Term) (place : Place) (path : Path) (x : Result Seek Memory)
    → IsTry clock t place a → IfOk x (IsSought clock (rebuilt clock (frames place.stack) a) path)
    → IfOk x (IsSought clock t path)
try_sought clock t a place path x h k =
    subst (λ u. IfOk x (IsSought clock u path)) h.is_at.is_term k

pub try_ready : (clock : ℕ) (t a : Term) (place : Place) → IsTry clock t place a → Ready a
try_ready clock t a place h = form_ready a h.mode h.body h.is_form

pub own_group : (clock : ℕ) (t : Term) (place : Place) (ts : List Term)
    → IsGathered clock t place ts
    → IsGathered clock (rebuilt clock (frames place.stack) (ends.group ts)) place ts
own_group clock t place ts h =
    record { is_at = record { is_term = refl; reached = h.is_at.reached }; over = h.over }

pub group_sought : (clock : ℕ) (t : Term) (place : Place) (ts : List Term) (path : Path)
    (x : Result Seek Memory) → IsGathered clock t place ts
    → IfOk x (λ s. (p : Path)
    → IsSought clock (rebuilt clock (frames place.stack) (ends.group ts)) p s)
    → IfOk x (IsSought clock t path)
group_sought clock t place ts path x h k =
    IfOk-weaker x (λ s. (p : Path)
    → IsSought clock (rebuilt clock (frames place.stack) (ends.group ts)) p s)
    (IsSought clock t path)
    (λ s q. subst (λ u. IsSought clock u path s) h.is_at.is_term (q path)) k

pub group_stands : (clock : ℕ) (t : Term) (place : Place) (ts : List Term) (a : Term)
    → IsGathered clock t place ts → a ≡ ends.group ts
    → Stands clock t (record { place = place; «at» = at.Form a })
group_stands clock t place ts a h e = record {
  is_term = ap (rebuilt clock (frames place.stack)) e ∙ h.is_at.is_term;
  reached = subst (Reaches clock (frames place.stack)) (sym e) h.is_at.reached;
}

pub form_sought : (clock : ℕ) (place : Place) (a form : Term) (path : Path) (x : Result Seek Memory)
    → form ≡ a → IfOk x (IsSought clock (rebuilt clock (frames place.stack) form) path)
    → IfOk x (IsSought clock (rebuilt clock (frames place.stack) a) path)
form_sought clock place a form path x e k =
    subst (λ u. IfOk x (IsSought clock (rebuilt clock (frames place.stack) u) path)) e k

pub ends_sought : (clock : ℕ) (t : Term) (a : At) (path : Path) (s : Seek) → term_at a ≡ t
    → ((k : ℕ) (p : Path) → IsSought k (term_at a) p s) → IsSought clock t path s
ends_sought clock t a path s e h = subst (λ x. IsSought clock x path s) e (h clock path)
