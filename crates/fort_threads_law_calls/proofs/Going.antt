-- No pick of a call of `spawn'`, `wait`, `val` or `ready` ends its machine.
use Rattle.std.proofs.Common.{◌≡◌, ℕ, ◌+◌, Bool, true, false, List, [], ◌∷◌, pos, arith, ap, sym, ◌∙◌}
use Rattle.fort_base.specs.declared.ids.DeclId.{DeclId}
use Rattle.fort_base.specs.declared.ids.SetId.{SetId}
use Rattle.fort_base.specs.declared.ty.Ty.{Ty}
use Rattle.fort_base.specs.declared.ty.Ty.TheVariants.{Named}
use Rattle.fort_core.specs.declared.form.Mode.TheVariants as mode
use Rattle.fort_core.specs.declared.pick.Pick.{Pick}
use Rattle.fort_core.specs.declared.program.CoreDecl.{CoreDecl}
use Rattle.fort_core.specs.declared.program.Program.{Program}
use Rattle.fort_core.specs.declared.term.Term.{Term, Throw, Call, Operator, Then, If, Atomic}
use Rattle.fort_core.specs.declared.term.Term as term
use Rattle.fort_core.specs.declared.term.Term.TheVariants.{Variable, outs-ReadField, outs-If}
use Rattle.fort_core.specs.declared.term.Term.TheOpen.{Value-F}
use Rattle.fort_core.specs.declared.value.Value.{Value, Small, Truth}
use Rattle.fort_core.specs.declared.value.Value.TheVariants.{outs-Truth}
use Rattle.fort_machine.specs.Acts.{Act, asks, makes, enters, becomes, calls}
use Rattle.fort_machine.specs.Acts as acts
use Rattle.fort_machine.specs.Attempts.{Form, Ended}
use Rattle.fort_machine.specs.Calls.{Dispatches, by_body}
use Rattle.fort_machine.specs.Effects.{Store, Effect}
use Rattle.fort_machine.specs.Forms.{act_at, act, reading_at, choosing as chosen_by}
use Rattle.fort_machine.specs.Frames.{Frame, in_then, in_let, in_operand, in_test, in_subject, plug}
use Rattle.fort_machine.specs.Runs.{Runs}
use Rattle.fort_machine.proofs.Ready.{form_ready}
use Rattle.fort_threads.specs.Moves.{opening_fields}
use Rattle.fort_threads_law_servers.specs.Prelude.{Names, object_of, number, adding_it, adding, waiting, LeadsTo, HasPrelude}
use Rattle.fort_threads_law_servers.specs.Calls.{spawning, throwing, mark_at, kept_at, telling, comparing, Place, makes_it, has_it, adds, has_added, was_refused, waits, calls_wait, waits_in, has_waited, has_failed, reads_mark, compares, is_told, reads_thrown, has_thrown, reads_kept, asks_mark, compares_mark, has_come, place_term, IsPlace}
use Rattle.fort_threads_law_servers.proofs.Turns.{AllSerial, IsPlain, ready_by, ready_call}
use Rattle.fort_threads_law_servers.proofs.Operands.{operator_two}
use Rattle.fort_threads_law_servers.proofs.Server.{after_value, calls_one, then_value, then_throw, let_value, typecase_value}
use Rattle.fort_threads_law_calls.proofs.Picking.{IsSteady, plain_no_end, call_no_end, form_stuck, stuck_no_end, Onto, onto}

-- ---- by what the form does

module _ {p : Program} {inner strict : Bool} {s : Store} {pick : Pick} {r : Ended} {d : Effect}
    (fs : List Frame) (a : Term) (h : AllSerial fs) where
  pub onto_plain : (x : Act) → act p a ≡ x → IsPlain x → IsSteady x
      → Runs p inner strict s (pick ∷ []) (plug fs a) r d → Onto p s pick (plug fs a) r d
  onto_plain x e i j k = onto fs a h (ready_by p a x e i) (plain_no_end p a x e j) k

  pub onto_form : (body : Term) → Form a mode.Atomic body
      → Runs p inner strict s (pick ∷ []) (plug fs a) r d → Onto p s pick (plug fs a) r d
  onto_form body form k =
      onto fs a h (form_ready a mode.Atomic body form)
      (stuck_no_end p a (form_stuck p a mode.Atomic body form)) k

  pub onto_call : (set : SetId) (vs : List Value) → act p a ≡ calls set vs
      → ((c : DeclId) (declared : CoreDecl) → Dispatches p set vs c declared
      → by_body p declared.body vs ≡ acts.ends → ⊥)
      → Runs p inner strict s (pick ∷ []) (plug fs a) r d → Onto p s pick (plug fs a) r d
  onto_call set vs e f k =
      onto fs a h (ready_call p a set vs e) (call_no_end p a set vs e f) k

  pub onto_led : (set : SetId) (vs : List Value) (t : Term) → act p a ≡ calls set vs
      → LeadsTo p set vs t
      → Runs p inner strict s (pick ∷ []) (plug fs a) r d → Onto p s pick (plug fs a) r d
  onto_led set vs t e f k =
      onto_call set vs e
      (λ c declared i w.
      let y = f c declared i in
      let z : enters y.0 t ≡ acts.ends = sym y.1 ∙ w in cc) k

-- ---- by the place

-- places that the machine comes to and leaves by a pick of its own
abbrev pub Goes : Place → Type 0
Goes (has_failed l v) = ⊥
Goes (has_come t) = ⊥
Goes _ = Unit {0}

no_end_answer : (t : Term) → becomes t ≡ acts.ends → ⊥
no_end_answer t e = cc

module _ (p : Program) (n : Names) (has : HasPrelude p n) where
  pub read_mark : (l : ℕ) → act p (mark_at n l) ≡ asks (l + 1) (λ v. term.Value v)
  read_mark l =
      ap (act_at p) (outs-ReadField (term.Value (object_of n l)) n.state)
      ∙ after_value (object_of n l) _ ∙ ap reading_at (has.has_state l)

  read_kept : (l : ℕ) → act p (kept_at n l) ≡ asks (l + 2) (λ v. term.Value v)
  read_kept l =
      ap (act_at p) (outs-ReadField (term.Value (object_of n l)) n.value)
      ∙ after_value (object_of n l) _ ∙ ap reading_at (has.has_value l)

  if_truth : (b : Bool) (x y : Term)
      → act p (If (term.Value (Truth b)) x y) ≡ chosen_by (Value-F.Truth b) x y
  if_truth b x y =
      ap (act_at p) (outs-If (term.Value (Truth b)) x y) ∙ after_value (Truth b) _
      ∙ ap (λ z. chosen_by z x y) (outs-Truth b)

  abbrev rest_of : ℕ → Term
  rest_of l = telling n l (comparing n (mark_at n l))

  abbrev throws_it : List (Term × Ty)
  throws_it = (Throw (Variable 1), n.exception) ∷ []

  pub place_goes : {inner strict : Bool} {s : Store} {pick : Pick} {r : Ended} {d : Effect}
      (place : Place) → IsPlace n place → Goes place
      → Runs p inner strict s (pick ∷ []) (place_term n place) r d
      → Onto p s pick (place_term n place) r d
  place_goes (makes_it f) h g k =
      onto_call (in_let ((1, Named n.thread) ∷ [])
      (Then (Atomic mode.Atomic (adding_it n (Variable 1))) (Variable 1)) ∷ [])
      (Call n.make (term.Value f ∷ [])) (tt, tt) n.make (f ∷ []) (calls_one p n.make f)
      (λ c declared i w.
      let z : makes (opening_fields f) (λ l. term.Value (object_of n l)) 1 ≡ acts.ends =
      sym (has.makes_threads f c declared i) ∙ w in absurd cc) k
  place_goes (has_it l) h g k =
      onto_plain [] (spawning n (term.Value (object_of n l))) tt _
      (let_value p 1 (Named n.thread) (object_of n l)
      (Then (Atomic mode.Atomic (adding_it n (Variable 1))) (Variable 1))) tt tt k
  place_goes (adds l form) h g k =
      onto_form (in_then (term.Value (object_of n l)) ∷ []) form (tt, tt) (adding n l) h k
  place_goes (has_added l v) h g k =
      onto_plain [] (Then (term.Value v) (term.Value (object_of n l))) tt _
      (then_value p v (term.Value (object_of n l))) tt tt k
  place_goes (was_refused l v) h g k =
      onto_plain [] (place_term n (was_refused l v)) tt _
      (then_throw p v (term.Value (object_of n l))) tt tt k
  place_goes (waits l form) h g k = onto_form [] form tt (waiting n l) h k
  place_goes (calls_wait l) h g k =
      onto_led (in_then (rest_of l) ∷ []) (Call n.wait (term.Value (object_of n l) ∷ [])) (tt, tt)
      n.wait (object_of n l ∷ []) (Atomic mode.Atomic (waiting n l))
      (calls_one p n.wait (object_of n l)) (has.waits l) k
  place_goes (waits_in l form) h g k =
      onto_form (in_then (rest_of l) ∷ []) form (tt, tt) (waiting n l) h k
  place_goes (has_waited l v) h g k =
      onto_plain [] (Then (term.Value v) (rest_of l)) tt _ (then_value p v (rest_of l)) tt tt k
  place_goes (has_failed l v) h g k = absurd g
  place_goes (reads_mark l) h g k =
      onto_plain
      (in_test (throwing n (kept_at n l)) (kept_at n l)
      ∷ in_operand n.equal [] (number 2 ∷ []) ∷ []) (mark_at n l) (tt, (tt, tt)) _ (read_mark l)
      tt tt k
  place_goes (compares l q) h g k =
      onto_call (in_test (throwing n (kept_at n l)) (kept_at n l) ∷ [])
      (Operator n.equal (number q ∷ number 2 ∷ [])) (tt, tt) n.equal
      (Small (pos q) ∷ Small (pos 2) ∷ []) (operator_two p n.equal (Small (pos q)) (Small (pos 2)))
      (λ c declared i w. no_end_answer _ (sym (has.equals q 2 h (omega arith) c declared i) ∙ w)) k
  place_goes (is_told l true) h g k =
      onto_plain [] (telling n l (term.Value (Truth true))) tt _
      (if_truth true (throwing n (kept_at n l)) (kept_at n l)) tt tt k
  place_goes (is_told l false) h g k =
      onto_plain [] (telling n l (term.Value (Truth false))) tt _
      (if_truth false (throwing n (kept_at n l)) (kept_at n l)) tt tt k
  place_goes (reads_thrown l) h g k =
      onto_plain (in_subject 1 throws_it (Variable 1) ∷ []) (kept_at n l) (tt, tt) _ (read_kept l)
      tt tt k
  place_goes (has_thrown v) h g k =
      onto_plain [] (throwing n (term.Value v)) tt _
      (typecase_value p v 1 (Throw (Variable 1)) n.exception (Variable 1)) tt tt k
  place_goes (reads_kept l) h g k = onto_plain [] (kept_at n l) tt _ (read_kept l) tt tt k
  place_goes (asks_mark l) h g k =
      onto_plain (in_operand n.differs [] (number 0 ∷ []) ∷ []) (mark_at n l) (tt, tt) _
      (read_mark l) tt tt k
  place_goes (compares_mark q) h g k =
      onto_call [] (Operator n.differs (number q ∷ number 0 ∷ [])) tt n.differs
      (Small (pos q) ∷ Small (pos 0) ∷ [])
      (operator_two p n.differs (Small (pos q)) (Small (pos 0)))
      (λ c declared i w. no_end_answer _ (sym (has.tells_apart q h c declared i) ∙ w)) k
  place_goes (has_come t) h g k = absurd g
