-- A pick of the body of `spawn'`, `wait`, `val` or `ready`, place by place.
use Rattle.std.proofs.Common.{◌≡◌, ℕ, ◌+◌, ◌==◌, ◌≤◌, Bool, true, false, not, List, [], ◌∷◌, Some, pos, arith, refl, ap, sym, ◌∙◌, subst, inl, inr}
use Rattle.fort_base.specs.declared.ids.DeclId.{DeclId}
use Rattle.fort_base.specs.declared.ids.SetId.{SetId}
use Rattle.fort_base.specs.declared.ty.Ty.{Ty}
use Rattle.fort_base.specs.declared.ty.Ty.TheVariants.{Named}
use Rattle.fort_core.specs.declared.form.Mode.TheVariants as mode
use Rattle.fort_core.specs.declared.form.Slot.TheVariants as slot
use Rattle.fort_core.specs.declared.pick.Pick.{Pick}
use Rattle.fort_core.specs.declared.program.CoreDecl.{CoreDecl}
use Rattle.fort_core.specs.declared.program.Program.{Program}
use Rattle.fort_core.specs.declared.term.Term.{Term, Throw, Call, Operator, Let, Write, ReadField, WriteField, Then, If, Atomic, Typecase, out-Term}
use Rattle.fort_core.specs.declared.term.Term as term
use Rattle.fort_core.specs.declared.term.Term.TheVariants.{Variable, Read, outs-Call, outs-Operator, outs-Let, outs-ReadField, outs-Then, outs-If, outs-Typecase}
use Rattle.fort_core.specs.declared.term.Term.TheOpen.{Term-F, Value-F}
use Rattle.fort_core.specs.declared.value.Value.{Value, Small, Truth}
use Rattle.fort_core.specs.declared.value.Value.TheVariants.{outs-Truth}
use Rattle.fort_machine.specs.Acts.{asks, makes, becomes, unit}
use Rattle.fort_machine.specs.Attempts.{Form, fresh, goes}
use Rattle.fort_machine.specs.Calls.{Dispatches, by_body}
use Rattle.fort_machine.specs.Effects.{Store, Effect, paid, reading}
use Rattle.fort_machine.specs.Ends.{throw_of, Finished}
use Rattle.fort_machine.specs.Ends as ends
use Rattle.fort_machine.specs.Forms.{act_at, act, reading_at, clause_for, choosing as chosen_by}
use Rattle.fort_machine.specs.Frames.{Frame, in_then, in_let, in_operand, in_test, in_subject, plug}
use Rattle.fort_machine.specs.Runs.{Runs, location}
use Rattle.fort_machine.specs.Steps.{Does}
use Rattle.fort_machine.specs.Substitution.{substituted}
use Rattle.fort_machine.specs.Types.{has_type}
use Rattle.fort_machine.proofs.Less.{substituted_value}
use Rattle.fort_machine.proofs.Ready.{form_ready}
use Rattle.fort_threads.specs.Moves.{opening_fields}
use Rattle.fort_threads_law_servers.specs.Prelude.{Names, object_of, number, raising, refusing, linking, adding_it, adding, waiting, HasPrelude}
use Rattle.fort_threads_law_servers.specs.Stages.{Attempted}
use Rattle.fort_threads_law_servers.specs.Calls.{spawning, throwing, mark_at, kept_at, telling, comparing, getting, Place, makes_it, has_it, adds, has_added, was_refused, waits, calls_wait, waits_in, has_waited, has_failed, reads_mark, compares, is_told, reads_thrown, has_thrown, reads_kept, asks_mark, compares_mark, has_come, place_term, HasMark, IsPlace, given, Turns, EachCallFollows}
use Rattle.fort_threads_law_servers.proofs.Turns.{AllSerial, pick_sole, ready_call, stepped_at, called_with, moves_to, calls_to}
use Rattle.fort_threads_law_servers.proofs.Put.{put_then, put_write, put_1, put_read, put_write_top, put_if, put_operator, put_throw, put_atomic}
use Rattle.fort_threads_law_servers.proofs.Operands.{operator_two}
use Rattle.fort_threads_law_servers.proofs.Server.{after_value, calls_one, then_value, then_throw, let_value, typecase_value, clause_is, clause_none, attempted, Closed, closes_as, row_done}
use Rattle.fort_threads_law_servers.proofs.Taking.{reads_at}

-- ---- the object in the place of its variable

put_raising : (n : Names) (x : ℕ) (v : Value) → substituted 1 v (raising n x) ≡ raising n x
put_raising n x v =
    put_write_top 1 v x (Operator n.plus (Read (slot.Location (location x)) ∷ number 1 ∷ []))
    ∙ ap (Write (slot.Location (location x)))
    (put_operator 1 v n.plus (Read (slot.Location (location x))) (number 1)
    ∙ (λ j. Operator n.plus (put_read 1 v x j ∷ substituted_value 1 v (Small (pos 1)) j ∷ [])))

abbrev count_is : Names → Term
count_is n = Operator n.equal (Read (slot.Location (location n.count)) ∷ number 64 ∷ [])

put_refusing : (n : Names) (v : Value)
    → substituted 1 v (refusing n (count_is n)) ≡ refusing n (count_is n)
put_refusing n v =
    put_if 1 v (count_is n) (Throw (term.Value n.too_many)) (term.Value unit)
    ∙ (λ i. If
    ((put_operator 1 v n.equal (Read (slot.Location (location n.count))) (number 64)
    ∙ (λ j. Operator n.equal
    (put_read 1 v n.count j ∷ substituted_value 1 v (Small (pos 64)) j ∷ []))) i)
    ((put_throw 1 v (term.Value n.too_many) ∙ ap Throw (substituted_value 1 v n.too_many)) i)
    (substituted_value 1 v unit i))

put_linking : (n : Names) (v : Value)
    → substituted 1 v (linking n (Variable 1)) ≡ linking n (term.Value v)
put_linking n v =
    put_then 1 v (WriteField (Variable 1) n.next (Read (slot.Location (location n.queue))))
    (Write (slot.Location (location n.queue)) (Variable 1))
    ∙ (λ i. Then
    ((put_write 1 v (Variable 1) n.next (Read (slot.Location (location n.queue)))
    ∙ (λ j. WriteField (put_1 v j) n.next (put_read 1 v n.queue j))) i)
    ((put_write_top 1 v n.queue (Variable 1)
    ∙ ap (Write (slot.Location (location n.queue))) (put_1 v)) i))

put_adding : (n : Names) (v : Value)
    → substituted 1 v (adding_it n (Variable 1)) ≡ adding_it n (term.Value v)
put_adding n v =
    put_then 1 v (refusing n (count_is n))
    (Then (raising n n.count) (Then (raising n n.unended) (linking n (Variable 1))))
    ∙ (λ i. Then (put_refusing n v i)
    ((put_then 1 v (raising n n.count) (Then (raising n n.unended) (linking n (Variable 1)))
    ∙ (λ j. Then (put_raising n n.count v j)
    ((put_then 1 v (raising n n.unended) (linking n (Variable 1))
    ∙ (λ k. Then (put_raising n n.unended v k) (put_linking n v k))) j))) i))

put_spawned : (n : Names) (v : Value)
    → substituted 1 v (Then (Atomic mode.Atomic (adding_it n (Variable 1))) (Variable 1))
    ≡ Then (Atomic mode.Atomic (adding_it n (term.Value v))) (term.Value v)
put_spawned n v =
    put_then 1 v (Atomic mode.Atomic (adding_it n (Variable 1))) (Variable 1)
    ∙ (λ i. Then
    ((put_atomic 1 v mode.Atomic (adding_it n (Variable 1))
    ∙ ap (Atomic mode.Atomic) (put_adding n v)) i)
    (put_1 v i))

some_same : (x y : Value) → Some x ≡ Some y → x ≡ y
some_same x y e = cc

-- ---- the rows

module _ (p : Program) (n : Names) (has : HasPrelude p n) (s : Store) (pick : Pick) where
  abbrev Next : Place → Term → Effect → Type 0
  Next place u d =
      (next : Place) × IsPlace n next × (u ≡ place_term n next) × Turns p n s pick d place next

  abbrev Pick_of : Term → Term → Effect → Type 0
  Pick_of t u d = Runs p false false s (pick ∷ []) t (goes u) d

  -- an operator of two values answers
  answers : (fs : List Frame) → AllSerial fs → (set : SetId) (x y : Value) (t u : Term) (d : Effect)
      → ((c : DeclId) (declared : CoreDecl) → Dispatches p set (x ∷ y ∷ []) c declared
      → by_body p declared.body (x ∷ y ∷ []) ≡ becomes t)
      → Pick_of (plug fs (Operator set (term.Value x ∷ term.Value y ∷ []))) u d
      → (u ≡ plug fs t) × (d ≡ paid 1)
  answers fs h set x y t u d f k =
      let a : Term = Operator set (term.Value x ∷ term.Value y ∷ []) in
      let q = operator_two p set x y in
      let i = pick_sole fs a h (ready_call p a set _ q) k in
      let j = stepped_at (Term-F.Operator set (term.Value x ∷ term.Value y ∷ [])) (outs-Operator _ _)
      refl i.2 in
      let c = called_with p false j.0 a i.0 d set _ q j.1 in
      let w : Does p false j.0 (becomes t) i.0 d =
      subst (λ z. Does p false j.0 z i.0 d) (f c.declaration c.declared c.dispatches) c.does in
      (i.1 ∙ ap (plug fs) w.1, w.2)

  from_makes : (f : Value) (u : Term) (d : Effect) → Pick_of (place_term n (makes_it f)) u d
      → Next (makes_it f) u d
  from_makes f u d k =
      let c : Term = Call n.make (term.Value f ∷ []) in
      let q = calls_one p n.make f in
      let i = pick_sole
      (in_let ((1, Named n.thread) ∷ [])
      (Then (Atomic mode.Atomic (adding_it n (Variable 1))) (Variable 1)) ∷ [])
      c (tt, tt) (ready_call p c n.make _ q) k in
      let j = stepped_at (Term-F.Call n.make (term.Value f ∷ [])) (outs-Call _ _) refl i.2 in
      let a = called_with p false j.0 c i.0 d n.make _ q j.1 in
      let w : Does p false j.0 (makes (opening_fields f) (λ l. term.Value (object_of n l)) 1) i.0 d =
      subst (λ x. Does p false j.0 x i.0 d)
      (has.makes_threads f a.declaration a.declared a.dispatches) a.does in
      (has_it j.0, tt, i.1 ∙ ap (spawning n) w.0, w.1)

  from_has : (l : ℕ) (u : Term) (d : Effect) → Pick_of (place_term n (has_it l)) u d
      → Next (has_it l) u d
  from_has l u d k =
      let o = object_of n l in
      let r = Then (Atomic mode.Atomic (adding_it n (Variable 1))) (Variable 1) in
      let i = moves_to [] (spawning n (term.Value o))
      (Term-F.Let ((1, Named n.thread) ∷ []) (term.Value o) r) tt (outs-Let _ _ _) refl
      (Then (Atomic mode.Atomic (adding n l)) (term.Value o))
      (let_value p 1 (Named n.thread) o r ∙ ap becomes (put_spawned n o)) k in
      (adds l (Atomic mode.Atomic (adding n l)), fresh refl, i.0, (refl, refl, i.1))

  from_adds : (l : ℕ) (form u : Term) (d : Effect) → Form form mode.Atomic (adding n l)
      → Pick_of (place_term n (adds l form)) u d → Next (adds l form) u d
  from_adds l form u d h k =
      let i = pick_sole (in_then (term.Value (object_of n l)) ∷ []) form (tt, tt)
      (form_ready form mode.Atomic (adding n l) h) k in
      let a = attempted p s pick (in_then (term.Value (object_of n l)) ∷ []) form i.0 d (adding n l)
      h i.2 in
      go i.0 i.1 a (closes_as p (adding n l) i.0 a.ended a.effect d a.closes)
    where
      go : (b : Term) → u ≡ Then b (term.Value (object_of n l)) → Attempted p s (adding n l) b d
          → Closed (adding n l) b → Next (adds l form) u d
      go b e a (inl (v, q)) = (
        has_added l v,
        tt,
        e ∙ ap (λ x. Then x (term.Value (object_of n l))) q,
        (refl, subst (λ x. Attempted p s (adding n l) x d) q a),
      )
      go b e a (inr (inl (v, q))) = (
        was_refused l v,
        tt,
        e ∙ ap (λ x. Then x (term.Value (object_of n l))) q,
        (refl, subst (λ x. Attempted p s (adding n l) x d) q a),
      )
      go b e a (inr (inr f)) = (adds l b, f, e, (refl, a))

  from_added : (l : ℕ) (v : Value) (u : Term) (d : Effect)
      → Pick_of (place_term n (has_added l v)) u d → Next (has_added l v) u d
  from_added l v u d k =
      let o = term.Value (object_of n l) in
      let i = moves_to [] (Then (term.Value v) o) (Term-F.Then (term.Value v) o) tt (outs-Then _ _)
      refl o (then_value p v o) k in
      (has_come o, ends.Finished.value (object_of n l) refl, i.0, (refl, i.1))

  from_refused : (l : ℕ) (v : Value) (u : Term) (d : Effect)
      → Pick_of (place_term n (was_refused l v)) u d → Next (was_refused l v) u d
  from_refused l v u d k =
      let o = term.Value (object_of n l) in
      let i = moves_to [] (Then (throw_of v) o) (Term-F.Then (throw_of v) o) tt (outs-Then _ _)
      refl (throw_of v) (then_throw p v o) k in
      (has_come (throw_of v), ends.Finished.throw v refl, i.0, (refl, i.1))

  from_waits : (l : ℕ) (form u : Term) (d : Effect) → Form form mode.Atomic (waiting n l)
      → Pick_of (place_term n (waits l form)) u d → Next (waits l form) u d
  from_waits l form u d h k =
      let i = pick_sole [] form tt (form_ready form mode.Atomic (waiting n l) h) k in
      let a = attempted p s pick [] form i.0 d (waiting n l) h i.2 in
      go i.0 i.1 a (closes_as p (waiting n l) i.0 a.ended a.effect d a.closes)
    where
      go : (b : Term) → u ≡ b → Attempted p s (waiting n l) b d → Closed (waiting n l) b
          → Next (waits l form) u d
      go b e a (inl (v, q)) = (has_come b, ends.Finished.value v q, e, a)
      go b e a (inr (inl (v, q))) = (has_come b, ends.Finished.throw v q, e, a)
      go b e a (inr (inr f)) = (waits l b, f, e, (refl, a))

  abbrev rest_of : ℕ → Term
  rest_of l = telling n l (comparing n (mark_at n l))

  from_calls : (l : ℕ) (u : Term) (d : Effect) → Pick_of (place_term n (calls_wait l)) u d
      → Next (calls_wait l) u d
  from_calls l u d k =
      let o = object_of n l in
      let i = calls_to (in_then (rest_of l) ∷ []) (Call n.wait (term.Value o ∷ []))
      (Term-F.Call n.wait (term.Value o ∷ [])) (tt, tt) (outs-Call n.wait _) refl n.wait (o ∷ [])
      (Atomic mode.Atomic (waiting n l)) (calls_one p n.wait o) (has.waits l) k in
      (waits_in l (Atomic mode.Atomic (waiting n l)), fresh refl, i.0, (refl, refl, i.1))

  from_waits_in : (l : ℕ) (form u : Term) (d : Effect) → Form form mode.Atomic (waiting n l)
      → Pick_of (place_term n (waits_in l form)) u d → Next (waits_in l form) u d
  from_waits_in l form u d h k =
      let i = pick_sole (in_then (rest_of l) ∷ []) form (tt, tt)
      (form_ready form mode.Atomic (waiting n l) h) k in
      let a = attempted p s pick (in_then (rest_of l) ∷ []) form i.0 d (waiting n l) h i.2 in
      go i.0 i.1 a (closes_as p (waiting n l) i.0 a.ended a.effect d a.closes)
    where
      go : (b : Term) → u ≡ getting n l b → Attempted p s (waiting n l) b d
          → Closed (waiting n l) b → Next (waits_in l form) u d
      go b e a (inl (v, q)) = (
        has_waited l v,
        tt,
        e ∙ ap (getting n l) q,
        (refl, subst (λ x. Attempted p s (waiting n l) x d) q a),
      )
      go b e a (inr (inl (v, q))) = (
        has_failed l v,
        tt,
        e ∙ ap (getting n l) q,
        (refl, subst (λ x. Attempted p s (waiting n l) x d) q a),
      )
      go b e a (inr (inr f)) = (waits_in l b, f, e, (refl, a))

  from_waited : (l : ℕ) (v : Value) (u : Term) (d : Effect)
      → Pick_of (place_term n (has_waited l v)) u d → Next (has_waited l v) u d
  from_waited l v u d k =
      let i = moves_to [] (getting n l (term.Value v)) (Term-F.Then (term.Value v) (rest_of l)) tt
      (outs-Then _ _) refl (rest_of l) (then_value p v (rest_of l)) k in
      (reads_mark l, tt, i.0, (refl, i.1))

  from_failed : (l : ℕ) (v : Value) (u : Term) (d : Effect)
      → Pick_of (place_term n (has_failed l v)) u d → Next (has_failed l v) u d
  from_failed l v u d k =
      let i = moves_to [] (getting n l (throw_of v)) (Term-F.Then (throw_of v) (rest_of l)) tt
      (outs-Then _ _) refl (throw_of v) (then_throw p v (rest_of l)) k in
      (has_come (throw_of v), ends.Finished.throw v refl, i.0, (refl, i.1))

  -- a field of the object is read
  read_of : (l : ℕ) → act p (mark_at n l) ≡ asks (l + 1) (λ v. term.Value v)
  read_of l =
      ap (act_at p) (outs-ReadField (term.Value (object_of n l)) n.state)
      ∙ after_value (object_of n l) _ ∙ ap reading_at (has.has_state l)

  read_kept : (l : ℕ) → act p (kept_at n l) ≡ asks (l + 2) (λ v. term.Value v)
  read_kept l =
      ap (act_at p) (outs-ReadField (term.Value (object_of n l)) n.value)
      ∙ after_value (object_of n l) _ ∙ ap reading_at (has.has_value l)

  mark_read : (fs : List Frame) → AllSerial fs → (l : ℕ) (u : Term) (d : Effect) (m : HasMark s l)
      → Pick_of (plug fs (mark_at n l)) u d
      → (u ≡ plug fs (number m.0)) × (d ≡ reading (l + 1) (Small (pos m.0)))
  mark_read fs h l u d m k =
      let r = reads_at fs (mark_at n l) (Term-F.ReadField (term.Value (object_of n l)) n.state) h
      (outs-ReadField _ _) refl (l + 1) (read_of l) k in
      let e = some_same r.value (Small (pos m.0)) (sym r.is_there ∙ m.2) in
      (r.becomes ∙ ap (λ x. plug fs (term.Value x)) e, r.effect ∙ ap (reading (l + 1)) e)

  from_reads : (l : ℕ) (u : Term) (d : Effect) → HasMark s l
      → Pick_of (place_term n (reads_mark l)) u d → Next (reads_mark l) u d
  from_reads l u d m k =
      let i = mark_read
      (in_test (throwing n (kept_at n l)) (kept_at n l) ∷ in_operand n.equal [] (number 2 ∷ []) ∷ [])
      (tt, (tt, tt)) l u d m k in
      (compares l m.0, m.1, i.0, (refl, i.1))

  from_compares : (l k : ℕ) (u : Term) (d : Effect) → k ≤ 64
      → Pick_of (place_term n (compares l k)) u d → Next (compares l k) u d
  from_compares l k u d h q =
      let i = answers (in_test (throwing n (kept_at n l)) (kept_at n l) ∷ []) (tt, tt) n.equal
      (Small (pos k)) (Small (pos 2)) (term.Value (Truth (k == 2))) u d
      (has.equals k 2 h (omega arith)) q in
      (is_told l (k == 2), tt, i.0, (refl, refl, i.1))

  if_truth : (b : Bool) (x y : Term)
      → act p (If (term.Value (Truth b)) x y) ≡ chosen_by (Value-F.Truth b) x y
  if_truth b x y =
      ap (act_at p) (outs-If (term.Value (Truth b)) x y) ∙ after_value (Truth b) _
      ∙ ap (λ z. chosen_by z x y) (outs-Truth b)

  from_told : (l : ℕ) (b : Bool) (u : Term) (d : Effect) → Pick_of (place_term n (is_told l b)) u d
      → Next (is_told l b) u d
  from_told l true u d k =
      let x = throwing n (kept_at n l) in
      let i = moves_to [] (telling n l (term.Value (Truth true)))
      (Term-F.If (term.Value (Truth true)) x (kept_at n l)) tt (outs-If _ _ _) refl x
      (if_truth true x (kept_at n l)) k in
      (reads_thrown l, tt, i.0, (refl, i.1))
  from_told l false u d k =
      let x = throwing n (kept_at n l) in
      let i = moves_to [] (telling n l (term.Value (Truth false)))
      (Term-F.If (term.Value (Truth false)) x (kept_at n l)) tt (outs-If _ _ _) refl (kept_at n l)
      (if_truth false x (kept_at n l)) k in
      (reads_kept l, tt, i.0, (refl, i.1))

  abbrev throws_it : List (Term × Ty)
  throws_it = (Throw (Variable 1), n.exception) ∷ []

  from_reads_thrown : (l : ℕ) (u : Term) (d : Effect)
      → Pick_of (place_term n (reads_thrown l)) u d → Next (reads_thrown l) u d
  from_reads_thrown l u d k =
      let r = reads_at (in_subject 1 throws_it (Variable 1) ∷ []) (kept_at n l)
      (Term-F.ReadField (term.Value (object_of n l)) n.value) (tt, tt) (outs-ReadField _ _) refl
      (l + 2) (read_kept l) k in
      (has_thrown r.value, tt, r.becomes, r.effect)

  from_thrown : (v : Value) (u : Term) (d : Effect) → Pick_of (place_term n (has_thrown v)) u d
      → Next (has_thrown v) u d
  from_thrown v u d k = go (has_type p v n.exception) refl
    where
      to : (t : Term)
          → clause_for p v throws_it (substituted 1 v (Variable 1)) (substituted 1 v) ≡ t
          → (u ≡ t) × (d ≡ paid 1)
      to t e =
          moves_to [] (throwing n (term.Value v))
          (Term-F.Typecase 1 (term.Value v) throws_it (Variable 1)) tt (outs-Typecase _ _ _ _) refl t
          (typecase_value p v 1 (Throw (Variable 1)) n.exception (Variable 1) ∙ ap becomes e) k

      go : (b : Bool) → has_type p v n.exception ≡ b → Next (has_thrown v) u d
      go true e =
          let i = to (throw_of v)
          (clause_is p v (Throw (Variable 1)) n.exception _ (substituted 1 v) e
          ∙ put_throw 1 v (Variable 1) ∙ ap Throw (put_1 v)) in (
            has_come (throw_of v),
            ends.Finished.throw v refl,
            i.0,
            (ap (λ b. given b v) (sym e), i.1),
          )
      go false e =
          let i = to (term.Value v)
          (clause_none p v (Throw (Variable 1)) n.exception _ (substituted 1 v) e ∙ put_1 v) in (
            has_come (term.Value v),
            ends.Finished.value v refl,
            i.0,
            (ap (λ b. given b v) (sym e), i.1),
          )

  from_kept : (l : ℕ) (u : Term) (d : Effect) → Pick_of (place_term n (reads_kept l)) u d
      → Next (reads_kept l) u d
  from_kept l u d k =
      let r = reads_at [] (kept_at n l) (Term-F.ReadField (term.Value (object_of n l)) n.value) tt
      (outs-ReadField _ _) refl (l + 2) (read_kept l) k in (
        has_come (term.Value r.value),
        ends.Finished.value r.value refl,
        r.becomes,
        (r.value, refl, r.effect),
      )

  from_asks : (l : ℕ) (u : Term) (d : Effect) → HasMark s l
      → Pick_of (place_term n (asks_mark l)) u d → Next (asks_mark l) u d
  from_asks l u d m k =
      let i = mark_read (in_operand n.differs [] (number 0 ∷ []) ∷ []) (tt, tt) l u d m k in
      (compares_mark m.0, m.1, i.0, i.1)

  from_compares_mark : (k : ℕ) (u : Term) (d : Effect) → k ≤ 64
      → Pick_of (place_term n (compares_mark k)) u d → Next (compares_mark k) u d
  from_compares_mark k u d h q =
      let i = answers [] tt n.differs (Small (pos k)) (Small (pos 0))
      (term.Value (Truth (not (k == 0)))) u d (has.tells_apart k h) q in (
        has_come (term.Value (Truth (not (k == 0)))),
        ends.Finished.value (Truth (not (k == 0))) refl,
        i.0,
        (refl, i.1),
      )

pub each_call_follows : EachCallFollows
each_call_follows p n has s pick (makes_it f) u d h a k = from_makes p n has s pick f u d k
each_call_follows p n has s pick (has_it l) u d h a k = from_has p n has s pick l u d k
each_call_follows p n has s pick (adds l form) u d h a k = from_adds p n has s pick l form u d h k
each_call_follows p n has s pick (has_added l v) u d h a k = from_added p n has s pick l v u d k
each_call_follows p n has s pick (was_refused l v) u d h a k =
    from_refused p n has s pick l v u d k
each_call_follows p n has s pick (waits l form) u d h a k =
    from_waits p n has s pick l form u d h k
each_call_follows p n has s pick (calls_wait l) u d h a k = from_calls p n has s pick l u d k
each_call_follows p n has s pick (waits_in l form) u d h a k =
    from_waits_in p n has s pick l form u d h k
each_call_follows p n has s pick (has_waited l v) u d h a k = from_waited p n has s pick l v u d k
each_call_follows p n has s pick (has_failed l v) u d h a k = from_failed p n has s pick l v u d k
each_call_follows p n has s pick (reads_mark l) u d h a k = from_reads p n has s pick l u d a k
each_call_follows p n has s pick (compares l m) u d h a k =
    from_compares p n has s pick l m u d h k
each_call_follows p n has s pick (is_told l b) u d h a k = from_told p n has s pick l b u d k
each_call_follows p n has s pick (reads_thrown l) u d h a k =
    from_reads_thrown p n has s pick l u d k
each_call_follows p n has s pick (has_thrown v) u d h a k = from_thrown p n has s pick v u d k
each_call_follows p n has s pick (reads_kept l) u d h a k = from_kept p n has s pick l u d k
each_call_follows p n has s pick (asks_mark l) u d h a k = from_asks p n has s pick l u d a k
each_call_follows p n has s pick (compares_mark m) u d h a k =
    from_compares_mark p n has s pick m u d h k
each_call_follows p n has s pick (has_come t) u d h a k =
    absurd (row_done p n has s pick t u d h k)
