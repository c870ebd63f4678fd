-- A pick of a server, stage by stage.
use Rattle.std.proofs.Common.{◌≡◌, ℕ, ◌+◌, Bool, true, false, ◌&&◌, List, [], ◌∷◌, ◌++◌, None, if◌then◌else◌, refl, ap, sym, ◌∙◌, subst, ◌⊎◌, inl, inr, pos}
use Rattle.std.specs.List.{list_any}
use Rattle.fort_base.specs.declared.ids.NameId.{NameId}
use Rattle.fort_base.specs.declared.ids.SetId.{SetId}
use Rattle.fort_base.specs.declared.ty.Ty.{Ty}
use Rattle.fort_base.specs.declared.ty.Ty.TheVariants.{Any, Named}
use Rattle.fort_core.specs.declared.form.Mode.{Mode}
use Rattle.fort_core.specs.declared.form.Mode.TheVariants as mode
use Rattle.fort_core.specs.declared.pick.Pick.{Pick}
use Rattle.fort_core.specs.declared.program.Program.{Program}
use Rattle.fort_core.specs.declared.term.Term.{Term, Call, Apply, Let, ReadField, WriteField, Then, Atomic, Asleep, Typecase, Try, out-Term}
use Rattle.fort_core.specs.declared.term.Term as term
use Rattle.fort_core.specs.declared.term.Term.TheVariants.{Variable, outs-Call, outs-Apply, outs-Let, outs-ReadField, outs-WriteField, outs-Then, outs-Atomic, outs-Asleep, outs-Typecase, outs-Try}
use Rattle.fort_core.specs.declared.term.Term.TheOpen.{Term-F}
use Rattle.fort_core.specs.declared.value.Value.{Value, Small, out-Value}
use Rattle.fort_machine.specs.Acts.{Act, asks, sets, calls, becomes, unit, by_standing, after, with_first, at_values, by_together}
use Rattle.fort_machine.specs.Attempts.{Form, fresh, slept, Ended, goes, Closes, completed, failed, gave_up, fell_asleep, Ready}
use Rattle.fort_machine.specs.Effects.{Store, Effect, paid, reading}
use Rattle.fort_machine.specs.Ends.{Standing, open_yet, standing_at, standing, throw_of, Finished, has_stepped, throws_by, is_thrown, is_still, stepped}
use Rattle.fort_machine.specs.Ends as ends
use Rattle.fort_machine.specs.Forms.{act_at, act, trying as trying_act, writing_at, reading_at, field_of, clause_for}
use Rattle.fort_machine.specs.Frames.{Frame, in_then, in_let, in_function, in_argument, in_throw, plug, passes, passed, trodden}
use Rattle.fort_machine.specs.Runs.{Runs}
use Rattle.fort_machine.specs.Steps.{Does, Local}
use Rattle.fort_machine.specs.Substitution.{substituted}
use Rattle.fort_machine.specs.Types.{has_type}
use Rattle.fort_machine.proofs.Standing.{standing-Value, standing-throw, stepped_finished, decide, not_finished, or_false}
use Rattle.fort_machine.proofs.Places.{on_layer, out_on, plug_open, ready_open}
use Rattle.fort_machine.proofs.Ready.{form_ready}
use Rattle.fort_machine.proofs.Runs.{plug_append}
use Rattle.fort_threads.specs.Machine.{applied}
use Rattle.fort_threads_law_servers.specs.Prelude.{Names, object_of, taking, choosing, serving, storing, fewer, counting, in_try_of, round, going, HasPrelude}
use Rattle.fort_threads_law_servers.specs.Stages.{End, at_value, at_throw, kept_value, mark_of, Stage, called, asking, trying, got, refused, looking, sent, reads, runs, caught, lost, keeps, has_kept, marks, has_marked, leaves, counts, done, round_end, marking, term_at, Stands, Attempted, Follows}
use Rattle.fort_threads_law_servers.specs.Servers.{EachPickFollows}
use Rattle.fort_threads_law_servers.proofs.Turns.{AllSerial, sole, Taken, a_step, an_attempt, taken_ready, pick_at, pick_sole, pick_inside, does, ready_by, stuck_no_step, stepped_at, moves_to, writes_to, calls_to}
use Rattle.fort_threads_law_servers.proofs.Put.{put_call, put_typecase, put_0, put_1, put_2, put_other, put_storing}
use Rattle.fort_machine.proofs.Less.{substituted_value}

-- ---- what the forms do

pub after_value : (v : Value) (k : Value → Act) → after (term.Value v) k ≡ k v
after_value v k = ap (λ st. by_standing st k) (standing-Value v)

pub after_throw : (v : Value) (k : Value → Act) → after (throw_of v) k ≡ becomes (throw_of v)
after_throw v k = ap (λ st. by_standing st k) (standing-throw v)

pub calls_none : (p : Program) (set : SetId) → act p (Call set []) ≡ calls set []
calls_none p set = ap (act_at p) (outs-Call set [])

pub calls_one : (p : Program) (set : SetId) (v : Value)
    → act p (Call set (term.Value v ∷ [])) ≡ calls set (v ∷ [])
calls_one p set v =
    ap (act_at p) (outs-Call set (term.Value v ∷ []))
    ∙ ap (λ st. by_together (with_first st (has_stepped (term.Value v)) (at_values []))
    (calls set)) (standing-Value v)

pub then_value : (p : Program) (v : Value) (b : Term) → act p (Then (term.Value v) b) ≡ becomes b
then_value p v b = ap (act_at p) (outs-Then (term.Value v) b) ∙ after_value v _

pub then_throw : (p : Program) (v : Value) (b : Term)
    → act p (Then (throw_of v) b) ≡ becomes (throw_of v)
then_throw p v b = ap (act_at p) (outs-Then (throw_of v) b) ∙ after_throw v _

pub let_value : (p : Program) (x : ℕ) (ty : Ty) (v : Value) (b : Term)
    → act p (Let ((x, ty) ∷ []) (term.Value v) b) ≡ becomes (substituted x v b)
let_value p x ty v b = ap (act_at p) (outs-Let ((x, ty) ∷ []) (term.Value v) b) ∙ after_value v _

pub let_throw : (p : Program) (x : ℕ) (ty : Ty) (v : Value) (b : Term)
    → act p (Let ((x, ty) ∷ []) (throw_of v) b) ≡ becomes (throw_of v)
let_throw p x ty v b = ap (act_at p) (outs-Let ((x, ty) ∷ []) (throw_of v) b) ∙ after_throw v _

pub write_field : (p : Program) (o v : Value) (f : NameId) (l : ℕ)
    → writing_at (field_of p f (out-Value o)) v ≡ sets l v
    → act p (WriteField (term.Value o) f (term.Value v)) ≡ sets l v
write_field p o v f l e =
    ap (act_at p) (outs-WriteField (term.Value o) f (term.Value v)) ∙ after_value o _
    ∙ after_value v _ ∙ e

try_value : (p : Program) (v : Value) (x : ℕ) (c : Term) (ty : Ty)
    → act p (Try (term.Value v) x ((c, ty) ∷ []) None) ≡ becomes (term.Value v)
try_value p v x c ty =
    ap (act_at p) (outs-Try (term.Value v) x ((c, ty) ∷ []) None)
    ∙ ap (trying_act p x ((c, ty) ∷ []) None) (standing-Value v)

try_throw : (p : Program) (v : Value) (x : ℕ) (c : Term) (ty : Ty)
    → act p (Try (throw_of v) x ((c, ty) ∷ []) None)
    ≡ becomes (clause_for p v ((c, ty) ∷ []) (throw_of v) (substituted x v))
try_throw p v x c ty =
    ap (act_at p) (outs-Try (throw_of v) x ((c, ty) ∷ []) None)
    ∙ ap (trying_act p x ((c, ty) ∷ []) None) (standing-throw v)

pub typecase_value : (p : Program) (v : Value) (x : ℕ) (c : Term) (ty : Ty) (b : Term)
    → act p (Typecase x (term.Value v) ((c, ty) ∷ []) b)
    ≡ becomes (clause_for p v ((c, ty) ∷ []) (substituted x v b) (substituted x v))
typecase_value p v x c ty b =
    ap (act_at p) (outs-Typecase x (term.Value v) ((c, ty) ∷ []) b) ∙ after_value v _

pub clause_is : (p : Program) (v : Value) (c : Term) (ty : Ty) (other : Term) (f : Term → Term)
    → has_type p v ty ≡ true → clause_for p v ((c, ty) ∷ []) other f ≡ f c
clause_is p v c ty other f e = ap (λ b. if b then f c else other) e

pub clause_none : (p : Program) (v : Value) (c : Term) (ty : Ty) (other : Term) (f : Term → Term)
    → has_type p v ty ≡ false → clause_for p v ((c, ty) ∷ []) other f ≡ other
clause_none p v c ty other f e = ap (λ b. if b then f c else other) e

-- ---- attempts

form_one : (a : Term) (m m' : Mode) (body body' : Term) → Form a m body → Form a m' body'
    → (m ≡ m') × (body ≡ body')
form_one a m m' body body' (fresh p) (fresh q) =
    let z = sym (outs-Atomic m body) ∙ ap out-Term (sym p ∙ q) ∙ outs-Atomic m' body' in (cc, cc)
form_one a m m' body body' (fresh p) (slept ms n q) =
    let z = sym (outs-Atomic m body) ∙ ap out-Term (sym p ∙ q) ∙ outs-Asleep ms body'
    in absurd cc
form_one a m m' body body' (slept ms n p) (fresh q) =
    let z = sym (outs-Asleep ms body) ∙ ap out-Term (sym p ∙ q) ∙ outs-Atomic m' body'
    in absurd cc
form_one a m m' body body' (slept ms n p) (slept ms' n' q) =
    let z = sym (outs-Asleep ms body) ∙ ap out-Term (sym p ∙ q) ∙ outs-Asleep ms' body'
    in (n ∙ sym n', cc)

no_step : (p : Program) (loc : ℕ) (a b : Term) (d : Effect) (m : Mode) (body : Term)
    → Form a m body → Local p false loc a b d → ⊥
no_step p loc a b d m body (fresh e) l =
    stuck_no_step p loc a b d (ap (act_at p) (ap out-Term e ∙ outs-Atomic m body)) l
no_step p loc a b d m body (slept ms n e) l =
    stuck_no_step p loc a b d (ap (act_at p) (ap out-Term e ∙ outs-Asleep ms body)) l

pub attempted : (p : Program) (s : Store) (pick : Pick) (fs : List Frame) (a b : Term) (d : Effect)
    (body : Term) → Form a mode.Atomic body → Taken p false s pick fs a b d
    → Attempted p s body b d
attempted p s pick fs a b d body form (a_step loc q l f) =
    absurd (no_step p loc a b d mode.Atomic body form l)
attempted p s pick fs a b d body form (an_attempt m other within ended e q form' bare k close) =
    let z = form_one a m mode.Atomic other body form' form in
    record {
      within = within;
      ended = ended;
      effect = e;
      inside = subst (λ x. Runs p true true s within x ended e) z.1 k;
      closes = subst (λ x. Closes p x body ended e b d) z.0
          (subst (λ x. Closes p m x ended e b d) z.1 close);
    }

abbrev pub Closed : Term → Term → Type 0
Closed body b = ((v : Value) × (b ≡ term.Value v))
    ⊎ (((v : Value) × (b ≡ throw_of v)) ⊎ Form b mode.Atomic body)

pub closes_as : (p : Program) (body b : Term) (r : Ended) (e d : Effect)
    → Closes p mode.Atomic body r e b d → Closed body b
closes_as p body b r e d (completed v a c w) = inl (v, c)
closes_as p body b r e d (failed v a c w) = inr (inl (v, c))
closes_as p body b r e d (gave_up v a c w h k) =
    let z : mode.Atomic ≡ mode.Try = c in absurd cc
closes_as p body b r e d (fell_asleep ms a c w h k z) = inr (inr (slept ms refl k))

-- ---- the read of a thread's function

passes_none : (v : Value) (t : Term) → passes (in_function (term.Value v)) t ≡ false
passes_none v t = ap (λ st. list_any (λ b. b) (throws_by st ∷ []) && is_still t) (standing-Value v)

module _ (r : Term) (v : Value) (o : standing r ≡ open_yet) where
  peel_apply : (g : Frame) (y : Term) → standing y ≡ open_yet
      → Term-F.Apply r (term.Value v) ≡ on_layer g y
      → (g ≡ in_function (term.Value v)) × (r ≡ y)
  peel_apply in_throw y q e = absurd cc
  peel_apply (in_function a) y q e = (cc, cc)
  peel_apply (in_argument f) y q e =
      let z : term.Value v ≡ y = cc in
      let w : ends.Standing.at_value v ≡ open_yet = sym (standing-Value v) ∙ ap standing z ∙ q in
      absurd cc
  peel_apply _ y q e = absurd cc

  place : (gs : List Frame) (b : Term) → Apply r (term.Value v) ≡ plug gs b → passed gs b ≡ false
      → Ready r → Ready b → (gs ≡ in_function (term.Value v) ∷ []) × (b ≡ r)
  place [] b e n rr rb = absurd (go (rb.no_part (in_function (term.Value v)) r (sym e)))
    where
      go : Finished r ⊎ (passes (in_function (term.Value v)) r ≡ true) → ⊥
      go (inl h) = not_finished r o h
      go (inr h) = let z : true ≡ false = sym h ∙ passes_none v r in cc
  place (g ∷ gs) b e n rr rb =
      let q : standing (plug gs b) ≡ open_yet = plug_open gs b (ready_open b rb) in
      let i = peel_apply g (plug gs b) q
      (sym (outs-Apply r (term.Value v)) ∙ ap out-Term e ∙ out_on g (plug gs b) q) in
      let k = sole [] gs r b tt i.1 rr rb (or_false (passes g (plug gs b)) (passed gs b) n).1 in
      (cc (i.0, k.0), k.1)

-- ---- the rows

serial_end : (n : Names) (l : ℕ) (end : End) → AllSerial (round_end n l end)
serial_end n l (at_value v) = (tt, (tt, tt))
serial_end n l (at_throw v) = (tt, tt)

serial_then : (n : Names) (l : ℕ) (end : End) (r : Term)
    → AllSerial (round_end n l end ++ in_then r ∷ [])
serial_then n l (at_value v) r = (tt, (tt, (tt, tt)))
serial_then n l (at_throw v) r = (tt, (tt, tt))

module _ (p : Program) (n : Names) (has : HasPrelude p n) (s : Store) (pick : Pick) where
  abbrev Next : Stage → Term → Effect → Type 0
  Next stage u d =
      (next : Stage) × Stands n next × (u ≡ term_at n next) × Follows p n s pick d stage next

  abbrev Pick_of : Term → Term → Effect → Type 0
  Pick_of t u d = Runs p false false s (pick ∷ []) t (goes u) d

  abbrev waits : List Frame
  waits = in_let ((0, Any) ∷ []) (choosing n (Variable 0)) ∷ []

  row_called : (u : Term) (d : Effect) → Pick_of (term_at n called) u d → Next called u d
  row_called u d k =
      let i = calls_to [] (Call n.serve []) (Term-F.Call n.serve []) tt (outs-Call n.serve [])
      refl n.serve [] (serving n (Call n.take [])) (calls_none p n.serve) has.serves k in
      (asking, tt, i.0, i.1)

  row_asking : (u : Term) (d : Effect) → Pick_of (term_at n asking) u d → Next asking u d
  row_asking u d k =
      let i = calls_to waits (Call n.take []) (Term-F.Call n.take []) (tt, tt)
      (outs-Call n.take []) refl n.take [] (Atomic mode.Atomic (taking n)) (calls_none p n.take)
      has.takes k in
      (trying (Atomic mode.Atomic (taking n)), fresh refl, i.0, (refl, i.1))

  row_trying : (form u : Term) (d : Effect) → Form form mode.Atomic (taking n)
      → Pick_of (term_at n (trying form)) u d → Next (trying form) u d
  row_trying form u d h k =
      let i = pick_sole waits form (tt, tt) (form_ready form mode.Atomic (taking n) h) k in
      let a = attempted p s pick waits form i.0 d (taking n) h i.2 in
      go i.0 i.1 a (closes_as p (taking n) i.0 a.ended a.effect d a.closes)
    where
      go : (b : Term) → u ≡ serving n b → Attempted p s (taking n) b d → Closed (taking n) b
          → Next (trying form) u d
      go b e a (inl (v, q)) =
          (got v, tt, e ∙ ap (serving n) q, subst (λ x. Attempted p s (taking n) x d) q a)
      go b e a (inr (inl (v, q))) =
          (refused v, tt, e ∙ ap (serving n) q, subst (λ x. Attempted p s (taking n) x d) q a)
      go b e a (inr (inr f)) = (trying b, f, e, a)

  put_choosing : (v : Value)
      → substituted 0 v (choosing n (Variable 0)) ≡ choosing n (term.Value v)
  put_choosing v =
      put_typecase 0 v 1 (Variable 0) (Call n.go (Variable 1 ∷ [])) (term.Value unit)
      (Named n.thread)
      ∙ (λ i. Typecase 1 (put_0 v i)
      ((
        (put_call 0 v n.go (Variable 1) ∙ ap (λ x. Call n.go (x ∷ [])) (put_other v)) i,
        Named n.thread,
      ) ∷ [])
      (substituted_value 0 v unit i))

  row_got : (v : Value) (u : Term) (d : Effect) → Pick_of (term_at n (got v)) u d
      → Next (got v) u d
  row_got v u d k =
      let i = moves_to [] (serving n (term.Value v))
      (Term-F.Let ((0, Any) ∷ []) (term.Value v) (choosing n (Variable 0))) tt (outs-Let _ _ _)
      refl (choosing n (term.Value v))
      (let_value p 0 Any v (choosing n (Variable 0)) ∙ ap becomes (put_choosing v)) k in
      (looking v, tt, i.0, (refl, i.1))

  row_refused : (v : Value) (u : Term) (d : Effect) → Pick_of (term_at n (refused v)) u d
      → Next (refused v) u d
  row_refused v u d k =
      let i = moves_to [] (serving n (throw_of v))
      (Term-F.Let ((0, Any) ∷ []) (throw_of v) (choosing n (Variable 0))) tt (outs-Let _ _ _)
      refl (throw_of v) (let_throw p 0 Any v (choosing n (Variable 0))) k in
      (done (throw_of v), ends.Finished.throw v refl, i.0, (refl, i.1))

  row_looking : (v : Value) (u : Term) (d : Effect) → Pick_of (term_at n (looking v)) u d
      → Next (looking v) u d
  row_looking v u d k = go (has_type p v (Named n.thread)) refl
    where
      to : (t : Term)
          → clause_for p v ((Call n.go (Variable 1 ∷ []), Named n.thread) ∷ [])
          (substituted 1 v (term.Value unit)) (substituted 1 v) ≡ t
          → (u ≡ t) × (d ≡ paid 1)
      to t e =
          moves_to [] (choosing n (term.Value v))
          (Term-F.Typecase 1 (term.Value v)
          ((Call n.go (Variable 1 ∷ []), Named n.thread) ∷ []) (term.Value unit)) tt
          (outs-Typecase _ _ _ _) refl t
          (typecase_value p v 1 (Call n.go (Variable 1 ∷ [])) (Named n.thread) (term.Value unit)
          ∙ ap becomes e) k

      go : (b : Bool) → has_type p v (Named n.thread) ≡ b → Next (looking v) u d
      go true e =
          let t = has.are_threads v e in
          let i = to (Call n.go (term.Value v ∷ []))
          (clause_is p v (Call n.go (Variable 1 ∷ [])) (Named n.thread) _ (substituted 1 v) e
          ∙ put_call 1 v n.go (Variable 1) ∙ ap (λ x. Call n.go (x ∷ [])) (put_1 v)) in
          (sent t.0, tt, i.0 ∙ ap (λ x. Call n.go (term.Value x ∷ [])) t.1, (t.1, i.1))
      go false e =
          let i = to (term.Value unit)
          (clause_none p v (Call n.go (Variable 1 ∷ [])) (Named n.thread) _ (substituted 1 v) e
          ∙ substituted_value 1 v unit) in
          (done (term.Value unit), ends.Finished.value unit refl, i.0, (e, refl, i.1))

  row_sent : (l : ℕ) (u : Term) (d : Effect) → Pick_of (term_at n (sent l)) u d
      → Next (sent l) u d
  row_sent l u d k =
      let o = object_of n l in
      let i = calls_to [] (Call n.go (term.Value o ∷ []))
      (Term-F.Call n.go (term.Value o ∷ [])) tt (outs-Call n.go _) refl n.go (o ∷ [])
      (going n l) (calls_one p n.go o) (has.goes l) k in
      (reads l, tt, i.0, (refl, i.1))

  module _ (l : ℕ) where
    abbrev reading_it : Term
    reading_it = ReadField (term.Value (object_of n l)) n.body

    read_act : act p reading_it ≡ asks l (λ v. term.Value v)
    read_act =
        ap (act_at p) (outs-ReadField (term.Value (object_of n l)) n.body)
        ∙ after_value (object_of n l) _ ∙ ap reading_at (has.has_body l)

    function_read : (v : Term) (d : Effect)
        → Pick_of (Apply reading_it (term.Value unit)) v d
        → (f : Value) × (v ≡ applied f) × (d ≡ reading l f)
    function_read v d k =
        let i = pick_at k in
        let o : standing reading_it ≡ open_yet = ap standing_at (outs-ReadField _ _) in
        let q = place reading_it unit o i.frames i.part i.is_term i.reached
        (ready_by p reading_it _ read_act tt) (taken_ready i.taken) in
        let t : Taken p false s pick (in_function (term.Value unit) ∷ []) reading_it i.next d =
        subst (λ x. Taken p false s pick (in_function (term.Value unit) ∷ []) x i.next d) q.1
        (subst (λ gs. Taken p false s pick gs i.part i.next d) q.0 i.taken) in
        let j = stepped_at (Term-F.ReadField (term.Value (object_of n l)) n.body)
        (outs-ReadField _ _) refl t in
        let w : Does p false j.0 (asks l (λ x. term.Value x)) i.next d =
        does p false j.0 reading_it i.next d (asks l (λ x. term.Value x)) read_act tt j.1 in (
          w.0,
          i.becomes ∙ ap (λ gs. plug (trodden gs) i.next) q.0
              ∙ ap (λ x. Apply (stepped x) (term.Value unit)) w.2
              ∙ ap (λ x. Apply x (term.Value unit))
              (stepped_finished (term.Value w.0) (ends.Finished.value w.0 refl)),
          w.3,
        )

    row_reads : (u : Term) (d : Effect) → Pick_of (term_at n (reads l)) u d → Next (reads l) u d
    row_reads u d k =
        let i = pick_inside (round n l) (Apply reading_it (term.Value unit)) (tt, (tt, (tt, tt)))
        (ap standing_at (outs-Apply reading_it (term.Value unit))) k in
        let w = function_read i.0 d i.2 in
        (runs l i.0, tt, i.1, (w.0, refl, w.1, w.2))

  row_runs : (l : ℕ) (t u : Term) (d : Effect) → Pick_of (term_at n (runs l t)) u d
      → Next (runs l t) u d
  row_runs l t u d k = go (decide t)
    where
      go : (standing t ≡ open_yet) ⊎ Finished t → Next (runs l t) u d
      go (inl o) =
          let i = pick_inside (round n l) t (tt, (tt, (tt, tt))) o k in
          (runs l i.0, tt, i.1, (refl, i.2))
      go (inr (ends.Finished.value v e)) =
          let i = moves_to (in_then (counting n) ∷ in_try_of n l ∷ [])
          (Let ((1, Any) ∷ []) (term.Value v) (storing n l (Variable 1) 1))
          (Term-F.Let ((1, Any) ∷ []) (term.Value v) (storing n l (Variable 1) 1)) (tt, (tt, tt))
          (outs-Let _ _ _) refl (storing n l (term.Value v) 1)
          (let_value p 1 Any v (storing n l (Variable 1) 1)
          ∙ ap becomes (put_storing n 1 v l (Variable 1) (term.Value v) 1 (put_1 v)))
          (subst (λ x. Pick_of (plug (round n l) x) u d) e k) in
          (keeps l (at_value v), tt, i.0, (refl, e, i.1))
      go (inr (ends.Finished.throw v e)) =
          let i = moves_to (in_then (counting n) ∷ in_try_of n l ∷ [])
          (Let ((1, Any) ∷ []) (throw_of v) (storing n l (Variable 1) 1))
          (Term-F.Let ((1, Any) ∷ []) (throw_of v) (storing n l (Variable 1) 1)) (tt, (tt, tt))
          (outs-Let _ _ _) refl (throw_of v) (let_throw p 1 Any v (storing n l (Variable 1) 1))
          (subst (λ x. Pick_of (plug (round n l) x) u d) e k) in
          (caught l v, tt, i.0, (refl, e, i.1))

  row_caught : (l : ℕ) (v : Value) (u : Term) (d : Effect) → Pick_of (term_at n (caught l v)) u d
      → Next (caught l v) u d
  row_caught l v u d k = go (has_type p v n.exception) refl
    where
      to : (t : Term)
          → clause_for p v ((storing n l (Variable 2) 2, n.exception) ∷ []) (throw_of v)
          (substituted 2 v) ≡ t
          → (u ≡ Then t (counting n)) × (d ≡ paid 1)
      to t e =
          moves_to (in_then (counting n) ∷ [])
          (Try (throw_of v) 2 ((storing n l (Variable 2) 2, n.exception) ∷ []) None)
          (Term-F.Try (throw_of v) 2 ((storing n l (Variable 2) 2, n.exception) ∷ []) None)
          (tt, tt) (outs-Try _ _ _ _) refl t
          (try_throw p v 2 (storing n l (Variable 2) 2) n.exception ∙ ap becomes e) k

      go : (b : Bool) → has_type p v n.exception ≡ b → Next (caught l v) u d
      go true e =
          let i = to (storing n l (term.Value v) 2)
          (clause_is p v (storing n l (Variable 2) 2) n.exception (throw_of v) (substituted 2 v) e
          ∙ put_storing n 2 v l (Variable 2) (term.Value v) 2 (put_2 v)) in
          (keeps l (at_throw v), tt, i.0, (refl, refl, e, i.1))
      go false e =
          let i = to (throw_of v)
          (clause_none p v (storing n l (Variable 2) 2) n.exception (throw_of v)
          (substituted 2 v) e) in
          (lost v, tt, i.0, (refl, e, i.1))

  row_lost : (v : Value) (u : Term) (d : Effect) → Pick_of (term_at n (lost v)) u d
      → Next (lost v) u d
  row_lost v u d k =
      let i = moves_to [] (Then (throw_of v) (counting n))
      (Term-F.Then (throw_of v) (counting n)) tt (outs-Then _ _) refl (throw_of v)
      (then_throw p v (counting n)) k in
      (done (throw_of v), ends.Finished.throw v refl, i.0, (refl, i.1))

  row_keeps : (l : ℕ) (end : End) (u : Term) (d : Effect) → Pick_of (term_at n (keeps l end)) u d
      → Next (keeps l end) u d
  row_keeps l end u d k =
      let v = kept_value end in
      let o = object_of n l in
      let w : Term = WriteField (term.Value o) n.value (term.Value v) in
      let fs = in_then (marking n l end) ∷ [] in
      let i = writes_to (round_end n l end ++ fs) w
      (Term-F.WriteField (term.Value o) n.value (term.Value v))
      (serial_then n l end (marking n l end)) (outs-WriteField _ _ _) refl (l + 2) v
      (write_field p o v n.value (l + 2) (ap (λ x. writing_at x v) (has.has_value l)))
      (subst (λ x. Pick_of x u d) (sym (plug_append (round_end n l end) fs w)) k) in (
        has_kept l end,
        tt,
        i.0 ∙ plug_append (round_end n l end) fs (term.Value unit),
        (refl, refl, i.1),
      )

  row_has_kept : (l : ℕ) (end : End) (u : Term) (d : Effect)
      → Pick_of (term_at n (has_kept l end)) u d → Next (has_kept l end) u d
  row_has_kept l end u d k =
      let i = moves_to (round_end n l end) (Then (term.Value unit) (marking n l end))
      (Term-F.Then (term.Value unit) (marking n l end)) (serial_end n l end) (outs-Then _ _) refl
      (marking n l end) (then_value p unit (marking n l end)) k in
      (marks l end, tt, i.0, (refl, refl, i.1))

  row_marks : (l : ℕ) (end : End) (u : Term) (d : Effect) → Pick_of (term_at n (marks l end)) u d
      → Next (marks l end) u d
  row_marks l end u d k =
      let v = Small (pos (mark_of end)) in
      let o = object_of n l in
      let i = writes_to (round_end n l end) (marking n l end)
      (Term-F.WriteField (term.Value o) n.state (term.Value v)) (serial_end n l end)
      (outs-WriteField _ _ _) refl (l + 1) v
      (write_field p o v n.state (l + 1) (ap (λ x. writing_at x v) (has.has_state l))) k in
      (has_marked l end, tt, i.0, (refl, refl, i.1))

  leaving : (u : Term) (d : Effect) → Pick_of (Then (term.Value unit) (counting n)) u d
      → (u ≡ counting n) × (d ≡ paid 1)
  leaving u d k =
      moves_to [] (Then (term.Value unit) (counting n))
      (Term-F.Then (term.Value unit) (counting n)) tt (outs-Then _ _) refl (counting n)
      (then_value p unit (counting n)) k

  row_has_marked : (l : ℕ) (end : End) (u : Term) (d : Effect)
      → Pick_of (term_at n (has_marked l end)) u d → Next (has_marked l end) u d
  row_has_marked l (at_value v) u d k =
      let i = moves_to (in_then (counting n) ∷ [])
      (Try (term.Value unit) 2 ((storing n l (Variable 2) 2, n.exception) ∷ []) None)
      (Term-F.Try (term.Value unit) 2 ((storing n l (Variable 2) 2, n.exception) ∷ []) None)
      (tt, tt) (outs-Try _ _ _ _) refl (term.Value unit)
      (try_value p unit 2 (storing n l (Variable 2) 2) n.exception) k in
      (leaves, tt, i.0, i.1)
  row_has_marked l (at_throw v) u d k =
      let i = leaving u d k in
      (counts (counting n), fresh refl, i.0, (refl, i.1))

  row_leaves : (u : Term) (d : Effect) → Pick_of (term_at n leaves) u d → Next leaves u d
  row_leaves u d k =
      let i = leaving u d k in
      (counts (counting n), fresh refl, i.0, (refl, i.1))

  row_counts : (form u : Term) (d : Effect) → Form form mode.Atomic (fewer n)
      → Pick_of (term_at n (counts form)) u d → Next (counts form) u d
  row_counts form u d h k =
      let i = pick_sole [] form tt (form_ready form mode.Atomic (fewer n) h) k in
      let a = attempted p s pick [] form i.0 d (fewer n) h i.2 in
      go i.0 i.1 a (closes_as p (fewer n) i.0 a.ended a.effect d a.closes)
    where
      go : (b : Term) → u ≡ b → Attempted p s (fewer n) b d → Closed (fewer n) b
          → Next (counts form) u d
      go b e a (inl (v, q)) = (done b, ends.Finished.value v q, e, a)
      go b e a (inr (inl (v, q))) = (done b, ends.Finished.throw v q, e, a)
      go b e a (inr (inr f)) = (counts b, f, e, a)

  pub row_done : (t u : Term) (d : Effect) → Finished t → Pick_of t u d → ⊥
  row_done t u d h k =
      let i = pick_at k in
      not_finished t
      (ap standing i.is_term ∙ plug_open i.frames i.part (ready_open i.part (taken_ready i.taken)))
      h

pub each_pick_follows : EachPickFollows
each_pick_follows p n has s pick called u d h k = row_called p n has s pick u d k
each_pick_follows p n has s pick asking u d h k = row_asking p n has s pick u d k
each_pick_follows p n has s pick (trying form) u d h k = row_trying p n has s pick form u d h k
each_pick_follows p n has s pick (got v) u d h k = row_got p n has s pick v u d k
each_pick_follows p n has s pick (refused v) u d h k = row_refused p n has s pick v u d k
each_pick_follows p n has s pick (looking v) u d h k = row_looking p n has s pick v u d k
each_pick_follows p n has s pick (sent l) u d h k = row_sent p n has s pick l u d k
each_pick_follows p n has s pick (reads l) u d h k = row_reads p n has s pick l u d k
each_pick_follows p n has s pick (runs l t) u d h k = row_runs p n has s pick l t u d k
each_pick_follows p n has s pick (caught l v) u d h k = row_caught p n has s pick l v u d k
each_pick_follows p n has s pick (lost v) u d h k = row_lost p n has s pick v u d k
each_pick_follows p n has s pick (keeps l end) u d h k = row_keeps p n has s pick l end u d k
each_pick_follows p n has s pick (has_kept l end) u d h k = row_has_kept p n has s pick l end u d k
each_pick_follows p n has s pick (marks l end) u d h k = row_marks p n has s pick l end u d k
each_pick_follows p n has s pick (has_marked l end) u d h k =
    row_has_marked p n has s pick l end u d k
each_pick_follows p n has s pick leaves u d h k = row_leaves p n has s pick u d k
each_pick_follows p n has s pick (counts form) u d h k = row_counts p n has s pick form u d h k
each_pick_follows p n has s pick (done t) u d h k = absurd (row_done p n has s pick t u d h k)
