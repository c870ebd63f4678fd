-- A completed attempt of `take'`, and one of `wait`, pick by pick.
use Rattle.std.proofs.Common.{◌≡◌, ℕ, ◌+◌, ◌==◌, Bool, true, false, List, [], ◌∷◌, Option, Some, None, if◌then◌else◌, pos, arith, refl, ap, sym, ◌∙◌, subst, ◌⊎◌, inl, inr}
use Rattle.fort_base.specs.declared.ty.Ty.TheVariants.{Any, Named}
use Rattle.fort_core.specs.declared.form.Mode.TheVariants as mode
use Rattle.fort_core.specs.declared.form.Slot.{Slot}
use Rattle.fort_core.specs.declared.form.Slot.TheVariants as slot
use Rattle.fort_core.specs.declared.pick.Pick.{Pick}
use Rattle.fort_core.specs.declared.program.Program.{Program}
use Rattle.fort_core.specs.declared.term.Term.{Term, Call, Operator, Let, Write, ReadField, Then, If, Typecase, out-Term}
use Rattle.fort_core.specs.declared.term.Term as term
use Rattle.fort_core.specs.declared.term.Term.TheVariants.{Variable, Read, outs-Value, outs-Asleep, outs-Call, outs-Let, outs-Read, outs-Write, outs-ReadField, outs-Then, outs-If, outs-Typecase, outs-Operator}
use Rattle.fort_core.specs.declared.term.Term.TheOpen.{Term-F}
use Rattle.fort_core.specs.declared.value.Closure.{Closure}
use Rattle.fort_core.specs.declared.value.Value.{Value, Small, Truth}
use Rattle.fort_core.specs.declared.value.Value.TheVariants.{outs-Truth}
use Rattle.fort_machine.specs.Acts.{asks, becomes, ends as ends_it, unit}
use Rattle.fort_machine.specs.Attempts.{Ended, goes, Closes, completed, failed, gave_up, fell_asleep}
use Rattle.fort_machine.specs.Cells.{untouched, found, left_at}
use Rattle.fort_machine.specs.Effects.{Store, Effect, paid, reading, writing, completing, FitsAll, afterwards}
use Rattle.fort_machine.specs.Ends.{open_yet, standing_at, standing, throw_of, Finished}
use Rattle.fort_machine.specs.Ends as ends
use Rattle.fort_machine.specs.Forms.{act_at, act, reading_at, choosing as chosen_by}
use Rattle.fort_machine.specs.Frames.{Frame, in_then, in_let, in_write, in_operand, in_test, plug}
use Rattle.fort_machine.specs.RunLaws.{PickByPick, no_more, next as then_more, stopped, all_of}
use Rattle.fort_machine.specs.Runs.{Runs, location}
use Rattle.fort_machine.specs.Steps.{Does}
use Rattle.fort_machine.specs.Substitution.{substituted}
use Rattle.fort_machine.specs.Types.{has_type}
use Rattle.fort_machine.proofs.Less.{substituted_value}
use Rattle.fort_machine.proofs.Picks.{picks_add_up}
use Rattle.fort_machine.proofs.Places.{plug_open, ready_open}
use Rattle.fort_machine.proofs.Single.{reads_what_is_there}
use Rattle.fort_machine.proofs.Standing.{standing-Value, decide, not_finished, value_not_throw}
use Rattle.fort_threads_law_servers.specs.Prelude.{Names, object_of, number, taking_else, taking_from, taking, waiting, HasPrelude}
use Rattle.fort_threads_law_servers.specs.Stages.{Attempted}
use Rattle.fort_threads_law_servers.specs.Queue.{takes_thread, TakesTheFirst, WaitsForTheMark}
use Rattle.fort_threads_law_servers.proofs.Turns.{AllSerial, pick_at, taken_ready, pick_sole, pick_inside, ready_by, is_atomic, ready_call, stepped_at, does, called_with, moves_to, writes_to}
use Rattle.fort_threads_law_servers.proofs.Put.{put_read, put_write_top, put_read_field, put_if, put_operator, put_then, put_calls, put_typecase, put_0, put_1, put_other}
use Rattle.fort_threads_law_servers.proofs.Operands.{operator_two}
use Rattle.fort_threads_law_servers.proofs.Server.{after_value, calls_none, then_value, then_throw, let_value, typecase_value, clause_is}

-- ---- values in the places of variables

-- the write of `x'.next'` to `queue'`, of a variable or a value
abbrev pub pops : Names → Term → Term
pops n x = Write (slot.Location (location n.queue)) (ReadField x n.next)

pub put_else : (n : Names) (x : ℕ) (v : Value)
    → substituted x v (taking_else n) ≡ taking_else n
put_else n x v =
    put_if x v (Operator n.greater (Read (slot.Location (location n.unended)) ∷ number 0 ∷ []))
    (Call n.abort []) (term.Value unit)
    ∙ (λ i. If
    ((put_operator x v n.greater (Read (slot.Location (location n.unended))) (number 0)
    ∙ (λ j. Operator n.greater
    (put_read x v n.unended j ∷ substituted_value x v (Small (pos 0)) j ∷ []))) i)
    (put_calls x v n.abort i) (substituted_value x v unit i))

pub put_pops : (n : Names) (x : ℕ) (v : Value) (a b : Term) → substituted x v a ≡ b
    → substituted x v (pops n a) ≡ pops n b
put_pops n x v a b e =
    put_write_top x v n.queue (ReadField a n.next)
    ∙ ap (Write (slot.Location (location n.queue)))
    (put_read_field x v a n.next ∙ ap (λ t. ReadField t n.next) e)

pub put_from : (n : Names) (v : Value)
    → substituted 0 v (Then (taking_from n (Variable 0)) (Variable 0))
    ≡ Then (taking_from n (term.Value v)) (term.Value v)
put_from n v =
    put_then 0 v (taking_from n (Variable 0)) (Variable 0)
    ∙ (λ i. Then
    ((put_typecase 0 v 1 (Variable 0) (pops n (Variable 1)) (taking_else n) (Named n.thread)
    ∙ (λ j. Typecase 1 (put_0 v j)
    ((put_pops n 0 v (Variable 1) (Variable 1) (put_other v) j, Named n.thread) ∷ [])
    (put_else n 0 v j))) i)
    (put_0 v i))

-- ---- one pick more of an attempt that comes to a value

pub record Onward (p : Program) (s : Store) (t : Term) (v : Value) (effects : List Effect) : Type 0 where
  pub pick : Pick
  pub rest : List Pick
  pub becomes : Term
  pub effect : Effect
  pub others : List Effect
  pub run : Runs p true true s (pick ∷ []) t (goes becomes) effect
  pub more : PickByPick p true true (afterwards effect s) rest becomes (goes (term.Value v)) others
  pub are : effects ≡ effect ∷ others

pub onward : {p : Program} {s : Store} {picks : List Pick} {t : Term} {effects : List Effect}
    (v : Value) → standing t ≡ open_yet
    → PickByPick p true true s picks t (goes (term.Value v)) effects → Onward p s t v effects
onward {t = t} v o (no_more a b c) =
    let e : term.Value v ≡ t = cc in absurd (not_finished t o (ends.Finished.value v (sym e)))
onward v o (then_more {rest = rest} {u = u} {others = others} pick d a k more c) =
    record {
      pick = pick;
      rest = rest;
      becomes = u;
      effect = d;
      others = others;
      run = k;
      more = more;
      are = c;
    }
onward v o (stopped pick d a k b c) = absurd cc

pub moved : {p : Program} {s : Store} {picks : List Pick} {t u : Term} {v : Value}
    {effects : List Effect}
    → t ≡ u → PickByPick p true true s picks t (goes (term.Value v)) effects
    → PickByPick p true true s picks u (goes (term.Value v)) effects
moved {p = p} {s = s} {picks = picks} {v = v} {effects = effects} e k =
    subst (λ x. PickByPick p true true s picks x (goes (term.Value v)) effects) e k

-- what is finished takes no pick
finished_stays : {p : Program} {s : Store} {pick : Pick} {t u : Term} {d : Effect} → Finished t
    → Runs p true true s (pick ∷ []) t (goes u) d → ⊥
finished_stays {t = t} h k =
    let i = pick_at k in
    not_finished t
    (ap standing i.is_term ∙ plug_open i.frames i.part (ready_open i.part (taken_ready i.taken))) h

same_value : (x y : Value) → term.Value x ≡ term.Value y → x ≡ y
same_value x y e =
    let r : ends.Standing.at_value x ≡ ends.Standing.at_value y =
    sym (standing-Value x) ∙ ap standing e ∙ standing-Value y in cc

same_end : (x y : Term) → goes x ≡ goes y → x ≡ y
same_end x y e = cc

pub at_end : {p : Program} {s : Store} {picks : List Pick} {effects : List Effect} (w v : Value)
    → PickByPick p true true s picks (term.Value w) (goes (term.Value v)) effects
    → (v ≡ w) × (effects ≡ [])
at_end w v (no_more a b c) = (same_value v w (same_end _ _ b), c)
at_end w v (then_more pick d a k more c) =
    absurd (finished_stays (ends.Finished.value w refl) k)
at_end w v (stopped pick d a k b c) = absurd cc

pub no_throw : {p : Program} {s : Store} {picks : List Pick} {effects : List Effect} (w v : Value)
    → PickByPick p true true s picks (throw_of w) (goes (term.Value v)) effects → ⊥
no_throw w v (no_more a b c) = value_not_throw v w (same_end _ _ b)
no_throw w v (then_more pick d a k more c) = finished_stays (ends.Finished.throw w refl) k
no_throw w v (stopped pick d a k b c) = cc

-- a block whose rest is a value comes to no other value
rest_from : {p : Program} {s next : Store} {pick : Pick} {picks : List Pick} {u : Term} {d : Effect}
    {effects : List Effect} (t : Term) (w v : Value)
    → ((x : Term) → u ≡ Then x (term.Value w) → v ≡ w) → (standing t ≡ open_yet) ⊎ Finished t
    → Runs p true true s (pick ∷ []) (Then t (term.Value w)) (goes u) d
    → PickByPick p true true next picks u (goes (term.Value v)) effects → v ≡ w
rest_from t w v more (inl o) q r =
    let i = pick_inside (in_then (term.Value w) ∷ []) t (tt, tt) o q in more i.0 i.1
rest_from {p = p} {s = s} {pick = pick} {u = u} {d = d} t w v more (inr (ends.Finished.value z h)) q
    r =
    let i = moves_to [] (Then (term.Value z) (term.Value w))
    (Term-F.Then (term.Value z) (term.Value w)) tt (outs-Then _ _) refl (term.Value w)
    (then_value p z (term.Value w))
    (subst (λ y. Runs p true true s (pick ∷ []) (Then y (term.Value w)) (goes u) d) h q) in
    (at_end w v (moved i.0 r)).0
rest_from {p = p} {s = s} {pick = pick} {u = u} {d = d} t w v more (inr (ends.Finished.throw z h)) q
    r =
    let i = moves_to [] (Then (throw_of z) (term.Value w))
    (Term-F.Then (throw_of z) (term.Value w)) tt (outs-Then _ _) refl (throw_of z)
    (then_throw p z (term.Value w))
    (subst (λ y. Runs p true true s (pick ∷ []) (Then y (term.Value w)) (goes u) d) h q) in
    absurd (no_throw z v (moved i.0 r))

rest_is : {p : Program} {s : Store} {picks : List Pick} {x : Term} {effects : List Effect}
    (t : Term) (w v : Value) → x ≡ Then t (term.Value w)
    → PickByPick p true true s picks x (goes (term.Value v)) effects → v ≡ w
rest_is t w v e (no_more a b c) =
    absurd (not_finished (Then t (term.Value w)) (ap standing_at (outs-Then t (term.Value w)))
    (ends.Finished.value v (sym e ∙ sym (same_end _ _ b))))
rest_is {p = p} {s = s} t w v e (then_more {u = u} pick d a k more c) =
    rest_from t w v (λ x q. rest_is x w v q more) (decide t)
    (subst (λ y. Runs p true true s (pick ∷ []) y (goes u) d) e k) more
rest_is t w v e (stopped pick d a k b c) = absurd cc

-- the picks of an attempt that came to a value
pub came_to : (p : Program) (s : Store) (body : Term) (v : Value) (d : Effect)
    → (a : Attempted p s body (term.Value v) d)
    → (effects : List Effect)
    × PickByPick p true true s a.within body (goes (term.Value v)) effects
    × (d ≡ completing (all_of effects))
came_to p s body v d a = go a.ended a.effect a.inside a.closes
  where
    go : (r : Ended) (e : Effect) → Runs p true true s a.within body r e
        → Closes p mode.Atomic body r e (term.Value v) d
        → (effects : List Effect)
        × PickByPick p true true s a.within body (goes (term.Value v)) effects
        × (d ≡ completing (all_of effects))
    go r e k (completed w b c f) =
        let k2 = subst (λ x. Runs p true true s a.within body x e) (b ∙ ap goes (sym c)) k in
        let i = picks_add_up p true true s a.within body (goes (term.Value v)) e k2 in
        (i.0, i.1, f ∙ ap completing i.2)
    go r e k (failed w b c f) = absurd (value_not_throw v w c)
    go r e k (gave_up w b c f g i) = let z : mode.Atomic ≡ mode.Try = c in absurd cc
    go r e k (fell_asleep marks b c f g i j) =
        let z = sym (outs-Value v) ∙ ap out-Term i ∙ outs-Asleep marks body in absurd cc

-- a read under frames
pub record Reads (s : Store) (fs : List Frame) (l : ℕ) (u : Term) (d : Effect) : Type 0 where
  pub value : Value
  pub becomes : u ≡ plug fs (term.Value value)
  pub effect : d ≡ reading l value
  pub is_there : s l ≡ Some value

pub reads_at : {p : Program} {inner strict : Bool} {s : Store} {pick : Pick} {u : Term} {d : Effect} (fs : List Frame)
    (a : Term) (y : Term-F Term Value Closure) → AllSerial fs → out-Term a ≡ y
    → is_atomic y ≡ false → (l : ℕ) → act p a ≡ asks l (λ v. term.Value v)
    → Runs p inner strict s (pick ∷ []) (plug fs a) (goes u) d → Reads s fs l u d
reads_at {p = p} {inner = inner} {s = s} {d = d} fs a y h e n l q k =
    let i = pick_sole fs a h (ready_by p a _ q tt) k in
    let j = stepped_at y e n i.2 in
    let w : Does p inner j.0 (asks l (λ v. term.Value v)) i.0 d =
    does p inner j.0 a i.0 d (asks l (λ v. term.Value v)) q tt j.1 in
    record {
      value = w.0;
      becomes = i.1 ∙ ap (plug fs) w.2;
      effect = w.3;
      is_there = reads_what_is_there l w.0 s (subst (λ x. FitsAll x s) w.3 j.2);
    }

module _ (p : Program) (n : Names) (has : HasPrelude p n) where
  abbrev queue : Slot
  queue = slot.Location (location n.queue)

  open_then : (a b : Term) → standing (Then a b) ≡ open_yet
  open_then a b = ap standing_at (outs-Then a b)

  -- the last three picks: `queue'` is written, and the block goes on to its value
  last_picks : {s : Store} {picks : List Pick} {effects : List Effect} (o w v : Value)
      → PickByPick p true true s picks (Then (Write queue (term.Value w)) (term.Value o))
      (goes (term.Value v)) effects
      → (v ≡ o) × (effects ≡ writing n.queue w ∷ paid 1 ∷ [])
  last_picks o w v k =
      let a = onward v (open_then _ _) k in
      let b = writes_to (in_then (term.Value o) ∷ []) (Write queue (term.Value w))
      (Term-F.Write queue (term.Value w)) (tt, tt) (outs-Write _ _) refl n.queue w
      (ap (act_at p) (outs-Write queue (term.Value w)) ∙ after_value w _) a.run in
      let c = onward v (open_then _ _) (moved b.0 a.more) in
      let d = moves_to [] (Then (term.Value unit) (term.Value o))
      (Term-F.Then (term.Value unit) (term.Value o)) tt (outs-Then _ _) refl (term.Value o)
      (then_value p unit (term.Value o)) c.run in
      let e = at_end o v (moved d.0 c.more) in (
        e.0,
        a.are ∙ (λ i. b.1 i ∷ (c.are ∙ (λ j. d.1 j ∷ e.1 j)) i),
      )

  -- from the choice on, where the head of the queue is a thread
  record Popped (s : Store) (l : ℕ) (effects : List Effect) : Type 0 where
    pub behind : Value
    pub is_behind : s (l + 3) ≡ Some behind
    pub are : effects
        ≡ paid 1 ∷ reading (l + 3) behind ∷ writing n.queue behind ∷ paid 1 ∷ []

  pops_head : {s : Store} {picks : List Pick} {effects : List Effect} (l : ℕ) (v : Value)
      → has_type p (object_of n l) (Named n.thread) ≡ true
      → PickByPick p true true s picks
      (Then (taking_from n (term.Value (object_of n l))) (term.Value (object_of n l)))
      (goes (term.Value v)) effects
      → (v ≡ object_of n l) × Popped s l effects
  pops_head {s = s} l v h k =
      let o = object_of n l in
      let a = onward v (open_then _ _) k in
      let b = moves_to (in_then (term.Value o) ∷ []) (taking_from n (term.Value o))
      (Term-F.Typecase 1 (term.Value o) ((pops n (Variable 1), Named n.thread) ∷ [])
      (taking_else n)) (tt, tt) (outs-Typecase _ _ _ _) refl (pops n (term.Value o))
      (typecase_value p o 1 (pops n (Variable 1)) (Named n.thread) (taking_else n)
      ∙ ap becomes
      (clause_is p o (pops n (Variable 1)) (Named n.thread) _ (substituted 1 o) h
      ∙ put_pops n 1 o (Variable 1) (term.Value o) (put_1 o))) a.run in
      let c = onward v (open_then _ _) (moved b.0 a.more) in
      let d = reads_at (in_then (term.Value o) ∷ in_write queue ∷ []) (ReadField (term.Value o) n.next)
      (Term-F.ReadField (term.Value o) n.next) (tt, (tt, tt)) (outs-ReadField _ _) refl (l + 3)
      (ap (act_at p) (outs-ReadField (term.Value o) n.next) ∙ after_value o _
      ∙ ap reading_at (has.has_next l)) c.run in
      let e = last_picks o d.value v (moved d.becomes c.more) in (
        e.0,
        record {
          behind = d.value;
          is_behind = ap (λ x. afterwards x s (l + 3)) (sym b.1) ∙ d.is_there;
          are = a.are ∙ (λ i. b.1 i ∷ (c.are ∙ (λ j. d.effect j ∷ e.1 j)) i);
        },
      )

  -- the whole attempt
  record Took (s : Store) (v : Value) (effects : List Effect) : Type 0 where
    pub was_first : s n.queue ≡ Some v
    pub others : List Effect
    pub are : effects ≡ reading n.queue v ∷ paid 1 ∷ others
    pub place : ℕ
    pub is_object : v ≡ object_of n place
    pub popped : Popped s place others

  takes : {s : Store} {picks : List Pick} {effects : List Effect} (v : Value)
      → has_type p v (Named n.thread) ≡ true
      → PickByPick p true true s picks (taking n) (goes (term.Value v)) effects → Took s v effects
  takes {s = s} v h k =
      let rest = Then (taking_from n (Variable 0)) (Variable 0) in
      let a = onward v (ap standing_at (outs-Let _ _ _)) k in
      let b = reads_at (in_let ((0, Any) ∷ []) rest ∷ []) (Read queue) (Term-F.Read queue) (tt, tt)
      (outs-Read _) refl n.queue (ap (act_at p) (outs-Read queue)) a.run in
      let c = onward v (ap standing_at (outs-Let _ _ _)) (moved b.becomes a.more) in
      let d = moves_to [] (Let ((0, Any) ∷ []) (term.Value b.value) rest)
      (Term-F.Let ((0, Any) ∷ []) (term.Value b.value) rest) tt (outs-Let _ _ _) refl
      (Then (taking_from n (term.Value b.value)) (term.Value b.value))
      (let_value p 0 Any b.value rest ∙ ap becomes (put_from n b.value)) c.run in
      go b.value c.others b.is_there
      (a.are ∙ (λ i. b.effect i ∷ (c.are ∙ (λ j. d.1 j ∷ c.others)) i))
      (subst (λ x. PickByPick p true true x c.rest
      (Then (taking_from n (term.Value b.value)) (term.Value b.value)) (goes (term.Value v)) c.others)
      (ap (λ x. afterwards x (afterwards a.effect s)) d.1 ∙ ap (λ x. afterwards x s) b.effect)
      (moved d.0 c.more))
    where
      go : {picks : List Pick} {effects : List Effect} (w : Value) (others : List Effect)
          → s n.queue ≡ Some w → effects ≡ reading n.queue w ∷ paid 1 ∷ others
          → PickByPick p true true (afterwards (reading n.queue w) s) picks
          (Then (taking_from n (term.Value w)) (term.Value w)) (goes (term.Value v)) others
          → Took s v effects
      go {picks = picks} w others f q r =
          let e : v ≡ w = rest_is (taking_from n (term.Value w)) w v refl r in
          let t : has_type p w (Named n.thread) ≡ true =
          ap (λ x. has_type p x (Named n.thread)) (sym e) ∙ h in
          let o = has.are_threads w t in
          let y = pops_head o.0 v (ap (λ x. has_type p x (Named n.thread)) (sym o.1) ∙ t)
          (subst (λ x. PickByPick p true true (afterwards (reading n.queue w) s) picks
          (Then (taking_from n (term.Value x)) (term.Value x)) (goes (term.Value v)) others) o.1 r)
          in
          record {
            was_first = f ∙ ap Some (sym e);
            others = others;
            are = q ∙ ap (λ x. reading n.queue x ∷ paid 1 ∷ others) (sym e);
            place = o.0;
            is_object = y.0;
            popped =
                record {
                  behind = y.1.behind;
                  is_behind = sym (read_keeps w (o.0 + 3)) ∙ y.1.is_behind;
                  are = y.1.are;
                };
          }
        where
          kept_by : (x : Value) (b : Bool) (y : Option Value)
              → left_at (if b then found (Some x) None else untouched) y ≡ y
          kept_by x true y = refl
          kept_by x false y = refl

          read_keeps : (x : Value) (k : ℕ) → afterwards (reading n.queue x) s k ≡ s k
          read_keeps x k = kept_by x (n.queue == k) (s k)

  took : (s : Store) (v : Value) (d : Effect) → Attempted p s (taking n) (term.Value v) d
      → has_type p v (Named n.thread) ≡ true
      → (s n.queue ≡ Some v)
      × ((l : ℕ) × (w : Value) × (v ≡ object_of n l) × (s (l + 3) ≡ Some w)
      × (d ≡ completing (all_of (takes_thread n l w))))
  took s v d a h =
      let i = came_to p s (taking n) v d a in
      let t = takes v h i.1 in
      let all : i.0 ≡ takes_thread n t.place t.popped.behind =
      t.are ∙ (λ j. reading n.queue (t.is_object j) ∷ paid 1 ∷ t.popped.are j) in (
        t.was_first,
        (
          t.place,
          t.popped.behind,
          t.is_object,
          t.popped.is_behind,
          i.2 ∙ ap (λ es. completing (all_of es)) all,
        ),
      )

pub takes_the_first : TakesTheFirst
takes_the_first p n has s v d a h = took p n has s v d a h

-- ---- `wait`

module _ (p : Program) (n : Names) (has : HasPrelude p n) where
  -- no attempt goes on behind `abort()`
  never_goes_on : {s : Store} {pick : Pick} {u : Term} {d : Effect}
      → Runs p true true s (pick ∷ []) (Call n.abort []) (goes u) d → ⊥
  never_goes_on {d = d} k =
      let q = calls_none p n.abort in
      let i = pick_sole [] (Call n.abort []) tt (ready_call p (Call n.abort []) n.abort [] q) k in
      let j = stepped_at (Term-F.Call n.abort []) (outs-Call _ _) refl i.2 in
      let c = called_with p true j.0 (Call n.abort []) i.0 d n.abort [] q j.1 in
      let w : Does p true j.0 ends_it i.0 d =
      subst (λ x. Does p true j.0 x i.0 d) (has.aborts c.declaration c.declared c.dispatches)
      c.does in
      let z : true ≡ false = w.1 in cc

  abbrev compared : Term → Term
  compared a = Operator n.equal (a ∷ number 0 ∷ [])

  abbrev chosen : Term → Term
  chosen a = If a (Call n.abort []) (term.Value unit)

  open_if : (a : Term) → standing (chosen a) ≡ open_yet
  open_if a = ap standing_at (outs-If a (Call n.abort []) (term.Value unit))

  -- where the mark is 0, the attempt comes to no value
  no_value : {s : Store} {picks : List Pick} {effects : List Effect} (v : Value)
      → PickByPick p true true s picks (chosen (compared (number 0))) (goes (term.Value v)) effects
      → ⊥
  no_value v k =
      let a = onward v (open_if _) k in
      let q = operator_two p n.equal (Small (pos 0)) (Small (pos 0)) in
      let i = pick_sole (in_test (Call n.abort []) (term.Value unit) ∷ []) (compared (number 0))
      (tt, tt) (ready_call p (compared (number 0)) n.equal _ q) a.run in
      let j = stepped_at (Term-F.Operator n.equal (number 0 ∷ number 0 ∷ [])) (outs-Operator _ _)
      refl i.2 in
      let c = called_with p true j.0 (compared (number 0)) i.0 a.effect n.equal _ q j.1 in
      let w : Does p true j.0 (becomes (term.Value (Truth true))) i.0 a.effect =
      subst (λ x. Does p true j.0 x i.0 a.effect)
      (has.equals 0 0 (omega arith) (omega arith) c.declaration c.declared c.dispatches) c.does in
      let b = onward v (open_if _) (moved (i.1 ∙ ap chosen w.1) a.more) in
      let f = moves_to [] (chosen (term.Value (Truth true)))
      (Term-F.If (term.Value (Truth true)) (Call n.abort []) (term.Value unit)) tt (outs-If _ _ _)
      refl (Call n.abort [])
      (ap (act_at p) (outs-If _ _ _) ∙ after_value (Truth true) _
      ∙ ap (λ x. chosen_by x (Call n.abort []) (term.Value unit)) (outs-Truth true)) b.run in
      let g = onward v (ap standing_at (outs-Call n.abort [])) (moved f.0 b.more) in
      never_goes_on g.run

  waited : (s : Store) (l : ℕ) (v : Value) (d : Effect)
      → Attempted p s (waiting n l) (term.Value v) d
      → (mark : Value) × (s (l + 1) ≡ Some mark) × (mark ≡ Small (pos 0) → ⊥)
  waited s l v d a =
      let w = came_to p s (waiting n l) v d a in
      let b = onward v (open_if _) w.1 in
      let c = reads_at
      (in_test (Call n.abort []) (term.Value unit) ∷ in_operand n.equal [] (number 0 ∷ []) ∷ [])
      (ReadField (term.Value (object_of n l)) n.state)
      (Term-F.ReadField (term.Value (object_of n l)) n.state) (tt, (tt, tt)) (outs-ReadField _ _)
      refl (l + 1)
      (ap (act_at p) (outs-ReadField (term.Value (object_of n l)) n.state)
      ∙ after_value (object_of n l) _ ∙ ap reading_at (has.has_state l)) b.run in (
        c.value,
        c.is_there,
        (λ e. no_value v
            (moved (c.becomes ∙ ap (λ x. chosen (compared (term.Value x))) e) b.more)),
      )

pub waits_for_the_mark : WaitsForTheMark
waits_for_the_mark p n has s l v d a = waited p n has s l v d a
