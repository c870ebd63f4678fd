-- A completed attempt of `spawn'`, pick by pick.
use Rattle.std.proofs.Common.{◌≡◌, ℕ, ◌+◌, ◌==◌, ◌≤◌, Bool, true, false, List, [], ◌∷◌, ◌++◌, Some, None, if◌then◌else◌, pos, arith, refl, ap, sym, ◌∙◌, subst}
use Rattle.fort_base.specs.declared.ids.DeclId.{DeclId}
use Rattle.fort_base.specs.declared.ids.SetId.{SetId}
use Rattle.fort_core.specs.declared.form.Slot.{Slot}
use Rattle.fort_core.specs.declared.form.Slot.TheVariants as slot
use Rattle.fort_core.specs.declared.pick.Pick.{Pick}
use Rattle.fort_core.specs.declared.program.CoreDecl.{CoreDecl}
use Rattle.fort_core.specs.declared.program.Program.{Program}
use Rattle.fort_core.specs.declared.term.Term.{Term, Throw, Operator, Write, WriteField, Then, If, out-Term}
use Rattle.fort_core.specs.declared.term.Term as term
use Rattle.fort_core.specs.declared.term.Term.TheVariants.{Read, outs-Operator, outs-Read, outs-Write, outs-WriteField, outs-Then, outs-If}
use Rattle.fort_core.specs.declared.term.Term.TheOpen.{Term-F, Value-F}
use Rattle.fort_core.specs.declared.value.Closure.{Closure}
use Rattle.fort_core.specs.declared.value.Value.{Value, Small, Truth}
use Rattle.fort_core.specs.declared.value.Value.TheVariants.{outs-Truth}
use Rattle.fort_machine.specs.Acts.{asks, sets, becomes, unit}
use Rattle.fort_machine.specs.Attempts.{goes}
use Rattle.fort_machine.specs.Calls.{Dispatches, by_body}
use Rattle.fort_machine.specs.Cells.{untouched, found, left_at}
use Rattle.fort_machine.specs.Effects.{Store, Effect, paid, reading, writing, completing, afterwards}
use Rattle.fort_machine.specs.Forms.{act_at, act, writing_at, choosing as chosen_by}
use Rattle.fort_machine.specs.Frames.{Frame, in_then, in_write, in_operand, in_test, in_field_value, plug}
use Rattle.fort_machine.specs.RunLaws.{PickByPick, all_of}
use Rattle.fort_machine.specs.Runs.{location}
use Rattle.fort_machine.specs.Steps.{Does}
use Rattle.fort_machine.proofs.Places.{plug_open, ready_open}
use Rattle.fort_threads_law_servers.specs.Prelude.{Names, object_of, number, raising, refusing, linking, adding, HasPrelude}
use Rattle.fort_threads_law_servers.specs.Queue.{raises, adds_thread, AddsAThread}
use Rattle.fort_threads_law_servers.proofs.Turns.{AllSerial, pick_sole, ready_by, ready_call, is_atomic, stepped_at, called_with, moves_to, writes_to}
use Rattle.fort_threads_law_servers.proofs.Operands.{operator_two}
use Rattle.fort_threads_law_servers.proofs.Server.{after_value, then_value, then_throw, write_field}
use Rattle.fort_threads_law_servers.proofs.Taking.{Onward, onward, moved, at_end, no_throw, reads_at, came_to}

-- ---- one pick, and what is left

record Went (p : Program) (s : Store) (u : Term) (v : Value) (e : Effect) (effects : List Effect)
    : Type 0 where
  pub rest : List Pick
  pub others : List Effect
  pub more : PickByPick p true true (afterwards e s) rest u (goes (term.Value v)) others
  pub are : effects ≡ e ∷ others

went : {p : Program} {s : Store} {t : Term} {v : Value} {effects : List Effect}
    (o : Onward p s t v effects) (u : Term) (e : Effect) → o.becomes ≡ u → o.effect ≡ e
    → Went p s u v e effects
went {p = p} {s = s} {v = v} o u e b q =
    record {
      rest = o.rest;
      others = o.others;
      more = subst (λ x. PickByPick p true true (afterwards x s) o.rest u (goes (term.Value v)) o.others)
          q (moved b o.more);
      are = o.are ∙ ap (λ x. x ∷ o.others) q;
    }

module _ {p : Program} {s : Store} {picks : List Pick} {effects : List Effect} {v : Value}
    (fs : List Frame) (h : AllSerial fs) where
  goes_on_as : (a : Term) (y : Term-F Term Value Closure) → out-Term a ≡ y → is_atomic y ≡ false
      → (t : Term) → act p a ≡ becomes t
      → PickByPick p true true s picks (plug fs a) (goes (term.Value v)) effects
      → Went p s (plug fs t) v (paid 1) effects
  goes_on_as a y e n t q k =
      let o = onward v (plug_open fs a (ready_open a (ready_by p a (becomes t) q tt))) k in
      let i = moves_to fs a y h e n t q o.run in
      went o (plug fs t) (paid 1) i.0 i.1

  goes_on_writing : (a : Term) (y : Term-F Term Value Closure) → out-Term a ≡ y
      → is_atomic y ≡ false → (l : ℕ) (w : Value) → act p a ≡ sets l w
      → PickByPick p true true s picks (plug fs a) (goes (term.Value v)) effects
      → Went p s (plug fs (term.Value unit)) v (writing l w) effects
  goes_on_writing a y e n l w q k =
      let o = onward v (plug_open fs a (ready_open a (ready_by p a (sets l w) q tt))) k in
      let i = writes_to fs a y h e n l w q o.run in
      went o (plug fs (term.Value unit)) (writing l w) i.0 i.1

  -- a variable at the top is read
  goes_on_reading : (l : ℕ)
      → PickByPick p true true s picks (plug fs (Read (slot.Location (location l))))
      (goes (term.Value v)) effects
      → (w : Value) × (s l ≡ Some w) × Went p s (plug fs (term.Value w)) v (reading l w) effects
  goes_on_reading l k =
      let a : Term = Read (slot.Location (location l)) in
      let q : act p a ≡ asks l (λ x. term.Value x) =
      ap (act_at p) (outs-Read (slot.Location (location l))) in
      let o = onward v (plug_open fs a (ready_open a (ready_by p a _ q tt))) k in
      let i = reads_at fs a (Term-F.Read (slot.Location (location l))) h (outs-Read _) refl l q
      o.run in
      (i.value, i.is_there, went o (plug fs (term.Value i.value)) (reading l i.value) i.becomes i.effect)

  -- an operator of two values answers
  goes_on_answering : (set : SetId) (x y : Value) (t : Term)
      → ((c : DeclId) (declared : CoreDecl) → Dispatches p set (x ∷ y ∷ []) c declared
      → by_body p declared.body (x ∷ y ∷ []) ≡ becomes t)
      → PickByPick p true true s picks
      (plug fs (Operator set (term.Value x ∷ term.Value y ∷ []))) (goes (term.Value v)) effects
      → Went p s (plug fs t) v (paid 1) effects
  goes_on_answering set x y t f k =
      let a : Term = Operator set (term.Value x ∷ term.Value y ∷ []) in
      let q = operator_two p set x y in
      let r = ready_call p a set _ q in
      let o = onward v (plug_open fs a (ready_open a r)) k in
      let i = pick_sole fs a h r o.run in
      let j = stepped_at (Term-F.Operator set (term.Value x ∷ term.Value y ∷ [])) (outs-Operator _ _)
      refl i.2 in
      let c = called_with p true j.0 a i.0 o.effect set _ q j.1 in
      let w : Does p true j.0 (becomes t) i.0 o.effect =
      subst (λ z. Does p true j.0 z i.0 o.effect) (f c.declaration c.declared c.dispatches) c.does
      in
      went o (plug fs t) (paid 1) (i.1 ∙ ap (plug fs) w.1) w.2

-- ---- what picks leave of other locations

read_keeps : (l k : ℕ) (x : Value) (s : Store) → afterwards (reading l x) s k ≡ s k
read_keeps l k x s = go (l == k)
  where
    go : (c : Bool) → left_at (if c then found (Some x) None else untouched) (s k) ≡ s k
    go true = refl
    go false = refl

write_keeps : (l k : ℕ) (x : Value) (s : Store) → (l == k) ≡ false
    → afterwards (writing l x) s k ≡ s k
write_keeps l k x s e =
    ap (λ (c : Bool). left_at (if c then found None (Some x) else untouched) (s k)) e

some_same : (x y : Value) → Some x ≡ Some y → x ≡ y
some_same x y e = cc

-- ---- the attempt

module _ (p : Program) (n : Names) (has : HasPrelude p n) where
  abbrev at : ℕ → Slot
  at l = slot.Location (location l)

  -- `x += 1`, and what is behind it
  record Raised (s : Store) (x k : ℕ) (r : Term) (v : Value) (effects : List Effect) : Type 0 where
    pub rest : List Pick
    pub others : List Effect
    pub more : PickByPick p true true
        (afterwards (writing x (Small (pos (k + 1)))) (afterwards (reading x (Small (pos k))) s))
        rest r (goes (term.Value v)) others
    pub are : effects ≡ raises x k ++ others

  read_as : {s : Store} {picks : List Pick} {effects : List Effect} {v : Value} (fs : List Frame)
      → AllSerial fs → (x : ℕ) (w : Value) → s x ≡ Some w
      → PickByPick p true true s picks (plug fs (Read (at x))) (goes (term.Value v)) effects
      → Went p s (plug fs (term.Value w)) v (reading x w) effects
  read_as {s = s} {effects = effects} {v = v} fs h x w e k =
      let a = goes_on_reading fs h x k in
      subst (λ y. Went p s (plug fs (term.Value y)) v (reading x y) effects)
      (some_same a.0 w (sym a.1 ∙ e)) a.2

  raised : {s : Store} {picks : List Pick} {effects : List Effect} {v : Value} (x k : ℕ) (r : Term)
      → k ≤ 65 → s x ≡ Some (Small (pos k))
      → PickByPick p true true s picks (Then (raising n x) r) (goes (term.Value v)) effects
      → Raised s x k r v effects
  raised x k r h e q =
      let a = read_as (in_then r ∷ in_write (at x) ∷ in_operand n.plus [] (number 1 ∷ []) ∷ [])
      (tt, (tt, (tt, tt))) x (Small (pos k)) e q in
      let b = goes_on_answering (in_then r ∷ in_write (at x) ∷ []) (tt, (tt, tt)) n.plus
      (Small (pos k)) (Small (pos 1)) (term.Value (Small (pos (k + 1)))) (has.adds_one k h) a.more in
      let c = goes_on_writing (in_then r ∷ []) (tt, tt) (Write (at x) (term.Value (Small (pos (k + 1)))))
      (Term-F.Write (at x) (term.Value (Small (pos (k + 1))))) (outs-Write _ _) refl x
      (Small (pos (k + 1)))
      (ap (act_at p) (outs-Write (at x) (term.Value (Small (pos (k + 1)))))
      ∙ after_value (Small (pos (k + 1))) _) b.more in
      let d = goes_on_as [] tt (Then (term.Value unit) r) (Term-F.Then (term.Value unit) r)
      (outs-Then _ _) refl r (then_value p unit r) c.more in
      record {
        rest = d.rest;
        others = d.others;
        more = d.more;
        are = a.are ∙ ap (λ z. reading x (Small (pos k)) ∷ z)
            (b.are ∙ ap (λ z. paid 1 ∷ z)
            (c.are ∙ ap (λ z. writing x (Small (pos (k + 1))) ∷ z) d.are));
      }

  -- `count'` isn't 64, where the attempt comes to a value
  record Checked (s : Store) (k : ℕ) (r : Term) (v : Value) (effects : List Effect) : Type 0 where
    pub isnt : (k == 64) ≡ false
    pub rest : List Pick
    pub others : List Effect
    pub more : PickByPick p true true (afterwards (reading n.count (Small (pos k))) s) rest r
        (goes (term.Value v)) others
    pub are : effects ≡ reading n.count (Small (pos k)) ∷ paid 1 ∷ paid 1 ∷ paid 1 ∷ others

  abbrev refused_with : Term
  refused_with = Throw (term.Value n.too_many)

  if_is : (b : Bool)
      → act p (refusing n (term.Value (Truth b)))
      ≡ chosen_by (Value-F.Truth b) refused_with (term.Value unit)
  if_is b =
      ap (act_at p) (outs-If (term.Value (Truth b)) refused_with (term.Value unit))
      ∙ after_value (Truth b) _ ∙ ap (λ x. chosen_by x refused_with (term.Value unit)) (outs-Truth b)

  -- behind the comparison
  record Passed (s : Store) (r : Term) (v : Value) (effects : List Effect) : Type 0 where
    pub rest : List Pick
    pub others : List Effect
    pub more : PickByPick p true true s rest r (goes (term.Value v)) others
    pub are : effects ≡ paid 1 ∷ paid 1 ∷ others

  passes_on : {s : Store} {picks : List Pick} {effects : List Effect} {v : Value} (b : Bool)
      (r : Term)
      → PickByPick p true true s picks (Then (refusing n (term.Value (Truth b))) r)
      (goes (term.Value v)) effects
      → (b ≡ false) × Passed s r v effects
  passes_on {v = v} true r k =
      let a = goes_on_as (in_then r ∷ []) (tt, tt) (refusing n (term.Value (Truth true)))
      (Term-F.If (term.Value (Truth true)) refused_with (term.Value unit)) (outs-If _ _ _) refl
      refused_with (if_is true) k in
      let b = goes_on_as [] tt (Then refused_with r) (Term-F.Then refused_with r) (outs-Then _ _)
      refl refused_with (then_throw p n.too_many r) a.more in
      absurd (no_throw n.too_many v b.more)
  passes_on false r k =
      let a = goes_on_as (in_then r ∷ []) (tt, tt) (refusing n (term.Value (Truth false)))
      (Term-F.If (term.Value (Truth false)) refused_with (term.Value unit)) (outs-If _ _ _) refl
      (term.Value unit) (if_is false) k in
      let b = goes_on_as [] tt (Then (term.Value unit) r) (Term-F.Then (term.Value unit) r)
      (outs-Then _ _) refl r (then_value p unit r) a.more in (
        refl,
        record {
          rest = b.rest;
          others = b.others;
          more = b.more;
          are = a.are ∙ ap (λ z. paid 1 ∷ z) b.are;
        },
      )

  checked : {s : Store} {picks : List Pick} {effects : List Effect} {v : Value} (k : ℕ) (r : Term)
      → k ≤ 64 → s n.count ≡ Some (Small (pos k))
      → PickByPick p true true s picks
      (Then (refusing n (Operator n.equal (Read (at n.count) ∷ number 64 ∷ []))) r)
      (goes (term.Value v)) effects
      → Checked s k r v effects
  checked k r h e q =
      let a = read_as
      (in_then r ∷ in_test refused_with (term.Value unit)
      ∷ in_operand n.equal [] (number 64 ∷ []) ∷ [])
      (tt, (tt, (tt, tt))) n.count (Small (pos k)) e q in
      let b = goes_on_answering (in_then r ∷ in_test refused_with (term.Value unit) ∷ [])
      (tt, (tt, tt)) n.equal (Small (pos k)) (Small (pos 64)) (term.Value (Truth (k == 64)))
      (has.equals k 64 h (omega arith)) a.more in
      let c = passes_on (k == 64) r b.more in
      record {
        isnt = c.0;
        rest = c.1.rest;
        others = c.1.others;
        more = c.1.more;
        are = a.are ∙ ap (λ z. reading n.count (Small (pos k)) ∷ z)
            (b.are ∙ ap (λ z. paid 1 ∷ z) c.1.are);
      }

  -- the object is put before the first one
  linked : {s : Store} {picks : List Pick} {effects : List Effect} {v : Value} (l : ℕ)
      → PickByPick p true true s picks (linking n (term.Value (object_of n l)))
      (goes (term.Value v)) effects
      → (v ≡ unit) × ((w : Value) × (effects
      ≡ reading n.queue w ∷ writing (l + 3) w ∷ paid 1 ∷ writing n.queue (object_of n l) ∷ []))
  linked {v = v} l k =
      let o = object_of n l in
      let last : Term = Write (at n.queue) (term.Value (object_of n l)) in
      let a = goes_on_reading (in_then last ∷ in_field_value o n.next ∷ []) (tt, (tt, tt)) n.queue k
      in
      let b = goes_on_writing (in_then last ∷ []) (tt, tt)
      (WriteField (term.Value o) n.next (term.Value a.0))
      (Term-F.WriteField (term.Value o) n.next (term.Value a.0)) (outs-WriteField _ _ _) refl
      (l + 3) a.0
      (write_field p o a.0 n.next (l + 3) (ap (λ x. writing_at x a.0) (has.has_next l)))
      a.2.more in
      let c = goes_on_as [] tt (Then (term.Value unit) last) (Term-F.Then (term.Value unit) last)
      (outs-Then _ _) refl last (then_value p unit last) b.more in
      let d = goes_on_writing [] tt last (Term-F.Write (at n.queue) (term.Value o))
      (outs-Write _ _) refl n.queue o
      (ap (act_at p) (outs-Write (at n.queue) (term.Value o)) ∙ after_value o _) c.more in
      let e = at_end unit v d.more in (
        e.0,
        (
          a.0,
          a.2.are ∙ ap (λ z. reading n.queue a.0 ∷ z)
              (b.are ∙ ap (λ z. writing (l + 3) a.0 ∷ z)
              (c.are ∙ ap (λ z. paid 1 ∷ z)
              (d.are ∙ ap (λ z. writing n.queue o ∷ z) e.1))),
        ),
      )

  added : (s : Store) (k o l : ℕ) (v : Value) (effects : List Effect) (picks : List Pick)
      → s n.count ≡ Some (Small (pos k)) → k ≤ 64 → s n.unended ≡ Some (Small (pos o)) → o ≤ 65
      → PickByPick p true true s picks (adding n l) (goes (term.Value v)) effects
      → (v ≡ unit) × ((k == 64) ≡ false)
      × ((w : Value) × (effects ≡ adds_thread n l k o w))
  added s k o l v effects picks a h b g q =
      let s1 = afterwards (reading n.count (Small (pos k))) s in
      let c = checked k (Then (raising n n.count) (Then (raising n n.unended) (linking n (term.Value (object_of n l))))) h a q
      in
      let d = raised n.count k (Then (raising n n.unended) (linking n (term.Value (object_of n l)))) (omega arith)
      (read_keeps n.count n.count (Small (pos k)) s ∙ a) c.more in
      let e = raised n.unended o (linking n (term.Value (object_of n l))) g
      (write_keeps n.count n.unended (Small (pos (k + 1)))
      (afterwards (reading n.count (Small (pos k))) s1) has.apart
      ∙ read_keeps n.count n.unended (Small (pos k)) s1
      ∙ read_keeps n.count n.unended (Small (pos k)) s ∙ b) d.more in
      let f = linked l e.more in (
        f.0,
        c.isnt,
        (
          f.1.0,
          c.are ∙ ap (λ z. reading n.count (Small (pos k)) ∷ paid 1 ∷ paid 1 ∷ paid 1 ∷ z)
              (d.are ∙ ap (λ z. raises n.count k ++ z)
              (e.are ∙ ap (λ z. raises n.unended o ++ z) f.1.1)),
        ),
      )

pub adds_a_thread : AddsAThread
adds_a_thread p n has s k o l v d a h b g t =
    let i = came_to p s (adding n l) v d t in
    let j = added p n has s k o l v i.0 t.within a h b g i.1 in
    (j.0, j.1, (j.2.0, i.2 ∙ ap (λ es. completing (all_of es)) j.2.1))
