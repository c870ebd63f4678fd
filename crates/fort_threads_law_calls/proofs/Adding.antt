-- An attempt of `spawn'`, by how many threads were spawned.
use Rattle.std.proofs.Common.{◌≡◌, ℕ, ◌+◌, ◌==◌, ◌≤◌, Bool, true, false, List, [], ◌∷◌, ◌++◌, Some, None, if◌then◌else◌, pos, arith, rules, refl, ap, sym, ◌∙◌, inl, inr}
use Rattle.fort_core.specs.declared.form.Slot.{Slot}
use Rattle.fort_core.specs.declared.form.Slot.TheVariants as slot
use Rattle.fort_core.specs.declared.program.Program.{Program}
use Rattle.fort_core.specs.declared.term.Term.{Term, Throw, Write, WriteField, Then, If}
use Rattle.fort_core.specs.declared.term.Term as term
use Rattle.fort_core.specs.declared.term.Term.TheVariants.{outs-Write, outs-WriteField, outs-Then, outs-If}
use Rattle.fort_core.specs.declared.term.Term.TheOpen.{Term-F, Value-F}
use Rattle.fort_core.specs.declared.value.Value.{Value, Small, Truth}
use Rattle.fort_core.specs.declared.value.Value.TheVariants.{outs-Truth}
use Rattle.fort_machine.specs.Acts.{unit}
use Rattle.fort_machine.specs.Attempts.{Ended, goes, aborts}
use Rattle.fort_machine.specs.Cells.{untouched, found, left_at}
use Rattle.fort_machine.specs.Effects.{Store, Effect, paid, reading, writing, completing, failing, afterwards}
use Rattle.fort_machine.specs.Ends.{throw_of, Finished}
use Rattle.fort_machine.specs.Ends as ends
use Rattle.fort_machine.specs.Forms.{act_at, act, writing_at, choosing as chosen_by}
use Rattle.fort_machine.specs.Frames.{in_then, in_write, in_operand, in_test, in_field_value}
use Rattle.fort_machine.specs.RunLaws.{all_of}
use Rattle.fort_machine.specs.Runs.{location}
use Rattle.fort_machine.proofs.Standing.{value_not_throw, standing-throw}
use Rattle.fort_threads_law_servers.specs.Prelude.{Names, object_of, number, raising, refusing, linking, adding, HasPrelude}
use Rattle.fort_threads_law_servers.specs.Queue.{raises, adds_thread}
use Rattle.fort_threads_law_servers.specs.Stages.{Attempted}
use Rattle.fort_threads_law_servers.proofs.Server.{after_value, then_value, then_throw, write_field}
use Rattle.fort_threads_law_calls.proofs.Chains.{same_goes, Becomes, Chain, comes_to, tried, turns_as, turns_writing, turns_top, turns_answering}

-- ---- what picks leave of other locations

pub read_keeps : (l k : ℕ) (x : Value) (s : Store) → afterwards (reading l x) s k ≡ s k
read_keeps l k x s = go (l == k)
  where
    go : (c : Bool) → left_at (if c then found (Some x) None else untouched) (s k) ≡ s k
    go true = refl
    go false = refl

pub write_keeps : (l k : ℕ) (x : Value) (s : Store) → (l == k) ≡ false
    → afterwards (writing l x) s k ≡ s k
write_keeps l k x s e =
    ap (λ (c : Bool). left_at (if c then found None (Some x) else untouched) (s k)) e

pub other_way : (a b : ℕ) → (a == b) ≡ false → (b == a) ≡ false
other_way a b e = go (b == a) refl
  where
    go : (c : Bool) → (b == a) ≡ c → (b == a) ≡ false
    go false q = q
    go true q =
        let z : b ≡ a = search (rules, q) in
        let y : (a == b) ≡ true = search (rules, sym z) in
        let x : true ≡ false = sym y ∙ e in absurd cc

same_throw : (x y : Value) → throw_of x ≡ throw_of y → x ≡ y
same_throw x y e =
    let r : ends.Standing.at_throw x ≡ ends.Standing.at_throw y =
    sym (standing-throw x) ∙ ap ends.standing e ∙ standing-throw y in
    let z : x ≡ y = cc in z

module _ (p : Program) (n : Names) (has : HasPrelude p n) where
  abbrev at : ℕ → Slot
  at l = slot.Location (location l)

  -- `x += 1`, and what is behind it
  raised : {s : Store} {end : Ended} {others : List Effect} (x k : ℕ) (r : Term)
      → k ≤ 65 → s x ≡ Some (Small (pos k))
      → Chain p (afterwards (writing x (Small (pos (k + 1))))
      (afterwards (reading x (Small (pos k))) s))
      r end others
      → Chain p s (Then (raising n x) r) end (raises x k ++ others)
  raised x k r few e c =
      turns_top (in_then r ∷ in_write (at x) ∷ in_operand n.plus [] (number 1 ∷ []) ∷ [])
      (tt, (tt, (tt, tt))) x (Small (pos k)) e
      (turns_answering (in_then r ∷ in_write (at x) ∷ []) (tt, (tt, tt)) n.plus (Small (pos k))
      (Small (pos 1)) (term.Value (Small (pos (k + 1)))) (has.adds_one k few)
      (turns_writing (in_then r ∷ []) (tt, tt) (Write (at x) (term.Value (Small (pos (k + 1)))))
      (Term-F.Write (at x) (term.Value (Small (pos (k + 1))))) (outs-Write _ _) refl x
      (Small (pos (k + 1)))
      (ap (act_at p) (outs-Write (at x) (term.Value (Small (pos (k + 1)))))
      ∙ after_value (Small (pos (k + 1))) _)
      (turns_as [] tt (Then (term.Value unit) r) (Term-F.Then (term.Value unit) r) (outs-Then _ _)
      refl r (then_value p unit r) c)))

  -- the object is put before the first one
  linked : {s : Store} (l : ℕ) (w : Value) → s n.queue ≡ Some w
      → Chain p s (linking n (term.Value (object_of n l))) (goes (term.Value unit))
      (reading n.queue w ∷ writing (l + 3) w ∷ paid 1 ∷ writing n.queue (object_of n l) ∷ [])
  linked l w e =
      let o = object_of n l in
      let last : Term = Write (at n.queue) (term.Value (object_of n l)) in
      turns_top (in_then last ∷ in_field_value o n.next ∷ []) (tt, (tt, tt)) n.queue w e
      (turns_writing (in_then last ∷ []) (tt, tt) (WriteField (term.Value o) n.next (term.Value w))
      (Term-F.WriteField (term.Value o) n.next (term.Value w)) (outs-WriteField _ _ _) refl (l + 3)
      w
      (write_field p o w n.next (l + 3) (ap (λ x. writing_at x w) (has.has_next l)))
      (turns_as [] tt (Then (term.Value unit) last) (Term-F.Then (term.Value unit) last)
      (outs-Then _ _) refl last (then_value p unit last)
      (turns_writing [] tt last (Term-F.Write (at n.queue) (term.Value o)) (outs-Write _ _) refl
      n.queue o (ap (act_at p) (outs-Write (at n.queue) (term.Value o)) ∙ after_value o _)
      (comes_to (ends.Finished.value unit refl) refl refl))))

  abbrev refused_with : Term
  refused_with = Throw (term.Value n.too_many)

  if_is : (b : Bool)
      → act p (refusing n (term.Value (Truth b)))
      ≡ chosen_by (Value-F.Truth b) refused_with (term.Value unit)
  if_is b =
      ap (act_at p) (outs-If (term.Value (Truth b)) refused_with (term.Value unit))
      ∙ after_value (Truth b) _
      ∙ ap (λ x. chosen_by x refused_with (term.Value unit)) (outs-Truth b)

  -- how it ends, by whether 64 stand
  abbrev end_by : Bool → Ended
  end_by true = goes (throw_of n.too_many)
  end_by false = goes (term.Value unit)

  abbrev rest_by : Bool → List Effect → List Effect
  rest_by true more = []
  rest_by false more = more

  checked : {s : Store} (b : Bool) (r : Term) (more : List Effect)
      → Chain p s r (goes (term.Value unit)) more
      → Chain p s (Then (refusing n (term.Value (Truth b))) r) (end_by b)
      (paid 1 ∷ paid 1 ∷ rest_by b more)
  checked true r more c =
      turns_as (in_then r ∷ []) (tt, tt) (refusing n (term.Value (Truth true)))
      (Term-F.If (term.Value (Truth true)) refused_with (term.Value unit)) (outs-If _ _ _) refl
      refused_with (if_is true)
      (turns_as [] tt (Then refused_with r) (Term-F.Then refused_with r) (outs-Then _ _) refl
      refused_with (then_throw p n.too_many r)
      (comes_to (ends.Finished.throw n.too_many refl) refl refl))
  checked false r more c =
      turns_as (in_then r ∷ []) (tt, tt) (refusing n (term.Value (Truth false)))
      (Term-F.If (term.Value (Truth false)) refused_with (term.Value unit)) (outs-If _ _ _) refl
      (term.Value unit) (if_is false)
      (turns_as [] tt (Then (term.Value unit) r) (Term-F.Then (term.Value unit) r) (outs-Then _ _)
      refl r (then_value p unit r) c)

  -- An attempt of `spawn'`: where 64 stand it throws `TooManyThreads`, and has read `count'`
  -- alone; else it completes at `()`.
  pub data Added (l k o : ℕ) (w : Value) (b : Term) (d : Effect) : Type 0 where
    is_refused : (k == 64) ≡ true → b ≡ throw_of n.too_many
        → d ≡ failing (all_of (reading n.count (Small (pos k)) ∷ paid 1 ∷ paid 1 ∷ paid 1 ∷ []))
        → Added l k o w b d
    is_added : (k == 64) ≡ false → b ≡ term.Value unit
        → d ≡ completing (all_of (adds_thread n l k o w)) → Added l k o w b d

  module _ (apart_count : (n.queue == n.count) ≡ false)
      (apart_unended : (n.queue == n.unended) ≡ false) (s : Store) (k o l : ℕ) (w : Value)
      (count : s n.count ≡ Some (Small (pos k))) (few : k ≤ 64)
      (unended : s n.unended ≡ Some (Small (pos o))) (unended_few : o ≤ 65)
      (queue : s n.queue ≡ Some w) where
    abbrev last_raise : Term
    last_raise = Then (raising n n.unended) (linking n (term.Value (object_of n l)))

    abbrev more : List Effect
    more = raises n.count k ++ (raises n.unended o
        ++ reading n.queue w ∷ writing (l + 3) w ∷ paid 1 ∷ writing n.queue (object_of n l) ∷ [])

    abbrev s1 : Store
    s1 = afterwards (reading n.count (Small (pos k))) s

    abbrev s2 : Store
    s2 = afterwards (writing n.count (Small (pos (k + 1))))
        (afterwards (reading n.count (Small (pos k))) s1)

    kept_after : (x : ℕ) → (n.count == x) ≡ false → s2 x ≡ s x
    kept_after x e =
        write_keeps n.count x (Small (pos (k + 1)))
        (afterwards (reading n.count (Small (pos k))) s1) e
        ∙ read_keeps n.count x (Small (pos k)) s1 ∙ read_keeps n.count x (Small (pos k)) s

    adds_so : Chain p s (adding n l) (end_by (k == 64))
        (reading n.count (Small (pos k)) ∷ paid 1 ∷ paid 1 ∷ paid 1 ∷ rest_by (k == 64) more)
    adds_so =
        turns_top (in_then (Then (raising n n.count) last_raise)
        ∷ in_test refused_with (term.Value unit) ∷ in_operand n.equal [] (number 64 ∷ []) ∷ [])
        (tt, (tt, (tt, tt))) n.count (Small (pos k)) count
        (turns_answering (in_then (Then (raising n n.count) last_raise)
        ∷ in_test refused_with (term.Value unit) ∷ []) (tt, (tt, tt)) n.equal (Small (pos k))
        (Small (pos 64)) (term.Value (Truth (k == 64))) (has.equals k 64 few (omega arith))
        (checked (k == 64) (Then (raising n n.count) last_raise) more
        (raised n.count k last_raise (omega arith)
        (read_keeps n.count n.count (Small (pos k)) s ∙ count)
        (raised n.unended o (linking n (term.Value (object_of n l))) unended_few
        (kept_after n.unended has.apart ∙ unended)
        (linked l w
        (write_keeps n.unended n.queue (Small (pos (o + 1)))
        (afterwards (reading n.unended (Small (pos o))) s2)
        (other_way n.queue n.unended apart_unended)
        ∙ read_keeps n.unended n.queue (Small (pos o)) s2
        ∙ kept_after n.queue (other_way n.queue n.count apart_count) ∙ queue))))))

    pub added : (b : Term) (d : Effect) → Attempted p s (adding n l) b d → Added l k o w b d
    added b d a = by_count (k == 64) refl (tried adds_so a)
      where
        by_count : (c : Bool) → (k == 64) ≡ c
            → Becomes (end_by c) (adding n l)
            (reading n.count (Small (pos k)) ∷ paid 1 ∷ paid 1 ∷ paid 1 ∷ rest_by c more) b d
            → Added l k o w b d
        by_count true z (inl i) =
            absurd (value_not_throw i.0 n.too_many (sym (same_goes _ _ i.1)))
        by_count true z (inr (inl i)) = is_refused z (i.2 ∙ sym (same_goes _ _ i.1)) i.3
        by_count true z (inr (inr i)) =
            let y : goes (throw_of n.too_many) ≡ aborts = i.1 in absurd cc
        by_count false z (inl i) = is_added z (i.2 ∙ sym (same_goes _ _ i.1)) i.3
        by_count false z (inr (inl i)) = absurd (value_not_throw unit i.0 (same_goes _ _ i.1))
        by_count false z (inr (inr i)) =
            let y : goes (term.Value unit) ≡ aborts = i.1 in absurd cc
