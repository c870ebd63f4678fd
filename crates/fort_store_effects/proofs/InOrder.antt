-- Cells in the order of their locations, and the marks that they give.
use Rattle.std.specs.HashMap.{IsReordered}
use Rattle.std.proofs.Math.Path.{fun_ext}
use Rattle.fort_store_effects.specs.Closes.{CellMap}
use Rattle.fort_store_effects.specs.Levels.{effect_of, attempts_of, inward, levels_of}
use Rattle.fort_store_effects.specs.declared.layer.Layer.{Layer}
use Rattle.fort_store_effects.specs.declared.layers.Layers.{Layers}
use Rattle.fort_store.specs.Held.{held}
use Rattle.std.specs.Prelude.{take, slice_get}
use Rattle.std.proofs.Common.{◌≡◌, ℕ, zero, suc, ◌+◌, ◌<◌, ◌==◌, Bool, true, false, List, [], ◌∷◌, ◌++◌, length, Option, Some, None, refl, ap, sym, ◌∙◌, subst, arith, rules, cond, nat_eq, ◌⊎◌, inl, inr, nat_cmp, eqb}
use Rattle.std.specs.Prelude.{slice_index_or}
use Rattle.std.specs.Map.{lookup, keys_of}
use Rattle.std.specs.List.{AllPairs, IsDistinct}
use Rattle.std.specs.List.Sorted.{IsSorted}
use Rattle.std.proofs.lemmas.List.Sorted.{IsNonDecreasingBy-from_sort}
use Rattle.std.proofs.lemmas.Map.Keys.{IsStrictlyIncreasing-from_distinct}
use Rattle.std.proofs.lemmas.List.Kept.{AllPairs-from_increasing}
use Rattle.fort_core.specs.declared.value.Value.{Value}
use Rattle.fort_machine.specs.Cells as machine
use Rattle.fort_machine.specs.Cells.{untouched, found, made}
use Rattle.fort_machine.specs.Effects.{Effect}
use Rattle.fort_machine.specs.Marked.{Marks, In}
use Rattle.fort_machine.specs.Attempts.{AreRead, AllAbove, Rising}
use Rattle.fort_store_effects.specs.Cells.{cell, cell_of}
use Rattle.fort_store_effects.specs.Calls.{mark_of, reads_of, AreMarks, MarksAdded, MarksNoted}
use Rattle.fort_store_effects.specs.declared.cell.Cell.{Cell}

abbrev Entries : Type 0
Entries = List (ℕ × Cell)

above_mark : (l n : ℕ) (c : machine.Cell) (ms : Marks) → l < n → AllAbove l ms
    → AllAbove l (mark_of n c ++ ms)
above_mark l n untouched ms h r = r
above_mark l n (found None w) ms h r = r
above_mark l n (found (Some v) w) ms h r = (h, r)
above_mark l n (made w) ms h r = r

all_above : (l : ℕ) (es : Entries)
    → ((j d : ℕ) → j < length (keys_of es) → l < slice_index_or (keys_of es) j d)
    → AllAbove l (reads_of es)
all_above l [] h = tt
all_above l (e ∷ es) h =
    above_mark l e.0 (cell e.1) (reads_of es) (h zero zero (omega arith))
    (all_above l es (λ j d k. h (suc j) d (omega (arith, k))))

rising_mark : (n : ℕ) (c : machine.Cell) (ms : Marks) → AllAbove n ms → Rising ms
    → Rising (mark_of n c ++ ms)
rising_mark n untouched ms h r = r
rising_mark n (found None w) ms h r = r
rising_mark n (found (Some v) w) ms h r = (h, r)
rising_mark n (made w) ms h r = r

abbrev Ordered : Entries → Type 0
Ordered es = AllPairs (λ (x y : ℕ). x < y) (keys_of es)

tail_ordered : (e : ℕ × Cell) (es : Entries) → Ordered (e ∷ es) → Ordered es
tail_ordered e es h = λ i j d p q. h (suc i) (suc j) d (omega (arith, p)) (omega (arith, q))

head_above : (e : ℕ × Cell) (es : Entries) → Ordered (e ∷ es) → AllAbove e.0 (reads_of es)
head_above e es h = all_above e.0 es (λ j d q. h zero (suc j) d (omega arith) (omega (arith, q)))

rising : (es : Entries) → Ordered es → Rising (reads_of es)
rising [] h = tt
rising (e ∷ es) h =
    rising_mark e.0 (cell e.1) (reads_of es) (head_above e es h) (rising es (tail_ordered e es h))

in_above : (n l : ℕ) (v : Value) (ms : Marks) → AllAbove n ms → In l v ms → n < l
in_above n l v [] h i = absurd i
in_above n l v (m ∷ ms) h (inl e) = subst (λ k. n < k) (sym e.0) h.0
in_above n l v (m ∷ ms) h (inr i) = in_above n l v ms h.1 i

abbrev Read : Entries → ℕ → Value → Type 0
Read es l v = (w : Option Value) × (cell_of (lookup (nat_eq l) es) ≡ found (Some v) w)

head_read : (e : ℕ × Cell) (es : Entries) (l : ℕ) (v : Value) (w : Option Value) → l ≡ e.0
    → cell e.1 ≡ found (Some v) w → Read (e ∷ es) l v
head_read e es l v w q h =
    let t : (l == e.0) ≡ true = search (rules, q)
    in (w, ap (λ b. cell_of (cond b (Some e.1) (lookup (nat_eq l) es))) t ∙ h)

in_mark : (n l : ℕ) (v : Value) (c : machine.Cell) (ms : Marks) → In l v (mark_of n c ++ ms)
    → ((l ≡ n) × ((w : Option Value) × (c ≡ found (Some v) w))) ⊎ In l v ms
in_mark n l v untouched ms i = inr i
in_mark n l v (found None w) ms i = inr i
in_mark n l v (found (Some u) w) ms (inl e) = inl (e.0, (w, ap (λ x. found (Some x) w) (sym e.1)))
in_mark n l v (found (Some u) w) ms (inr i) = inr i
in_mark n l v (made w) ms i = inr i

were_read : (es : Entries) → Ordered es → (l : ℕ) (v : Value) → In l v (reads_of es) → Read es l v
were_read [] h l v i = absurd i
were_read (e ∷ es) h l v i =
    go (in_mark e.0 l v (cell e.1) (reads_of es) i) (λ j. were_read es (tail_ordered e es h) l v j)
  where
    go : ((l ≡ e.0) × ((w : Option Value) × (cell e.1 ≡ found (Some v) w))) ⊎ In l v (reads_of es)
        → (In l v (reads_of es) → Read es l v) → Read (e ∷ es) l v
    go (inl q) rest = head_read e es l v q.1.0 q.0 q.1.1
    go (inr j) rest =
        let above : e.0 < l = in_above e.0 l v (reads_of es) (head_above e es h) j in
        let apart : (l == e.0) ≡ false = search (rules, above) in
        let r = rest j
        in (r.0, ap (λ b. cell_of (cond b (Some e.1) (lookup (nat_eq l) es))) apart ∙ r.1)

mark_in : (n l : ℕ) (v : Value) (w : Option Value) (c : machine.Cell) (ms : Marks) → l ≡ n
    → c ≡ found (Some v) w → In l v (mark_of n c ++ ms)
mark_in n l v w untouched ms e h = absurd cc
mark_in n l v w (found None x) ms e h = absurd cc
mark_in n l v w (found (Some u) x) ms e h = inl (e, cc)
mark_in n l v w (made x) ms e h = absurd cc

mark_behind : (n l : ℕ) (v : Value) (c : machine.Cell) (ms : Marks) → In l v ms
    → In l v (mark_of n c ++ ms)
mark_behind n l v untouched ms i = i
mark_behind n l v (found None x) ms i = i
mark_behind n l v (found (Some u) x) ms i = inr i
mark_behind n l v (made x) ms i = i

are_all : (es : Entries) (l : ℕ) (v : Value) (w : Option Value)
    → cell_of (lookup (nat_eq l) es) ≡ found (Some v) w → In l v (reads_of es)
are_all [] l v w h = absurd cc
are_all (e ∷ es) l v w h = go (l == e.0) refl (λ q. are_all es l v w q)
  where
    go : (b : Bool) → (l == e.0) ≡ b
        → (cell_of (lookup (nat_eq l) es) ≡ found (Some v) w → In l v (reads_of es))
        → In l v (reads_of (e ∷ es))
    go true t rest =
        let same : l ≡ e.0 = search (rules, t) in
        mark_in e.0 l v w (cell e.1) (reads_of es) same
        (ap (λ b. cell_of (cond b (Some e.1) (lookup (nat_eq l) es))) (sym t) ∙ h)
    go false t rest =
        mark_behind e.0 l v (cell e.1) (reads_of es)
        (rest (ap (λ b. cell_of (cond b (Some e.1) (lookup (nat_eq l) es))) (sym t) ∙ h))

-- keys that are sorted and distinct rise
pub ordered : (es : Entries) → IsSorted nat_cmp (keys_of es) → IsDistinct eqb (keys_of es)
    → Ordered es
ordered es s d =
    AllPairs-from_increasing (keys_of es)
    (IsStrictlyIncreasing-from_distinct (keys_of es) (IsNonDecreasingBy-from_sort (λ
    (x : ℕ). x) (keys_of es) s) d)

pub are_marks : (es : Entries) (d : Effect) → IsSorted nat_cmp (keys_of es)
    → IsDistinct eqb (keys_of es) → ((k : ℕ) → d.cells k ≡ cell_of (lookup (nat_eq k) es))
    → AreRead (reads_of es) d × Rising (reads_of es)
are_marks es d s q h =
    let o = ordered es s q in (
      record {
        were_read = λ l v i. let r = were_read es o l v i in (r.0, h l ∙ r.1);
        are_all = λ l v w e. are_all es l v w (sym (h l) ∙ e);
      },
      rising es o,
    )

-- one cell more
append_marks : (a b c : Marks) → (a ++ b) ++ c ≡ a ++ (b ++ c)
append_marks [] b c = refl
append_marks (m ∷ a) b c = ap (λ ms. m ∷ ms) (append_marks a b c)

end_marks : (a : Marks) → a ++ [] ≡ a
end_marks [] = refl
end_marks (m ∷ a) = ap (λ ms. m ∷ ms) (end_marks a)

reads_suc : (es : Entries) (i : ℕ) (n : ℕ) (c : Cell) → slice_get es i ≡ Some (n, c)
    → reads_of (take (suc i) es) ≡ reads_of (take i es) ++ mark_of n (cell c)
reads_suc [] zero n c e = absurd cc
reads_suc [] (suc i) n c e = absurd cc
reads_suc (x ∷ xs) zero n c e =
    let q : x ≡ (n, c) = cc
    in ap (λ (y : ℕ × Cell). mark_of y.0 (cell y.1) ++ []) q ∙ end_marks (mark_of n (cell c))
reads_suc (x ∷ xs) (suc i) n c e =
    ap (λ ms. mark_of x.0 (cell x.1) ++ ms) (reads_suc xs i n c e)
    ∙ sym (append_marks (mark_of x.0 (cell x.1)) (reads_of (take i xs)) (mark_of n (cell c)))

pub reads_next : (es : Entries) (i : ℕ) (n : ℕ) (c : Cell) → slice_get es i ≡ Some (n, c)
    → reads_of (take (i + 1) es) ≡ reads_of (take i es) ++ mark_of n (cell c)
reads_next es i n c e =
    let one : i + 1 ≡ suc i = omega arith
    in ap (λ k. reads_of (take k es)) one ∙ reads_suc es i n c e

past_end : (es : Entries) (i : ℕ) → slice_get es i ≡ None → take (suc i) es ≡ take i es
past_end [] zero e = refl
past_end [] (suc i) e = refl
past_end (x ∷ xs) zero e = absurd cc
past_end (x ∷ xs) (suc i) e = ap (λ ys. x ∷ ys) (past_end xs i e)

pub reads_at : (es : Entries) (i : ℕ) (old new : Marks) → old ≡ reads_of (take i es)
    → MarksNoted old (slice_get es i) new → new ≡ reads_of (take (i + 1) es)
reads_at es i old new e h = go (slice_get es i) refl h
  where
    go : (o : Option (ℕ × Cell)) → slice_get es i ≡ o → MarksNoted old o new
        → new ≡ reads_of (take (i + 1) es)
    go None q k =
        let one : i + 1 ≡ suc i = omega arith
        in k ∙ e ∙ sym (ap (λ n. reads_of (take n es)) one ∙ ap reads_of (past_end es i q))
    go (Some c) q k =
        k ∙ ap (λ ms. ms ++ mark_of c.0 (cell c.1)) e ∙ sym (reads_next es i c.0 c.1 q)

pub noted_none : (o : Option (ℕ × Cell)) (old : Marks) → o ≡ None → MarksNoted old o old
noted_none o old e = subst (λ x. MarksNoted old x old) (sym e) refl

pub noted_some : (o : Option (ℕ × Cell)) (n : ℕ) (c : Cell) (old new : Marks) → o ≡ Some (n, c)
    → MarksAdded old n c new → MarksNoted old o new
noted_some o n c old new e h = subst (λ x. MarksNoted old x new) (sym e) h

-- sorting leaves what an attempt did
pub same_effect : (old new : Layer) → IsReordered nat_eq old.cells new.cells
    → new.output ≡ old.output → new.cost ≡ old.cost → effect_of new ≡ effect_of old
same_effect old new h e q =
    let cells = fun_ext (λ k. ap cell_of (h.2 k))
    in λ i. record { cells = cells i; output = e i; cost = q i }

pub kept_levels : (v : Layers) (old new : Layer) → v.top ≡ Some old → effect_of new ≡ effect_of old
    → record {
      store = held v.store;
      output = v.output;
      cost = v.cost;
      attempts = effect_of new ∷ inward v.below [];
    } ≡ levels_of v
kept_levels v old new t e =
    (λ i. record {
      store = held v.store;
      output = v.output;
      cost = v.cost;
      attempts = e i ∷ inward v.below [];
    })
    ∙ (λ i. record {
      store = held v.store;
      output = v.output;
      cost = v.cost;
      attempts = attempts_of (sym t i) v.below;
    })

pub marks_top : (v : Layers) (old : Layer) (marks : Marks) → v.top ≡ Some old
    → AreRead marks (effect_of old) → Rising marks → AreMarks marks (attempts_of v.top v.below)
marks_top v old marks t r h = subst (λ o. AreMarks marks (attempts_of o v.below)) (sym t) (r, h)

-- marks of sorted cells are those of the attempt
pub marks_read : (old : Layer) (cells : CellMap) (marks : Marks)
    → IsReordered nat_eq old.cells cells → IsSorted nat_cmp (keys_of cells.entries)
    → IsDistinct eqb (keys_of cells.entries) → marks ≡ reads_of cells.entries
    → AreRead marks (effect_of old)
marks_read old cells marks h s q e =
    subst (λ ms. AreRead ms (effect_of old)) (sym e)
    (are_marks cells.entries (effect_of old) s q (λ k. ap cell_of (sym (h.2 k)))).0

pub marks_rise : (es : Entries) (marks : Marks) → IsSorted nat_cmp (keys_of es)
    → IsDistinct eqb (keys_of es) → marks ≡ reads_of es → Rising marks
marks_rise es marks s q e = subst Rising (sym e) (rising es (ordered es s q))
