-- Locations made in a row.
use Rattle.std.proofs.Common.{◌≡◌, ℕ, zero, suc, ◌+◌, ◌<◌, ◌==◌, Bool, true, false, List, [], ◌∷◌, ◌++◌, length, take, get_or, Option, Some, None, refl, ap, sym, ◌∙◌, arith, rules, if◌then◌else◌, subst, slice_get}
use Rattle.std.proofs.lemmas.List.{append-nil}
use Rattle.fort_core.specs.declared.value.Value.{Value}
use Rattle.fort_machine.specs.Cells as machine
use Rattle.fort_machine.specs.Cells.{untouched, made, joined, left_at}
use Rattle.fort_machine.specs.Effects.{Store, FitsAll, only_at, made_from, making}
use Rattle.fort_machine.specs.Plain.{put}
use Rattle.fort_machine.proofs.Cells.{joined_assoc, joined_untouched}
use Rattle.fort_machine.proofs.Plain.{makes_plainly}
use Rattle.fort_store.specs.Held.{held}
use Rattle.fort_store.specs.declared.store.Store as a_store
use Rattle.fort_store_effects.specs.Levels.{cells_of, effect_of, attempts_of, inward, levels_of, added_to, seen}
use Rattle.fort_store_effects.specs.Calls.{Adds, AreFree, MadeAt, PutAt}
use Rattle.fort_store_effects.specs.declared.layer.Layer.{Layer}
use Rattle.fort_store_effects.specs.declared.layers.Layers.{Layers}

made_snoc : (l : ℕ) (vs : List Value) (v : Value) (k : ℕ)
    → made_from l (vs ++ v ∷ []) k
    ≡ joined (made_from l vs k) (only_at (l + length vs) (made (Some v)) k)
made_snoc l [] v k = let q : l ≡ l + 0 = omega arith in ap (λ n. only_at n (made (Some v)) k) q
made_snoc l (x ∷ xs) v k = go (l == k) refl (made_snoc (l + 1) xs v k)
  where
    go : (b : Bool) → (l == k) ≡ b
        → made_from (l + 1) (xs ++ v ∷ []) k
        ≡ joined (made_from (l + 1) xs k) (only_at (l + 1 + length xs) (made (Some v)) k)
        → made_from l (x ∷ (xs ++ v ∷ [])) k
        ≡ joined (made_from l (x ∷ xs) k) (only_at (l + length (x ∷ xs)) (made (Some v)) k)
    go true t rest =
        let same : l ≡ k = search (rules, t) in
        let less : k < l + length (x ∷ xs) = omega (arith, same) in
        let apart : (l + length (x ∷ xs) == k) ≡ false = search (rules, less) in
        ap (λ b. if b then made (Some x) else made_from (l + 1) (xs ++ v ∷ []) k) t
        ∙ sym (ap
        (λ b. joined (if b then made (Some x)
        else made_from (l + 1) xs k) (only_at (l + length (x ∷ xs)) (made (Some v)) k)) t
        ∙ ap (λ b. joined (made (Some x)) (if b then made (Some v) else untouched)) apart)
    go false t rest =
        let e : l + 1 + length xs ≡ l + length (x ∷ xs) = omega arith in
        ap (λ b. if b then made (Some x) else made_from (l + 1) (xs ++ v ∷ []) k) t ∙ rest
        ∙ ap (λ n. joined (made_from (l + 1) xs k) (only_at n (made (Some v)) k)) e
        ∙ sym (ap
        (λ b. joined (if b then made (Some x)
        else made_from (l + 1) xs k) (only_at (l + length (x ∷ xs)) (made (Some v)) k)) t)

take_next : (vs : List Value) (i : ℕ) (v : Value) → i < length vs → v ≡ get_or vs i v
    → (take (suc i) vs ≡ take i vs ++ v ∷ []) × (length (take i vs) ≡ i)
take_next [] i v h e = let f : ⊥ = omega (arith, h) in absurd f
take_next (x ∷ xs) zero v h e = (ap (λ y. y ∷ []) (sym e), refl)
take_next (x ∷ xs) (suc i) v h e =
    let r = take_next xs i v (omega (arith, h)) e in (ap (λ ys. x ∷ ys) r.0, ap suc r.1)

pub made_next : (l : ℕ) (vs : List Value) (i : ℕ) (v : Value) (k : ℕ) → i < length vs
    → v ≡ get_or vs i v
    → made_from l (take (i + 1) vs) k
    ≡ joined (made_from l (take i vs) k) (only_at (l + i) (made (Some v)) k)
made_next l vs i v k h e =
    let r = take_next vs i v h e in
    let one : i + 1 ≡ suc i = omega arith in
    ap (λ n. made_from l (take n vs) k) one ∙ ap (λ ws. made_from l ws k) r.0
    ∙ made_snoc l (take i vs) v k
    ∙ ap (λ n. joined (made_from l (take i vs) k) (only_at (l + n) (made (Some v)) k)) r.1

-- one location more of an attempt
layer_next : (first old new : ℕ → machine.Cell) (l : ℕ) (vs : List Value) (i : ℕ) (v : Value)
    → i < length vs → v ≡ get_or vs i v
    → ((k : ℕ) → old k ≡ joined (first k) (made_from l (take i vs) k))
    → new ≡ (λ k. joined (old k) (only_at (l + i) (made (Some v)) k)) → (k : ℕ)
    → new k ≡ joined (first k) (made_from l (take (i + 1) vs) k)
layer_next first old new l vs i v h e p q k =
    (λ j. q j k) ∙ ap (λ c. joined c (only_at (l + i) (made (Some v)) k)) (p k)
    ∙ joined_assoc (first k) (made_from l (take i vs) k) (only_at (l + i) (made (Some v)) k)
    ∙ ap (joined (first k)) (sym (made_next l vs i v k h e))

left_join : (c : machine.Cell) (b : Bool) (v : Value) (o : Option Value)
    → left_at (joined c (if b then made (Some v) else untouched)) o
    ≡ (if b then Some v else left_at c o)
left_join untouched true v o = refl
left_join (machine.found r w) true v o = refl
left_join (made w) true v o = refl
left_join c false v o = ap (λ x. left_at x o) (joined_untouched c)

-- one location more of the root
store_next : (first old new : Store) (l : ℕ) (vs : List Value) (i : ℕ) (v : Value) → i < length vs
    → v ≡ get_or vs i v → ((k : ℕ) → old k ≡ left_at (made_from l (take i vs) k) (first k))
    → new ≡ put (l + i) v old → (k : ℕ)
    → new k ≡ left_at (made_from l (take (i + 1) vs) k) (first k)
store_next first old new l vs i v h e p q k =
    (λ j. q j k) ∙ ap (λ o. if l + i == k then Some v else o) (p k)
    ∙ sym (left_join (made_from l (take i vs) k) (l + i == k) v (first k))
    ∙ ap (λ c. left_at c (first k)) (sym (made_next l vs i v k h e))

no_value_there : (vs : List Value) (i : ℕ) → slice_get vs i ≡ None → take (suc i) vs ≡ take i vs
no_value_there [] zero e = refl
no_value_there [] (suc i) e = refl
no_value_there (x ∷ xs) zero e = absurd cc
no_value_there (x ∷ xs) (suc i) e = ap (λ ys. x ∷ ys) (no_value_there xs i e)

value_there : (vs : List Value) (i : ℕ) (v : Value) → slice_get vs i ≡ Some v
    → (i < length vs) × (v ≡ get_or vs i v)
value_there [] zero v e = absurd cc
value_there [] (suc i) v e = absurd cc
value_there (x ∷ xs) zero v e = let q : x ≡ v = cc in (omega arith, sym q)
value_there (x ∷ xs) (suc i) v e = let r = value_there xs i v e in (omega (arith, r.0), r.1)

pub store_at : (first old new : Store) (l : ℕ) (vs : List Value) (i : ℕ)
    → ((k : ℕ) → old k ≡ left_at (made_from l (take i vs) k) (first k))
    → PutAt (l + i) (slice_get vs i) old new
    → (k : ℕ) → new k ≡ left_at (made_from l (take (i + 1) vs) k) (first k)
store_at first old new l vs i p h = go (slice_get vs i) refl h
  where
    go : (o : Option Value) → slice_get vs i ≡ o → PutAt (l + i) o old new → (k : ℕ)
        → new k ≡ left_at (made_from l (take (i + 1) vs) k) (first k)
    go None e q k =
        let one : i + 1 ≡ suc i = omega arith in
        (λ j. q j k) ∙ p k
        ∙ sym (ap (λ n. left_at (made_from l (take n vs) k) (first k)) one
        ∙ ap (λ ws. left_at (made_from l ws k) (first k)) (no_value_there vs i e))
    go (Some v) e q k =
        let r = value_there vs i v e in store_next first old new l vs i v r.0 r.1 p q k

pub layer_at : (first old new : ℕ → machine.Cell) (l : ℕ) (vs : List Value) (i : ℕ)
    → ((k : ℕ) → old k ≡ joined (first k) (made_from l (take i vs) k))
    → MadeAt (l + i) (slice_get vs i) old new
    → (k : ℕ) → new k ≡ joined (first k) (made_from l (take (i + 1) vs) k)
layer_at first old new l vs i p h = go (slice_get vs i) refl h
  where
    go : (o : Option Value) → slice_get vs i ≡ o → MadeAt (l + i) o old new → (k : ℕ)
        → new k ≡ joined (first k) (made_from l (take (i + 1) vs) k)
    go None e q k =
        let one : i + 1 ≡ suc i = omega arith in
        (λ j. q j k) ∙ p k
        ∙ sym (ap (λ n. joined (first k) (made_from l (take n vs) k)) one
        ∙ ap (λ ws. joined (first k) (made_from l ws k)) (no_value_there vs i e))
    go (Some v) e q k =
        let r = value_there vs i v e in layer_next first old new l vs i v r.0 r.1 p q k

pub make_nothing : (l : ℕ) (o : Option Value) (old : ℕ → machine.Cell) → o ≡ None
    → MadeAt l o old old
make_nothing l o old e = subst (λ x. MadeAt l x old old) (sym e) refl

pub make_something : (l : ℕ) (o : Option Value) (v w : Value) (old new : ℕ → machine.Cell)
    → o ≡ Some v → w ≡ v → new ≡ (λ k. joined (old k) (only_at l (made (Some w)) k))
    → MadeAt l o old new
make_something l o v w old new e q h = subst (λ x. MadeAt l x old new) (sym (e ∙ ap Some (sym q))) h

pub put_nothing : (l : ℕ) (o : Option Value) (old : Store) → o ≡ None → PutAt l o old old
put_nothing l o old e = subst (λ x. PutAt l x old old) (sym e) refl

pub put_something : (l : ℕ) (o : Option Value) (v w : Value) (old new : Store) → o ≡ Some v → w ≡ v
    → new ≡ put l w old → PutAt l o old new
put_something l o v w old new e q h = subst (λ x. PutAt l x old new) (sym (e ∙ ap Some (sym q))) h

-- what is made suits the store that lacks it
free_fits : (l : ℕ) (vs : List Value) (cost : ℕ) (s : Store) → AreFree l (length vs) s
    → FitsAll (making l vs cost) s
free_fits l vs cost s h = (makes_plainly l vs cost s).0.1 h

pub puts_top : (v : Layers) (old new : Layer) (l : ℕ) (vs : List Value) (cost : ℕ)
    → AreFree l (length vs) (seen (levels_of v)) → v.top ≡ Some old
    → cells_of new ≡ (λ k. joined (cells_of old k) (made_from l vs k))
    → new.output ≡ old.output → new.cost ≡ old.cost + cost
    → Adds (making l vs cost) (levels_of v)
    (record {
      store = held v.store;
      output = v.output;
      cost = v.cost;
      attempts = effect_of new ∷ inward v.below [];
    })
puts_top v old new l vs cost free t e q w = record {
  fits = free_fits l vs cost (seen (levels_of v)) free;
  is_new =
      (λ i. record {
        store = held v.store;
        output = v.output;
        cost = v.cost;
        attempts =
            record { cells = e i; output = (q ∙ sym (append-nil old.output)) i; cost = w i }
            ∷ inward v.below [];
      })
      ∙ ap (λ o. added_to (making l vs cost) (levels_of v) (attempts_of o v.below)) (sym t);
}

pub puts_root : (v : Layers) (s : a_store.Store) (l : ℕ) (vs : List Value) (cost : ℕ)
    → AreFree l (length vs) (seen (levels_of v)) → v.top ≡ None
    → held s ≡ (λ k. left_at (made_from l vs k) (held v.store k))
    → Adds (making l vs cost) (levels_of v)
    (record {
      store = held s;
      output = v.output;
      cost = v.cost + cost;
      attempts = attempts_of v.top v.below;
    })
puts_root v s l vs cost free t e =
    let none : attempts_of v.top v.below ≡ [] = ap (λ o. attempts_of o v.below) t in record {
      fits = free_fits l vs cost (seen (levels_of v)) free;
      is_new = (λ i. record {
        store = e i;
        output = sym (append-nil v.output) i;
        cost = v.cost + cost;
        attempts = none i;
      })
          ∙ ap (added_to (making l vs cost) (levels_of v)) (sym none);
    }
