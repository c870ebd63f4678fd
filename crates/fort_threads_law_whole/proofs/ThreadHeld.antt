-- What servers hold, owe and have free stays where one of them, which runs a thread, goes on.
use Rattle.std.proofs.Common.{◌≡◌, ℕ, ◌+◌, ◌<◌, List, [], ◌∷◌, ◌++◌, refl, sym, ap, ◌∙◌, subst, arith, ◌⊎◌, inl, inr}
use Rattle.std.proofs.lemmas.List.Sums.{sum-map, sum_by-cons}
use Rattle.fort_core.specs.declared.term.Term.{Term}
use Rattle.fort_machine.specs.Parts.{IsOneOf}
use Rattle.fort_threads.specs.Objects.{NoneTwice}
use Rattle.fort_threads_law_servers.specs.Stages.{runs}
use Rattle.fort_threads_law_trees.specs.Leaves.{Leaf, leaf, is_free, held, all_held, owes, owed_in, free_in}
use Rattle.fort_threads_law_whole.proofs.ThreadQueue.{one_of_both, in_first, in_second}

-- what the first one owes, and the others
owed_more : (x : Leaf) (xs : List Leaf) → owed_in (x ∷ xs) ≡ owes x.stage + owed_in xs
owed_more x xs =
    let f = λ (z : Leaf). owes z.stage in
    sum-map f (x ∷ xs) ∙ sum_by-cons f x xs ∙ ap (λ k. owes x.stage + k) (sym (sum-map f xs))

free_more : (x : Leaf) (xs : List Leaf) → free_in (x ∷ xs) ≡ is_free x.stage + free_in xs
free_more x xs =
    let f = λ (z : Leaf). is_free z.stage in
    sum-map f (x ∷ xs) ∙ sum_by-cons f x xs ∙ ap (λ k. is_free x.stage + k) (sym (sum-map f xs))

module _ (path : List ℕ) (l : ℕ) (u v : Term) where
  pub same_held : (xs ys : List Leaf)
      → all_held (xs ++ leaf path (runs l u) ∷ ys) ≡ all_held (xs ++ leaf path (runs l v) ∷ ys)
  same_held [] ys = refl
  same_held (x ∷ xs) ys = ap (λ z. held x.stage ++ z) (same_held xs ys)

  pub same_owed : (xs ys : List Leaf)
      → owed_in (xs ++ leaf path (runs l u) ∷ ys) ≡ owed_in (xs ++ leaf path (runs l v) ∷ ys)
  same_owed [] ys = refl
  same_owed (x ∷ xs) ys =
      owed_more x (xs ++ leaf path (runs l u) ∷ ys)
      ∙ ap (λ z. owes x.stage + z) (same_owed xs ys)
      ∙ sym (owed_more x (xs ++ leaf path (runs l v) ∷ ys))

  pub same_free : (xs ys : List Leaf)
      → free_in (xs ++ leaf path (runs l u) ∷ ys) ≡ free_in (xs ++ leaf path (runs l v) ∷ ys)
  same_free [] ys = refl
  same_free (x ∷ xs) ys =
      free_more x (xs ++ leaf path (runs l u) ∷ ys)
      ∙ ap (λ z. is_free x.stage + z) (same_free xs ys)
      ∙ sym (free_more x (xs ++ leaf path (runs l v) ∷ ys))

  -- whoever runs a thread owes one
  pub some_owed : (xs ys : List Leaf) → 0 < owed_in (xs ++ leaf path (runs l u) ∷ ys)
  some_owed [] ys =
      let h : owed_in (leaf path (runs l u) ∷ ys) ≡ 1 + owed_in ys =
      owed_more (leaf path (runs l u)) ys in
      omega (arith, h)
  some_owed (x ∷ xs) ys =
      let h = some_owed xs ys in
      let e : owed_in ((x ∷ xs) ++ leaf path (runs l u) ∷ ys)
      ≡ owes x.stage + owed_in (xs ++ leaf path (runs l u) ∷ ys) =
      owed_more x (xs ++ leaf path (runs l u) ∷ ys) in
      omega (arith, h, e)

-- what one server holds is held by all
pub held_by_all : (x : Leaf) (xs : List Leaf) (l : ℕ) → IsOneOf x xs → IsOneOf l (held x.stage)
    → IsOneOf l (all_held xs)
held_by_all x [] l i h = absurd i
held_by_all x (y ∷ xs) l (inl e) h =
    in_first l (held y.stage) (all_held xs) (subst (λ (z : Leaf). IsOneOf l (held z.stage)) e h)
held_by_all x (y ∷ xs) l (inr i) h =
    in_second l (held y.stage) (all_held xs) (held_by_all x xs l i h)

pub who_holds : (xs : List Leaf) (l : ℕ) → IsOneOf l (all_held xs)
    → (x : Leaf) × IsOneOf x xs × IsOneOf l (held x.stage)
who_holds [] l i = absurd i
who_holds (y ∷ xs) l i = go (who_holds xs l) (one_of_both l (held y.stage) (all_held xs) i)
  where
    go : (IsOneOf l (all_held xs) → (x : Leaf) × IsOneOf x xs × IsOneOf l (held x.stage))
        → IsOneOf l (held y.stage) ⊎ IsOneOf l (all_held xs)
        → (x : Leaf) × IsOneOf x (y ∷ xs) × IsOneOf l (held x.stage)
    go more (inl h) = (y, inl refl, h)
    go more (inr h) = let q = more h in (q.0, inr q.1, q.2)

-- parts of lists that have nothing twice
pub behind_once : (ls ms : List ℕ) → NoneTwice (ls ++ ms) → NoneTwice ms
behind_once [] ms h = h
behind_once (l ∷ ls) ms h = behind_once ls ms h.1

pub not_in_both : (ls ms : List ℕ) (l : ℕ) → NoneTwice (ls ++ ms) → IsOneOf l ls → IsOneOf l ms
    → ⊥
not_in_both [] ms l h i j = i
not_in_both (k ∷ ls) ms l h (inl e) j = h.0 (in_second k ls ms (subst (λ z. IsOneOf z ms) e j))
not_in_both (k ∷ ls) ms l h (inr i) j = not_in_both ls ms l h.1 i j

-- another server than the one that runs a thread doesn't hold the thread's object
module _ (path : List ℕ) (l : ℕ) (u : Term) where
  pub others_hold_not : (xs ys : List Leaf) (x : Leaf)
      → NoneTwice (all_held (xs ++ leaf path (runs l u) ∷ ys)) → IsOneOf x xs ⊎ IsOneOf x ys
      → IsOneOf l (held x.stage) → ⊥
  others_hold_not [] ys x once (inl i) h = i
  others_hold_not [] ys x once (inr i) h = once.0 (held_by_all x ys l i h)
  others_hold_not (y ∷ xs) ys x once (inl (inl e)) h =
      not_in_both (held y.stage) (all_held (xs ++ leaf path (runs l u) ∷ ys)) l once
      (subst (λ (z : Leaf). IsOneOf l (held z.stage)) e h)
      (held_by_all (leaf path (runs l u)) (xs ++ leaf path (runs l u) ∷ ys) l
      (in_second (leaf path (runs l u)) xs (leaf path (runs l u) ∷ ys) (inl refl)) (inl refl))
  others_hold_not (y ∷ xs) ys x once (inl (inr i)) h =
      others_hold_not xs ys x
      (behind_once (held y.stage) (all_held (xs ++ leaf path (runs l u) ∷ ys)) once) (inl i) h
  others_hold_not (y ∷ xs) ys x once (inr i) h =
      others_hold_not xs ys x
      (behind_once (held y.stage) (all_held (xs ++ leaf path (runs l u) ∷ ys)) once) (inr i) h

-- a leaf among these is the one in the middle, or another one
pub data WhichLeaf (xs ys : List Leaf) (x z : Leaf) : Type 0 where
  it_is : x ≡ z → WhichLeaf xs ys x z
  another : IsOneOf x xs ⊎ IsOneOf x ys → WhichLeaf xs ys x z

pub which_leaf : (xs ys : List Leaf) (x z : Leaf) → IsOneOf x (xs ++ z ∷ ys)
    → WhichLeaf xs ys x z
which_leaf xs ys x z i = go (one_of_both x xs (z ∷ ys) i)
  where
    go : IsOneOf x xs ⊎ IsOneOf x (z ∷ ys) → WhichLeaf xs ys x z
    go (inl j) = another (inl j)
    go (inr (inl e)) = it_is e
    go (inr (inr j)) = another (inr j)

pub leaf_stays : (xs ys : List Leaf) (x z : Leaf) → IsOneOf x xs ⊎ IsOneOf x ys
    → IsOneOf x (xs ++ z ∷ ys)
leaf_stays xs ys x z (inl i) = in_first x xs (z ∷ ys) i
leaf_stays xs ys x z (inr i) = in_second x xs (z ∷ ys) (inr i)

pub leaf_there : (xs ys : List Leaf) (z : Leaf) → IsOneOf z (xs ++ z ∷ ys)
leaf_there xs ys z = in_second z xs (z ∷ ys) (inl refl)
