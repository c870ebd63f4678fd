-- Servers in a row, where one of them goes on.
use Rattle.std.proofs.Common.{◌≡◌, ℕ, ◌+◌, List, [], ◌∷◌, ◌++◌, refl, ap, sym, ◌∙◌, subst, arith, append_assoc, inl, inr, ◌⊎◌}
use Rattle.std.specs.Prelude.{map, sum}
use Rattle.std.proofs.lemmas.List.Sums.{sum-map, sum_by-cons}
use Rattle.fort_core.specs.declared.program.Program.{Program}
use Rattle.fort_machine.specs.Effects.{Store}
use Rattle.fort_machine.specs.Parts.{IsOneOf}
use Rattle.fort_threads.specs.Objects.{NoneTwice}
use Rattle.fort_threads.specs.Threads.{Thread}
use Rattle.fort_threads_law_servers.specs.Prelude.{Names}
use Rattle.fort_threads_law_servers.specs.Roots.{Start}
use Rattle.fort_threads_law_worlds.specs.Worlds.{World}
use Rattle.fort_threads_law_worlds.specs.Known.{Own}
use Rattle.fort_threads_law_trees.specs.Leaves.{Leaf, held, all_held, owes, is_free, free_in, owed_in, IsCalm}
use Rattle.fort_threads_law_whole.specs.Roots.{AllCalm}
use Rattle.fort_threads_law_whole.specs.Servers.{ServesOne, IsKept, AllServeOne}

-- what servers hold, of which one stands among others
pub held_split : (xs ys : List Leaf) (x : Leaf)
    → all_held (xs ++ x ∷ ys) ≡ all_held xs ++ (held x.stage ++ all_held ys)
held_split [] ys x = refl
held_split (y ∷ xs) ys x =
    ap (λ ls. held y.stage ++ ls) (held_split xs ys x)
    ∙ sym (append_assoc (held y.stage) (all_held xs) (held x.stage ++ all_held ys))

to_front : (a b c d : ℕ) → a + (b + (c + d)) ≡ b + ((a + c) + d)
to_front a b c d = omega arith

from_zero : (a : ℕ) → a ≡ 0 + a
from_zero a = omega arith

cons_sum : (f : Leaf → ℕ) (x : Leaf) (xs : List Leaf) → sum (map f (x ∷ xs)) ≡ f x + sum (map f xs)
cons_sum f x xs =
    sum-map f (x ∷ xs) ∙ sum_by-cons f x xs ∙ ap (λ k. f x + k) (sym (sum-map f xs))

split_sum : (f : Leaf → ℕ) (xs ys : List Leaf) (x : Leaf)
    → sum (map f (xs ++ x ∷ ys)) ≡ f x + (sum (map f xs) + sum (map f ys))
split_sum f [] ys x = cons_sum f x ys ∙ ap (λ k. f x + k) (from_zero (sum (map f ys)))
split_sum f (y ∷ xs) ys x =
    cons_sum f y (xs ++ x ∷ ys) ∙ ap (λ k. f y + k) (split_sum f xs ys x)
    ∙ to_front (f y) (f x) (sum (map f xs)) (sum (map f ys))
    ∙ ap (λ k. f x + (k + sum (map f ys))) (sym (cons_sum f y xs))

-- what they owe, and how many are free
pub owed_split : (xs ys : List Leaf) (x : Leaf)
    → owed_in (xs ++ x ∷ ys) ≡ owes x.stage + (owed_in xs + owed_in ys)
owed_split xs ys x = split_sum (λ (y : Leaf). owes y.stage) xs ys x

pub free_split : (xs ys : List Leaf) (x : Leaf)
    → free_in (xs ++ x ∷ ys) ≡ is_free x.stage + (free_in xs + free_in ys)
free_split xs ys x = split_sum (λ (y : Leaf). is_free y.stage) xs ys x

-- one of them is that one, or one of the others
pub one_of_split : (xs ys : List Leaf) (x y : Leaf) → IsOneOf y (xs ++ x ∷ ys)
    → (y ≡ x) ⊎ (IsOneOf y xs ⊎ IsOneOf y ys)
one_of_split [] ys x y (inl e) = inl e
one_of_split [] ys x y (inr i) = inr (inr i)
one_of_split (z ∷ xs) ys x y (inl e) = inr (inl (inl e))
one_of_split (z ∷ xs) ys x y (inr i) = go (one_of_split xs ys x y i)
  where
    go : (y ≡ x) ⊎ (IsOneOf y xs ⊎ IsOneOf y ys)
        → (y ≡ x) ⊎ (IsOneOf y (z ∷ xs) ⊎ IsOneOf y ys)
    go (inl e) = inl e
    go (inr (inl j)) = inr (inl (inr j))
    go (inr (inr j)) = inr (inr j)

pub other_in : (xs ys : List Leaf) (x y : Leaf) → IsOneOf y xs ⊎ IsOneOf y ys
    → IsOneOf y (xs ++ x ∷ ys)
other_in [] ys x y (inl i) = absurd i
other_in [] ys x y (inr i) = inr i
other_in (z ∷ xs) ys x y (inl (inl e)) = inl e
other_in (z ∷ xs) ys x y (inl (inr i)) = inr (other_in xs ys x y (inl i))
other_in (z ∷ xs) ys x y (inr i) = inr (other_in xs ys x y (inr i))

pub itself_in : (xs ys : List Leaf) (x : Leaf) → IsOneOf x (xs ++ x ∷ ys)
itself_in [] ys x = inl refl
itself_in (z ∷ xs) ys x = inr (itself_in xs ys x)

-- what one of them holds all hold
one_of_first : {A : Type 0} (l : A) (cs bs : List A) → IsOneOf l cs → IsOneOf l (cs ++ bs)
one_of_first l [] bs i = absurd i
one_of_first l (a ∷ cs) bs (inl e) = inl e
one_of_first l (a ∷ cs) bs (inr i) = inr (one_of_first l cs bs i)

one_of_last : {A : Type 0} (l : A) (cs bs : List A) → IsOneOf l bs → IsOneOf l (cs ++ bs)
one_of_last l [] bs i = i
one_of_last l (a ∷ cs) bs i = inr (one_of_last l cs bs i)

pub held_in : (xs : List Leaf) (y : Leaf) (l : ℕ) → IsOneOf y xs → IsOneOf l (held y.stage)
    → IsOneOf l (all_held xs)
held_in [] y l i h = absurd i
held_in (x ∷ xs) y l (inl e) h =
    one_of_first l (held x.stage) (all_held xs) (subst (λ (z : Leaf). IsOneOf l (held z.stage)) e h)
held_in (x ∷ xs) y l (inr i) h =
    one_of_last l (held x.stage) (all_held xs) (held_in xs y l i h)

-- ---- nothing twice

drops : (cs bs : List ℕ) (l : ℕ) → NoneTwice (cs ++ l ∷ bs)
    → NoneTwice (cs ++ bs) × (IsOneOf l (cs ++ bs) → ⊥)
drops [] bs l h = (h.1, h.0)
drops (a ∷ cs) bs l h =
    let r = drops cs bs l h.1 in
    (((λ i. h.0 (wider cs i)), r.0), (λ i. go i r.1))
  where
    wider : (cs : List ℕ) → IsOneOf a (cs ++ bs) → IsOneOf a (cs ++ l ∷ bs)
    wider [] i = inr i
    wider (c ∷ cs) (inl e) = inl e
    wider (c ∷ cs) (inr i) = inr (wider cs i)

    itself : (cs : List ℕ) → IsOneOf l (cs ++ l ∷ bs)
    itself [] = inl refl
    itself (c ∷ cs) = inr (itself cs)

    go : IsOneOf l (a ∷ (cs ++ bs)) → (IsOneOf l (cs ++ bs) → ⊥) → ⊥
    go (inl e) k = h.0 (subst (λ z. IsOneOf z (cs ++ l ∷ bs)) e (itself cs))
    go (inr i) k = k i

puts : (cs bs : List ℕ) (l : ℕ) → NoneTwice (cs ++ bs) → (IsOneOf l (cs ++ bs) → ⊥)
    → NoneTwice (cs ++ l ∷ bs)
puts [] bs l h k = (k, h)
puts (a ∷ cs) bs l h k = ((λ i. go cs i h.0), puts cs bs l h.1 (λ i. k (inr i)))
  where
    go : (cs : List ℕ) → IsOneOf a (cs ++ l ∷ bs) → (IsOneOf a (cs ++ bs) → ⊥) → ⊥
    go [] (inl e) j = k (inl (sym e))
    go [] (inr i) j = j i
    go (c ∷ cs) (inl e) j = j (inl e)
    go (c ∷ cs) (inr i) j = go cs i (λ q. j (inr q))

-- what one server holds neither the queue nor another server has
pub held_alone : (qs : List ℕ) (xs ys : List Leaf) (x : Leaf) (l : ℕ) → held x.stage ≡ l ∷ []
    → NoneTwice (qs ++ all_held (xs ++ x ∷ ys))
    → (IsOneOf l qs → ⊥)
    × ((y : Leaf) → IsOneOf y xs ⊎ IsOneOf y ys → IsOneOf l (held y.stage) → ⊥)
held_alone qs xs ys x l e h = ((λ i. r.1 (in_queue i)), other)
  where
    all : NoneTwice ((qs ++ all_held xs) ++ l ∷ all_held ys)
    all =
        subst NoneTwice
        (ap (λ ls. qs ++ ls)
        (held_split xs ys x ∙ ap (λ ls. all_held xs ++ (ls ++ all_held ys)) e)
        ∙ sym (append_assoc qs (all_held xs) (l ∷ all_held ys)))
        h

    r : NoneTwice ((qs ++ all_held xs) ++ all_held ys)
        × (IsOneOf l ((qs ++ all_held xs) ++ all_held ys) → ⊥)
    r = drops (qs ++ all_held xs) (all_held ys) l all

    in_queue : IsOneOf l qs → IsOneOf l ((qs ++ all_held xs) ++ all_held ys)
    in_queue i =
        one_of_first l (qs ++ all_held xs) (all_held ys) (one_of_first l qs (all_held xs) i)

    other : (y : Leaf) → IsOneOf y xs ⊎ IsOneOf y ys → IsOneOf l (held y.stage) → ⊥
    other y (inl i) k =
        r.1 (one_of_first l (qs ++ all_held xs) (all_held ys)
        (one_of_last l qs (all_held xs) (held_in xs y l i k)))
    other y (inr i) k =
        r.1 (one_of_last l (qs ++ all_held xs) (all_held ys) (held_in ys y l i k))

-- it holds what it held
pub still_once : (qs : List ℕ) (xs ys : List Leaf) (x y : Leaf) → held y.stage ≡ held x.stage
    → NoneTwice (qs ++ all_held (xs ++ x ∷ ys)) → NoneTwice (qs ++ all_held (xs ++ y ∷ ys))
still_once qs xs ys x y e h =
    subst (λ ls. NoneTwice (qs ++ ls))
    (held_split xs ys x ∙ ap (λ ls. all_held xs ++ (ls ++ all_held ys)) (sym e)
    ∙ sym (held_split xs ys y))
    h

-- it leaves what it held
pub left_once : (qs : List ℕ) (xs ys : List Leaf) (x y : Leaf) (l : ℕ) → held x.stage ≡ l ∷ []
    → held y.stage ≡ []
    → NoneTwice (qs ++ all_held (xs ++ x ∷ ys)) → NoneTwice (qs ++ all_held (xs ++ y ∷ ys))
left_once qs xs ys x y l e f h =
    subst NoneTwice
    (append_assoc qs (all_held xs) (all_held ys)
    ∙ ap (λ ls. qs ++ ls)
    (sym (held_split xs ys y ∙ ap (λ ls. all_held xs ++ (ls ++ all_held ys)) f)))
    (drops (qs ++ all_held xs) (all_held ys) l
    (subst NoneTwice
    (ap (λ ls. qs ++ ls)
    (held_split xs ys x ∙ ap (λ ls. all_held xs ++ (ls ++ all_held ys)) e)
    ∙ sym (append_assoc qs (all_held xs) (l ∷ all_held ys)))
    h)).0

-- it takes the first one of the queue
pub taken_once : (qs : List ℕ) (xs ys : List Leaf) (x y : Leaf) (l : ℕ) → held x.stage ≡ []
    → held y.stage ≡ l ∷ []
    → NoneTwice ((l ∷ qs) ++ all_held (xs ++ x ∷ ys)) → NoneTwice (qs ++ all_held (xs ++ y ∷ ys))
taken_once qs xs ys x y l e f h =
    subst NoneTwice
    (append_assoc qs (all_held xs) (l ∷ all_held ys)
    ∙ ap (λ ls. qs ++ ls)
    (sym (held_split xs ys y ∙ ap (λ ls. all_held xs ++ (ls ++ all_held ys)) f)))
    (puts (qs ++ all_held xs) (all_held ys) l moved.1 moved.0)
  where
    moved : NoneTwice (l ∷ ((qs ++ all_held xs) ++ all_held ys))
    moved =
        subst (λ ls. NoneTwice (l ∷ ls))
        (ap (λ ls. qs ++ ls)
        (held_split xs ys x ∙ ap (λ ls. all_held xs ++ (ls ++ all_held ys)) e)
        ∙ sym (append_assoc qs (all_held xs) (all_held ys)))
        h

-- ---- all are calm, and serve

pub calm_changed : (xs ys : List Leaf) (x y : Leaf) → IsCalm y.stage → AllCalm (xs ++ x ∷ ys)
    → AllCalm (xs ++ y ∷ ys)
calm_changed [] ys x y c h = (c, h.1)
calm_changed (z ∷ xs) ys x y c h = (h.0, calm_changed xs ys x y c h.1)

module _ (p : Program) (n : Names) (m : Start) (o : Own) where
  pub serve_all : (w v : World) (now later : List Thread) (s q : Store) (xs : List Leaf)
      → ((y : Leaf) → IsOneOf y xs → ServesOne p n m o w now y.stage × IsKept s y.stage
      → ServesOne p n m o v later y.stage × IsKept q y.stage)
      → AllServeOne p n m o w now s xs → AllServeOne p n m o v later q xs
  serve_all w v now later s q [] f h = tt
  serve_all w v now later s q (x ∷ xs) f h =
      let r = f x (inl refl) (h.0, h.1) in
      (r.0, r.1, serve_all w v now later s q xs (λ y i. f y (inr i)) h.2)

  pub serve_changed : (w v : World) (now later : List Thread) (s q : Store) (xs ys : List Leaf)
      (x y : Leaf)
      → ((z : Leaf) → IsOneOf z xs ⊎ IsOneOf z ys
      → ServesOne p n m o w now z.stage × IsKept s z.stage
      → ServesOne p n m o v later z.stage × IsKept q z.stage)
      → ServesOne p n m o v later y.stage → IsKept q y.stage
      → AllServeOne p n m o w now s (xs ++ x ∷ ys) → AllServeOne p n m o v later q (xs ++ y ∷ ys)
  serve_changed w v now later s q [] ys x y f a b h =
      (a, b, serve_all w v now later s q ys (λ z i. f z (inr i)) h.2)
  serve_changed w v now later s q (z ∷ xs) ys x y f a b h =
      let r = f z (inl (inl refl)) (h.0, h.1) in (
        r.0,
        r.1,
        serve_changed w v now later s q xs ys x y (λ c i. f c (wider c i)) a b h.2,
      )
    where
      wider : (c : Leaf) → IsOneOf c xs ⊎ IsOneOf c ys → IsOneOf c (z ∷ xs) ⊎ IsOneOf c ys
      wider c (inl i) = inl (inr i)
      wider c (inr i) = inr i

  pub serve_of : (w : World) (now : List Thread) (s : Store) (xs ys : List Leaf) (x : Leaf)
      → AllServeOne p n m o w now s (xs ++ x ∷ ys)
      → ServesOne p n m o w now x.stage × IsKept s x.stage
  serve_of w now s [] ys x h = (h.0, h.1)
  serve_of w now s (z ∷ xs) ys x h = serve_of w now s xs ys x h.2
