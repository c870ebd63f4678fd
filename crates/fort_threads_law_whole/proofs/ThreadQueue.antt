-- The queue behind threads that were added to it, and what servers hold, once one of them goes on.
use Rattle.std.proofs.Common.{◌≡◌, ℕ, ◌+◌, List, [], ◌∷◌, ◌++◌, length, Option, Some, None, refl, ap, subst, arith, ◌⊎◌, inl, inr, suc}
use Rattle.std.specs.Prelude.{option_to_list}
use Rattle.std.specs.List.{cons_option}
use Rattle.fort_machine.specs.Parts.{IsOneOf}
use Rattle.fort_threads.specs.Objects.{objects, NoneTwice}
use Rattle.fort_threads.specs.Threads.{Thread}
use Rattle.fort_threads_law_worlds.specs.Queues.{queue_after}
use Rattle.fort_threads_law_whole.proofs.ThreadObjects.{HaveObjects}

-- one of two lists
pub one_of_both : {A : Type 0} (x : A) (xs ys : List A) → IsOneOf x (xs ++ ys)
    → IsOneOf x xs ⊎ IsOneOf x ys
one_of_both x [] ys i = inr i
one_of_both x (y ∷ xs) ys (inl e) = inl (inl e)
one_of_both x (y ∷ xs) ys (inr i) = go (one_of_both x xs ys i)
  where
    go : IsOneOf x xs ⊎ IsOneOf x ys → IsOneOf x (y ∷ xs) ⊎ IsOneOf x ys
    go (inl j) = inl (inr j)
    go (inr j) = inr j

pub in_first : {A : Type 0} (x : A) (xs ys : List A) → IsOneOf x xs → IsOneOf x (xs ++ ys)
in_first x [] ys i = absurd i
in_first x (y ∷ xs) ys (inl e) = inl e
in_first x (y ∷ xs) ys (inr i) = inr (in_first x xs ys i)

pub in_second : {A : Type 0} (x : A) (xs ys : List A) → IsOneOf x ys → IsOneOf x (xs ++ ys)
in_second x [] ys i = i
in_second x (y ∷ xs) ys i = inr (in_second x xs ys i)

-- what is in the queue was there, or is the object of a thread that was added
pub in_queue_after : (us : List Thread) (ls : List ℕ) (l : ℕ) → IsOneOf l (queue_after us ls)
    → IsOneOf l (objects us) ⊎ IsOneOf l ls
in_queue_after [] ls l i = inr i
in_queue_after (u ∷ us) ls l i =
    go u.object (in_queue_after us (option_to_list u.object ++ ls) l i)
  where
    go : (o : Option ℕ) → IsOneOf l (objects us) ⊎ IsOneOf l (option_to_list o ++ ls)
        → IsOneOf l (cons_option o (objects us)) ⊎ IsOneOf l ls
    go None h = h
    go (Some m) (inl j) = inl (inr j)
    go (Some m) (inr (inl e)) = inl (inl e)
    go (Some m) (inr (inr j)) = inr j

-- and both are there
pub stays_in_queue : (us : List Thread) (ls : List ℕ) (l : ℕ) → IsOneOf l ls
    → IsOneOf l (queue_after us ls)
stays_in_queue [] ls l i = i
stays_in_queue (u ∷ us) ls l i =
    stays_in_queue us (option_to_list u.object ++ ls) l
    (in_second l (option_to_list u.object) ls i)

pub added_in_queue : (us : List Thread) (ls : List ℕ) (l : ℕ) → IsOneOf l (objects us)
    → IsOneOf l (queue_after us ls)
added_in_queue [] ls l i = absurd i
added_in_queue (u ∷ us) ls l i =
    go u.object (added_in_queue us (option_to_list u.object ++ ls) l)
    (stays_in_queue us (option_to_list u.object ++ ls) l) i
  where
    go : (o : Option ℕ)
        → (IsOneOf l (objects us) → IsOneOf l (queue_after us (option_to_list u.object ++ ls)))
        → (IsOneOf l (option_to_list o ++ ls)
        → IsOneOf l (queue_after us (option_to_list u.object ++ ls)))
        → IsOneOf l (cons_option o (objects us))
        → IsOneOf l (queue_after us (option_to_list u.object ++ ls))
    go None more here j = more j
    go (Some m) more here (inl e) = here (inl e)
    go (Some m) more here (inr j) = more j

-- it is longer by as many as were added
pub longer_queue : (us : List Thread) (ls : List ℕ) → HaveObjects us
    → length (queue_after us ls) ≡ length us + length ls
longer_queue [] ls h = omega arith
longer_queue (u ∷ us) ls h =
    let rest = longer_queue us (option_to_list u.object ++ ls) h.1 in
    let here : length (option_to_list u.object ++ ls) ≡ suc (length ls) =
    ap (λ o. length (option_to_list o ++ ls)) h.0.1 in
    omega (arith, rest, here)

-- no object stands twice in the queue and at servers, where those that were added are new
pub once_after : (us : List Thread) (ls hs : List ℕ) → NoneTwice (ls ++ hs)
    → NoneTwice (objects us) → ((l : ℕ) → IsOneOf l (objects us) → IsOneOf l (ls ++ hs) → ⊥)
    → NoneTwice (queue_after us ls ++ hs)
once_after [] ls hs once each apart = once
once_after (u ∷ us) ls hs once each apart =
    let rest = put u.object once each apart in
    once_after us (option_to_list u.object ++ ls) hs rest.0 rest.1 rest.2
  where
    one_more : (m l : ℕ) → NoneTwice (m ∷ objects us)
        → ((k : ℕ) → IsOneOf k (m ∷ objects us) → IsOneOf k (ls ++ hs) → ⊥)
        → IsOneOf l (objects us) → IsOneOf l (m ∷ (ls ++ hs)) → ⊥
    one_more m l each apart i (inl e) = each.0 (subst (λ k. IsOneOf k (objects us)) e i)
    one_more m l each apart i (inr j) = apart l (inr i) j

    put : (o : Option ℕ) → NoneTwice (ls ++ hs) → NoneTwice (cons_option o (objects us))
        → ((l : ℕ) → IsOneOf l (cons_option o (objects us)) → IsOneOf l (ls ++ hs) → ⊥)
        → NoneTwice ((option_to_list o ++ ls) ++ hs) × NoneTwice (objects us)
        × ((l : ℕ) → IsOneOf l (objects us) → IsOneOf l ((option_to_list o ++ ls) ++ hs) → ⊥)
    put None once each apart = (once, each, apart)
    put (Some m) once each apart =
        (((λ j. apart m (inl refl) j), once), each.1, λ l i j. one_more m l each apart i j)
