-- A test of all members of a list, and the first member that passes one.
use Rattle.std.proofs.Common.{◌≡◌, ℕ, zero, suc, ◌<◌, Bool, true, false, ◌&&◌, List, [], ◌∷◌, length, Option, Some, None, cond, refl, ap, sym, ◌∙◌, arith}
use Rattle.std.specs.Prelude.{Contains}
use Rattle.std.specs.List.{list_all, find, slice_index_or}

pub left_true : (b c : Bool) → (b && c) ≡ true → b ≡ true
left_true true c e = refl
left_true false c e = e

pub right_true : (b c : Bool) → (b && c) ≡ true → c ≡ true
right_true true c e = e
right_true false c e = absurd cc

pub both_true : (b c : Bool) → b ≡ true → c ≡ true → (b && c) ≡ true
both_true b c p q = ap (λ x. x && c) p ∙ q

at_place : {A : Type 0} (f : A → Bool) (xs : List A) (x : A) (k : ℕ) → k < length xs
    → slice_index_or xs k x ≡ x → list_all f xs ≡ true → f x ≡ true
at_place f [] x k h q e = absurd (omega arith)
at_place f (y ∷ xs) x zero h q e = ap f (sym q) ∙ left_true (f y) (list_all f xs) e
at_place f (y ∷ xs) x (suc k) h q e =
    at_place f xs x k (omega arith) q (right_true (f y) (list_all f xs) e)

pub all_at : {A : Type 0} (f : A → Bool) (xs : List A) (x : A) → list_all f xs ≡ true
    → Contains xs x → f x ≡ true
all_at f xs x e c = at_place f xs x c.0 c.1 c.2 e

pub all_from : {A : Type 0} (f : A → Bool) (xs : List A) → ((x : A) → Contains xs x → f x ≡ true)
    → list_all f xs ≡ true
all_from f [] h = refl
all_from f (y ∷ xs) h =
    both_true (f y) (list_all f xs) (h y (0, omega arith, refl))
    (all_from f xs (λ x c. h x (suc c.0, omega arith, c.2)))

next_found : {A : Type 0} (f : A → Bool) (y d : A) (xs : List A) (b : Bool) → f y ≡ b
    → cond b (Some y) (find f xs) ≡ Some d
    → (find f xs ≡ Some d → Contains xs d × (f d ≡ true)) → Contains (y ∷ xs) d × (f d ≡ true)
next_found f y d xs true q e h = let s : y ≡ d = cc in ((0, omega arith, s), ap f (sym s) ∙ q)
next_found f y d xs false q e h = let c = h e in ((suc c.0.0, omega arith, c.0.2), c.1)

-- what is found is in the list, and passes
pub found : {A : Type 0} (f : A → Bool) (xs : List A) (d : A) → find f xs ≡ Some d
    → Contains xs d × (f d ≡ true)
found f [] d e = absurd cc
found f (y ∷ xs) d e = next_found f y d xs (f y) refl e (λ q. found f xs d q)

next_missed : {A : Type 0} (f : A → Bool) (y : A) (xs : List A) (b : Bool) → f y ≡ b
    → cond b (Some y) (find f xs) ≡ None → (f y ≡ false) × (find f xs ≡ None)
next_missed f y xs true q e = absurd cc
next_missed f y xs false q e = (q, e)

missed_at : {A : Type 0} (f : A → Bool) (xs : List A) (x : A) (k : ℕ) → k < length xs
    → slice_index_or xs k x ≡ x → find f xs ≡ None → f x ≡ false
missed_at f [] x k h q e = absurd (omega arith)
missed_at f (y ∷ xs) x zero h q e = ap f (sym q) ∙ (next_missed f y xs (f y) refl e).0
missed_at f (y ∷ xs) x (suc k) h q e =
    missed_at f xs x k (omega arith) q (next_missed f y xs (f y) refl e).1

-- where nothing is found no member passes
pub missed : {A : Type 0} (f : A → Bool) (xs : List A) (x : A) → find f xs ≡ None → Contains xs x
    → f x ≡ false
missed f xs x e c = missed_at f xs x c.0 c.1 c.2 e
