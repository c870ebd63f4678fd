-- A walk that puts one part after another at the end of a list.
use Rattle.std.proofs.Common.{◌≡◌, ℕ, ◌+◌, ◌<◌, List, [], ◌∷◌, ◌++◌, get_or, take, length, sym, ap, ◌∙◌, append_assoc}
use Rattle.std.specs.Prelude.{map}
use Rattle.std.specs.List.{flat_map}
use Rattle.std.proofs.lemmas.List.{get_or_default, take_more, append-nil, map-append}
use Rattle.std.proofs.lemmas.Grind.{flat_map-append}

-- the same part by another name
pub by : {A B : Type 0} (f : A → List B) {x y : A} (old : List B) {new : List B} → x ≡ y
    → new ≡ old ++ f x → new ≡ old ++ f y
by f old e step = step ∙ ap (λ v. old ++ f v) e

pub nothing_added : {B : Type 0} (old : List B) {all : List B} → all ≡ [] → old ≡ old ++ all
nothing_added {B} old e = sym (append-nil old) ∙ ap (λ (u : List B). old ++ u) (sym e)

pub one_added : {B : Type 0} (old : List B) {new a all : List B} → new ≡ old ++ a → all ≡ a
    → new ≡ old ++ all
one_added {B} old p e = p ∙ ap (λ (u : List B). old ++ u) (sym e)

both : {B : Type 0} (old a b : List B) {mid new : List B} → mid ≡ old ++ a → new ≡ mid ++ b
    → new ≡ old ++ (a ++ b)
both {B} old a b p q = q ∙ ap (λ (u : List B). u ++ b) p ∙ append_assoc old a b

pub two_added : {B : Type 0} (old a b : List B) {mid new all : List B} → mid ≡ old ++ a
    → new ≡ mid ++ b → all ≡ a ++ b → new ≡ old ++ all
two_added old a b p q e = one_added old (both old a b p q) e

pub three_added : {B : Type 0} (old a b c : List B) {mid mid' new all : List B} → mid ≡ old ++ a
    → mid' ≡ mid ++ b → new ≡ mid' ++ c → all ≡ a ++ (b ++ c) → new ≡ old ++ all
three_added old a b c {mid = mid} p q r e =
    one_added old (both old a (b ++ c) p (both mid b c q r)) e

-- one more item of a list
pub taken : {A : Type 0} (xs : List A) (i : ℕ) (x : A) → i < length xs → x ≡ get_or xs i x
    → take (i + 1) xs ≡ take i xs ++ x ∷ []
taken xs i x lt is = take_more xs i x lt ∙ ap (λ y. take i xs ++ y ∷ []) (sym is)

-- the parts of one more item
pub parts_more : {A B : Type 0} (f : A → List B) (xs : List A) (i : ℕ) (x : A) → i < length xs
    → x ≡ get_or xs i x → flat_map f (take (i + 1) xs) ≡ flat_map f (take i xs) ++ f x
parts_more {A} {B} f xs i x lt is =
    ap (flat_map f) (taken xs i x lt is) ∙ flat_map-append f (take i xs) (x ∷ [])
    ∙ ap (λ (u : List B). flat_map f (take i xs) ++ u) (append-nil (f x))

-- a step of a walk over the parts of a list
pub one_more : {A B : Type 0} (f : A → List B) (xs : List A) (i : ℕ) (x : A)
    (old at new : List B) → i < length xs → x ≡ get_or xs i x
    → at ≡ old ++ flat_map f (take i xs) → new ≡ at ++ f x
    → new ≡ old ++ flat_map f (take (i + 1) xs)
one_more f xs i x old at new lt is so_far step =
    two_added old (flat_map f (take i xs)) (f x) so_far step (parts_more f xs i x lt is)

-- the same where each item has one
pub one_more_mapped : {A B : Type 0} (f : A → B) (xs : List A) (i : ℕ) (x : A)
    (old at new : List B) → i < length xs → x ≡ get_or xs i x
    → at ≡ old ++ map f (take i xs) → new ≡ at ++ f x ∷ [] → new ≡ old ++ map f (take (i + 1) xs)
one_more_mapped f xs i x old at new lt is so_far step =
    two_added old (map f (take i xs)) (f x ∷ []) so_far step (ap (map f) (taken xs i x lt is)
    ∙ map-append f (take i xs) (x ∷ []))

-- the same over the lists of the items, one after the other
pub one_more_of : {A B : Type 0} (f : A → List B) (xs : List A) (i : ℕ) (x : A)
    (old at new : List B) → i < length xs → x ≡ get_or xs i x
    → at ≡ old ++ flat_map (λ part. part) (map f (take i xs)) → new ≡ at ++ f x
    → new ≡ old ++ flat_map (λ part. part) (map f (take (i + 1) xs))
one_more_of {A} {B} f xs i x old at new lt is so_far step =
    two_added old (flat_map (λ part. part) (map f (take i xs))) (f x) so_far step
    (ap (λ (ys : List (List B)). flat_map (λ part. part) ys) (ap (map f) (taken xs i x lt is)
    ∙ map-append f (take i xs) (x ∷ []))
    ∙ flat_map-append (λ part. part) (map f (take i xs)) (f x ∷ []) ∙ ap (λ
    (u : List B). flat_map (λ part. part) (map f (take i xs)) ++ u) (append-nil (f x)))

-- the same of an item that is read
pub one_more_mapped_at : {A B : Type 0} (f : A → B) (xs : List A) (i : ℕ) (d : A)
    (old at new : List B) → i < length xs → at ≡ old ++ map f (take i xs)
    → new ≡ at ++ f (get_or xs i d) ∷ [] → new ≡ old ++ map f (take (i + 1) xs)
one_more_mapped_at f xs i d old at new lt so_far step =
    one_more_mapped f xs i (get_or xs i d) old at new lt (get_or_default xs i d (get_or xs i d) lt)
    so_far step
