-- Of all items of a list.
use Rattle.std.proofs.Common.{◌≤◌, map, ◌||◌, inl, inr, rules, ◌≡◌, ℕ, zero, suc, ◌<◌, ◌==◌, Bool, true, false, List, [], ◌∷◌, length, drop, get_or, Some, refl, ap, sym, ◌∙◌, subst, arith}
use Rattle.std.specs.Prelude.{Contains}
use Rattle.fort_machine.specs.Parts.{IsOneOf}
use Rattle.fort_machine.specs.Scopes.{is_among}
use Rattle.std.specs.List.{AllByRecursion, slice_index_or}
use Rattle.std.proofs.lemmas.Bool.Decides.{Decides-eqb}
use Rattle.std.proofs.lemmas.List.{drop_all}

pub some_is : {A : Type 0} (x y : A) → Some x ≡ Some y → x ≡ y
some_is x y e = cc

pub equal_is : (n m : ℕ) → (n == m) ≡ true → n ≡ m
equal_is n m e = (Decides-eqb n m).0 e

-- what holds of all items of a list holds of each that stands in it
pub at_item : {A : Type 0} (P : A → Type 0) (xs : List A) (x : A) → AllByRecursion P xs
    → Contains xs x → P x
at_item {A} P xs x h c = go xs c.0 c.1 c.2 h
  where
    go : (ys : List A) (k : ℕ) → k < length ys → slice_index_or ys k x ≡ x
        → AllByRecursion P ys → P x
    go [] k l q h = absurd (omega arith)
    go (y ∷ ys) zero l q h = subst P q h.0
    go (y ∷ ys) (suc k) l q h = go ys k (omega arith) q h.1

-- a loop over all items has come one further
pub one_more : {A : Type 0} (P : A → Type 0) (xs : List A) (i : ℕ) (x : A) → i < length xs
    → x ≡ get_or xs i x → P x → AllByRecursion P (drop (suc i) xs) → AllByRecursion P (drop i xs)
one_more P [] i x l e h rest = absurd (omega arith)
one_more P (y ∷ xs) zero x l e h rest = (subst P e h, rest)
one_more P (y ∷ xs) (suc i) x l e h rest = one_more P xs i x (omega arith) e h rest

-- one of a list, by its number
self_equal : (n : ℕ) → (n == n) ≡ true
self_equal n = search rules

or_true : (b : Bool) → (b || true) ≡ true
or_true true = refl
or_true false = refl

among : {A : Type 0} (f : A → ℕ) (a : A) (xs : List A) → IsOneOf a xs
    → is_among (f a) (map f xs) ≡ true
among f a [] i = absurd i
among f a (y ∷ xs) (inl e) =
    ap (λ z. f a == f z || is_among (f a) (map f xs)) (sym e)
    ∙ ap (λ b. b || is_among (f a) (map f xs)) (self_equal (f a))
among f a (y ∷ xs) (inr i) = ap (λ b. f a == f y || b) (among f a xs i) ∙ or_true (f a == f y)

pub not_one_of : {A : Type 0} (f : A → ℕ) (a : A) (xs : List A)
    → is_among (f a) (map f xs) ≡ false → IsOneOf a xs → ⊥
not_one_of f a xs e i = let z : true ≡ false = sym (among f a xs i) ∙ e in cc

pub one_of : {A : Type 0} (f : A → ℕ) → ((a b : A) → f a ≡ f b → a ≡ b) → (a : A) (xs : List A)
    → is_among (f a) (map f xs) ≡ true → IsOneOf a xs
one_of f k a [] h = absurd cc
one_of {A} f k a (y ∷ xs) h = go (f a == f y) refl h (λ z. one_of f k a xs z)
  where
    go : (b : Bool) → (f a == f y) ≡ b → (b || is_among (f a) (map f xs)) ≡ true
        → (is_among (f a) (map f xs) ≡ true → IsOneOf a xs) → IsOneOf a (y ∷ xs)
    go true q z r = inl (k a y (equal_is (f a) (f y) q))
    go false q z r = inr (r z)

pub one_more_at : {A : Type 0} (P : A → Type 0) (xs : List A) (i : ℕ) (d : A) → i < length xs
    → P (slice_index_or xs i d) → AllByRecursion P (drop (suc i) xs)
    → AllByRecursion P (drop i xs)
one_more_at P [] i d l h rest = absurd (omega arith)
one_more_at P (y ∷ xs) zero d l h rest = (h, rest)
one_more_at P (y ∷ xs) (suc i) d l h rest = one_more_at P xs i d (omega arith) h rest

-- four items are all of a list of so many
pub four_items : {A : Type 0} (xs : List A) (a b c d : A) → length xs ≡ 4 → a ≡ get_or xs 0 a
    → b ≡ get_or xs 1 b → c ≡ get_or xs 2 c → d ≡ get_or xs 3 d → xs ≡ a ∷ b ∷ c ∷ d ∷ []
four_items [] a b c d l e f g h = absurd (omega (arith, l))
four_items (w ∷ []) a b c d l e f g h = absurd (omega (arith, l))
four_items (w ∷ x ∷ []) a b c d l e f g h = absurd (omega (arith, l))
four_items (w ∷ x ∷ y ∷ []) a b c d l e f g h = absurd (omega (arith, l))
four_items (w ∷ x ∷ y ∷ z ∷ []) a b c d l e f g h =
    let i : w ≡ a = sym e in let j : x ≡ b = sym f in let k : y ≡ c = sym g in
    let m : z ≡ d = sym h in cc
four_items (w ∷ x ∷ y ∷ z ∷ v ∷ xs) a b c d l e f g h = absurd (omega (arith, l))

-- and to its end
pub all_done : {A : Type 0} (P : A → Type 0) (xs : List A) (i : ℕ) → length xs ≤ i
    → AllByRecursion P (drop i xs)
all_done {A} P xs i l =
    subst (λ (z : List A). AllByRecursion P z) (sym (drop_all i xs l)) tt
