-- What is in a list, and lists in which nothing stands twice.
use Rattle.std.proofs.Common.{◌≡◌, ◌≢◌, ◌≤◌, ◌+◌, ◌⊎◌, inl, inr, ℕ, zero, suc, List, [], ◌∷◌, ◌++◌, length, map, get_or, Some, refl, sym, ap, ◌∙◌, subst, arith}
use Rattle.std.specs.List.{slice_get, Contains, AllPairs, flat_map}
use Rattle.std.proofs.lemmas.Option.{slice_get_within, slice_get-get_or, get_or_from_slice_get}
use Rattle.std.proofs.lemmas.List.{length-append}
use Rattle.std.proofs.lemmas.List.Elements.{Contains-append_left, Contains-append_right, Contains-append_cases}
use Rattle.std.proofs.lemmas.List.Concat.{flat_map-cons}

pub contains_at : {A : Type 0} (xs : List A) (k : ℕ) (x : A) → slice_get xs k ≡ Some x
    → Contains xs x
contains_at xs k x e = (k, slice_get_within xs k x e, get_or_from_slice_get xs k x x e)

pub at_contained : {A : Type 0} (xs : List A) (x : A) → Contains xs x
    → (k : ℕ) × (slice_get xs k ≡ Some x)
at_contained {A} xs x w = (w.0, slice_get-get_or xs w.0 x w.1 ∙ ap (λ (z : A). Some z) w.2)

pub in_none : {A : Type 0} (x : A) → Contains [] x → ⊥
in_none x w = let l = w.1 in omega arith

pub here : {A : Type 0} (x : A) (xs : List A) → Contains (x ∷ xs) x
here x xs = (0, omega arith, refl)

pub there : {A : Type 0} (y : A) (xs : List A) (x : A) → Contains xs x → Contains (y ∷ xs) x
there y xs x w = (suc w.0, let l = w.1 in omega arith, w.2)

pub either : {A : Type 0} (y : A) (xs : List A) (x : A) → Contains (y ∷ xs) x
    → (y ≡ x) ⊎ Contains xs x
either y xs x (zero, l, e) = inl e
either y xs x (suc k, l, e) = inr (k, omega arith, e)

pub in_map : {A B : Type 0} (f : A → B) (xs : List A) (x : A) → Contains xs x
    → Contains (map f xs) (f x)
in_map f [] x w = absurd (in_none x w)
in_map {A} {B} f (y ∷ xs) x w = elim (either y xs x w) as (λ _. Contains (map f (y ∷ xs)) (f x)) [
  | inl e ↦ subst (λ (z : A). Contains (map f (y ∷ xs)) (f z)) e (here (f y) (map f xs))
  | inr v ↦ there (f y) (map f xs) (f x) (in_map f xs x v)
]

pub of_map : {A B : Type 0} (f : A → B) (xs : List A) (y : B) → Contains (map f xs) y
    → (x : A) × Contains xs x × (f x ≡ y)
of_map f [] y w = absurd (in_none y w)
of_map {A} {B} f (x ∷ xs) y w =
    elim (either (f x) (map f xs) y w) as (λ _. (z : A) × Contains (x ∷ xs) z × (f z ≡ y)) [
      | inl e ↦ (x, here x xs, e)
      | inr v ↦ (let u = of_map f xs y v in (u.0, there x xs u.0 u.1, u.2))
    ]

pub in_flat : {A B : Type 0} (f : A → List B) (xs : List A) (x : A) (y : B) → Contains xs x
    → Contains (f x) y → Contains (flat_map f xs) y
in_flat f [] x y w v = absurd (in_none x w)
in_flat {A} {B} f (z ∷ xs) x y w v =
    subst (λ l. Contains l y) (sym (flat_map-cons f z xs))
    (elim (either z xs x w) as (λ _. Contains (f z ++ flat_map f xs) y) [
      | inl e ↦
          Contains-append_left (f z) (flat_map f xs) y (subst (λ (u : A). Contains (f u) y) (sym e) v)
      | inr u ↦ Contains-append_right (f z) (flat_map f xs) y (in_flat f xs x y u v)
    ])

pub of_flat : {A B : Type 0} (f : A → List B) (xs : List A) (y : B) → Contains (flat_map f xs) y
    → (x : A) × Contains xs x × Contains (f x) y
of_flat f [] y w = absurd (in_none y w)
of_flat {A} {B} f (z ∷ xs) y w =
    elim (Contains-append_cases (f z) (flat_map f xs) y
    (subst (λ l. Contains l y) (flat_map-cons f z xs) w)) as (λ _.
    (x : A) × Contains (z ∷ xs) x × Contains (f x) y) [
      | inl v ↦ (z, here z xs, v)
      | inr v ↦ (let u = of_flat f xs y v in (u.0, there z xs u.0 u.1, u.2))
    ]

-- ---- nothing twice

none_twice : {A : Type 0} → AllPairs (λ (x y : A). x ≢ y) []
none_twice i j d l m = absurd (omega arith)

pub head_apart : {A : Type 0} (x : A) (xs : List A) → AllPairs (λ (x y : A). x ≢ y) (x ∷ xs)
    → (z : A) → Contains xs z → x ≢ z
head_apart x xs p z w e = p 0 (suc w.0) z (omega arith) (let l = w.1 in omega arith) (e ∙ sym w.2)

pub tail_apart : {A : Type 0} (x : A) (xs : List A) → AllPairs (λ (x y : A). x ≢ y) (x ∷ xs)
    → AllPairs (λ (x y : A). x ≢ y) xs
tail_apart x xs p i j d l m = p (suc i) (suc j) d (omega arith) (omega arith)

pub apart_cons : {A : Type 0} (x : A) (xs : List A) → ((z : A) → Contains xs z → x ≢ z)
    → AllPairs (λ (x y : A). x ≢ y) xs → AllPairs (λ (x y : A). x ≢ y) (x ∷ xs)
apart_cons x xs n p i zero d l m = absurd (omega arith)
apart_cons x xs n p zero (suc j) d l m =
    n (get_or xs j d) (contains_at xs j (get_or xs j d) (slice_get-get_or xs j d (omega arith)))
apart_cons x xs n p (suc i) (suc j) d l m = p i j d (omega arith) (omega arith)

pub apart_append : {A : Type 0} (xs ys : List A) → AllPairs (λ (x y : A). x ≢ y) xs
    → AllPairs (λ (x y : A). x ≢ y) ys
    → ((x y : A) → Contains xs x → Contains ys y → x ≢ y) → AllPairs (λ (x y : A). x ≢ y) (xs ++ ys)
apart_append [] ys p q n = q
apart_append {A} (x ∷ xs) ys p q n =
    apart_cons x (xs ++ ys) (λ z w. elim (Contains-append_cases xs ys z w) as (λ _. x ≢ z) [
      | inl v ↦ head_apart x xs p z v
      | inr v ↦ n x z (here x xs) v
    ]) (apart_append xs ys (tail_apart x xs p) q (λ u v a b. n u v (there x xs u a) b))

pub apart_map : {A B : Type 0} (f : A → B) (xs : List A) → ((x y : A) → f x ≡ f y → x ≡ y)
    → AllPairs (λ (x y : A). x ≢ y) xs → AllPairs (λ (x y : B). x ≢ y) (map f xs)
apart_map f [] n p = none_twice
apart_map {A} {B} f (x ∷ xs) n p =
    apart_cons (f x) (map f xs) (λ z w e. let u = of_map f xs z w
    in head_apart x xs p u.0 u.1 (n x u.0 (e ∙ sym u.2)))
    (apart_map f xs n (tail_apart x xs p))

-- ---- two lists of the same things, nothing twice, are of one length

record Split {A : Type 0} (ys : List A) (x : A) : Type 0 where
  front : List A
  back : List A
  is : ys ≡ front ++ x ∷ back

split : {A : Type 0} (ys : List A) (x : A) → Contains ys x → Split ys x
split [] x w = absurd (in_none x w)
split {A} (y ∷ ys) x w = elim (either y ys x w) as (λ _. Split (y ∷ ys) x) [
  | inl e ↦ record { front = []; back = ys; is = ap (λ (z : A). z ∷ ys) e }
  | inr v ↦
      (let s = split ys x v
      in record { front = y ∷ s.front; back = s.back; is = ap (λ (z : List A). y ∷ z) s.is })
]

others : {A : Type 0} (ys : List A) (x z : A) (s : Split ys x) → Contains ys z → x ≢ z
    → Contains (s.front ++ s.back) z
others {A} ys x z s w n =
    elim (Contains-append_cases s.front (x ∷ s.back) z (subst (λ
    (l : List A). Contains l z) s.is w)) as (λ _. Contains (s.front ++ s.back) z) [
      | inl v ↦ Contains-append_left s.front s.back z v
      | inr v ↦ elim (either x s.back z v) as (λ _. Contains (s.front ++ s.back) z) [
        | inl e ↦ absurd (n e)
        | inr u ↦ Contains-append_right s.front s.back z u
      ]
    ]

one_less : {A : Type 0} (ys : List A) (x : A) (s : Split ys x)
    → length ys ≡ length (s.front ++ s.back) + 1
one_less ys x s =
    let a = ap length s.is in let b = length-append s.front (x ∷ s.back)
    in let c = length-append s.front s.back in omega arith

no_more : {A : Type 0} (xs ys : List A) → AllPairs (λ (x y : A). x ≢ y) xs
    → ((x : A) → Contains xs x → Contains ys x) → length xs ≤ length ys
no_more [] ys p w = omega arith
no_more (x ∷ xs) ys p w = let s = split ys x (w x (here x xs)) in let n = one_less ys x s in
    let m = no_more xs (s.front ++ s.back) (tail_apart x xs p)
    (λ z v. others ys x z s (w z (there x xs z v)) (head_apart x xs p z v)) in omega arith

pub as_many : {A : Type 0} (xs ys : List A) → AllPairs (λ (x y : A). x ≢ y) xs
    → AllPairs (λ (x y : A). x ≢ y) ys
    → ((x : A) → Contains xs x → Contains ys x) → ((x : A) → Contains ys x → Contains xs x)
    → length xs ≡ length ys
as_many xs ys p q w v = let a = no_more xs ys p w in let b = no_more ys xs q v in omega arith
