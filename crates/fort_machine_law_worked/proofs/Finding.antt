-- What holds of each element of a list, and what a list of rows has set, by trying each place.
use Rattle.std.proofs.Common.{◌≡◌, ℕ, zero, suc, ◌+◌, ◌==◌, Bool, true, false, not, ◌&&◌, ◌||◌, List, [], ◌∷◌, ◌++◌, Option, Some, None, refl, ap, sym, ◌∙◌, subst, inl, inr, arith, rules, IsTrue}
use Rattle.std.specs.Prelude.{slice_get, unwrap_or, option_and_then, Contains}
use Rattle.std.specs.List.{list_all}
use Rattle.fort_types.specs.Table.{is_set}
use Rattle.fort_machine.specs.Parts.{IsOneOf}

-- each element
abbrev pub Each : {A : Type 0} → (A → Type 0) → List A → Type 0
Each P [] = Unit {0}
Each P (x ∷ xs) = P x × Each P xs

pub each : {A : Type 0} (P : A → Type 0) (xs : List A) → Each P xs → (n : ℕ) (x : A)
    → slice_get xs n ≡ Some x → P x
each P [] h n x e = absurd cc
each P (y ∷ xs) h zero x e = let z : y ≡ x = cc in subst P z h.0
each P (y ∷ xs) h (suc n) x e = each P xs h.1 n x e

-- the one element
pub one_member : {A : Type 0} (x y : A) → Contains (x ∷ []) y → x ≡ y
one_member x y (zero, l, q) = q
one_member x y (suc n, l, q) = absurd (omega arith)

-- the places that a row has set
abbrev pub set_in : ℕ → ℕ → List Bool → List (ℕ × ℕ)
set_in i n [] = []
set_in i n (true ∷ bs) = (i, n) ∷ set_in i (n + 1) bs
set_in i n (false ∷ bs) = set_in i (n + 1) bs

abbrev pub all_set : ℕ → List (List Bool) → List (ℕ × ℕ)
all_set i [] = []
all_set i (row ∷ rows) = set_in i 0 row ++ all_set (i + 1) rows

in_front : {A : Type 0} (x : A) (xs ys : List A) → IsOneOf x xs → IsOneOf x (xs ++ ys)
in_front x [] ys h = absurd h
in_front x (y ∷ xs) ys (inl e) = inl e
in_front x (y ∷ xs) ys (inr h) = inr (in_front x xs ys h)

behind : {A : Type 0} (x : A) (xs ys : List A) → IsOneOf x ys → IsOneOf x (xs ++ ys)
behind x [] ys h = h
behind x (y ∷ xs) ys h = inr (behind x xs ys h)

pair_is : (i n m : ℕ) → n ≡ m → ◌≡◌ {A = ℕ × ℕ} (i, n) (i, m)
pair_is i n m e = ap (λ x. pair i x) e
  where
    pair : ℕ → ℕ → ℕ × ℕ
    pair a b = (a, b)

found_in_row : (i n : ℕ) (row : List Bool) (j m : ℕ) → m ≡ n + j → slice_get row j ≡ Some true
    → IsOneOf (i, m) (set_in i n row)
found_in_row i n [] j m q e = absurd cc
found_in_row i n (true ∷ bs) zero m q e = inl (pair_is i m n (omega (arith, q)))
found_in_row i n (false ∷ bs) zero m q e = absurd cc
found_in_row i n (true ∷ bs) (suc j) m q e =
    inr (found_in_row i (n + 1) bs j m (omega (arith, q)) e)
found_in_row i n (false ∷ bs) (suc j) m q e = found_in_row i (n + 1) bs j m (omega (arith, q)) e

row_there : (o : Option (List Bool)) (j : ℕ)
    → unwrap_or (option_and_then (λ (row : List Bool). slice_get row j) o) false ≡ true
    → (row : List Bool) × (o ≡ Some row) × (slice_get row j ≡ Some true)
row_there None j e = absurd cc
row_there (Some row) j e = go (slice_get row j) refl e
  where
    go : (b : Option Bool) → slice_get row j ≡ b → unwrap_or b false ≡ true
        → (r : List Bool) × (Some row ≡ Some r) × (slice_get r j ≡ Some true)
    go None q e = absurd cc
    go (Some b) q e = (row, refl, q ∙ ap Some e)

found_in_rows : (k : ℕ) (rows : List (List Bool)) (i : ℕ) (row : List Bool) (j m : ℕ) → m ≡ k + i
    → slice_get rows i ≡ Some row → slice_get row j ≡ Some true → IsOneOf (m, j) (all_set k rows)
found_in_rows k [] i row j m q e f = absurd cc
found_in_rows k (r ∷ rows) zero row j m q e f =
    let z : r ≡ row = cc in
    let w : m ≡ k = omega (arith, q) in
    subst (λ x. IsOneOf (x, j) (all_set k (r ∷ rows))) (sym w)
    (in_front (k, j) (set_in k 0 r) (all_set (k + 1) rows)
    (found_in_row k 0 r j j (omega arith) (ap (λ x. slice_get x j) z ∙ f)))
found_in_rows k (r ∷ rows) (suc i) row j m q e f =
    behind (m, j) (set_in k 0 r) (all_set (k + 1) rows)
    (found_in_rows (k + 1) rows i row j m (omega (arith, q)) e f)

pub found : (rows : List (List Bool)) (i j : ℕ) → IsTrue (is_set rows i j)
    → IsOneOf (i, j) (all_set 0 rows)
found rows i j h =
    let r = row_there (slice_get rows i) j h in found_in_rows 0 rows i r.0 j i (omega arith) r.1 r.2

-- what passes for each element
and_both : (a b : Bool) → (a && b) ≡ true → (a ≡ true) × (b ≡ true)
and_both true b e = (refl, e)
and_both false b e = absurd cc

pub passes : {A : Type 0} (f : A → Bool) (xs : List A) → list_all f xs ≡ true → (x : A)
    → IsOneOf x xs → f x ≡ true
passes f [] h x i = absurd i
passes f (y ∷ xs) h x (inl e) = ap f e ∙ (and_both (f y) (list_all f xs) h).0
passes f (y ∷ xs) h x (inr i) = passes f xs (and_both (f y) (list_all f xs) h).1 x i

-- where one test holds, so does the other
pub then_holds : (a b : Bool) → (not a || b) ≡ true → a ≡ true → b ≡ true
then_holds true b e q = e
then_holds false b e q = absurd cc

self_equal : (n : ℕ) → (n == n) ≡ true
self_equal n = search rules

pub equal_is : (n m : ℕ) → (n == m) ≡ true → n ≡ m
equal_is n m e = search (rules, e)

-- rows go through a third type where each two of their places do
abbrev pub two_go : List (List Bool) → (ℕ × ℕ) → (ℕ × ℕ) → Bool
two_go rows a b = not (a.1 == b.0) || is_set rows a.0 b.1

abbrev pub goes_through : List (List Bool) → Bool
goes_through rows = list_all (λ a. list_all (two_go rows a) (all_set 0 rows)) (all_set 0 rows)

pub through_rows : (rows : List (List Bool)) → goes_through rows ≡ true → (i j n : ℕ)
    → IsTrue (is_set rows i j) → IsTrue (is_set rows j n) → IsTrue (is_set rows i n)
through_rows rows h i j n e f =
    let a = passes (λ a. list_all (two_go rows a) (all_set 0 rows)) (all_set 0 rows) h (i, j)
    (found rows i j e) in
    let b = passes (two_go rows (i, j)) (all_set 0 rows) a (j, n) (found rows j n f) in
    then_holds (j == j) (is_set rows i n) b (self_equal j)
