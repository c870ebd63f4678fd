-- Which book has a number.
use Rattle.std.proofs.Common.{◌≡◌, ◌≢◌, ℕ, ◌==◌, Bool, true, false, Option, Some, None, refl, ap, sym, ◌∙◌, ◌⊎◌, inl, inr, if◌then◌else◌, rules}
use Rattle.fort_hall_law_plays.specs.Worlds.{Opening, Opened, World, with_book}

pub same_number : (n : ℕ) → (n == n) ≡ true
same_number n = let e : n ≡ n = refl in search (rules, e)

pub one_number : (m n : ℕ) → (m == n) ≡ true → m ≡ n
one_number m n q = search (rules, q)

pub two_numbers : (m n : ℕ) → (m == n) ≡ false → m ≢ n
two_numbers m n q e =
    let z : true ≡ false = sym (same_number n) ∙ ap (λ k. k == n) (sym e) ∙ q in absurd cc

pub other_number : (m n : ℕ) → m ≢ n → (m == n) ≡ false
other_number m n d = go (m == n) refl
  where
    go : (b : Bool) → (m == n) ≡ b → (m == n) ≡ false
    go true q = absurd (d (one_number m n q))
    go false q = q

pub is_root : (m : ℕ) → (m ≡ 0) ⊎ (m ≢ 0)
is_root m = go (m == 0) refl
  where
    go : (b : Bool) → (m == 0) ≡ b → (m ≡ 0) ⊎ (m ≢ 0)
    go true q = inl (one_number m 0 q)
    go false q = inr (two_numbers m 0 q)

pub one_book : (x y : Opened) (o : Option Opened) → o ≡ Some x → o ≡ Some y → x ≡ y
one_book x y o a b = cc

pub no_opening : (x : Opening) → None ≡ Some x → ⊥
no_opening x e = absurd cc

pub no_book : (x : Opened) (o : Option Opened) → o ≡ None → o ≡ Some x → ⊥
no_book x o a b = let z : None ≡ Some x = sym a ∙ b in absurd cc

-- what stands under a number
pub here : (n : ℕ) (x : Option Opened) (w : World) → (with_book n x w).books n ≡ x
here n x w = ap (λ b. if b then x else w.books n) (same_number n)

pub elsewhere : (m n : ℕ) (x : Option Opened) (w : World) → m ≢ n
    → (with_book n x w).books m ≡ w.books m
elsewhere m n x w d = ap (λ b. if b then x else w.books m) (other_number m n d)

-- a book that is found there
pub found : (n m : ℕ) (x : Option Opened) (w : World) (y : Opened)
    → (with_book n x w).books m ≡ Some y
    → ((m ≡ n) × (x ≡ Some y)) ⊎ ((m ≢ n) × (w.books m ≡ Some y))
found n m x w y h = go (m == n) refl h
  where
    go : (b : Bool) → (m == n) ≡ b → (if b then x else w.books m) ≡ Some y
        → ((m ≡ n) × (x ≡ Some y)) ⊎ ((m ≢ n) × (w.books m ≡ Some y))
    go true q e = inl (one_number m n q, e)
    go false q e = inr (two_numbers m n q, e)
