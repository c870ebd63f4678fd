-- The greatest common divisor by what divides it, and the least common multiple.
use Rattle.std.proofs.Common.{pos, ◌^◌, ◌≡◌, ◌≢◌, ℕ, zero, suc, ◌*◌, ◌/◌, ◌%◌, ◌<◌, ◌≤◌, Bool, true, false, ◌&&◌, if◌then◌else◌, refl, sym, ap, ◌∙◌, subst, arith}
use Rattle.std.proofs.Math.Nat.{div-mul_cancel, mul-div_cancel, eq-zero_of_zero-dvd}
use Rattle.std.proofs.lemmas.Bool.Decides.{Decides-eqb}
use Rattle.std.proofs.lemmas.Nat.Gcd.{dvd_of_mod-eq-zero, mod-eq-zero_of_dvd, le_of_dvd, le_from_IsGcd, same_from_IsGcd, IsGcd-from_zero, IsGcd-swap}
use Rattle.std.specs.Int.{w64, IsGcd, ◌∣◌}
use Rattle.fort_machine.specs.Numbers.{number, too_large, within, divides, common_up_to, common_divisor, over}
use Rattle.fort_prim.proofs.Ranges.{too_far}

left_true : (b c : Bool) → (b && c) ≡ true → b ≡ true
left_true true c e = refl
left_true false c e = e

right_true : (b c : Bool) → (b && c) ≡ true → c ≡ true
right_true true c e = e
right_true false c e = absurd cc

both : (b c : Bool) → b ≡ true → c ≡ true → (b && c) ≡ true
both true true p q = refl
both true false p q = q
both false c p q = absurd cc

-- the test and what it asks
dividing : (d a : ℕ) → divides (suc d) a ≡ true → suc d ∣ a
dividing d a e = dvd_of_mod-eq-zero (suc d) ((Decides-eqb (a % suc d) 0).0 e)

divided : (d a : ℕ) → suc d ∣ a → divides (suc d) a ≡ true
divided d a h = (Decides-eqb (a % suc d) 0).1 (mod-eq-zero_of_dvd (suc d) h)

chosen : (t : Bool) (m n g : ℕ) → (t ≡ true → m ≡ g) → (t ≡ false → n ≡ g)
    → (if t then m else n) ≡ g
chosen true m n g f h = f refl
chosen false m n g f h = h refl

greatest : (a b g d : ℕ) → IsGcd a b g → 0 < g → g ≤ d → common_up_to a b d ≡ g
greatest a b g zero h p q = absurd (omega arith)
greatest a b g (suc d) h p q =
    let t : Bool = divides (suc d) a && divides (suc d) b in
    chosen (divides (suc d) a && divides (suc d) b) (suc d) (common_up_to a b d) g
    (
    λ e.
    let le : suc d ≤ g =
    le_from_IsGcd a b g (suc d) h p
    (dividing d a (left_true (divides (suc d) a) (divides (suc d) b) e))
    (dividing d b (right_true (divides (suc d) a) (divides (suc d) b) e)) in omega arith
    )
    (
    λ e.
    let other : g ≢ suc d =
    (λ s. let da : divides (suc d) a ≡ true = divided d a (subst (λ n. n ∣ a) s h.0)
    in let db : divides (suc d) b ≡ true = divided d b (subst (λ n. n ∣ b) s h.1)
    in absurd (let f = sym e ∙ both _ _ da db in cc)) in
    greatest a b g d h p (omega arith)
    )

not_zero : (a g : ℕ) → g ∣ suc a → 0 < g
not_zero a zero h = absurd (let e : suc a ≡ 0 = eq-zero_of_zero-dvd h in omega arith)
not_zero a (suc g) h = omega arith

-- what is the greatest by divisibility is the greatest
pub common_divisor_is : (a b g : ℕ) → IsGcd a b g → common_divisor a b ≡ g
common_divisor_is zero b g h =
    same_from_IsGcd 0 b b g (IsGcd-swap b 0 b (IsGcd-from_zero b 0 refl)) h
common_divisor_is (suc a) b g h =
    greatest (suc a) b g (suc a) h (not_zero a g h.0) (le_of_dvd (omega arith) h.0)

-- the same of two numbers that are found
pub found_divisor : (m n x y g : ℕ) → x ≡ m → y ≡ n → IsGcd x y g → common_divisor m n ≡ g
found_divisor m n x y g p q h =
    ap (λ k. common_divisor k n) (sym p) ∙ ap (common_divisor x) (sym q) ∙ common_divisor_is x y g h

-- a multiple of 0 and 0 is 0
pub no_multiple : (m n x y g : ℕ) → x ≡ m → y ≡ n → IsGcd x y g → g ≡ 0
    → over (m * n) (common_divisor m n) ≡ 0
no_multiple m n x y g p q h e = ap (over (m * n)) (found_divisor m n x y g p q h ∙ e)

by_quotient : (m n k : ℕ) → k ∣ m → k ≢ 0 → over (m * n) k ≡ m / k * n
by_quotient m n zero d q = absurd (q refl)
by_quotient m n (suc k) d q =
    let one : m ≡ m / suc k * suc k = sym (div-mul_cancel (suc k) d) in
    let turned : m / suc k * suc k * n ≡ m / suc k * n * suc k = turn (m / suc k) (suc k) n in
    ap (λ x. x * n / suc k) one ∙ ap (λ x. x / suc k) turned
    ∙ mul-div_cancel (m / suc k * n) (omega arith)
  where
    turn : (a b c : ℕ) → a * b * c ≡ a * c * b
    turn a b c = grind arith

-- the least multiple, by a quotient first
pub least_multiple_is : (m n x y g : ℕ) → x ≡ m → y ≡ n → IsGcd x y g → g ≢ 0
    → over (m * n) (common_divisor m n) ≡ x / g * y
least_multiple_is m n x y g p q h z =
    ap (λ k. over (k * n) (common_divisor m n)) (sym p)
    ∙ ap (λ k. over (x * k) (common_divisor m n)) (sym q)
    ∙ ap (over (x * y)) (found_divisor m n x y g p q h) ∙ by_quotient x y g h.0 z

-- a multiple that passes 64 bits
pub beyond : (m : ℕ) → (m < 2 ^ 64 → ⊥) → too_large ≡ within w64 (number (pos m))
beyond m h = too_far (pos m) (omega (arith, h))
