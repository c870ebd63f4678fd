-- Numbers in the ranges of their types, and out of them.
use Rattle.std.proofs.Common.{◌≡◌, ℕ, ◌^◌, ◌<◌, ◌≤◌, Bool, true, false, if◌then◌else◌, nat_lt, ℤ, pos, negsuc, unsigned_abs, refl, sym, ap, ◌∙◌, arith}
use Rattle.std.proofs.lemmas.Bool.Decides.{nat_tests}
use Rattle.std.specs.Int.{w32, w64}
use Rattle.std.specs.Int.RustNames.{FitsSigned}
use Rattle.fort_machine.specs.Numbers.{Figure, number, too_large, by_zero, below_zero, is_within, within}

-- a number that fits is in range
pub in_range : (z : ℤ) → FitsSigned w64 z → is_within w64 z ≡ true
in_range (pos n) f = let h : n < 2 ^ 63 = f.sfits in grind (arith, nat_tests)
in_range (negsuc n) f = let h : n < 2 ^ 63 = f.sfits in grind (arith, nat_tests)

-- and is what it gives
pub given : (z : ℤ) → FitsSigned w64 z → number z ≡ within w64 (number z)
given z f = ap (λ b. if b then number z else too_large) (sym (in_range z f))

smaller : (n : ℕ) → nat_lt n (2 ^ 63) ≡ false → nat_lt n (2 ^ 31) ≡ false
smaller n h = grind (arith, nat_tests)

narrower : (z : ℤ) → is_within w64 z ≡ false → is_within w32 z ≡ false
narrower (pos n) h = smaller n h
narrower (negsuc n) h = smaller n h

asked_twice : (b : Bool) (z : ℤ) → (b ≡ false → is_within w32 z ≡ false)
    → within w32 (if b then number z else too_large) ≡ within w32 (number z)
asked_twice true z h = refl
asked_twice false z h = sym (ap (λ c. if c then number z else too_large) (h refl))

-- what is asked whether it is a ZZ32 need not be asked whether it is a ZZ64
pub within_both : (f : Figure) → within w32 (within w64 f) ≡ within w32 f
within_both (number z) = asked_twice (is_within w64 z) z (narrower z)
within_both too_large = refl
within_both by_zero = refl
within_both below_zero = refl

-- what is computed on ZZ64 serves on ZZ32
pub on_both : (F : ℤ → ℤ → Figure) (f : Figure) (x y a b : ℤ) → x ≡ a → y ≡ b
    → f ≡ within w64 (F x y) → within w32 f ≡ within w32 (F a b)
on_both F f x y a b p q h =
    ap (within w32) h ∙ within_both (F x y) ∙ ap (λ z. within w32 (F z y)) p
    ∙ ap (λ z. within w32 (F a z)) q

-- a number of 65 bits or more is too large
pub far_out : (z : ℤ) → 2 ^ 64 ≤ unsigned_abs z → is_within w64 z ≡ false
far_out (pos n) h = grind (arith, nat_tests)
far_out (negsuc n) h = grind (arith, nat_tests)

pub too_far : (z : ℤ) → 2 ^ 64 ≤ unsigned_abs z → too_large ≡ within w64 (number z)
too_far z h = ap (λ b. if b then number z else too_large) (sym (far_out z h))
