-- Powers that pass every range.
use Rattle.std.proofs.Common.{◌≡◌, ◌≢◌, ℕ, suc, zero, ◌*◌, ◌%◌, ◌^◌, ◌≤◌, ◌==◌, Bool, true, false, cond, ℤ, pos, negsuc, neg_ℤ, unsigned_abs, refl, sym, ap, ◌∙◌, subst, arith, le_trans}
use Rattle.std.proofs.Math.Nat.{pow-suc, pow-le-pow_left, pow-le-pow_right}
use Rattle.std.specs.Int.{w64, int_pow}
use Rattle.fort_machine.specs.Numbers.{number, too_large, within}
use Rattle.fort_prim.proofs.Ranges.{too_far}

-- the powers of 0 and of 1
pub zero_power : (e : ℕ) → e ≢ 0 → 0 ^ e ≡ 0
zero_power zero h = absurd (h refl)
zero_power (suc e) h = pow-suc 0 e ∙ grind arith

pub one_power : (e : ℕ) → 1 ^ e ≡ 1
one_power zero = refl
one_power (suc e) = pow-suc 1 e ∙ ap (λ n. n * 1) (one_power e)

abs_neg : (n : ℕ) → unsigned_abs (neg_ℤ (pos n)) ≡ n
abs_neg zero = refl
abs_neg (suc n) = refl

abs_either : (b : Bool) (n : ℕ) → unsigned_abs (cond b (pos n) (neg_ℤ (pos n))) ≡ n
abs_either true n = refl
abs_either false n = abs_neg n

abs_pow : (a : ℤ) (e : ℕ) → unsigned_abs (int_pow a e) ≡ unsigned_abs a ^ e
abs_pow (pos a) e = refl
abs_pow (negsuc a) e = abs_either (e % 2 == 0) (suc a ^ e)

steep : (n e : ℕ) → 2 ≤ n → 64 ≤ e → 2 ^ 64 ≤ n ^ e
steep n e h k = le_trans (pow-le-pow_right (omega arith) k) (pow-le-pow_left h e)

-- from 2 to the 64 on a power is too large
pub steep_power : (a : ℤ) (e : ℕ) → 2 ≤ unsigned_abs a → 64 ≤ e
    → too_large ≡ within w64 (number (int_pow a e))
steep_power a e h k =
    too_far (int_pow a e)
    (subst (λ n. 2 ^ 64 ≤ n) (sym (abs_pow a e)) (steep (unsigned_abs a) e h k))
