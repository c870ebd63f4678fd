-- A number in base ten is read as that number.
use Rattle.std.proofs.Common.{◌≡◌, ℕ, ◌<◌, ◌≤◌, ◌+◌, ◌*◌, ◌-◌, ◌/◌, ◌%◌, ◌^◌, Bool, true, List, [], ◌∷◌, ◌++◌, length, refl, ◌∙◌, arith}
use Rattle.std.proofs.lemmas.Bool.Decides.{nat_tests}
use Rattle.std.proofs.lemmas.Fmt.{decimal_by_steps}
use Rattle.std.specs.Char.{is_ascii_digit}
use Rattle.std.specs.Fmt as fmt
use Rattle.fort_lex_scan.specs.Lists.{every}
use Rattle.fort_lex_scan.specs.Spelling.{decimal}
use Rattle.fort_lex_law_reread.proofs.Signs.{and_both}

-- digits, one list behind another
pub every-append : (p : ℕ → Bool) (xs ys : List ℕ) → every p xs ≡ true → every p ys ≡ true
    → every p (xs ++ ys) ≡ true
every-append p [] ys h k = k
every-append p (x ∷ xs) ys h k =
    let b = and_both (p x) (every p xs) h in rw b.0 (every-append p xs ys b.1 k)

-- one more digit at the end
value_last : (n : ℕ) (xs : List ℕ) (d : ℕ) → decimal n (xs ++ d ∷ []) ≡ decimal n xs * 10 + (d - 48)
value_last n [] d = refl
value_last n (x ∷ xs) d = value_last (n * 10 + (x - 48)) xs d

-- The characters are digits, and write the number.
pub record IsDecimal (n : ℕ) (ds : List ℕ) : Type 0 where
  pub digits : every is_ascii_digit ds ≡ true
  pub some : 0 < length ds
  pub value : decimal 0 ds ≡ n

one_digit : (n : ℕ) → n < 10 → is_ascii_digit (48 + n) ≡ true
one_digit n h = grind (arith, nat_tests)

one : (n : ℕ) → n < 10 → IsDecimal n ((48 + n) ∷ [])
one n h = record { digits = rw (one_digit n h) refl; some = omega arith; value = omega arith }

more : (n : ℕ) (ds : List ℕ) → 10 ≤ n → IsDecimal (n / 10) ds
    → IsDecimal n (ds ++ (48 + n % 10) ∷ [])
more n ds l h =
    let v = h.value in
    let m : n % 10 < 10 = omega arith in
    record {
      digits = every-append is_ascii_digit ds ((48 + n % 10) ∷ []) h.digits
          (rw (one_digit (n % 10) m) refl);
      some = by ds;
      value = value_last 0 ds (48 + n % 10) ∙ omega arith;
    }
  where
    by : (ds : List ℕ) → 0 < length (ds ++ (48 + n % 10) ∷ [])
    by [] = omega arith
    by (x ∷ xs) = omega arith

-- what is written for a number
pub decimal_is : (n : ℕ) → n < 2 ^ 64 → IsDecimal n (fmt.decimal n)
decimal_is = decimal_by_steps IsDecimal one more
