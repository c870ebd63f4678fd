-- Numbers and their digits.
use Rattle.std.proofs.Common.{◌≡◌, ℕ, ◌+◌, ◌-◌, ◌*◌, ◌/◌, ◌%◌, ◌<◌, ◌≤◌, ◌^◌, Bool, true, false, cond, ◌&&◌, ◌||◌, nat_eq, nat_le, List, [], ◌∷◌, ◌++◌, decimal, Option, Some, None, refl, ap, sym, ◌∙◌, subst, ap₂, append_assoc, arith, le-leb, false-eqb, ne_eqb, unwrap_or}
use Rattle.std.proofs.lemmas.Bool.{leb-true, leb-false, lt-leb}
use Rattle.std.proofs.lemmas.Fmt.{decimal_digit, decimal_step, decimal_by_steps}
use Rattle.fort_audit_record.specs.declared.reader.Reader.{Reader}
use Rattle.fort_audit_record.specs.Reading.{is_digit, grown, next, read_on}
use Rattle.fort_audit_record.proofs.SoFar.{digits}

pub both_true : (x y : Bool) → (x && y) ≡ true → (x ≡ true) × (y ≡ true)
both_true true true e = (refl, refl)
both_true true false e = let q = e in cc
both_true false y e = let q = e in cc

pub digit_tells : (b : ℕ) → is_digit b ≡ true → (48 ≤ b) × (b ≤ 57)
digit_tells b e =
    let q = both_true (nat_le 48 b) (nat_le b 57) e in (leb-true 48 b q.0, leb-true b 57 q.1)

pub digit_is : (d : ℕ) → d < 10 → is_digit (48 + d) ≡ true
digit_is d l =
    ap (λ x. x && nat_le (48 + d) 57) (le-leb 48 (48 + d) (omega arith))
    ∙ ap (λ x. true && x) (le-leb (48 + d) 57 (omega (arith, l)))

tens : (m d : ℕ) → d < 10 → ((m * 10 + d) / 10 ≡ m) × ((m * 10 + d) % 10 ≡ d)
tens m d l = (omega (arith, l), omega (arith, l))

-- two tests that are passed
not_either : (x y : Bool) (k n : ℕ) → cond (x || y) None (Some k) ≡ Some n
    → (x ≡ false) × (y ≡ false) × (k ≡ n)
not_either true y k n e = let q = e in cc
not_either false true k n e = let q = e in cc
not_either false false k n e = (refl, refl, ap (λ o. unwrap_or o 0) e)

-- a number with a digit more is below its limit, and has that digit at its end
pub grown_tells : (limit : ℕ) (o : Option ℕ) (b n : ℕ) → 10 ≤ limit → limit ≤ 2 ^ 64
    → is_digit b ≡ true → grown limit o b ≡ Some n → (n < limit) × (decimal n ≡ digits o ++ b ∷ [])
grown_tells limit None b n low high e g =
    let t = digit_tells b e in
    let is : b - 48 ≡ n = ap (λ o. unwrap_or o 0) g in (
      omega (arith, is, t.0, t.1, low),
      decimal_digit n (omega (arith, is, t.0, t.1))
          ∙ ap (λ x. x ∷ []) (let sum : 48 + n ≡ b = omega (arith, is, t.0) in sum),
    )
grown_tells limit (Some m) b n low high e g =
    let t = digit_tells b e in
    let q = not_either (nat_eq m 0) (nat_le limit (m * 10 + (b - 48))) (m * 10 + (b - 48)) n g in
    let some : 0 < m = not_zero m q.0 in
    let below : n < limit = subst (λ x. x < limit) q.2 (leb-false limit (m * 10 + (b - 48)) q.1) in
    let parts = tens m (b - 48) (omega (arith, t.0, t.1)) in
    let front : n / 10 ≡ m = ap (λ x. x / 10) (sym q.2) ∙ parts.0 in
    let last : n % 10 ≡ b - 48 = ap (λ x. x % 10) (sym q.2) ∙ parts.1 in (
      below,
      decimal_step n (omega (arith, q.2, some)) (omega (arith, below, high))
          ∙ ap₂ (λ x y. decimal x ++ y ∷ []) front
          (let sum : 48 + n % 10 ≡ b = omega (arith, last, t.0) in sum),
    )
  where
    not_zero : (m : ℕ) → nat_eq m 0 ≡ false → 0 < m
    not_zero m e = omega (arith, false-eqb m 0 (sym e))

-- the number before its last digit, with it
grown_is : (limit n : ℕ) → 10 ≤ n → n < limit → grown limit (Some (n / 10)) (48 + n % 10) ≡ Some n
grown_is limit n ten below =
    let is : n / 10 * 10 + (48 + n % 10 - 48) ≡ n = omega arith in
    ap₂ (λ x y. cond (x || y) None (Some (n / 10 * 10 + (48 + n % 10 - 48))))
    (ne_eqb (n / 10) 0 (omega (arith, ten)))
    (lt-leb limit (n / 10 * 10 + (48 + n % 10 - 48)) (omega (arith, is, below)))
    ∙ ap Some is

-- a number's digits are read
pub read_digits : (set : Option ℕ → Reader) (limit : ℕ)
    → ((o : Option ℕ) (b n : ℕ) → is_digit b ≡ true → grown limit o b ≡ Some n
    → next (set o) b ≡ Some (set (Some n)))
    → limit ≤ 2 ^ 64 → (n : ℕ) → n < limit → (more : List ℕ)
    → read_on (Some (set None)) (decimal n ++ more) ≡ read_on (Some (set (Some n))) more
read_digits set limit steps high n below =
    decimal_by_steps Reads one longer n (omega (arith, below, high)) below
  where
    Reads : ℕ → List ℕ → Type 0
    Reads n ds = n < limit → (more : List ℕ)
        → read_on (Some (set None)) (ds ++ more) ≡ read_on (Some (set (Some n))) more

    one : (n : ℕ) → n < 10 → Reads n ((48 + n) ∷ [])
    one n small below more =
        ap (λ r. read_on r more) (steps None (48 + n) n (digit_is n small) (ap Some
        (let d : 48 + n - 48 ≡ n = omega arith in d)))

    longer : (n : ℕ) (ds : List ℕ) → 10 ≤ n → Reads (n / 10) ds → Reads n (ds ++ (48 + n % 10) ∷ [])
    longer n ds ten reads below more =
        ap (read_on (Some (set None))) (append_assoc ds ((48 + n % 10) ∷ []) more)
        ∙ reads (omega (arith, below)) ((48 + n % 10) ∷ more)
        ∙ ap (λ r. read_on r more)
        (steps (Some (n / 10)) (48 + n % 10) n (digit_is (n % 10) (omega arith))
        (grown_is limit n ten below))
