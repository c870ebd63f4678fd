-- Chapter "Built-in declarations": what the operators on numbers give, before it is asked whether
-- that fits their type. The code asks as it computes.
use Rattle.std.specs.Prelude.{ℕ, zero, suc, ◌-◌, ◌*◌, ◌/◌, ◌%◌, ◌^◌, ◌==◌, nat_lt, Bool, false, ◌&&◌, ◌||◌, if◌then◌else◌, ℤ, pos, negsuc, ◌+ℤ◌, ◌-ℤ◌, ◌*ℤ◌, unsigned_abs, int_lt, int_div, int_rem}
use Rattle.std.specs.Int.{Width, w64, int_pow, int_shr}
use Rattle.std.specs.Ordering.{int_eq}

-- How many bits a ZZ32 or a ZZ64 has.
abbrev pub bits_of : Width → ℕ
bits_of w64 = 64
bits_of _ = 32

-- Whether a number is in a type's range.
abbrev pub is_within : Width → ℤ → Bool
is_within w (pos n) = nat_lt n (2 ^ (bits_of w - 1))
is_within w (negsuc n) = nat_lt n (2 ^ (bits_of w - 1))

-- What an operator gives: a number, or why it gives none.
pub data Figure : Type 0 where
  number : (n : ℤ) → Figure
  too_large : Figure
  by_zero : Figure
  below_zero : Figure

-- A number that is in a type's range, or none.
abbrev pub within : Width → Figure → Figure
within w (number n) = if is_within w n then number n else too_large
within w f = f

-- Whether a number is 0.
abbrev pub is_zero : ℤ → Bool
is_zero n = int_eq n (pos 0)

-- Whether a number is below 0.
abbrev pub is_negative : ℤ → Bool
is_negative n = int_lt n (pos 0)

-- `a DIV b`: the quotient without its fraction.
abbrev pub quotient : ℤ → ℤ → Figure
quotient a b = if is_zero b then by_zero else number (int_div a b)

-- `a REM b`: what that quotient leaves.
abbrev pub remainder : ℤ → ℤ → Figure
remainder a b = if is_zero b then by_zero else number (int_rem a b)

-- Whether two numbers, neither of them 0, are on one side of 0.
abbrev pub same_sign : ℤ → ℤ → Bool
same_sign a b = if is_negative a then is_negative b else int_lt (pos 0) b

-- A remainder brought to the sign of the divisor, where it isn't 0.
abbrev pub to_sign_of : ℤ → ℤ → ℤ
to_sign_of b r = if is_zero r || same_sign r b then r else r +ℤ b

-- `a MOD b`: the remainder that is 0 or has the divisor's sign.
abbrev pub modulus : ℤ → ℤ → Figure
modulus a b = if is_zero b then by_zero else number (to_sign_of b (int_rem a b))

-- Whether a number divides another one.
abbrev pub divides : ℕ → ℕ → Bool
divides zero a = a == 0
divides (suc d) a = a % suc d == 0

-- The greatest number up to a bound that divides both, and 0 where there is none.
abbrev pub common_up_to : ℕ → ℕ → ℕ → ℕ
common_up_to a b zero = 0
common_up_to a b (suc d) = if divides (suc d) a && divides (suc d) b then suc d
    else common_up_to a b d

-- The greatest number that divides both; of 0 and 0 it is 0, of 0 and another one that one.
abbrev pub common_divisor : ℕ → ℕ → ℕ
common_divisor zero b = b
common_divisor (suc a) b = common_up_to (suc a) b (suc a)

-- A quotient by a number that isn't 0, and 0 by 0.
abbrev pub over : ℕ → ℕ → ℕ
over a zero = 0
over a (suc d) = a / suc d

-- `a GCD b`: not negative.
abbrev pub greatest_divisor : ℤ → ℤ → Figure
greatest_divisor a b = number (pos (common_divisor (unsigned_abs a) (unsigned_abs b)))

-- `a LCM b`: not negative, and 0 where one of them is 0.
abbrev pub least_multiple : ℤ → ℤ → Figure
least_multiple a b =
    let m = unsigned_abs a in let n = unsigned_abs b in
    number (pos (over (m * n) (common_divisor m n)))

-- Whether a count of places is one that a number of the type can be moved by.
abbrev pub is_count : Width → ℤ → Bool
is_count w (pos n) = nat_lt n (bits_of w)
is_count w (negsuc n) = false

-- `a LSHIFT b`: times 2 to the count.
abbrev pub shifted_left : Width → ℤ → ℤ → Figure
shifted_left w a b = if is_count w b then number (a *ℤ pos (2 ^ unsigned_abs b)) else too_large

-- `a RSHIFT b`: divided by 2 to the count, rounded down.
abbrev pub shifted_right : Width → ℤ → ℤ → Figure
shifted_right w a b = if is_count w b then number (int_shr a (unsigned_abs b)) else too_large

-- `a^b`: 0 to the 0 is 1; an exponent below 0 gives none.
abbrev pub power : ℤ → ℤ → Figure
power a (pos n) = number (int_pow a n)
power a (negsuc n) = below_zero

-- The last of n numbers from a on.
abbrev pub last_of : ℤ → ℕ → ℤ
last_of a n = (a +ℤ pos n) -ℤ pos 1
