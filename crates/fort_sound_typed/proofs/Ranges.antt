-- Numbers of ZZ32 between two others.
use Rattle.std.proofs.Common.{◌≡◌, ℕ, ◌<◌, ◌≤◌, Bool, true, false, if◌then◌else◌, refl, inl, inr, ◌⊎◌, arith, ℤ, pos, negsuc, ◌+ℤ◌, ◌-ℤ◌, neg_ℤ, rules}
use borrow.Author.Differences.{up, down, sum_is_lem, neg_is}
use Rattle.std.specs.Prelude.{nat_lt, int_lt, unsigned_abs}
use Rattle.std.specs.Int.{w32}
use Rattle.std.proofs.lemmas.Int.{ints}
use Rattle.fort_machine.specs.Numbers.{is_within, last_of}
use Rattle.fort_machine.specs.Primitives.{count_to}

is_lt : (a b : ℕ) → a < b → nat_lt a b ≡ true
is_lt a b h = search (rules, h)

lt_is : (a b : ℕ) → nat_lt a b ≡ true → a < b
lt_is a b h = search (rules, h)

within_out : (z : ℤ) → is_within w32 z ≡ true → (up z < 2147483648) × (down z ≤ 2147483648)
within_out (pos n) h = let k = lt_is n 2147483648 h in (omega arith, omega arith)
within_out (negsuc n) h = let k = lt_is n 2147483648 h in (omega arith, omega arith)

within_in : (z : ℤ) → up z < 2147483648 → down z ≤ 2147483648 → is_within w32 z ≡ true
within_in (pos n) h k = is_lt n 2147483648 (omega arith)
within_in (negsuc n) h k = is_lt n 2147483648 (omega arith)

one_part : (z : ℤ) → (up z ≡ 0) ⊎ (down z ≡ 0)
one_part (pos n) = inr refl
one_part (negsuc n) = inl refl

-- from one number on, up to another one
pub steps : (a : ℤ) (n m : ℕ) → n ≤ m → is_within w32 a ≡ true → is_within w32 (a +ℤ pos m) ≡ true
    → is_within w32 (a +ℤ pos n) ≡ true
steps a n m l h e =
    let i = within_out a h in
    let j = within_out (a +ℤ pos m) e in
    let x = sum_is_lem a (pos n) in
    let y = sum_is_lem a (pos m) in
    let o = one_part (a +ℤ pos n) in
    within_in (a +ℤ pos n) (omega (arith, ints, x, y, o)) (omega (arith, ints, x, y, o))

-- the numbers up to the last one
pub up_to_last : (a : ℤ) (m n : ℕ) → n < m → is_within w32 a ≡ true
    → is_within w32 (last_of a m) ≡ true → is_within w32 (a +ℤ pos n) ≡ true
up_to_last a m n l h e =
    let i = within_out a h in
    let j = within_out (last_of a m) e in
    let x = sum_is_lem a (pos n) in
    let y = sum_is_lem a (pos m) in
    let z = sum_is_lem (a +ℤ pos m) (negsuc 0) in
    let o = one_part (a +ℤ pos n) in
    within_in (a +ℤ pos n) (omega (arith, ints, x, y, z, o)) (omega (arith, ints, x, y, z, o))

-- the numbers from one to another
pub up_to : (a b : ℤ) (n : ℕ) → n < count_to a b → is_within w32 a ≡ true → is_within w32 b ≡ true
    → is_within w32 (a +ℤ pos n) ≡ true
up_to a b n l h e = go (int_lt b a) refl l
  where
    go : (x : Bool) → int_lt b a ≡ x → n < (if x then 0 else unsigned_abs ((b -ℤ a) +ℤ pos 1))
        → is_within w32 (a +ℤ pos n) ≡ true
    go true q l = absurd (omega arith)
    go false q l =
        let m : n < unsigned_abs ((b -ℤ a) +ℤ pos 1) = l in
        let i = within_out a h in
        let j = within_out b e in
        let x = sum_is_lem a (pos n) in
        let y = sum_is_lem b (neg_ℤ a) in
        let z = sum_is_lem (b -ℤ a) (pos 1) in
        let o = one_part (a +ℤ pos n) in
        let u = one_part ((b -ℤ a) +ℤ pos 1) in
        within_in (a +ℤ pos n) (omega (arith, ints, x, y, z, o, u, neg_is))
        (omega (arith, ints, x, y, z, o, u, neg_is))
