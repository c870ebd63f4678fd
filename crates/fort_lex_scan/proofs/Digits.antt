use Rattle.std.proofs.Common.{◌≡◌, ℕ, zero, suc, ◌≤◌, ◌<◌, ◌+◌, ◌*◌, ◌-◌, List, [], ◌∷◌, length, drop, get_or, refl, arith, drop-cons}
use Rattle.fort_lex_scan.specs.Spelling.{decimal}

pub decimal_grows : (n : ℕ) (cs : List ℕ) → n ≤ decimal n cs
decimal_grows n [] = omega arith
decimal_grows n (c ∷ cs) = let h = decimal_grows (n * 10 + (c - 48)) cs in omega arith

-- a number that is nearly too large is too large with one more digit
pub decimal_large : (n i : ℕ) (cs : List ℕ) → i < length cs → 922337203685477580 < n
    → 9223372036854775807 < decimal n (drop i cs)
decimal_large n zero [] l h = absurd (omega arith)
decimal_large n zero (c ∷ cs) l h = let k = decimal_grows (n * 10 + (c - 48)) cs in omega arith
decimal_large n (suc i) [] l h = absurd (omega arith)
decimal_large n (suc i) (c ∷ cs) l h = decimal_large n i cs (omega arith) h

pub decimal_next : (n i d : ℕ) (cs : List ℕ) → i < length cs
    → decimal n (drop i cs) ≡ decimal (n * 10 + (get_or cs i d - 48)) (drop (suc i) cs)
decimal_next n i d cs l = rw (drop-cons cs i d l) refl
