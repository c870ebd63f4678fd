-- What a shelf in memory gives.
use Rattle.std.proofs.Common.{◌≡◌, ℕ, ◌<◌, ◌≤◌, List, length, take, drop, ap, sym, arith}
use Rattle.std.proofs.lemmas.List.{take-append-drop, length-take-le, length-drop}
use Rattle.fort_port.specs.Outside.{Gives, Held}

-- The first n bytes from a place on are such a piece, where none of them are taken only at the end.
pub gives_taken : (file piece : List ℕ) (at n room : ℕ) → piece ≡ take n (drop at file)
    → n ≤ length (drop at file)
    → (0 < room → n ≡ 0 → length (drop at file) ≡ 0) → Gives (Held file) at piece room
gives_taken file piece at n room e within none = (
  (drop n (drop at file), rw e (sym (take-append-drop n (drop at file)))),
  λ some empty. let zero : n ≡ 0 =
      omega (arith, length-take-le n (drop at file) within, ap length e, ap length empty)
      in omega (arith, none some zero, length-drop at file),
)
