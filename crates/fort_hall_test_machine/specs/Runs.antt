-- Runs of the counters.
use Rattle.std.specs.Prelude.{◌≡◌, ℕ, ◌+◌, ◌%◌, ◌<◌, ◌≤◌, List, [], ◌∷◌, map, length, slice_index, slice_set}
use Rattle.fort_hall_test_machine.specs.declared.book.Entry.{Entry}

-- the entry found its counter at the value that it read, and raises it
pub record Raises (s : List ℕ) (e : Entry) : Type 0 where
  pub there : e.at < length s
  pub found : slice_index s e.at ≡ e.from
  pub rises : e.from ≤ e.to

-- each entry in its turn raises a counter
abbrev pub Runs : List ℕ → List Entry → List ℕ → Type 0
Runs s [] t = t ≡ s
Runs s (e ∷ es) t = Raises s e × Runs (slice_set s e.at e.to) es t

-- what is printed: of each leg the last digit of the value that it left
abbrev pub letter : Entry → ℕ
letter e = 48 + e.to % 10

abbrev pub letters : List Entry → List ℕ
letters es = map letter es

abbrev pub four_zeros : List ℕ
four_zeros = 0 ∷ 0 ∷ 0 ∷ 0 ∷ []
