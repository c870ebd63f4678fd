-- The chapter "Types": a square of bits by its rows. The code keeps one while it closes the rows of
-- apart.
use Rattle.std.specs.Prelude.{◌≡◌, ◌<◌, ℕ, Bool, true, false, List, [], length, get_or, slice_index, replicate}
use Rattle.std.specs.List.{sum_by}

abbrev pub Bits : Type 0
Bits = List (List Bool)

-- The bit of a row and a place, unset past the square.
abbrev pub bit : Bits → ℕ → ℕ → Bool
bit rows i j = get_or (get_or rows i []) j false

abbrev pub Bit : Bits → ℕ → ℕ → Type 0
Bit rows i j = bit rows i j ≡ true

-- The square has `n` rows of `n` places.
pub record Sized (n : ℕ) (rows : Bits) : Type 0 where
  pub high : length rows ≡ n
  pub wide : (i : ℕ) → i < n → length (get_or rows i []) ≡ n

-- A row of unset bits.
abbrev pub blank_row : ℕ → List Bool
blank_row n = replicate n false

-- No bit of the square is set.
pub record IsBlank (n : ℕ) (rows : Bits) : Type 0 where
  pub sized : Sized n rows
  pub unmarked : (i j : ℕ) → bit rows i j ≡ false

-- How many bits of a row, and of a square, aren't set.
abbrev pub open_bit : Bool → ℕ
open_bit true = 0
open_bit false = 1

abbrev pub falses : List Bool → ℕ
falses row = sum_by open_bit row

abbrev pub unset : Bits → ℕ
unset rows = sum_by falses rows

-- One bit more is set.
pub record Adds (old new : Bits) (a b : ℕ) : Type 0 where
  pub high : length new ≡ length old
  pub wide : (i : ℕ) → length (get_or new i []) ≡ length (get_or old i [])
  pub bits : (i j : ℕ) → Bit new i j → (Bit old i j → ⊥) → (i ≡ a) × (j ≡ b)
  pub here : Bit new a b
  pub kept : (i j : ℕ) → Bit old i j → Bit new i j
  pub fewer : bit old a b ≡ false → unset new < unset old

-- Some number of the list has the bit of that place.
abbrev pub AnyBit : Bits → List ℕ → ℕ → Type 0
AnyBit rows xs b = (k : ℕ) × (k < length xs) × Bit rows (slice_index xs k) b

-- Each number of the list has the bit of that place.
abbrev pub AllBits : Bits → List ℕ → ℕ → Type 0
AllBits rows xs b = (k : ℕ) → k < length xs → Bit rows (slice_index xs k) b
