-- The chapter "Components and APIs", no definition of it: what the map of numbers holds. No public
-- clause cites it.
use Rattle.std.specs.Prelude.{◌≡◌, ◌<◌, ℕ, List, Option, Some, None, length}
use Rattle.std.specs.Str.{bytes_eq}
use Rattle.indexmap.specs.IndexMap.{get_by}
use Rattle.fort_link_table.specs.declared.numbers.Numbers.{Numbers}
use Rattle.fort_link_table.specs.Names.{Spelling, number_in}

-- What is known of a spelling: its number, or that no name is spelled so.
abbrev pub NumberIs : List Spelling → Spelling → Option ℕ → Type 0
NumberIs names s None = number_in names s ≡ length names
NumberIs names s (Some n) = (number_in names s ≡ n) × (n < length names)

-- what the map has for a spelling
abbrev pub known_number : Numbers → Spelling → Option ℕ
known_number numbers s = get_by (λ key. bytes_eq s key.now) numbers.known

-- The map has the number of each spelling among names, and of no other.
pub record HoldsNumbers (names : List Spelling) (numbers : Numbers) : Type 0 where
  pub knows : (s : Spelling) → NumberIs names s (known_number numbers s)
