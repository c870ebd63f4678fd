-- The passes that are taken in at the end of a run, and what the book has of each worker. The
-- chapter "The hall" of docs/THREADS.md.
use Rattle.std.specs.Prelude.{◌≡◌, ℕ, ◌+◌, ◌<◌, ◌≤◌, true, List, [], length, slice_index, Some}
use Rattle.fort_turn.specs.declared.held.Pass.{Pass}
use Rattle.fort_turn.specs.declared.held.Turn.{Turn}
use Rattle.fort_turn.specs.Book.{has, entries_by}
use Rattle.fort_turn.specs.Passes.{IsIdle, numbers_of, seen_by, is_first}

module _ {B E : Type 0} (history : B → List E) (by : E → ℕ) where
  -- Worker n has the pass n + 1. Of each worker's pass the book has as many entries as the list
  -- says, and of no other pass any.
  pub record Counts (legs : List ℕ) (book : B) : Type 0 where
    pub own : (n : ℕ) → n < length legs
        → slice_index legs n ≡ length (entries_by by (n + 1) (history book))
    pub zero : entries_by by 0 (history book) ≡ []
    pub others : (k : ℕ) → length legs < k → entries_by by k (history book) ≡ []

module _ {B E O : Type 0} (history : B → List E) (origin : B → O) (by : E → ℕ) where
  -- The first pass has taken in the passes of the workers from `low` on, up to `high`: of each of
  -- them the book that it has seen has as many entries as the list says, and none of its own.
  pub record Gathered (t : Turn B) (start : O) (legs : List ℕ) (low high : ℕ) (p : Pass B) : Type 0 where
    pub idle : IsIdle t p
    pub first : is_first p ≡ true
    pub book : B
    pub seen : seen_by p ≡ Some book
    pub origin_is : origin book ≡ start
    pub zero : has 0 (numbers_of p) ≡ true
    pub none : entries_by by 0 (history book) ≡ []
    pub taken : (n : ℕ) → low ≤ n → n < high → has (n + 1) (numbers_of p) ≡ true
    pub counted : (n : ℕ) → low ≤ n → n < high
        → slice_index legs n ≡ length (entries_by by (n + 1) (history book))
