-- A worker's seat in the turn: its pass, and how many legs it has submitted to the root's book. The
-- chapter "The hall" of docs/THREADS.md.
use Rattle.std.specs.Prelude.{◌≡◌, ℕ, ◌+◌, false, List, [], ◌∷◌, length}
use Rattle.fort_turn.specs.declared.held.Pass.{Pass}
use Rattle.fort_turn.specs.declared.held.Turn.{Turn}
use Rattle.fort_turn.specs.Book.{entries_by, log_of}
use Rattle.fort_turn.specs.Passes.{IsIdle, number_of, numbers_of, seen_by, is_first}

module _ {B E : Type 0} (history : B → List E) (by : E → ℕ) where
  -- The pass is of this turn, idle, has its own number alone, and of this number the book that it
  -- has seen has as many entries as legs were counted.
  pub record IsSeated (t : Turn B) (p : Pass B) (legs : ℕ) : Type 0 where
    pub idle : IsIdle t p
    pub numbers : numbers_of p ≡ number_of p ∷ []
    pub other : is_first p ≡ false
    pub counted : legs ≡ length (entries_by by (number_of p) (log_of history (seen_by p)))

  -- the worker n is seated: its pass has the number n + 1
  abbrev pub SitsAt : Turn B → ℕ → Pass B → ℕ → Type 0
  SitsAt t n p legs = IsSeated t p legs × (number_of p ≡ n + 1)
