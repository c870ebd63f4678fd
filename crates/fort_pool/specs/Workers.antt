-- Workers in a row, whose numbers count from the first one's. The chapter "The pool" of
-- docs/THREADS.md.
use Rattle.std.specs.Prelude.{◌≡◌, ℕ, ◌+◌, ◌<◌, List, length, slice_index_or}

module _ {S : Type 0} where
  -- this holds of each worker's state
  abbrev pub EachWorker : ℕ → (ℕ → S → Type 0) → List S → Type 0
  EachWorker base P states = (i : ℕ) (d : S) → i < length states
      → P (base + i) (slice_index_or states i d)

  -- this holds between each worker's state before and after
  abbrev pub EachGoes : ℕ → (ℕ → S → S → Type 0) → List S → List S → Type 0
  EachGoes base Q before after = (length after ≡ length before)
      × ((i : ℕ) (d : S) → i < length before
      → Q (base + i) (slice_index_or before i d) (slice_index_or after i d))

module _ {W S : Type 0} (ready : W → ℕ → S → Type 0) (keeps : W → ℕ → S → S → Type 0)
    (over : W → ℕ → S → Type 0) (all : W) where
  -- the worker has had its turns, and the last one answered Over
  pub record HasTurned (worker : ℕ) (before after : S) : Type 0 where
    pub ready_is : ready all worker after
    pub keeps_is : keeps all worker before after
    pub over_is : over all worker after

  -- each worker of the row has had its turns
  pub record HasRun (base : ℕ) (before after : List S) : Type 0 where
    pub long : length after ≡ length before
    pub each : (i : ℕ) (d : S) → i < length before
        → HasTurned (base + i) (slice_index_or before i d) (slice_index_or after i d)
