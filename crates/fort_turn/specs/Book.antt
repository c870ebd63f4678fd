-- Books under a turn: what is known of one, and how one goes on. The chapter "The turn" of
-- docs/THREADS.md.
use Rattle.std.specs.Prelude.{◌≡◌, ℕ, ◌==◌, Bool, true, false, ◌||◌, List, [], ◌∷◌, ◌++◌, Option, Some, None}
use Rattle.std.specs.List.{filter, All}
use mathlib.Core.List.{IsPrefix}

-- whether the number k is one of these
abbrev pub has : ℕ → List ℕ → Bool
has k [] = false
has k (n ∷ ns) = (k == n) || has k ns

-- the entries that name the pass k, in their order
abbrev pub entries_by : {E : Type 0} → (E → ℕ) → ℕ → List E → List E
entries_by by k es = filter (λ e. by e == k) es

-- the history of the book that was seen, and nothing where none was
abbrev pub log_of : {B E : Type 0} → (B → List E) → Option B → List E
log_of history None = []
log_of history (Some b) = history b

-- A book follows what was seen: it has that book's origin, its history begins with that book's, and
-- of these numbers it has just the entries that were seen, each once and in their order.
pub record Follows {B E O : Type 0} (history : B → List E) (origin : B → O) (by : E → ℕ)
    (seen : Option B) (numbers : List ℕ) (book : B) : Type 0 where
  pub origin_is : (b : B) → seen ≡ Some b → origin book ≡ origin b
  pub begins : IsPrefix (log_of history seen) (history book)
  pub own : (k : ℕ) → has k numbers ≡ true
      → entries_by by k (history book) ≡ entries_by by k (log_of history seen)

-- A book continues another: it has the other's origin, and its history is the other's with more
-- entries behind, each of which names this pass.
pub record Continues {B E O : Type 0} (history : B → List E) (origin : B → O) (by : E → ℕ)
    (number : ℕ) (b book : B) : Type 0 where
  pub origin_is : origin book ≡ origin b
  pub more : List E
  pub history_is : history book ≡ history b ++ more
  pub own : All (λ e. by e ≡ number) more
