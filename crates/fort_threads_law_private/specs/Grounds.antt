-- Chapter "Threads that are spawned" of docs/LANGUAGE.md: which locations are for the terms of a
-- component, and which of the prelude alone.
use Rattle.std.specs.Prelude.{◌≡◌, ℕ, ◌+◌, ◌<◌, Bool, true, Option, Some}
use Rattle.fort_core.specs.declared.value.Value.{Value}

-- What locations are for: those that terms of the component may use; and those at which objects of
-- threads stand, each with its function. The fields of such objects aren't among the first.
pub record Ground : Type 0 where
  pub is_open : ℕ → Bool
  pub function : ℕ → Option Value

-- A location is for terms of the component.
abbrev pub Open : Ground → ℕ → Type 0
Open g l = g.is_open l ≡ true

-- An object of a thread stands at a location.
abbrev pub HasObject : Ground → ℕ → Type 0
HasObject g l = (f : Value) × (g.function l ≡ Some f)

-- As many locations from one on are for terms of the component.
abbrev pub AreOpen : Ground → ℕ → ℕ → Type 0
AreOpen g l count = (i : ℕ) → i < count → Open g (l + i)

-- What locations are for stays, while more are made.
pub record Grows (g h : Ground) : Type 0 where
  pub stay_open : (l : ℕ) → Open g l → Open h l
  pub stay : (l : ℕ) (f : Value) → g.function l ≡ Some f → h.function l ≡ Some f
