-- Chapter "Store and effects": how an attempt ends, in its cells and in the levels.
use Rattle.std.specs.Prelude.{◌≡◌, ℕ, ◌-◌, List, [], ◌∷◌, nat_eq}
use Rattle.std.specs.declared.hash.FoldHasher.{FoldHasher}
use Rattle.std.specs.declared.hash.BuildHasherDefault.{BuildHasherDefault}
use Rattle.indexmap.specs.IndexMap.{IndexMap, get, index_map_len}
use Rattle.fort_machine.specs.Cells.{joined, Fits, left_at}
use Rattle.fort_machine.specs.Cells as machine
use Rattle.fort_machine.specs.Effects.{Effect}
use Rattle.fort_store.specs.Held.{held}
use Rattle.fort_store.specs.declared.store.Store.{Store}
use Rattle.fort_store_effects.specs.Cells.{cell_of, cell_closed}
use Rattle.fort_store_effects.specs.declared.cell.Cell.{Cell}
use Rattle.fort_store_effects.specs.declared.cell.Closing.{Closing}
use Rattle.fort_store_effects.specs.declared.layer.Layer.{Layer}
use Rattle.fort_store_effects.specs.Levels.{Levels, cells_of, added, with_attempts, closing}

-- The innermost of attempts ends so, and what it did is done by the machine round it.
abbrev pub Closed : Closing → Levels → List Effect → Levels → Type 0
Closed c old [] new = ⊥
Closed c old (e ∷ es) new = new ≡ added (closing c e) (with_attempts old es)

abbrev pub Closes : Closing → Levels → Levels → Type 0
Closes c old new = Closed c old old.attempts new

-- The cells of an attempt, by their locations.
abbrev pub CellMap : Type 0
CellMap = IndexMap ℕ Cell (BuildHasherDefault FoldHasher)

-- What stands at a location of an attempt that ended so.
abbrev pub closed_at : Closing → CellMap → ℕ → machine.Cell
closed_at c cells k = cell_closed c (cell_of (get nat_eq cells k))

-- An attempt's cells are joined to those of the one round it.
pub record JoinsAll (c : Closing) (parent : Layer) (cells : CellMap) (whole : Layer) : Type 0 where
  pub cells_join : (k : ℕ) → cells_of whole k ≡ joined (cells_of parent k) (closed_at c cells k)
  pub same_output : whole.output ≡ parent.output
  pub same_cost : whole.cost ≡ parent.cost

-- The last of an attempt's cells, if there is one, is joined to those of the one round it.
pub record JoinsLast (c : Closing) (old : Layer) (cells : CellMap) (new : Layer)
    (rest : CellMap) : Type 0 where
  pub same_join : (k : ℕ)
      → joined (cells_of new k) (closed_at c rest k) ≡ joined (cells_of old k) (closed_at c cells k)
  pub same_output : new.output ≡ old.output
  pub same_cost : new.cost ≡ old.cost
  pub fewer : index_map_len rest ≡ index_map_len cells - 1

-- A store suits an attempt's cells.
abbrev pub SuitsAll : Closing → Store → CellMap → Type 0
SuitsAll c store cells = (k : ℕ) → Fits (closed_at c cells k) (held store k)

-- An attempt's cells are done to a store.
abbrev pub SettlesAll : Closing → Store → CellMap → Store → Type 0
SettlesAll c store cells new = (k : ℕ) → held new k ≡ left_at (closed_at c cells k) (held store k)

-- The last of an attempt's cells, if there is one, is done to a store.
pub record SettlesLast (c : Closing) (old : Store) (cells : CellMap) (new : Store)
    (rest : CellMap) : Type 0 where
  pub same_left : (k : ℕ)
      → left_at (closed_at c rest k) (held new k) ≡ left_at (closed_at c cells k) (held old k)
  pub suits : SuitsAll c new rest
  pub fewer : index_map_len rest ≡ index_map_len cells - 1
