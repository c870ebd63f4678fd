-- Chapter "Store and effects": what the root's run did and what each open attempt did, as the
-- machine has it. The code keeps a store and a map of cells for each attempt.
use Rattle.std.specs.Prelude.{◌≡◌, ℕ, ◌+◌, List, [], ◌∷◌, ◌++◌, nat_eq, Option, Some, None}
use Rattle.indexmap.specs.IndexMap.{get}
use Rattle.fort_core.specs.declared.program.Program.{Program}
use Rattle.fort_core.specs.declared.value.Value.{Value}
use Rattle.fort_machine.specs.Effects.{Store, Effect, idle, both, paid, only_at, FitsAll, afterwards, completing, failing, aborting}
use Rattle.fort_machine.specs.Cells as machine
use Rattle.fort_machine.specs.Journals.{opening_store}
use Rattle.fort_machine.specs.Plain.{put}
use Rattle.fort_store.specs.Held.{held}
use Rattle.fort_store_effects.specs.Cells.{cell_of}
use Rattle.fort_store_effects.specs.declared.cell.Closing.{Closing}
use Rattle.fort_store_effects.specs.declared.cell.Closing.TheVariants.{Completed, Failed, Aborted}
use Rattle.fort_store_effects.specs.declared.layer.Layer.{Layer}
use Rattle.fort_store_effects.specs.declared.layers.Layers.{Layers}

-- What an attempt did at a location.
abbrev pub cells_of : Layer → ℕ → machine.Cell
cells_of l k = cell_of (get nat_eq l.cells k)

-- What an attempt did, so far.
abbrev pub effect_of : Layer → Effect
effect_of l = record { cells = cells_of l; output = l.output; cost = l.cost }

-- A machine's levels: the root's store, what the root's run printed and cost, and what each open
-- attempt did, the innermost one first.
pub record Levels : Type 0 where
  pub store : Store
  pub output : List ℕ
  pub cost : ℕ
  pub attempts : List Effect

-- Effects of layers, the outermost one first, before others.
abbrev pub inward : List Layer → List Effect → List Effect
inward [] es = es
inward (l ∷ ls) es = inward ls (effect_of l ∷ es)

-- Those of the innermost layer, if there is one, and of the layers below it.
abbrev pub attempts_of : Option Layer → List Layer → List Effect
attempts_of None below = []
attempts_of (Some top) below = effect_of top ∷ inward below []

-- The levels that layers stand for.
abbrev pub levels_of : Layers → Levels
levels_of l =
    record {
      store = held l.store;
      output = l.output;
      cost = l.cost;
      attempts = attempts_of l.top l.below;
    }

-- A program's levels before its run.
abbrev pub first_levels : Program → Levels
first_levels p = record { store = opening_store p; output = []; cost = 0; attempts = [] }

-- A store with a value at a location, where there is one.
abbrev pub put_some : ℕ → Option Value → Store → Store
put_some l None s = s
put_some l (Some v) s = put l v s

-- A store as attempts leave it, the innermost one last.
abbrev pub through : Store → List Effect → Store
through s [] = s
through s (e ∷ es) = afterwards e (through s es)

-- The store as the innermost machine sees it.
abbrev pub seen : Levels → Store
seen v = through v.store v.attempts

-- The innermost attempt, or the root's run where there is none, with something done more.
abbrev pub added_to : Effect → Levels → List Effect → Levels
added_to d v [] =
    record {
      store = afterwards d v.store;
      output = v.output ++ d.output;
      cost = v.cost + d.cost;
      attempts = [];
    }
added_to d v (e ∷ es) =
    record { store = v.store; output = v.output; cost = v.cost; attempts = both e d ∷ es }

abbrev pub added : Effect → Levels → Levels
added d v = added_to d v v.attempts

-- A new attempt within the innermost one.
abbrev pub opened : Levels → Levels
opened v =
    record { store = v.store; output = v.output; cost = v.cost; attempts = idle ∷ v.attempts }

-- One location is touched, at a cost.
abbrev pub touching : ℕ → machine.Cell → ℕ → Effect
touching l c cost = record (paid cost) { cells = only_at l c }

-- The levels with these attempts.
abbrev pub with_attempts : Levels → List Effect → Levels
with_attempts v es = record { store = v.store; output = v.output; cost = v.cost; attempts = es }

-- The attempts round the innermost one.
abbrev pub outer_of : List Effect → List Effect
outer_of [] = []
outer_of (e ∷ es) = es

-- The innermost attempt is undone, as if it had never begun.
abbrev pub undone : Levels → Levels
undone v = with_attempts v (outer_of v.attempts)

-- What an attempt did, once it ended so.
abbrev pub closing : Closing → Effect → Effect
closing Completed d = completing d
closing Failed d = failing d
closing Aborted d = aborting d

-- What is printed after an attempt that ended so: its text only where it completed.
abbrev pub text_after : Closing → List ℕ → List ℕ → List ℕ
text_after Completed output text = output ++ text
text_after Failed output text = output
text_after Aborted output text = output

-- The root's levels once its only attempt ended so.
abbrev pub root_closed : Closing → Store → List ℕ → ℕ → Effect → Levels
root_closed c s output cost e =
    added_to (closing c e) (record { store = s; output = output; cost = cost; attempts = [] }) []

-- An attempt is open, and the store below it suits what it did.
abbrev pub IsOpen : Store → List Effect → Type 0
IsOpen s [] = ⊥
IsOpen s (e ∷ es) = FitsAll e (through s es)

-- An attempt is open.
abbrev pub HasAttempt : List Effect → Type 0
HasAttempt [] = ⊥
HasAttempt (e ∷ es) = Unit {0}

-- The sum of what attempts cost, each 1 for itself.
abbrev pub attempts_cost : List Effect → ℕ
attempts_cost [] = 0
attempts_cost (e ∷ es) = 1 + e.cost + attempts_cost es

-- What all has cost so far.
abbrev pub spent : Levels → ℕ
spent v = v.cost + attempts_cost v.attempts
