-- Chapter "Threads that are spawned" of docs/LANGUAGE.md: a step of a term that leaves the
-- prelude's own names alone: it leads to one that does, and asks and sets open locations alone.
use Rattle.std.specs.Prelude.{◌≡◌, ℕ, length, Some, ◌⊎◌}
use Rattle.fort_core.specs.declared.program.Program.{Program}
use Rattle.fort_core.specs.declared.term.Term.{Term}
use Rattle.fort_core.specs.declared.value.Value.{Value}
use Rattle.fort_machine.specs.Acts.{Act, stuck, turns, enters, asks, sets, makes, calls}
use Rattle.fort_machine.specs.Acts as acts
use Rattle.fort_machine.specs.Cells.{untouched, made}
use Rattle.fort_machine.specs.Effects.{Store, Effect}
use Rattle.fort_machine.specs.Steps.{or_unit}
use Rattle.fort_threads_law_servers.specs.Prelude.{Names}
use Rattle.fort_threads_law_servers.specs.Roots.{Start}
use Rattle.fort_threads_law_private.specs.Grounds.{Ground, Open, AreOpen, Grows}
use Rattle.fort_threads_law_private.specs.Private.{IsSecretSet, Private, PrivateValue, AllPrivateValues}

-- What a form does, on any ground: what it leads to leaves the prelude's own names alone, once
-- what it makes is open.
abbrev pub Fine : Program → Names → Start → Ground → Act → Type 0
Fine p n m g stuck = Unit {0}
Fine p n m g (turns next output cost) = Private p n m g next
Fine p n m g (enters body next) = Private p n m g next
Fine p n m g (asks l next) =
    Open g l × ((v : Value) → PrivateValue p n m g v → Private p n m g (next v))
Fine p n m g (sets l v) = Open g l × PrivateValue p n m g v
Fine p n m g (makes values next cost) =
    AllPrivateValues p n m g values
    × ((l : ℕ) (h : Ground) → Grows g h → AreOpen h l (length (or_unit values))
    → Private p n m h (next l))
Fine p n m g (calls set values) = (IsSecretSet n m set → ⊥) × AllPrivateValues p n m g values
Fine p n m g acts.ends = Unit {0}

-- What stands at open locations leaves the prelude's own names alone.
abbrev pub PrivateStore : Program → Names → Start → Ground → Store → Type 0
PrivateStore p n m g s = (l : ℕ) (v : Value) → Open g l → s l ≡ Some v → PrivateValue p n m g v

-- What is done touches open locations alone.
abbrev pub TouchesOpen : Ground → Effect → Type 0
TouchesOpen g d = (l : ℕ) → (d.cells l ≡ untouched → ⊥) → Open g l

-- What a step of a term leaves: on a ground that has grown by what was made, the term, the store,
-- and what was touched.
pub record StaysPrivate (p : Program) (n : Names) (m : Start) (g : Ground) (b : Term) (d : Effect)
    (later : Store) : Type 0 where
  pub ground : Ground
  pub grows : Grows g ground
  pub newly_open : (l : ℕ) → Open ground l → Open g l ⊎ ((v : Value) × (d.cells l ≡ made (Some v)))
  pub same_objects : (l : ℕ) → ground.function l ≡ g.function l
  pub term : Private p n m ground b
  pub store : PrivateStore p n m ground later
  pub touches : TouchesOpen ground d
