-- Chapter "The machine with threads": the objects of threads. Each thread that was spawned has one
-- of its own, so a location tells which thread `wait`, `val` and `ready` ask.
use Rattle.std.specs.Prelude.{ℕ, List, [], ◌∷◌, filter_map}
use Rattle.fort_core.specs.declared.program.Program.{Program}
use Rattle.fort_machine.specs.Effects.{Effect}
use Rattle.fort_machine.specs.Parts.{IsOneOf}
use Rattle.fort_threads.specs.Known.{Known}
use Rattle.fort_threads.specs.Threads.{Thread}
use Rattle.fort_threads.specs.Machine.{Event, IsRun}

-- The locations of the objects of threads, in their order.
abbrev pub objects : List Thread → List ℕ
objects us = filter_map (λ (u : Thread). u.object) us

-- No number stands twice in a list.
abbrev pub NoneTwice : List ℕ → Type 0
NoneTwice [] = Unit {0}
NoneTwice (l ∷ ls) = (IsOneOf l ls → ⊥) × NoneTwice ls

-- No two of the threads to which a run comes have one object.
abbrev pub ObjectsStandApart : Type 0
ObjectsStandApart = (p : Program) (k : Known) (events : List Event) (later : List Thread)
    (d : Effect) → IsRun p k events later d → NoneTwice (objects later)
