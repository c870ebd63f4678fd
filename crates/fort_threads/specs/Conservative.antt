-- Chapter "The machine with threads": a program without the prelude runs as it does in the machine.
use Rattle.std.specs.Prelude.{◌≡◌, List, [], ◌∷◌, ◌++◌, map, None, slice_get, ◌↔◌}
use Rattle.fort_base.specs.declared.ids.DeclId.{DeclId}
use Rattle.fort_core.specs.declared.pick.Pick.{Pick}
use Rattle.fort_core.specs.declared.program.Program.{Program}
use Rattle.fort_core.specs.declared.term.Term.{Term}
use Rattle.fort_machine.specs.Effects.{Effect}
use Rattle.fort_machine.specs.Ends.{Finished}
use Rattle.fort_machine.specs.Journals as machine
use Rattle.fort_machine.specs.Parts.{IsOneOf}
use Rattle.fort_threads.specs.Known.{Known, known}
use Rattle.fort_threads.specs.Threads.{over, Thread, thread}
use Rattle.fort_threads.specs.Machine.{Event, takes, ends, alone, IsRun}

-- A program has none of the declarations that are known, as that of a component without the word
-- `spawn`.
abbrev pub HasNone : Program → Known → Type 0
HasNone p k = (c : DeclId) → IsOneOf c (known k) → slice_get p.decls c.0 ≡ None

-- The picks of thread 0.
abbrev pub of_first : List Pick → List Event
of_first picks = map (λ pick. takes 0 pick) picks

-- A run of the machine with threads is one of the machine: thread 0 alone takes its picks, and may
-- have ended behind them; the effect is the same.
pub data IsPlainRun (p : Program) (events : List Event) (later : List Thread) (d : Effect)
    : Type 0 where
  going_yet : (picks : List Pick) (t : Term) → machine.IsRun p picks t d → events ≡ of_first picks
      → later ≡ alone t → IsPlainRun p events later d
  at_end : (picks : List Pick) (t : Term) → machine.IsRun p picks t d → Finished t
      → events ≡ of_first picks ++ ends 0 ∷ [] → later ≡ thread None (over t) ∷ []
      → IsPlainRun p events later d

-- Of such a program the runs of the machine with threads are those of the machine.
abbrev pub IsConservative : Type 0
IsConservative = (p : Program) (k : Known) → HasNone p k
    → (events : List Event) (later : List Thread) (d : Effect)
    → IsRun p k events later d ↔ IsPlainRun p events later d
