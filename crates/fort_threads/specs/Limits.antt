-- Chapter "The machine with threads": how many threads there are at most.
use Rattle.std.specs.Prelude.{◌+◌, ◌≤◌, Bool, List, ◌++◌, length}
use Rattle.fort_core.specs.declared.pick.Pick.{Pick}
use Rattle.fort_core.specs.declared.program.Program.{Program}
use Rattle.fort_core.specs.declared.term.Term.{Term}
use Rattle.fort_machine.specs.Attempts.{Ended}
use Rattle.fort_machine.specs.Effects.{Store, Effect}
use Rattle.fort_threads.specs.Known.{Known}
use Rattle.fort_threads.specs.Threads.{Paths, Thread, Done}
use Rattle.fort_threads.specs.Moves.{most_spawned}
use Rattle.fort_threads.specs.Runs.{Runs}
use Rattle.fort_threads.specs.Machine.{Event, IsRun}

-- Thread 0 stands with at most 64 others.
abbrev pub AreFew : List Thread → Type 0
AreFew ts = length ts ≤ 1 + most_spawned

-- So it is wherever a run comes to, and so at each time of it.
abbrev pub FewStand : Type 0
FewStand = (p : Program) (k : Known) (events : List Event) (later : List Thread) (d : Effect)
    → IsRun p k events later d → AreFew later

-- Inside attempts too, at any depth: those that stand with those that a stretch adds are so few
-- where those that stand are.
abbrev pub FewInside : Type 0
FewInside = (p : Program) (k : Known) (inner : Bool) (beside standing : List Thread) (asked : Paths)
    (s : Store) (picks : List Pick) (t : Term) (r : Ended) (d : Done)
    → Runs p k inner beside standing asked s picks t r d → AreFew standing
    → AreFew (standing ++ d.added)
