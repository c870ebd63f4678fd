-- Chapter "The machine with threads": how many servers there are at most.
use Rattle.std.specs.Prelude.{ℕ, ◌+◌, ◌≤◌, List}
use Rattle.fort_core.specs.declared.pick.Pick.{Pick}
use Rattle.fort_core.specs.declared.program.Program.{Program}
use Rattle.fort_machine.specs.Effects.{Store, Effect}
use Rattle.fort_threads_law_servers.specs.Prelude.{Names}
use Rattle.fort_threads_law_servers.specs.Trees.{Tree, unread, undivided, server, halves, over, count_of}
use Rattle.fort_threads_law_servers.specs.Roots.{Start, Root, first_call, all, Course}

-- How many servers a tree has, or has yet to call.
abbrev pub room : Tree → ℕ
room unread = 64
room (undivided items) = count_of items
room (server stage) = 1
room (halves m a k b) = room a + room b
room (over t) = 0

-- At most 64 serve.
abbrev pub FewServe : Root → Type 0
FewServe (all l a stage b tree) = room tree ≤ 64
FewServe _ = Unit {0}

-- So it is at each time of a run from its start.
abbrev pub FewServers : Type 0
FewServers = (p : Program) (n : Names) (m : Start) (s : Store) (picks : List Pick) (to : Root)
    (d : Effect) → Course p n m s picks first_call to d → FewServe to
