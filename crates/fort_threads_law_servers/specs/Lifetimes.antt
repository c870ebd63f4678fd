-- Chapter "The machine with threads": what a server does as events of the thread that it runs.
use Rattle.std.specs.Prelude.{ℕ, List, [], ◌∷◌, ◌++◌}
use Rattle.fort_core.specs.declared.pick.Pick.{Pick}
use Rattle.fort_core.specs.declared.program.Program.{Program}
use Rattle.fort_threads.specs.Lives.{not_begun, Lives}
use Rattle.fort_threads.specs.Machine.{Event, takes, begins, ends}
use Rattle.fort_threads_law_servers.specs.Prelude.{Names}
use Rattle.fort_threads_law_servers.specs.Stages.{Stage, called, reads, runs, marks, has_marked}
use Rattle.fort_threads_law_servers.specs.Servers.{Serves, rests, goes_on}

-- What a pick of a server is to its thread, which has this number: it begins where its function is
-- read, takes a pick where the server runs it, and ends where its end is marked.
abbrev pub event_of : ℕ → Pick → Stage → Stage → List Event
event_of k pick (reads l) (runs m t) = begins k ∷ []
event_of k pick (runs l t) (runs m u) = takes k pick ∷ []
event_of k pick (marks l e) (has_marked m f) = ends k ∷ []
event_of k pick _ _ = []

-- What all picks of a server are to its thread.
abbrev pub events_of : {p : Program} {n : Names} {stage last : Stage}
    → ℕ → Serves p n stage last → List Event
events_of k (rests e) = []
events_of {stage = stage} k (goes_on next s pick d h rest) =
    event_of k pick stage next ++ events_of k rest

-- From its call on a server runs at most one thread, whose events are a life: it begins before all
-- else, takes picks, and ends behind all else.
abbrev pub ServesOneLife : Type 0
ServesOneLife = (p : Program) (n : Names) (k : ℕ) (last : Stage) (h : Serves p n called last)
    → Lives not_begun (events_of k h)
