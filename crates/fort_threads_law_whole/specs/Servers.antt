-- Chapter "The machine with threads": a server, and the thread that it runs.
use Rattle.std.specs.Prelude.{◌≡◌, ℕ, ◌+◌, ◌<◌, true, List, [], ◌∷◌, Option, Some, None, ◌⊎◌, pos}
use Rattle.fort_base.specs.declared.ty.Ty.TheVariants.{Named}
use Rattle.fort_core.specs.declared.program.Program.{Program}
use Rattle.fort_core.specs.declared.term.Term.{Term}
use Rattle.fort_core.specs.declared.value.Value.{Value, Small}
use Rattle.fort_machine.specs.Acts.{unit}
use Rattle.fort_machine.specs.Effects.{Store}
use Rattle.fort_machine.specs.Ends.{throw_of}
use Rattle.fort_machine.specs.Types.{has_type}
use Rattle.fort_threads.specs.Threads.{Paths, Phase, new, going, over, Thread, thread}
use Rattle.fort_threads_law_servers.specs.Prelude.{Names, object_of}
use Rattle.fort_threads_law_servers.specs.Stages.{End, end_term, kept_value, mark_of, Stage, got, looking, sent, reads, runs, caught, keeps, has_kept, marks, has_marked, counts, done}
use Rattle.fort_threads_law_servers.specs.Stages as stages
use Rattle.fort_threads_law_servers.specs.Roots.{Start}
use Rattle.fort_threads_law_private.specs.Private.{PrivateValue}
use Rattle.fort_threads_law_worlds.specs.Worlds.{World, ground_of, HasCome}
use Rattle.fort_threads_law_worlds.specs.Known.{Own}
use Rattle.fort_threads_law_matches.specs.Matches.{Matches}
use Rattle.fort_threads_law_runs.specs.Threads.{thread_spot}
use Rattle.fort_threads_law_trees.specs.Leaves.{Leaf}
use Rattle.fort_threads_law_trees.specs.Awake.{WatchesQueue}
use Rattle.fort_threads_law_whole.specs.Lists.{IsAt}

-- Where a thread came to an end, that is a value, or the throw of an exception.
abbrev pub IsEnd : Program → Names → End → Type 0
IsEnd p n (stages.at_value v) = Unit {0}
IsEnd p n (stages.at_throw v) = has_type p v n.exception ≡ true

-- A thread that has this number goes on as a term where it is run at a stage: both terms match; or it
-- has come to what was caught, or to the end that is kept.
abbrev pub IsRunAs : Program → Names → Start → Own → World → ℕ → Paths → Term → Stage → Type 0
IsRunAs p n m o w number asked v (runs l u) = Matches p n m o w (thread_spot number) asked [] u v
IsRunAs p n m o w number asked v (caught l x) =
    (v ≡ throw_of x) × (has_type p x n.exception ≡ true) × PrivateValue p n m (ground_of w) x
IsRunAs p n m o w number asked v (keeps l end) =
    (v ≡ end_term end) × IsEnd p n end × PrivateValue p n m (ground_of w) (kept_value end)
IsRunAs p n m o w number asked v (has_kept l end) =
    (v ≡ end_term end) × IsEnd p n end × PrivateValue p n m (ground_of w) (kept_value end)
IsRunAs p n m o w number asked v (marks l end) =
    (v ≡ end_term end) × IsEnd p n end × PrivateValue p n m (ground_of w) (kept_value end)
IsRunAs p n m o w number asked v _ = ⊥

-- What is written of an object so far, at a stage of whoever runs its thread.
abbrev pub IsKept : Store → Stage → Type 0
IsKept s (has_kept l end) = s (l + 2) ≡ Some (kept_value end)
IsKept s (marks l end) = s (l + 2) ≡ Some (kept_value end)
IsKept s _ = Unit {0}

-- Some thread with this object is run so.
abbrev pub RunsOne : Program → Names → Start → Own → World → List Thread → ℕ → Stage → Type 0
RunsOne p n m o w now l stage =
    (number : ℕ) × (v : Term) × (asked : Paths)
    × IsAt number (thread (Some l) (going v asked)) now × (0 < number)
    × IsRunAs p n m o w number asked v stage

-- Some thread with this object has not begun.
abbrev pub IsNew : List Thread → ℕ → Type 0
IsNew now l = (number : ℕ) × (f : Value) × IsAt number (thread (Some l) (new f)) now

-- A value is the object of a thread that hasn't begun; or it is `()`, as all threads have ended.
abbrev pub IsNewOrNone : Program → Names → World → List Thread → Value → Type 0
IsNewOrNone p n w now v =
    ((l : ℕ) × (v ≡ object_of n l) × IsNew now l × (has_type p v (Named n.thread) ≡ true))
    ⊎ ((v ≡ unit) × (w.unended ≡ 0))

-- A server at a stage, where these threads stand: what it has taken hasn't begun until it runs it; and
-- what it marked has come to an end. What it got that is no thread it got when all had ended.
abbrev pub ServesOne : Program → Names → Start → Own → World → List Thread → Stage → Type 0
ServesOne p n m o w now (got v) = IsNewOrNone p n w now v
ServesOne p n m o w now (looking v) = IsNewOrNone p n w now v
ServesOne p n m o w now (sent l) = IsNew now l
ServesOne p n m o w now (reads l) = IsNew now l
ServesOne p n m o w now (runs l u) = RunsOne p n m o w now l (runs l u)
ServesOne p n m o w now (caught l v) = RunsOne p n m o w now l (caught l v)
ServesOne p n m o w now (keeps l end) = RunsOne p n m o w now l (keeps l end)
ServesOne p n m o w now (has_kept l end) = RunsOne p n m o w now l (has_kept l end)
ServesOne p n m o w now (marks l end) = RunsOne p n m o w now l (marks l end)
ServesOne p n m o w now (has_marked l end) = HasCome w l end
ServesOne p n m o w now stage = WatchesQueue p n stage

abbrev pub AllServeOne : Program → Names → Start → Own → World → List Thread → Store → List Leaf → Type 0
AllServeOne p n m o w now s [] = Unit {0}
AllServeOne p n m o w now s (x ∷ xs) =
    ServesOne p n m o w now x.stage × IsKept s x.stage × AllServeOne p n m o w now s xs

-- What both fields of the object of thread 0 hold, once it has ended.
abbrev pub HasEnd : Program → Names → Store → ℕ → End → Type 0
HasEnd p n s first end =
    (s (first + 1) ≡ Some (Small (pos (mark_of end)))) × (s (first + 2) ≡ Some (kept_value end))
    × IsEnd p n end

-- Thread 0, which `go'` runs, and what its object, the first one, holds: until it is run it stands at
-- the body of the component's own `run`, nothing has been spawned, and the object has the function
-- with which it was made; it is run; and behind its mark it is over.
abbrev pub IsFirst : Program → Names → Start → Own → World → Store → ℕ → Phase → Stage → Type 0
IsFirst p n m o w s first phase (sent l) =
    (l ≡ first) × (phase ≡ going o.body []) × (s first ≡ Some m.own) × (w.spawned ≡ 0)
IsFirst p n m o w s first phase (reads l) =
    (l ≡ first) × (phase ≡ going o.body []) × (s first ≡ Some m.own) × (w.spawned ≡ 0)
IsFirst p n m o w s first phase (has_marked l end) =
    (l ≡ first) × (phase ≡ over (end_term end)) × HasEnd p n s first end
IsFirst p n m o w s first phase stages.leaves =
    (end : End) × (phase ≡ over (end_term end)) × HasEnd p n s first end
IsFirst p n m o w s first phase (counts form) =
    (end : End) × (phase ≡ over (end_term end)) × HasEnd p n s first end
IsFirst p n m o w s first phase (done t) =
    (end : End) × (phase ≡ over (end_term end)) × HasEnd p n s first end
IsFirst p n m o w s first phase (runs l u) =
    (l ≡ first)
    × ((v : Term) × (asked : Paths) × (phase ≡ going v asked)
    × IsRunAs p n m o w 0 asked v (runs l u))
IsFirst p n m o w s first phase (caught l x) =
    (l ≡ first)
    × ((v : Term) × (asked : Paths) × (phase ≡ going v asked)
    × IsRunAs p n m o w 0 asked v (caught l x))
IsFirst p n m o w s first phase (keeps l end) =
    (l ≡ first)
    × ((v : Term) × (asked : Paths) × (phase ≡ going v asked)
    × IsRunAs p n m o w 0 asked v (keeps l end))
IsFirst p n m o w s first phase (has_kept l end) =
    (l ≡ first)
    × ((v : Term) × (asked : Paths) × (phase ≡ going v asked)
    × IsRunAs p n m o w 0 asked v (has_kept l end)) × IsKept s (has_kept first end)
IsFirst p n m o w s first phase (marks l end) =
    (l ≡ first)
    × ((v : Term) × (asked : Paths) × (phase ≡ going v asked)
    × IsRunAs p n m o w 0 asked v (marks l end)) × IsKept s (marks first end)
IsFirst p n m o w s first phase _ = ⊥
