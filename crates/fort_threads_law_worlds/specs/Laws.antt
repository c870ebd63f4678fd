-- Chapter "The machine with threads": stretches of both machines: one after the other, in
-- attempts, and what stores they leave.
use Rattle.std.specs.Prelude.{List, ◌++◌}
use Rattle.fort_core.specs.declared.program.Program.{Program}
use Rattle.fort_machine.specs.Attempts.{AreRead, Rising}
use Rattle.fort_machine.specs.Effects.{Store, Effect, both, completing, failing, aborting, FitsAll, afterwards}
use Rattle.fort_machine.specs.Marked.{Marks}
use Rattle.fort_threads.specs.Threads.{Thread}
use Rattle.fort_threads_law_servers.specs.Prelude.{Names}
use Rattle.fort_threads_law_servers.specs.Roots.{Start}
use Rattle.fort_threads_law_private.specs.Fine.{PrivateStore, TouchesOpen}
use Rattle.fort_threads_law_worlds.specs.Worlds.{Spot, World, ground_of, with_counts, FollowsAt, AllNew}
use Rattle.fort_threads_law_worlds.specs.Stores.{AreStores}
use Rattle.fort_threads_law_worlds.specs.Effects.{DoAlike, Opens, FindsOpen, WatchOpen, open_marks}

-- What two stretches do alike, they do alike together.
abbrev pub DoAlikeTogether : Type 0
DoAlikeTogether = (spot : Spot) (w x y : World) (d1 d2 e1 e2 : Effect)
    → FollowsAt spot w x → FollowsAt spot x y → DoAlike w x d1 e1 → DoAlike x y d2 e2
    → DoAlike w y (both d1 d2) (both e1 e2)

-- Attempts whose inner runs do alike do so too, where they complete, where they fail, and where
-- they are aborted; the latter lead back to the world before them.
abbrev pub CompletedAlike : Type 0
CompletedAlike = (w x : World) (d e : Effect) → DoAlike w x d e
    → DoAlike w x (completing d) (completing e)

abbrev pub FailedAlike : Type 0
FailedAlike = (w x : World) (d e : Effect) → DoAlike w x d e → DoAlike w x (failing d) (failing e)

abbrev pub AbortedAlike : Type 0
AbortedAlike = (spot : Spot) (w x : World) (d e : Effect) → FollowsAt spot w x → DoAlike w x d e
    → DoAlike w w (aborting d) (aborting e)

-- What suits the store of the machine, done alike suits that of the machine with threads.
abbrev pub FitsBoth : Type 0
FitsBoth = (p : Program) (n : Names) (m : Start) (spot : Spot) (w x : World)
    (standing : List Thread) (s t : Store) (d e : Effect) → AreStores p n m w standing s t
    → FollowsAt spot w x → DoAlike w x d e → FitsAll d s → FitsAll e t

-- A step that is no call of the prelude leaves both stores as they are in the world in which what
-- it made is open.
abbrev pub StoresAfterOpen : Type 0
StoresAfterOpen = (p : Program) (n : Names) (m : Start) (w x : World) (standing : List Thread)
    (s t : Store) (d e : Effect) → AreStores p n m w standing s t → Opens w x d
    → DoAlike w x d e → FitsAll d s → TouchesOpen (ground_of x) d → TouchesOpen (ground_of x) e
    → PrivateStore p n m (ground_of x) (afterwards d s)
    → AreStores p n m x standing (afterwards d s) (afterwards e t)

-- So does an attempt that completes, as its inner run does. One that fails leaves what was made in
-- it, and one that is aborted nothing; no thread that was spawned in it stays.
abbrev pub StoresAfterCompleting : Type 0
StoresAfterCompleting = (p : Program) (n : Names) (m : Start) (x : World) (standing : List Thread)
    (s t : Store) (d e : Effect) → AreStores p n m x standing (afterwards d s) (afterwards e t)
    → AreStores p n m x standing (afterwards (completing d) s) (afterwards (completing e) t)

abbrev pub StoresAfterFailing : Type 0
StoresAfterFailing = (p : Program) (n : Names) (m : Start) (spot : Spot) (w x : World)
    (before added : List Thread) (s t : Store) (d e : Effect) → AreStores p n m w before s t
    → FollowsAt spot w x → DoAlike w x d e → FitsAll d s → AllNew added
    → AreStores p n m x (before ++ added) (afterwards d s) (afterwards e t)
    → AreStores p n m (with_counts w x) before (afterwards (failing d) s)
    (afterwards (failing e) t)

abbrev pub StoresAfterAborting : Type 0
StoresAfterAborting = (p : Program) (n : Names) (m : Start) (spot : Spot) (w x : World)
    (standing : List Thread) (s t : Store) (d e : Effect) → AreStores p n m w standing s t
    → FollowsAt spot w x → DoAlike w x d e → FitsAll d s
    → AreStores p n m w standing (afterwards (aborting d) s) (afterwards (aborting e) t)

-- Marks of what the machine read, those at locations for terms of the component, are marks of what
-- the machine with threads read.
abbrev pub OpenMarks : Type 0
OpenMarks = (spot : Spot) (w x : World) (d e : Effect) (marks : Marks) → FollowsAt spot w x
    → DoAlike w x d e → AreRead marks d → Rising marks
    → AreRead (open_marks w marks) e × Rising (open_marks w marks)

-- Marks of what was read openly are open.
abbrev pub MarksAreOpen : Type 0
MarksAreOpen = (m : Start) (w : World) (d : Effect) (marks : Marks) → AreRead marks d
    → FindsOpen m w d → WatchOpen m w marks
