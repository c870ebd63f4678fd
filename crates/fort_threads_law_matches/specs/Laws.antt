-- Chapter "The machine with threads": matching terms, thread by thread.
use Rattle.std.specs.Prelude.{◌≡◌, ℕ, List, [], ◌∷◌, ◌⊎◌}
use Rattle.fort_core.specs.declared.form.Mode.{Mode}
use Rattle.fort_core.specs.declared.program.Program.{Program}
use Rattle.fort_core.specs.declared.term.Term.{Term}
use Rattle.fort_core.specs.declared.term.Term as term
use Rattle.fort_core.specs.declared.value.Value.{Value}
use Rattle.fort_machine.specs.Attempts.{Ready, Form, Sleeps}
use Rattle.fort_machine.specs.Effects.{Store}
use Rattle.fort_machine.specs.Ends.{open_yet, standing, Finished}
use Rattle.fort_machine.specs.Frames.{Frame, plug}
use Rattle.fort_machine.specs.Parts.{IsOneOf}
use Rattle.fort_threads.specs.Awake.{Awake}
use Rattle.fort_threads.specs.Known.{Known}
use Rattle.fort_threads.specs.Threads.{Paths, Thread}
use Rattle.fort_threads_law_servers.specs.Prelude.{Names}
use Rattle.fort_threads_law_servers.specs.Roots.{Start}
use Rattle.fort_threads_law_private.specs.Private.{Private, PrivateValue}
use Rattle.fort_threads_law_worlds.specs.Worlds.{Spot, World, ground_of}
use Rattle.fort_threads_law_worlds.specs.Known.{Own, AreSame}
use Rattle.fort_threads_law_worlds.specs.Stores.{AreStores}
use Rattle.fort_threads_law_matches.specs.Ways.{IsUnderWay, IsAhead}
use Rattle.fort_threads_law_matches.specs.Matches.{Matches}
use Rattle.fort_threads_law_matches.specs.Placed.{Placed}
use Rattle.fort_threads_law_matches.specs.Sleepers.{SleepsAlike, AwakeThere}

-- What is finished in the machine is the same in the machine with threads.
abbrev pub FinishedMatch : Type 0
FinishedMatch = (p : Program) (n : Names) (m : Start) (o : Own) (w : World) (here : Spot)
    (asked : Paths) (path : List ℕ) (u v : Term)
    → Matches p n m o w here asked path u v → Finished u
    → (u ≡ v) × Private p n m (ground_of w) u

-- Each open part has its place in both terms.
abbrev pub EachIsPlaced : Type 0
EachIsPlaced = (p : Program) (n : Names) (m : Start) (o : Own) (k : Known) (w : World) (here : Spot)
    (asked : Paths) (path : List ℕ) (u v : Term) (fs : List Frame) (a : Term)
    → AreSame p n m o k → Matches p n m o w here asked path u v
    → u ≡ plug fs a → standing a ≡ open_yet
    → Placed p n m o k w here asked path v fs a

-- A ready part is the same in both; or it sleeps; or it is a call that is under way, or one in
-- which the machine with threads is ahead.
abbrev pub ReadyMatch : Type 0
ReadyMatch = (p : Program) (n : Names) (m : Start) (o : Own) (w : World) (here : Spot)
    (asked : Paths) (path : List ℕ) (u v : Term) → Matches p n m o w here asked path u v → Ready u
    → ((u ≡ v) × Private p n m (ground_of w) u)
    ⊎ (SleepsAlike p n m w asked path u v ⊎ (IsUnderWay p n m o w (path ∷ here) u v
    ⊎ ((x : Value) × IsAhead n w u x × (v ≡ term.Value x) × PrivateValue p n m (ground_of w) x)))

-- An atomic form of the component is that form in both; and one that doesn't sleep in the machine
-- doesn't in the machine with threads, or its last attempt came to a form of its own.
abbrev pub SleepersMatch : Type 0
SleepersMatch = (p : Program) (n : Names) (m : Start) (o : Own) (w : World) (here : Spot)
    (asked : Paths) (path : List ℕ) (standing : List Thread) (s t : Store) (u v : Term)
    (mode : Mode) (body : Term) → AreStores p n m w standing s t
    → Matches p n m o w here asked path u v → Form u mode body
    → IsUnderWay p n m o w (path ∷ here) u v
    ⊎ (Form v mode body × Private p n m (ground_of w) body
    × ((Sleeps s u → ⊥) → (Sleeps t v → ⊥) ⊎ IsOneOf path asked))

-- Where somebody is awake in the machine with threads, somebody is in the machine: there too, or in
-- a call of the prelude.
abbrev pub AwakeMatches : Type 0
AwakeMatches = (p : Program) (n : Names) (m : Start) (o : Own) (k : Known) (w : World) (here : Spot)
    (asked : Paths) (standing : List Thread) (s t : Store) (u v : Term) → AreSame p n m o k
    → AreStores p n m w standing s t → Matches p n m o w here asked [] u v
    → (path : List ℕ) → Awake p k t standing v path → AwakeThere p n m w s u path
