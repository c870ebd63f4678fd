-- Chapter "The machine with threads": each pick within a call of the prelude is answered.
use Rattle.std.specs.Prelude.{◌≡◌, ℕ, Bool, List, [], ◌∷◌}
use Rattle.fort_core.specs.declared.pick.Pick.{Pick}
use Rattle.fort_core.specs.declared.program.Program.{Program}
use Rattle.fort_core.specs.declared.term.Term.{Term}
use Rattle.fort_machine.specs.Attempts.{Ended, goes}
use Rattle.fort_machine.specs.Effects.{Store, Effect}
use Rattle.fort_machine.specs.Ends as ends
use Rattle.fort_machine.specs.Journals.{MakesWithinBounds}
use Rattle.fort_machine.specs.Runs.{Runs}
use Rattle.fort_threads.specs.Known.{Known}
use Rattle.fort_threads.specs.Threads.{Paths, Thread}
use Rattle.fort_threads_law_servers.specs.Prelude.{Names, HasPrelude}
use Rattle.fort_threads_law_servers.specs.Roots.{Start}
use Rattle.fort_threads_law_private.specs.Apart.{KeepsApart}
use Rattle.fort_threads_law_private.specs.Grounds.{Ground, Grows}
use Rattle.fort_threads_law_private.specs.Private.{Private}
use Rattle.fort_threads_law_worlds.specs.Worlds.{Spot, World, ground_of}
use Rattle.fort_threads_law_worlds.specs.Known.{Own, AreSame}
use Rattle.fort_threads_law_worlds.specs.Stores.{AreStores}
use Rattle.fort_threads_law_worlds.specs.Effects.{FindsOpen}
use Rattle.fort_threads_law_calls.specs.Answers.{IsCall, AnswersCall}

-- Each pick of a machine within a call that is under way or ahead, an attempt's machine or the
-- root's, keeps that machine going, and is answered.
abbrev pub EachCallIsAnswered : Type 0
EachCallIsAnswered = (p : Program) (n : Names) (m : Start) (o : Own) (k : Known) (first : Ground)
    → HasPrelude p n → AreSame p n m o k → KeepsApart p n m k first
    → (w : World) (here : Spot) (asked : Paths) (path : List ℕ) (standing : List Thread)
    (s t : Store) (inner strict : Bool) (pick : Pick) (u v : Term) (r : Ended) (d : Effect)
    → Grows first (ground_of w) → AreStores p n m w standing s t
    → IsCall p n m o w (path ∷ here) u v
    → Runs p inner strict s (pick ∷ []) u r d → MakesWithinBounds d
    → (later : Term) × (r ≡ goes later)
    × AnswersCall p n m o k w here asked path standing s t v later d

-- A pick within a call where the machine with threads has a term that leaves the prelude's own
-- names alone, or is closed, is one of a call of `run`, or one in which that machine is ahead: it
-- found nothing, or read `started'`.
abbrev pub EachCallFindsOpen : Type 0
EachCallFindsOpen = (p : Program) (n : Names) (m : Start) (o : Own) (k : Known)
    → HasPrelude p n → AreSame p n m o k
    → (w : World) (spot : Spot) (standing : List Thread) (s t : Store) (inner strict : Bool)
    (pick : Pick) (u v : Term) (r : Ended) (d : Effect)
    → AreStores p n m w standing s t → IsCall p n m o w spot u v
    → (ends.standing v ≡ ends.open_yet → Private p n m (ground_of w) v)
    → Runs p inner strict s (pick ∷ []) u r d → FindsOpen m w d
