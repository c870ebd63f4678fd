-- Chapter "The machine with threads": the place of a thread in both terms.
use Rattle.std.specs.Prelude.{◌≡◌, ℕ, false, List, [], ◌∷◌, ◌++◌, ◌⊎◌}
use Rattle.fort_core.specs.declared.program.Program.{Program}
use Rattle.fort_core.specs.declared.term.Term.{Term}
use Rattle.fort_core.specs.declared.term.Term as term
use Rattle.fort_core.specs.declared.value.Value.{Value}
use Rattle.fort_machine.specs.Attempts.{Ready}
use Rattle.fort_machine.specs.Frames.{Frame, plug, road, passed, trodden}
use Rattle.fort_machine.specs.Parts.{IsOneOf}
use Rattle.fort_threads.specs.Known.{Known, Outside}
use Rattle.fort_threads.specs.Threads.{Paths}
use Rattle.fort_threads_law_servers.specs.Prelude.{Names}
use Rattle.fort_threads_law_servers.specs.Roots.{Start}
use Rattle.fort_threads_law_private.specs.Private.{Private, PrivateValue}
use Rattle.fort_threads_law_worlds.specs.Worlds.{Spot, World, ground_of, FollowsAt}
use Rattle.fort_threads_law_worlds.specs.Known.{Own}
use Rattle.fort_threads_law_matches.specs.Ways.{IsUnderWay, IsAhead}
use Rattle.fort_threads_law_matches.specs.Matches.{Matches, ThrowsRightly}

-- All paths but one stay.
abbrev pub KeepsOthers : List ℕ → Paths → Paths → Type 0
KeepsOthers path asked later = (q : List ℕ) → (q ≡ path → ⊥) → IsOneOf q asked → IsOneOf q later

-- Frames lead in a term of the machine to an open part. They lead to it through a term `x` that
-- matches `y` at the place to which other frames lead in the machine with threads, by the same
-- road, and which isn't passed over there if it isn't here; round it stands no form of its own.
-- Either that is the part itself, or it stands in a call that is under way, or in one that is
-- ahead. What matches may stand there once steps were taken at this path, where the machine
-- throws what may be thrown; and unless a part that is ready is the same in both, marks stand
-- there already.
pub record Placed (p : Program) (n : Names) (m : Start) (o : Own) (k : Known) (w : World)
    (here : Spot) (asked : Paths) (path : List ℕ) (v : Term) (fs : List Frame) (a : Term)
    : Type 0 where
  pub outer : List Frame
  pub inner : List Frame
  pub are_all : fs ≡ outer ++ inner
  pub round : List Frame
  pub y : Term
  pub is_term : v ≡ plug round y
  pub same_road : road round ≡ road outer
  pub matches : Matches p n m o w here asked (path ++ road outer) (plug inner a) y
  pub at_call : (inner ≡ []) ⊎ (IsUnderWay p n m o w ((path ++ road outer) ∷ here) (plug inner a) y
      ⊎ ((x : Value) × IsAhead n w (plug inner a) x × (y ≡ term.Value x)
      × PrivateValue p n m (ground_of w) x))
  pub reached : passed fs a ≡ false → passed round y ≡ false
  pub outside : Outside p k round y
  pub trodden_so : (b : Term) → plug (trodden fs) b ≡ plug (trodden outer) (plug (trodden inner) b)
  pub replaced : (later : World) (asked' : Paths) (b c : Term)
      → FollowsAt ((path ++ road outer) ∷ here) w later
      → KeepsOthers (path ++ road outer) asked asked'
      → Matches p n m o later here asked' (path ++ road outer) b c
      → ThrowsRightly n m o (trodden outer) b
      → Matches p n m o later here asked' path (plug (trodden outer) b) (plug (trodden round) c)
  pub as_before : Ready a → ((inner ≡ []) × (a ≡ y) × Private p n m (ground_of w) a)
      ⊎ (plug (trodden round) y ≡ plug round y)
