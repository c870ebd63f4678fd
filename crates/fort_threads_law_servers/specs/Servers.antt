-- Chapter "The machine with threads": what a server does, pick by pick, whatever goes on beside it.
use Rattle.std.specs.Prelude.{◌≡◌, ℕ, false, [], ◌∷◌}
use Rattle.fort_core.specs.declared.pick.Pick.{Pick}
use Rattle.fort_core.specs.declared.program.Program.{Program}
use Rattle.fort_core.specs.declared.term.Term.{Term}
use Rattle.fort_core.specs.declared.value.Value.{Value}
use Rattle.fort_machine.specs.Attempts.{goes}
use Rattle.fort_machine.specs.Effects.{Store, Effect}
use Rattle.fort_machine.specs.Runs.{Runs}
use Rattle.fort_threads.specs.Machine.{applied}
use Rattle.fort_threads_law_servers.specs.Prelude.{Names, HasPrelude}
use Rattle.fort_threads_law_servers.specs.Stages.{End, end_term, Stage, called, sent, has_marked, term_at, Stands, Follows}

-- Each pick of a server, on whatever store it comes to, leads from its stage to one that follows.
abbrev pub EachPickFollows : Type 0
EachPickFollows = (p : Program) (n : Names) → HasPrelude p n
    → (s : Store) (pick : Pick) (stage : Stage) (u : Term) (d : Effect)
    → Stands n stage → Runs p false false s (pick ∷ []) (term_at n stage) (goes u) d
    → (next : Stage) × Stands n next × (u ≡ term_at n next) × Follows p n s pick d stage next

-- A server goes on from stage to stage, on whatever stores others leave it.
pub data Serves (p : Program) (n : Names) : Stage → Stage → Type 0 where
  rests : {stage last : Stage} → last ≡ stage → Serves p n stage last
  goes_on : {stage last : Stage} (next : Stage) (s : Store) (pick : Pick) (d : Effect)
      → Follows p n s pick d stage next → Serves p n next last → Serves p n stage last

-- A thread alone goes on, on whatever stores others leave it.
pub data Alone (p : Program) : Term → Term → Type 0 where
  stays : {t last : Term} → last ≡ t → Alone p t last
  picks : {t last : Term} (u : Term) (s : Store) (pick : Pick) (d : Effect)
      → Runs p false false s (pick ∷ []) t (goes u) d → Alone p u last → Alone p t last

-- A thread came to an end: some function was applied to `()`, and by picks of its own came to it.
abbrev pub RanAlone : Program → End → Type 0
RanAlone p end = (f : Value) × Alone p (applied f) (end_term end)

-- What a server marks, from its call on, is the end to which a thread came.
abbrev pub MarksAnEnd : Type 0
MarksAnEnd = (p : Program) (n : Names) (m : ℕ) (end : End) → Serves p n called (has_marked m end)
    → RanAlone p end

-- Where `go'` was called with an object, it is marked there, and with that thread's end.
abbrev pub MarksItsThread : Type 0
MarksItsThread = (p : Program) (n : Names) (l m : ℕ) (end : End)
    → Serves p n (sent l) (has_marked m end) → (m ≡ l) × RanAlone p end
