-- Thread 0 stands as it stood where another thread goes on.
use Rattle.std.proofs.Common.{◌≡◌, ℕ, ◌+◌, ◌<◌, List, length, Option, Some, ap, ◌∙◌, arith}
use Rattle.fort_core.specs.declared.program.Program.{Program}
use Rattle.fort_core.specs.declared.term.Term.{Term}
use Rattle.fort_core.specs.declared.value.Value.{Value}
use Rattle.fort_machine.specs.Cells.{untouched, left_at}
use Rattle.fort_machine.specs.Effects.{Store, Effect, afterwards}
use Rattle.fort_threads.specs.Threads.{Paths, Phase, going, Thread, thread}
use Rattle.fort_threads_law_servers.specs.Prelude.{Names}
use Rattle.fort_threads_law_servers.specs.Stages.{End, kept_value, Stage, called, asking, trying, got, refused, looking, sent, reads, runs, caught, lost, keeps, has_kept, marks, has_marked, counts, done}
use Rattle.fort_threads_law_servers.specs.Stages as stages
use Rattle.fort_threads_law_servers.specs.Roots.{Start}
use Rattle.fort_threads_law_worlds.specs.Worlds.{World, FollowsAt}
use Rattle.fort_threads_law_worlds.specs.Known.{Own}
use Rattle.fort_threads_law_runs.specs.Threads.{thread_spot}
use Rattle.fort_threads_law_whole.specs.Servers.{IsRunAs, IsFirst, HasEnd}
use Rattle.fort_threads_law_whole.proofs.ThreadOthers.{run_as_stays}

-- what lasts holds what it held
pub lasts_on : (d : Effect) (s : Store) (l : ℕ) (v : Value) → d.cells l ≡ untouched
    → s l ≡ Some v → afterwards d s l ≡ Some v
lasts_on d s l v c e = ap (λ z. left_at z (s l)) c ∙ e

module _ {w x : World} (p : Program) (n : Names) (m : Start) (o : Own)
    (before behind added : List Thread) (object : Option ℕ) (v next : Term) (asked later : Paths)
    (fol : FollowsAt (thread_spot (length before)) w x) (d : Effect) (s : Store) (first : ℕ)
    (lasting : (place : ℕ) → place < 4 → d.cells (first + place) ≡ untouched)
    (behind_it : 0 < length before) (spawned : w.spawned ≡ 0 → ⊥) where
  ends_on : (end : End) → HasEnd p n s first end → HasEnd p n (afterwards d s) first end
  ends_on end h = (
    lasts_on d s (first + 1) _ (lasting 1 (omega arith)) h.0,
    lasts_on d s (first + 2) _ (lasting 2 (omega arith)) h.1,
    h.2,
  )

  run_on : (phase : Phase) (stage : Stage)
      → (u : Term) × (paths : Paths) × (phase ≡ going u paths) × IsRunAs p n m o w 0 paths u stage
      → (u : Term) × (paths : Paths) × (phase ≡ going u paths) × IsRunAs p n m o x 0 paths u stage
  run_on phase stage h = (
    h.0,
    h.1,
    h.2,
    run_as_stays p n m o before behind added object v next asked later fol 0 h.0 h.1 stage
        (λ e. let z : 0 ≡ length before = e in omega (arith, z)) h.3,
  )

  kept_on : (value : Value) → s (first + 2) ≡ Some value
      → afterwards d s (first + 2) ≡ Some value
  kept_on value e = lasts_on d s (first + 2) value (lasting 2 (omega arith)) e

  pub first_on : (phase : Phase) (stage : Stage) → IsFirst p n m o w s first phase stage
      → IsFirst p n m o x (afterwards d s) first phase stage
  first_on phase (sent l) h = absurd (spawned h.3)
  first_on phase (reads l) h = absurd (spawned h.3)
  first_on phase (has_marked l end) h = (h.0, h.1, ends_on end h.2)
  first_on phase stages.leaves h = (h.0, h.1, ends_on h.0 h.2)
  first_on phase (counts form) h = (h.0, h.1, ends_on h.0 h.2)
  first_on phase (done end) h = (h.0, h.1, ends_on h.0 h.2)
  first_on phase (runs l u) h = (h.0, run_on phase (runs l u) h.1)
  first_on phase (caught l u) h = (h.0, run_on phase (caught l u) h.1)
  first_on phase (keeps l end) h = (h.0, run_on phase (keeps l end) h.1)
  first_on phase (has_kept l end) h =
      (h.0, run_on phase (has_kept l end) h.1, kept_on (kept_value end) h.2)
  first_on phase (marks l end) h =
      (h.0, run_on phase (marks l end) h.1, kept_on (kept_value end) h.2)
  first_on phase called h = absurd h
  first_on phase asking h = absurd h
  first_on phase (trying form) h = absurd h
  first_on phase (got value) h = absurd h
  first_on phase (refused thrown) h = absurd h
  first_on phase (looking value) h = absurd h
  first_on phase (lost thrown) h = absurd h
