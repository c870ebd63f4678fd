-- Servers and thread 0 in a later world: what is said of them stays.
use Rattle.std.proofs.Common.{◌≡◌, ℕ, ◌+◌, ◌<◌, List, [], ◌∷◌, ◌++◌, length, length-append, Some, refl, ap, sym, ◌∙◌, subst, arith, inl, inr, ◌⊎◌}
use Rattle.fort_core.specs.declared.program.Program.{Program}
use Rattle.fort_core.specs.declared.term.Term.{Term}
use Rattle.fort_core.specs.declared.value.Value.{Value, out-Value}
use Rattle.fort_core.specs.declared.value.Value.TheVariants.{outs-Object}
use Rattle.fort_machine.specs.Effects.{Store}
use Rattle.fort_machine.specs.Parts.{IsOneOf}
use Rattle.fort_machine.specs.Runs.{location}
use Rattle.fort_threads.specs.Threads.{Paths, Phase, new, going, Thread, thread}
use Rattle.fort_threads_law_servers.specs.Prelude.{Names, object_of}
use Rattle.fort_threads_law_servers.specs.Stages.{End, Stage, called, asking, trying, got, refused, looking, sent, reads, runs, caught, lost, keeps, has_kept, marks, has_marked, counts, done}
use Rattle.fort_threads_law_servers.specs.Stages as stages
use Rattle.fort_threads_law_servers.specs.Roots.{Start}
use Rattle.fort_threads_law_worlds.specs.Worlds.{Spot, IsAtOrIn, World, FollowsAt}
use Rattle.fort_threads_law_private.proofs.Growing.{value_grows}
use Rattle.fort_threads_law_worlds.specs.Known.{Own}
use Rattle.fort_threads_law_worlds.proofs.Following.{grounds_grow}
use Rattle.fort_threads_law_matches.proofs.Follows.{come_follows, elsewhere_follow}
use Rattle.fort_threads_law_runs.specs.Threads.{thread_spot}
use Rattle.fort_threads_law_trees.specs.Leaves.{object_in, held}
use Rattle.fort_threads_law_whole.specs.Lists.{IsAt}
use Rattle.fort_threads_law_whole.specs.Servers.{IsRunAs, IsKept, RunsOne, IsNew, IsNewOrNone, ServesOne, HasEnd, IsFirst}

-- a spot at which no thread stands
abbrev pub far : Spot
far = [] ∷ [] ∷ [] ∷ []

pub far_apart : (number : ℕ) (r : List ℕ) → IsAtOrIn far (r ∷ thread_spot number) → ⊥
far_apart number r k =
    let e : 2 ≡ length k.0 + 3 = ap length k.1 ∙ length-append k.0 far in
    absurd (omega (arith, e))

-- the object of a value
pub object_is_in : (n : Names) (v : Value) (l : ℕ) → v ≡ object_of n l
    → object_in (out-Value v) ≡ l ∷ []
object_is_in n v l e = ap object_in (ap out-Value e ∙ outs-Object n.thread (location l))

-- threads with some objects stand as before
abbrev pub Stay : List Thread → List Thread → List ℕ → Type 0
Stay now later ls =
    (l : ℕ) → IsOneOf l ls → (number : ℕ) (phase : Phase)
    → IsAt number (thread (Some l) phase) now → IsAt number (thread (Some l) phase) later

module _ {w x : World} (fol : FollowsAt far w x) (p : Program) (n : Names) (m : Start) (o : Own)
  where
    pub run_follows : (number : ℕ) (asked : Paths) (v : Term) (stage : Stage)
        → IsRunAs p n m o w number asked v stage → IsRunAs p n m o x number asked v stage
    run_follows number asked v (runs l u) h = elsewhere_follow far [] fol (far_apart number) h
    run_follows number asked v (caught l y) h = (h.0, h.1, value_grows h.2 (grounds_grow fol))
    run_follows number asked v (keeps l end) h = (h.0, h.1, value_grows h.2 (grounds_grow fol))
    run_follows number asked v (has_kept l end) h = (h.0, h.1, value_grows h.2 (grounds_grow fol))
    run_follows number asked v (marks l end) h = (h.0, h.1, value_grows h.2 (grounds_grow fol))
    run_follows number asked v _ h = absurd h

    runs_follow : (now later : List Thread) (l : ℕ) (stage : Stage) → Stay now later (l ∷ [])
        → RunsOne p n m o w now l stage → RunsOne p n m o x later l stage
    runs_follow now later l stage stay h = (
      h.0,
      h.1,
      h.2,
      stay l (inl refl) h.0 (going h.1 h.2) h.3,
      h.4,
      run_follows h.0 h.2 h.1 stage h.5,
    )

    pub is_new_follows : (now later : List Thread) (l : ℕ) → Stay now later (l ∷ []) → IsNew now l
        → IsNew later l
    is_new_follows now later l stay h = (h.0, h.1, stay l (inl refl) h.0 (new h.1) h.2)

    new_follows : (now later : List Thread) (v : Value) → (w.unended ≡ 0 → x.unended ≡ 0)
        → Stay now later (object_in (out-Value v) ++ []) → IsNewOrNone p n w now v
        → IsNewOrNone p n x later v
    new_follows now later v none stay (inl h) =
        inl (
          h.0,
          h.1,
          is_new_follows now later h.0
              (subst (λ ls. Stay now later (ls ++ [])) (object_is_in n v h.0 h.1) stay) h.2,
          h.3,
        )
    new_follows now later v none stay (inr h) = inr (h.0, none h.1)

    pub serve_follows : (now later : List Thread) (stage : Stage) → (w.unended ≡ 0 → x.unended ≡ 0)
        → Stay now later (held stage) → ServesOne p n m o w now stage
        → ServesOne p n m o x later stage
    serve_follows now later (got v) none stay h = new_follows now later v none stay h
    serve_follows now later (looking v) none stay h = new_follows now later v none stay h
    serve_follows now later (sent l) none stay h = is_new_follows now later l stay h
    serve_follows now later (reads l) none stay h = is_new_follows now later l stay h
    serve_follows now later (runs l u) none stay h = runs_follow now later l (runs l u) stay h
    serve_follows now later (caught l v) none stay h = runs_follow now later l (caught l v) stay h
    serve_follows now later (keeps l end) none stay h = runs_follow now later l (keeps l end) stay h
    serve_follows now later (has_kept l end) none stay h =
        runs_follow now later l (has_kept l end) stay h
    serve_follows now later (marks l end) none stay h = runs_follow now later l (marks l end) stay h
    serve_follows now later (has_marked l end) none stay h = come_follows fol l end h
    serve_follows now later _ none stay h = h

    -- thread 0, where its object is as before
    module _ (s q : Store) (first : ℕ) (same_spawned : x.spawned ≡ w.spawned)
        (same : (place : ℕ) → place < 4 → q (first + place) ≡ s (first + place)) where
      at_first : first + 0 ≡ first
      at_first = omega arith

      function_stays : q first ≡ s first
      function_stays = subst (λ l. q l ≡ s l) at_first (same 0 (omega arith))

      end_follows : (end : End) → HasEnd p n s first end → HasEnd p n q first end
      end_follows end h = (same 1 (omega arith) ∙ h.0, same 2 (omega arith) ∙ h.1, h.2)

      pub first_follows : (phase : Phase) (stage : Stage) → IsFirst p n m o w s first phase stage
          → IsFirst p n m o x q first phase stage
      first_follows phase (sent l) h = (h.0, h.1, function_stays ∙ h.2, same_spawned ∙ h.3)
      first_follows phase (reads l) h = (h.0, h.1, function_stays ∙ h.2, same_spawned ∙ h.3)
      first_follows phase (has_marked l end) h = (h.0, h.1, end_follows end h.2)
      first_follows phase stages.leaves h = (h.0, h.1, end_follows h.0 h.2)
      first_follows phase (counts form) h = (h.0, h.1, end_follows h.0 h.2)
      first_follows phase (done t) h = (h.0, h.1, end_follows h.0 h.2)
      first_follows phase (runs l u) h =
          (h.0, (h.1.0, h.1.1, h.1.2, run_follows 0 h.1.1 h.1.0 (runs l u) h.1.3))
      first_follows phase (caught l y) h =
          (h.0, (h.1.0, h.1.1, h.1.2, run_follows 0 h.1.1 h.1.0 (caught l y) h.1.3))
      first_follows phase (keeps l end) h =
          (h.0, (h.1.0, h.1.1, h.1.2, run_follows 0 h.1.1 h.1.0 (keeps l end) h.1.3))
      first_follows phase (has_kept l end) h = (
        h.0,
        (h.1.0, h.1.1, h.1.2, run_follows 0 h.1.1 h.1.0 (has_kept l end) h.1.3),
        same 2 (omega arith) ∙ h.2,
      )
      first_follows phase (marks l end) h = (
        h.0,
        (h.1.0, h.1.1, h.1.2, run_follows 0 h.1.1 h.1.0 (marks l end) h.1.3),
        same 2 (omega arith) ∙ h.2,
      )
      first_follows phase _ h = absurd h
