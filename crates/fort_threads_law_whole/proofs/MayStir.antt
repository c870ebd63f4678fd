-- A thread doesn't stir where nobody is awake but in one server that runs another thread, or in
-- `go'` that runs thread 0.
use Rattle.std.proofs.Common.{◌≡◌, ℕ, ◌+◌, ◌<◌, ◌≤◌, Bool, true, false, List, [], ◌∷◌, ◌++◌, length, Some, refl, ap, sym, ◌∙◌, subst, arith, ◌⊎◌, inl, inr}
use Rattle.fort_base.specs.declared.ty.Ty.TheVariants.{Named}
use Rattle.fort_core.specs.declared.program.Program.{Program}
use Rattle.fort_core.specs.declared.term.Term.{Term}
use Rattle.fort_core.specs.declared.value.Value.{Value}
use Rattle.fort_machine.specs.Attempts.{Awake}
use Rattle.fort_machine.specs.Effects.{Store}
use Rattle.fort_machine.specs.Ends as ends
use Rattle.fort_machine.specs.Frames.{road}
use Rattle.fort_machine.specs.Parts.{IsOneOf}
use Rattle.fort_machine.specs.Types.{has_type}
use Rattle.fort_threads.specs.Awake.{Stirs}
use Rattle.fort_threads.specs.Awake as threads
use Rattle.fort_threads.specs.Known.{Known}
use Rattle.fort_threads.specs.Threads.{Paths, Phase, new, going, over, Thread, thread}
use Rattle.fort_threads_law_servers.specs.Prelude.{Names, object_of}
use Rattle.fort_threads_law_servers.specs.Roots.{Start, Served, root_term, all}
use Rattle.fort_threads_law_servers.specs.Stages.{End, end_term, Stage, trying, sent, reads, runs, caught, keeps, has_kept, marks, has_marked, counts, done}
use Rattle.fort_threads_law_servers.specs.Stages as stages
use Rattle.fort_threads_law_servers.specs.Trees.{Tree}
use Rattle.fort_threads_law_private.specs.Grounds.{Ground}
use Rattle.fort_threads_law_worlds.specs.Worlds.{World}
use Rattle.fort_threads_law_worlds.specs.Known.{Own}
use Rattle.fort_threads_law_worlds.specs.Stores.{IsQueue}
use Rattle.fort_threads_law_matches.specs.Matches.{Matches}
use Rattle.fort_threads_law_matches.proofs.Awake.{awake_matches}
use Rattle.fort_threads_law_runs.specs.Premises.{IsThreaded}
use Rattle.fort_threads_law_runs.specs.Threads.{thread_spot}
use Rattle.fort_threads_law_trees.specs.Awake.{WatchesQueue, AllWatch}
use Rattle.fort_threads_law_trees.specs.Leaves.{Leaf, leaf, leaves, yet, waiting, running, owes, owed_in, free_in, AreCalm}
use Rattle.fort_threads_law_trees.proofs.Freeing.{free_servers_are_awake, takers_are_awake}
use Rattle.fort_threads_law_trees.proofs.Lifting.{threads_are_awake}
use Rattle.fort_threads_law_whole.specs.Lists.{IsAt}
use Rattle.fort_threads_law_whole.specs.Roots.{GoAlike}
use Rattle.fort_threads_law_whole.specs.Servers.{IsRunAs, ServesOne, AllServeOne, IsFirst}
use Rattle.fort_threads_law_whole.proofs.MayTry.{nobody_in, end_finished}

-- servers whose attempts sleep watch the queue
one_watches : (p : Program) (n : Names) (m : Start) (o : Own) (w : World) (now : List Thread)
    (stage : Stage) → ServesOne p n m o w now stage → WatchesQueue p n stage
one_watches p n m o w now (trying form) h = h
one_watches p n m o w now _ h = tt

all_watch : (p : Program) (n : Names) (m : Start) (o : Own) (w : World) (now : List Thread)
    (s : Store) (xs : List Leaf) → AllServeOne p n m o w now s xs → AllWatch p n xs
all_watch p n m o w now s [] h = tt
all_watch p n m o w now s (x ∷ xs) h =
    (one_watches p n m o w now x.stage h.0, all_watch p n m o w now s xs h.2)

-- a list that has something isn't empty
some_in : (l : ℕ) (ls : List ℕ) → IsOneOf l ls → 0 < length ls
some_in l [] i = absurd i
some_in l (x ∷ ls) i = omega arith

-- Nobody is awake in the whole term at a server that holds an object, but for these objects; nor
-- at a path of the servers' tree that is behind none of a server that runs a thread.
pub record NoOther (s : Store) (whole : Term) (tree : Tree) (mine : ℕ → Type 0) : Type 0 where
  pub apart : (at : List ℕ) (stage : Stage) (l : ℕ) → IsOneOf (leaf at stage) (leaves [] tree)
      → IsOneOf l (waiting stage) ⊎ IsOneOf l (running stage) → (mine l → ⊥) → (rest : List ℕ)
      → Awake s whole (1 ∷ (at ++ rest)) → ⊥
  pub none_free : (path : List ℕ) → Awake s whole (1 ∷ path)
      → ((at q : List ℕ) (l : ℕ) (t : Term) → IsOneOf (leaf at (runs l t)) (leaves [] tree)
      → path ≡ at ++ q → ⊥) → ⊥

module _ (p : Program) (n : Names) (m : Start) (o : Own) (k : Known) (g : Ground)
    (is : IsThreaded p n m o k g) (w : World) (first : ℕ) (a b : Bool) (stage : Stage)
    (tree : Tree) (now : List Thread) (s t : Store)
    (alike : GoAlike p n m o g w first stage (leaves [] tree) (yet tree) now s t)
    (served : Served p n (all first a stage b tree)) (calms : AreCalm tree) where
  abbrev whole : Term
  whole = root_term n m (all first a stage b tree)

  -- what the queue holds first is a thread
  holds_thread : (v : Value) (l : ℕ) (ls : List ℕ) → IsOneOf l ls → IsQueue n s v ls
      → has_type p v (Named n.thread) ≡ true
  holds_thread v l [] i q = absurd i
  holds_thread v l (x ∷ ls) i q =
      subst (λ z. has_type p z (Named n.thread) ≡ true) (sym q.0) (is.are_objects x)

  -- and a server is free then
  free_enough : (l : ℕ) → IsOneOf l w.queue → 0 < free_in (leaves [] tree) + yet tree
  free_enough l i = go alike.free
    where
      go : (w.unended ≡ 0)
          ⊎ (free_in (leaves [] tree) + yet tree + w.spawned ≡ 64 + length w.queue)
          → 0 < free_in (leaves [] tree) + yet tree
      go (inl e) =
          let some = some_in l w.queue i in
          let owed = alike.owed in absurd (omega (arith, e, some, owed))
      go (inr e) =
          let some = some_in l w.queue i in
          let few = alike.stores.few in omega (arith, e, some, few)

  module _ (mine : ℕ → Type 0) (other : NoOther s whole tree mine) where
    -- no thread stands in the queue
    none_queued : (l : ℕ) → IsOneOf l w.queue → ⊥
    none_queued l i =
        let q = alike.stores.queued in
        let f =
        free_servers_are_awake p n m first a b stage tree s q.0 is.prelude served alike.calm.0
        calms (all_watch p n m o w now s (leaves [] tree) alike.serve) q.1
        (holds_thread q.0 l w.queue i q.2) (free_enough l i) in
        other.none_free f.0 f.1 f.2

    -- a thread that has not begun is one of these
    new_stirs : (number l : ℕ) (f : Value) → IsAt number (thread (Some l) (new f)) now
        → (mine l → ⊥) → ⊥
    new_stirs number l f e n_mine = go (alike.new_ones number l f e)
      where
        go : IsOneOf l w.queue
            ⊎ ((x : Leaf) × IsOneOf x (leaves [] tree) × IsOneOf l (waiting x.stage)) → ⊥
        go (inl i) = none_queued l i
        go (inr h) =
            let x = h.0 in
            let r =
            takers_are_awake p n m first a b stage tree s is.prelude served alike.calm.0 calms
            x.path x.stage l h.1 h.2 in
            other.apart x.path x.stage l h.1 (inl h.2) n_mine r.0 r.1

    -- nobody is awake in a thread that another server runs
    run_stirs : (number l : ℕ) (v : Term) (asked : Paths) (at : List ℕ) (x : Stage)
        → IsOneOf (leaf at x) (leaves [] tree) → IsOneOf l (running x)
        → IsRunAs p n m o w number asked v x → (mine l → ⊥) → (path : List ℕ)
        → threads.Awake p k t now v path → ⊥
    run_stirs number l v asked at (runs j u) i r h n_mine path aw =
        let z =
        awake_matches p n m o k w (thread_spot number) asked now s t u v is.same alike.stores h
        path aw in
        other.apart at (runs j u) l i (inr r) n_mine (road z.frames)
        ((threads_are_awake p n m first a b stage tree s served alike.calm.0 calms).1 j u at
        (road z.frames) i
        (record {
          frames = z.frames;
          part = z.part;
          is_term = z.is_term;
          is_path = refl;
          ready = z.ready;
          reached = z.reached;
          sleepless = z.sleepless;
        }))
    run_stirs number l v asked at (caught j x) i r h n_mine path aw =
        nobody_in is.same t now v (ends.Finished.throw x h.0) path aw
    run_stirs number l v asked at (keeps j end) i r h n_mine path aw =
        nobody_in is.same t now v (end_finished v end h.0) path aw
    run_stirs number l v asked at (has_kept j end) i r h n_mine path aw =
        nobody_in is.same t now v (end_finished v end h.0) path aw
    run_stirs number l v asked at (marks j end) i r h n_mine path aw =
        nobody_in is.same t now v (end_finished v end h.0) path aw
    run_stirs number l v asked at _ i r h n_mine path aw = absurd r

    -- so a thread with another object doesn't stir
    pub spawned_stirs : (number l : ℕ) (phase : Phase) → IsAt number (thread (Some l) phase) now
        → (mine l → ⊥) → Stirs p k t now phase → ⊥
    spawned_stirs number l (new f) e n_mine st = new_stirs number l f e n_mine
    spawned_stirs number l (going v asked) e n_mine st =
        let h = alike.going_ones number l v asked e in
        let x = h.0 in
        run_stirs number l v asked x.path x.stage h.1 h.2 h.3 n_mine st.0 st.1
    spawned_stirs number l (over v) e n_mine st = absurd st

  -- nor does thread 0, where nobody is awake in `go'` and a thread was spawned
  module _ (spawned : 0 < w.spawned)
      (no_first : (rest : List ℕ) → Awake s whole (0 ∷ rest) → ⊥) where
    -- where it goes on
    zero_stirs : (phase : Phase) (v : Term) (asked : Paths) (x : Stage) → stage ≡ x
        → phase ≡ going v asked → IsRunAs p n m o w 0 asked v x → Stirs p k t now phase → ⊥
    zero_stirs phase v asked x e q h st =
        go x e h (subst (Stirs p k t now) q st)
      where
        go : (x : Stage) → stage ≡ x → IsRunAs p n m o w 0 asked v x
            → (path : List ℕ) × threads.Awake p k t now v path → ⊥
        go (runs j u) e h aw =
            let z =
            awake_matches p n m o k w (thread_spot 0) asked now s t u v is.same alike.stores h
            aw.0 aw.1 in
            no_first (road z.frames)
            ((threads_are_awake p n m first a b stage tree s served alike.calm.0 calms).0 j u
            (road z.frames) e
            (record {
              frames = z.frames;
              part = z.part;
              is_term = z.is_term;
              is_path = refl;
              ready = z.ready;
              reached = z.reached;
              sleepless = z.sleepless;
            }))
        go (caught j x) e h aw = nobody_in is.same t now v (ends.Finished.throw x h.0) aw.0 aw.1
        go (keeps j end) e h aw = nobody_in is.same t now v (end_finished v end h.0) aw.0 aw.1
        go (has_kept j end) e h aw = nobody_in is.same t now v (end_finished v end h.0) aw.0 aw.1
        go (marks j end) e h aw = nobody_in is.same t now v (end_finished v end h.0) aw.0 aw.1
        go _ e h aw = absurd h

    -- and at each stage of `go'`
    pub first_stirs : (phase : Phase) → IsFirst p n m o w s first phase stage
        → Stirs p k t now phase → ⊥
    first_stirs phase is_first st = go stage refl is_first
      where
        none_yet : w.spawned ≡ 0 → ⊥
        none_yet e = omega (arith, e, spawned)

        is_over : (end : Term) → phase ≡ over end → ⊥
        is_over end e = subst (Stirs p k t now) e st

        go : (x : Stage) → stage ≡ x → IsFirst p n m o w s first phase x → ⊥
        go (sent l) e h = none_yet h.3
        go (reads l) e h = none_yet h.3
        go (has_marked l end) e h = is_over (end_term end) h.1
        go stages.leaves e h = is_over (end_term h.0) h.1
        go (counts form) e h = is_over (end_term h.0) h.1
        go (done x) e h = is_over (end_term h.0) h.1
        go (runs l u) e h =
            let r = h.1 in zero_stirs phase r.0 r.1 (runs l u) e r.2 r.3 st
        go (caught l x) e h =
            let r = h.1 in zero_stirs phase r.0 r.1 (caught l x) e r.2 r.3 st
        go (keeps l end) e h =
            let r = h.1 in zero_stirs phase r.0 r.1 (keeps l end) e r.2 r.3 st
        go (has_kept l end) e h =
            let r = h.1 in zero_stirs phase r.0 r.1 (has_kept l end) e r.2 r.3 st
        go (marks l end) e h =
            let r = h.1 in zero_stirs phase r.0 r.1 (marks l end) e r.2 r.3 st
        go _ e h = absurd h
