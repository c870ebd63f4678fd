-- What goes on alike where a thread goes on, whoever runs it.
use Rattle.std.proofs.Common.{◌≡◌, ℕ, ◌+◌, List, [], ◌∷◌, ◌++◌, length, Option, Some, None, refl, sym, ap, ◌∙◌, subst, arith, ◌⊎◌, inl, inr}
use Rattle.fort_core.specs.declared.program.Program.{Program}
use Rattle.fort_core.specs.declared.term.Term.{Term}
use Rattle.fort_core.specs.declared.value.Value.{Value}
use Rattle.fort_machine.specs.Cells.{untouched}
use Rattle.fort_machine.specs.Effects.{Store, Effect, afterwards}
use Rattle.fort_machine.specs.Parts.{IsOneOf}
use Rattle.fort_threads.specs.Objects.{objects, NoneTwice}
use Rattle.fort_threads.specs.Threads.{Paths, Phase, new, going, Thread, thread}
use Rattle.fort_threads_law_servers.specs.Prelude.{Names}
use Rattle.fort_threads_law_servers.specs.Stages.{Stage}
use Rattle.fort_threads_law_servers.specs.Roots.{Start}
use Rattle.fort_threads_law_private.specs.Grounds.{Ground}
use Rattle.fort_threads_law_worlds.specs.Worlds.{given, object, World, FollowsAt, AllNew}
use Rattle.fort_threads_law_worlds.specs.Known.{Own}
use Rattle.fort_threads_law_worlds.specs.Queues.{HasQueued}
use Rattle.fort_threads_law_runs.specs.Threads.{thread_spot}
use Rattle.fort_threads_law_trees.specs.Leaves.{Leaf, waiting, running, all_held, owes, owed_in, free_in}
use Rattle.fort_threads_law_whole.specs.Lists.{IsAt}
use Rattle.fort_threads_law_whole.specs.Servers.{IsRunAs, IsKept, IsNew, ServesOne}
use Rattle.fort_threads_law_whole.specs.Roots.{GoAlike}
use Rattle.fort_threads_law_whole.proofs.Numbers.{Which, changed, old, added_one, which, still_apart, moved_in, is_one_at, object_is_one}
use Rattle.fort_threads_law_whole.proofs.ThreadAdded.{each_serves, object_of_added, added_stands}
use Rattle.fort_threads_law_whole.proofs.ThreadHeld.{who_holds}
use Rattle.fort_threads_law_whole.proofs.ThreadKept.{held_stands, kept_stays}
use Rattle.fort_threads_law_whole.proofs.ThreadObjects.{HaveObjects}
use Rattle.fort_threads_law_whole.proofs.ThreadOthers.{run_as_stays, new_stays, serves_on}
use Rattle.fort_threads_law_whole.proofs.ThreadQueue.{one_of_both, in_queue_after, stays_in_queue, added_in_queue, longer_queue, once_after}

-- threads that were added have objects of their own, which no thread had
pub record AreAdded (added now : List Thread) : Type 0 where
  pub all_new : AllNew added
  pub have : HaveObjects added
  pub once : NoneTwice (objects added)
  pub fresh : (l : ℕ) → IsOneOf l (objects added) → IsOneOf l (objects now) → ⊥

-- what a thread goes on as, that goes on still
abbrev pub OldOne : Program → Names → Start → Own → World → List Leaf → ℕ → ℕ → Term → Paths
    → Type 0
OldOne p n m o x servers number l u paths =
    (y : Leaf) × IsOneOf y servers × IsOneOf l (running y.stage)
    × IsRunAs p n m o x number paths u y.stage

-- a thread that has not begun doesn't go on
none_going : (us : List Thread) (l : ℕ) (u : Term) (paths : Paths) → AllNew us
    → IsOneOf (thread (Some l) (going u paths)) us → ⊥
none_going [] l u paths h i = i
none_going (y ∷ us) l u paths h (inl e) =
    let z : going u paths ≡ new h.0.0 = ap (λ (k : Thread). k.phase) e ∙ h.0.1 in cc
none_going (y ∷ us) l u paths h (inr i) = none_going us l u paths h.1 i

module _ (p : Program) (n : Names) (m : Start) (o : Own) (g : Ground) (w x : World) (first : ℕ)
    (stage : Stage) (servers : List Leaf) (rest : ℕ)
    (before behind added : List Thread) (own : Option ℕ) (v next : Term) (asked later : Paths)
    (s t : Store) (d : Effect)
    (alike : GoAlike p n m o g w first stage servers rest
    (before ++ thread own (going v asked) ∷ behind) s t)
    (some : w.unended ≡ 0 → ⊥)
    (fol : FollowsAt (thread_spot (length before)) w x) (queued : HasQueued w x added)
    (are : AreAdded added (before ++ thread own (going v asked) ∷ behind))
    (quiet : (l : ℕ) (f : Value) → w.object l ≡ Some (object f (given None))
    → d.cells (l + 2) ≡ untouched) where
  abbrev Now : List Thread
  Now = before ++ thread own (going v asked) ∷ behind

  abbrev Then : List Thread
  Then = before ++ thread own (going next later) ∷ (behind ++ added)

  is_new : (l : ℕ) → IsNew Now l → IsNew Then l
  is_new l h = new_stays p n m o before behind added own v next asked later fol l h

  added_new : (l : ℕ) → IsOneOf l (objects added) → IsNew Then l
  added_new l i =
      subst (λ us. IsNew us l) (sym (moved_in before behind added (thread own (going next later))))
      (added_stands (before ++ thread own (going next later) ∷ behind) added l are.all_new i)

  -- what is in the queue has not begun
  pub queue_on : (l : ℕ) → IsOneOf l x.queue → IsNew Then l
  queue_on l i = go (in_queue_after added w.queue l (subst (IsOneOf l) queued.0 i))
    where
      go : IsOneOf l (objects added) ⊎ IsOneOf l w.queue → IsNew Then l
      go (inl j) = added_new l j
      go (inr j) = is_new l (alike.queue_new l j)

  pub stays_queued : (l : ℕ) → IsOneOf l w.queue → IsOneOf l x.queue
  stays_queued l i = subst (IsOneOf l) (sym queued.0) (stays_in_queue added w.queue l i)

  -- objects in the queue and at servers are objects of threads
  stood : (l : ℕ) → IsOneOf l (w.queue ++ all_held servers) → IsOneOf l (objects Now)
  stood l i = go (one_of_both l w.queue (all_held servers) i)
    where
      go : IsOneOf l w.queue ⊎ IsOneOf l (all_held servers) → IsOneOf l (objects Now)
      go (inl j) =
          let h = alike.queue_new l j in
          let u = thread (Some l) (new h.1) in
          object_is_one u Now l (is_one_at h.0 u Now h.2) refl
      go (inr j) =
          let q = who_holds servers l j in
          held_stands p n m o w Now q.0.stage l some
          (each_serves p n m o w Now s servers q.0 alike.serve q.1).0 q.2

  pub held_on : NoneTwice (x.queue ++ all_held servers)
  held_on =
      subst (λ ls. NoneTwice (ls ++ all_held servers)) (sym queued.0)
      (once_after added w.queue (all_held servers) alike.held_once are.once
      (λ l i j. are.fresh l i (stood l j)))

  pub objects_on : NoneTwice (objects Then)
  objects_on =
      still_apart before behind added (thread own (going v asked)) (thread own (going next later))
      refl alike.objects_apart are.once (λ l i j. are.fresh l j i)

  -- a server that runs another thread serves on, and what it kept stays
  pub server_on : (y : Leaf) → IsOneOf y servers
      → ((l : ℕ) → IsOneOf l (running y.stage) → own ≡ Some l → ⊥)
      → ServesOne p n m o x Then y.stage × IsKept (afterwards d s) y.stage
  server_on y i other =
      let h = each_serves p n m o w Now s servers y alike.serve i in (
        serves_on p n m o before behind added own v next asked later fol y.stage some other h.0,
        kept_stays alike.stores alike.objects_apart o d quiet y.stage h.0 h.1,
      )

  -- who has not begun waits
  pub new_on : (number l : ℕ) (f : Value) → IsAt number (thread (Some l) (new f)) Then
      → IsOneOf l x.queue ⊎ ((y : Leaf) × IsOneOf y servers × IsOneOf l (waiting y.stage))
  new_on number l f at =
      go (which before behind added (thread own (going v asked)) (thread own (going next later))
      number (thread (Some l) (new f)) at)
    where
      queued_or : IsOneOf l w.queue ⊎ ((y : Leaf) × IsOneOf y servers × IsOneOf l (waiting y.stage))
          → IsOneOf l x.queue ⊎ ((y : Leaf) × IsOneOf y servers × IsOneOf l (waiting y.stage))
      queued_or (inl i) = inl (stays_queued l i)
      queued_or (inr h) = inr h

      go : Which before behind added (thread own (going v asked)) (thread own (going next later))
          number (thread (Some l) (new f))
          → IsOneOf l x.queue ⊎ ((y : Leaf) × IsOneOf y servers × IsOneOf l (waiting y.stage))
      go (changed a b) =
          let z : new f ≡ going next later = ap (λ (u : Thread). u.phase) b in absurd cc
      go (old a b) = queued_or (alike.new_ones number l f b)
      go (added_one a i) =
          inl (subst (IsOneOf l) (sym queued.0) (added_in_queue added w.queue l
          (object_is_one (thread (Some l) (new f)) added l i refl)))

  -- who goes on is the thread, or is run by a server
  pub going_on : (number l : ℕ) (u : Term) (paths : Paths)
      → IsAt number (thread (Some l) (going u paths)) Then
      → ((number ≡ length before)
      × (thread (Some l) (going u paths) ≡ thread own (going next later)))
      ⊎ ((number ≡ length before → ⊥) × IsAt number (thread (Some l) (going u paths)) Now
      × OldOne p n m o x servers number l u paths)
  going_on number l u paths at =
      go (which before behind added (thread own (going v asked)) (thread own (going next later))
      number (thread (Some l) (going u paths)) at)
    where
      go : Which before behind added (thread own (going v asked)) (thread own (going next later))
          number (thread (Some l) (going u paths))
          → ((number ≡ length before)
          × (thread (Some l) (going u paths) ≡ thread own (going next later)))
          ⊎ ((number ≡ length before → ⊥) × IsAt number (thread (Some l) (going u paths)) Now
          × OldOne p n m o x servers number l u paths)
      go (changed a b) = inl (a, b)
      go (old a b) =
          let h = alike.going_ones number l u paths b in
          inr (
            a,
            b,
            (
              h.0,
              h.1,
              h.2,
              run_as_stays p n m o before behind added own v next asked later fol number u paths
                  h.0.stage a h.3,
            ),
          )
      go (added_one a i) = absurd (none_going added l u paths are.all_new i)

  -- no other thread than the first one has no object
  pub first_on : (own ≡ None → length before ≡ 0) → (number : ℕ) (other : Phase)
      → IsAt number (thread None other) Then → number ≡ 0
  first_on it number other at =
      go (which before behind added (thread own (going v asked)) (thread own (going next later))
      number (thread None other) at)
    where
      go : Which before behind added (thread own (going v asked)) (thread own (going next later))
          number (thread None other) → number ≡ 0
      go (changed a b) = a ∙ it (ap (λ (u : Thread). u.object) (sym b))
      go (old a b) = alike.no_other_first number other b
      go (added_one a i) =
          let q = object_of_added added (thread None other) are.have i in
          let z : None ≡ Some q.0 = q.1 in absurd cc

  -- counts
  longer : length x.queue ≡ length added + length w.queue
  longer = ap length queued.0 ∙ longer_queue added w.queue are.have

  pub owed_on : x.unended ≡ owes stage + (length x.queue + owed_in servers)
  owed_on =
      let a = longer in
      let b : w.unended ≡ owes stage + (length w.queue + owed_in servers) = alike.owed in
      let c : x.unended ≡ length added + w.unended = queued.1 in
      omega (arith, a, b, c)

  pub free_on : free_in servers + rest + x.spawned ≡ 64 + length x.queue
  free_on = go alike.free
    where
      go : (w.unended ≡ 0) ⊎ (free_in servers + rest + w.spawned ≡ 64 + length w.queue)
          → free_in servers + rest + x.spawned ≡ 64 + length x.queue
      go (inl e) = absurd (some e)
      go (inr e) =
          let a = longer in
          let c : x.spawned ≡ length added + w.spawned = queued.2 in
          omega (arith, a, e, c)
