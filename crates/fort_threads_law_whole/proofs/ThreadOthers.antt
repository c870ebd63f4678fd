-- Where a thread goes on, the others stand as they stood, and match as they matched.
use Rattle.std.proofs.Common.{◌≡◌, ℕ, ◌+◌, List, [], ◌∷◌, ◌++◌, length, Option, Some, refl, ap, subst, inl, inr}
use Rattle.fort_core.specs.declared.program.Program.{Program}
use Rattle.fort_core.specs.declared.term.Term.{Term}
use Rattle.fort_core.specs.declared.value.Value.{Value}
use Rattle.fort_machine.specs.Parts.{IsOneOf}
use Rattle.fort_threads.specs.Threads.{Paths, Phase, new, going, Thread, thread}
use Rattle.fort_threads_law_servers.specs.Prelude.{Names}
use Rattle.fort_threads_law_servers.specs.Stages.{Stage, called, asking, trying, got, refused, looking, sent, reads, runs, caught, lost, keeps, has_kept, marks, has_marked, counts, done}
use Rattle.fort_threads_law_servers.specs.Stages as stages
use Rattle.fort_threads_law_servers.specs.Roots.{Start}
use Rattle.fort_threads_law_private.proofs.Growing.{value_grows}
use Rattle.fort_threads_law_worlds.specs.Worlds.{Spot, IsAtOrIn, World, FollowsAt}
use Rattle.fort_threads_law_worlds.specs.Known.{Own}
use Rattle.fort_threads_law_matches.proofs.Follows.{ground_follows, come_follows, elsewhere_follow}
use Rattle.fort_threads_law_runs.specs.Threads.{thread_spot}
use Rattle.fort_threads_law_trees.specs.Leaves.{running}
use Rattle.fort_threads_law_whole.specs.Lists.{IsAt}
use Rattle.fort_threads_law_whole.specs.Servers.{IsRunAs, RunsOne, IsNew, IsNewOrNone, ServesOne}
use Rattle.fort_threads_law_whole.proofs.Numbers.{one_at, stands_at, stays_before}

-- what happens to a thread isn't at another one
pub threads_apart : (i j : ℕ) → (j ≡ i → ⊥) → (r : List ℕ)
    → IsAtOrIn (thread_spot i) (r ∷ thread_spot j) → ⊥
threads_apart i j other r k = go k.0 k.1
  where
    go : (ways : Spot) → r ∷ (j ∷ []) ∷ [] ≡ ways ++ (i ∷ []) ∷ [] → ⊥
    go [] e = let z : r ∷ (j ∷ []) ∷ [] ≡ (i ∷ []) ∷ [] = e in absurd cc
    go (a ∷ []) e = let z : r ∷ (j ∷ []) ∷ [] ≡ a ∷ (i ∷ []) ∷ [] = e in other cc
    go (a ∷ b ∷ []) e =
        let z : r ∷ (j ∷ []) ∷ [] ≡ a ∷ b ∷ (i ∷ []) ∷ [] = e in absurd cc
    go (a ∷ b ∷ c ∷ cs) e =
        let z : r ∷ (j ∷ []) ∷ [] ≡ a ∷ b ∷ c ∷ (cs ++ (i ∷ []) ∷ []) = e in absurd cc

going_not_new : (object other : Option ℕ) (v : Term) (asked : Paths) (f : Value)
    → thread object (going v asked) ≡ thread other (new f) → ⊥
going_not_new object other v asked f e =
    let z : going v asked ≡ new f = ap (λ (x : Thread). x.phase) e in absurd cc

module _ {w x : World} (p : Program) (n : Names) (m : Start) (o : Own)
    (before behind added : List Thread) (object : Option ℕ) (v next : Term) (asked later : Paths)
    (fol : FollowsAt (thread_spot (length before)) w x) where
  abbrev pub Now : List Thread
  Now = before ++ thread object (going v asked) ∷ behind

  abbrev pub Then : List Thread
  Then = before ++ thread object (going next later) ∷ (behind ++ added)

  -- another thread stays where it is
  pub other_stays : (number : ℕ) (u : Thread) → (number ≡ length before → ⊥)
      → IsAt number u Now → IsAt number u Then
  other_stays number u other at =
      stays_before before behind added (thread object (going v asked))
      (thread object (going next later)) number u other at

  pub it_stands : IsAt (length before) (thread object (going v asked)) Now
  it_stands = stands_at before behind (thread object (going v asked))

  -- whoever stands at the thread's number is the thread
  pub it_is_it : (number : ℕ) (u : Thread) → number ≡ length before → IsAt number u Now
      → thread object (going v asked) ≡ u
  it_is_it number u e at =
      one_at (length before) (thread object (going v asked)) u Now it_stands
      (subst (λ i. IsAt i u Now) e at)

  -- one that has not begun stays so
  pub new_stays : (l : ℕ) → IsNew Now l → IsNew Then l
  new_stays l h = (
    h.0,
    h.1,
    other_stays h.0 (thread (Some l) (new h.1))
        (λ e. going_not_new object (Some l) v asked h.1
        (it_is_it h.0 (thread (Some l) (new h.1)) e h.2)) h.2,
  )

  -- one that is run matches as before
  pub run_as_stays : (number : ℕ) (u : Term) (paths : Paths) (stage : Stage)
      → (number ≡ length before → ⊥) → IsRunAs p n m o w number paths u stage
      → IsRunAs p n m o x number paths u stage
  run_as_stays number u paths (runs l t) other h =
      elsewhere_follow (thread_spot (length before)) [] fol
      (threads_apart (length before) number other) h
  run_as_stays number u paths (caught l thrown) other h =
      (h.0, h.1, value_grows h.2 (ground_follows fol))
  run_as_stays number u paths (keeps l end) other h =
      (h.0, h.1, value_grows h.2 (ground_follows fol))
  run_as_stays number u paths (has_kept l end) other h =
      (h.0, h.1, value_grows h.2 (ground_follows fol))
  run_as_stays number u paths (marks l end) other h =
      (h.0, h.1, value_grows h.2 (ground_follows fol))
  run_as_stays number u paths _ other h = absurd h

  -- another object's thread has another number
  pub other_number : (l number : ℕ) (phase : Phase) → (object ≡ Some l → ⊥)
      → IsAt number (thread (Some l) phase) Now → number ≡ length before → ⊥
  other_number l number phase other at e =
      other (ap (λ (u : Thread). u.object) (it_is_it number (thread (Some l) phase) e at))

  one_stays : (l : ℕ) (stage : Stage) → (object ≡ Some l → ⊥)
      → RunsOne p n m o w Now l stage → RunsOne p n m o x Then l stage
  one_stays l stage other h =
      let number = h.0 in
      let u = thread (Some l) (going h.1 h.2) in
      let apart = other_number l number (going h.1 h.2) other h.3 in (
        number,
        h.1,
        h.2,
        other_stays number u apart h.3,
        h.4,
        run_as_stays number h.1 h.2 stage apart h.5,
      )

  new_or_none : (value : Value) → (w.unended ≡ 0 → ⊥) → IsNewOrNone p n w Now value
      → IsNewOrNone p n x Then value
  new_or_none value some (inl h) = inl (h.0, h.1, new_stays h.0 h.2, h.3)
  new_or_none value some (inr h) = absurd (some h.1)

  -- a server that runs another thread serves as before
  pub serves_on : (stage : Stage) → (w.unended ≡ 0 → ⊥)
      → ((l : ℕ) → IsOneOf l (running stage) → object ≡ Some l → ⊥)
      → ServesOne p n m o w Now stage → ServesOne p n m o x Then stage
  serves_on (got value) some other h = new_or_none value some h
  serves_on (looking value) some other h = new_or_none value some h
  serves_on (sent l) some other h = new_stays l h
  serves_on (reads l) some other h = new_stays l h
  serves_on (runs l u) some other h = one_stays l (runs l u) (other l (inl refl)) h
  serves_on (caught l u) some other h = one_stays l (caught l u) (other l (inl refl)) h
  serves_on (keeps l end) some other h = one_stays l (keeps l end) (other l (inl refl)) h
  serves_on (has_kept l end) some other h = one_stays l (has_kept l end) (other l (inl refl)) h
  serves_on (marks l end) some other h = one_stays l (marks l end) (other l (inl refl)) h
  serves_on (has_marked l end) some other h = come_follows fol l end h
  serves_on called some other h = h
  serves_on asking some other h = h
  serves_on (trying form) some other h = h
  serves_on (refused thrown) some other h = h
  serves_on (lost thrown) some other h = h
  serves_on stages.leaves some other h = h
  serves_on (counts form) some other h = h
  serves_on (done end) some other h = h
