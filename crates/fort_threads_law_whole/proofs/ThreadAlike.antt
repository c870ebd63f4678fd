-- All goes on alike where a thread that a server runs goes on.
use Rattle.std.proofs.Common.{◌≡◌, ℕ, ◌+◌, ◌<◌, true, List, [], ◌∷◌, ◌++◌, length, Some, None, sym, ap, ◌∙◌, subst, arith, ◌⊎◌, inl, inr, length-append, suc}
use Rattle.fort_core.specs.declared.program.Program.{Program}
use Rattle.fort_core.specs.declared.term.Term.{Term}
use Rattle.fort_core.specs.declared.value.Value.{Value}
use Rattle.fort_machine.specs.Cells.{untouched}
use Rattle.fort_machine.specs.Effects.{Store, Effect, afterwards}
use Rattle.fort_machine.specs.Parts.{IsOneOf}
use Rattle.fort_threads.specs.Objects.{NoneTwice}
use Rattle.fort_threads.specs.Threads.{Paths, Phase, new, going, Thread, thread}
use Rattle.fort_threads_law_servers.specs.Prelude.{Names}
use Rattle.fort_threads_law_servers.specs.Stages.{Stage, runs}
use Rattle.fort_threads_law_servers.specs.Roots.{Start}
use Rattle.fort_threads_law_private.specs.Grounds.{Ground}
use Rattle.fort_threads_law_private.proofs.Growing.{grows_on}
use Rattle.fort_threads_law_worlds.specs.Worlds.{given, object, World, FollowsAt}
use Rattle.fort_threads_law_worlds.specs.Known.{Own}
use Rattle.fort_threads_law_worlds.specs.Queues.{HasQueued}
use Rattle.fort_threads_law_worlds.specs.Stores.{AreStores}
use Rattle.fort_threads_law_matches.specs.Matches.{Matches}
use Rattle.fort_threads_law_matches.proofs.Follows.{ground_follows}
use Rattle.fort_threads_law_runs.specs.Threads.{thread_spot}
use Rattle.fort_threads_law_trees.specs.Leaves.{Leaf, leaf, waiting, running, held, all_held, owes, owed_in}
use Rattle.fort_threads_law_whole.specs.Lists.{IsAt}
use Rattle.fort_threads_law_whole.specs.Servers.{IsKept, ServesOne, RunsOne}
use Rattle.fort_threads_law_whole.specs.Roots.{GoAlike, AllCalm}
use Rattle.fort_threads_law_whole.proofs.Numbers.{stands_at, same_number}
use Rattle.fort_threads_law_whole.proofs.ThreadAdded.{all_serve}
use Rattle.fort_threads_law_whole.proofs.ThreadFirst as first_thread
use Rattle.fort_threads_law_whole.proofs.ThreadGoes.{AreAdded, OldOne, queue_on, held_on, objects_on, server_on, new_on, going_on, first_on, owed_on, free_on}
use Rattle.fort_threads_law_whole.proofs.ThreadHeld.{same_held, same_owed, same_free, some_owed, behind_once, others_hold_not, WhichLeaf, it_is, another, which_leaf, leaf_stays, leaf_there}
use Rattle.fort_threads_law_whole.proofs.ThreadQueue.{in_second}
use Rattle.fort_threads_law_whole.proofs.ThreadStores.{stores_go_on}

-- thread 0 still stands before all
first_stays : (before ws zs others : List Thread) (u u' : Thread) (phase : Phase)
    → 0 < length before → before ++ u ∷ ws ≡ thread None phase ∷ others
    → (later : List Thread) × (before ++ u' ∷ zs ≡ thread None phase ∷ later)
first_stays [] ws zs others u u' phase h e = absurd (omega (arith, h))
first_stays (y ∷ before) ws zs others u u' phase h e =
    let z : y ∷ (before ++ u ∷ ws) ≡ thread None phase ∷ others = e in
    let same : y ≡ thread None phase = cc in
    (before ++ u' ∷ zs, ap (λ k. k ∷ (before ++ u' ∷ zs)) same)

-- one that runs is calm
calm_on : (path : List ℕ) (l : ℕ) (u v : Term) (xs ys : List Leaf)
    → AllCalm (xs ++ leaf path (runs l u) ∷ ys) → AllCalm (xs ++ leaf path (runs l v) ∷ ys)
calm_on path l u v [] ys h = (tt, h.1)
calm_on path l u v (x ∷ xs) ys h = (h.0, calm_on path l u v xs ys h.1)

module _ (p : Program) (n : Names) (m : Start) (o : Own) (g : Ground) (w x : World) (first : ℕ)
    (stage : Stage) (xs ys : List Leaf) (path : List ℕ) (l : ℕ) (a b : Term) (rest : ℕ)
    (before behind added : List Thread) (v next : Term) (asked later : Paths)
    (s t t' : Store) (d : Effect)
    (alike : GoAlike p n m o g w first stage (xs ++ leaf path (runs l a) ∷ ys) rest
    (before ++ thread (Some l) (going v asked) ∷ behind) s t)
    (fol : FollowsAt (thread_spot (length before)) w x) (queued : HasQueued w x added)
    (are : AreAdded added (before ++ thread (Some l) (going v asked) ∷ behind))
    (quiet : (i : ℕ) (f : Value) → w.object i ≡ Some (object f (given None))
    → d.cells (i + 2) ≡ untouched)
    (lasting : (i : ℕ) → w.lasts i ≡ true → d.cells i ≡ untouched)
    (positive : 0 < length before)
    (match : Matches p n m o x (thread_spot (length before)) later [] b next) where
  abbrev Now : List Thread
  Now = before ++ thread (Some l) (going v asked) ∷ behind

  abbrev Then : List Thread
  Then = before ++ thread (Some l) (going next later) ∷ (behind ++ added)

  abbrev Old : List Leaf
  Old = xs ++ leaf path (runs l a) ∷ ys

  abbrev Later : List Leaf
  Later = xs ++ leaf path (runs l b) ∷ ys

  some : w.unended ≡ 0 → ⊥
  some e =
      let h : 0 < owed_in Old = some_owed path l a b xs ys in
      let q : w.unended ≡ owes stage + (length w.queue + owed_in Old) = alike.owed in
      omega (arith, e, h, q)

  spawned : w.spawned ≡ 0 → ⊥
  spawned e =
      let c : length Now ≡ 1 + w.spawned = alike.stores.standing_count in
      let k : length Now ≡ length before + suc (length behind) =
      length-append before (thread (Some l) (going v asked) ∷ behind) in
      omega (arith, c, k, e, positive)

  runs_on : RunsOne p n m o x Then l (runs l b)
  runs_on = (
    length before,
    next,
    later,
    stands_at before (behind ++ added) (thread (Some l) (going next later)),
    positive,
    match,
  )

  serves : (y : Leaf) → IsOneOf y Later
      → ServesOne p n m o x Then y.stage × IsKept (afterwards d s) y.stage
  serves y i = go (which_leaf xs ys y (leaf path (runs l b)) i)
    where
      apart : IsOneOf y xs ⊎ IsOneOf y ys → (k : ℕ) → IsOneOf k (running y.stage)
          → Some l ≡ Some k → ⊥
      apart j k r e =
          let same : k ≡ l = cc in
          others_hold_not path l a xs ys y (behind_once w.queue (all_held Old) alike.held_once) j
          (subst (λ z. IsOneOf z (held y.stage)) same
          (in_second k (waiting y.stage) (running y.stage) r))

      go : WhichLeaf xs ys y (leaf path (runs l b))
          → ServesOne p n m o x Then y.stage × IsKept (afterwards d s) y.stage
      go (it_is e) =
          subst (λ (z : Leaf). ServesOne p n m o x Then z.stage × IsKept (afterwards d s) z.stage)
          (sym e) (runs_on, tt)
      go (another j) =
          server_on p n m o g w x first stage Old rest before behind added (Some l) v next asked
          later s t d alike some fol queued are quiet y
          (leaf_stays xs ys y (leaf path (runs l a)) j)
          (apart j)

  news : (number k : ℕ) (f : Value) → IsAt number (thread (Some k) (new f)) Then
      → IsOneOf k x.queue ⊎ ((y : Leaf) × IsOneOf y Later × IsOneOf k (waiting y.stage))
  news number k f at =
      go (new_on p n m o g w x first stage Old rest before behind added (Some l) v next asked later
      s t d alike some fol queued are quiet number k f at)
    where
      at_leaf : (y : Leaf) → IsOneOf k (waiting y.stage) → WhichLeaf xs ys y (leaf path (runs l a))
          → IsOneOf k x.queue ⊎ ((y : Leaf) × IsOneOf y Later × IsOneOf k (waiting y.stage))
      at_leaf y i (it_is e) = absurd (subst (λ (z : Leaf). IsOneOf k (waiting z.stage)) e i)
      at_leaf y i (another j) = inr (y, leaf_stays xs ys y (leaf path (runs l b)) j, i)

      go : IsOneOf k x.queue ⊎ ((y : Leaf) × IsOneOf y Old × IsOneOf k (waiting y.stage))
          → IsOneOf k x.queue ⊎ ((y : Leaf) × IsOneOf y Later × IsOneOf k (waiting y.stage))
      go (inl i) = inl i
      go (inr q) = at_leaf q.0 q.2 (which_leaf xs ys q.0 (leaf path (runs l a)) q.1)

  goings : (number k : ℕ) (u : Term) (paths : Paths)
      → IsAt number (thread (Some k) (going u paths)) Then → OldOne p n m o x Later number k u paths
  goings number k u paths at =
      go (going_on p n m o g w x first stage Old rest before behind added (Some l) v next asked
      later s t d alike some fol queued are quiet number k u paths at)
    where
      it : number ≡ length before → k ≡ l → u ≡ next → paths ≡ later
          → OldOne p n m o x Later number k u paths
      it e1 e2 e3 e4 = (
        leaf path (runs l b),
        leaf_there xs ys (leaf path (runs l b)),
        inl e2,
        subst (λ (z : ℕ). Matches p n m o x (thread_spot z) paths [] b u) (sym e1)
            (subst (λ (z : Term). Matches p n m o x (thread_spot (length before)) paths [] b z)
            (sym e3)
            (subst (λ (z : Paths). Matches p n m o x (thread_spot (length before)) z [] b next)
            (sym e4) match)),
      )

      at_leaf : (number ≡ length before → ⊥) → IsAt number (thread (Some k) (going u paths)) Now
          → (q : OldOne p n m o x Old number k u paths)
          → WhichLeaf xs ys q.0 (leaf path (runs l a)) → OldOne p n m o x Later number k u paths
      at_leaf ne at q (it_is e) =
          let i : IsOneOf k (l ∷ []) =
          subst (λ (z : Leaf). IsOneOf k (running z.stage)) e q.2 in
          absurd (ne (same_number Now number (length before) l (going u paths) (going v asked)
          alike.objects_apart (subst (λ z. IsAt number (thread (Some z) (going u paths)) Now)
          (the_one i) at)
          (stands_at before behind (thread (Some l) (going v asked)))))
        where
          the_one : IsOneOf k (l ∷ []) → k ≡ l
          the_one (inl z) = z
          the_one (inr z) = absurd z
      at_leaf ne at q (another j) =
          (q.0, leaf_stays xs ys q.0 (leaf path (runs l b)) j, q.2, q.3)

      go : ((number ≡ length before)
          × (thread (Some k) (going u paths) ≡ thread (Some l) (going next later)))
          ⊎ ((number ≡ length before → ⊥) × IsAt number (thread (Some k) (going u paths)) Now
          × OldOne p n m o x Old number k u paths)
          → OldOne p n m o x Later number k u paths
      go (inl q) =
          let e : Some k ≡ Some l = ap (λ (z : Thread). z.object) q.1 in
          let f : going u paths ≡ going next later = ap (λ (z : Thread). z.phase) q.1 in
          let e2 : k ≡ l = cc in
          let e3 : u ≡ next = cc in
          let e4 : paths ≡ later = cc in
          it q.0 e2 e3 e4
      go (inr q) = at_leaf q.0 q.1 q.2 (which_leaf xs ys q.2.0 (leaf path (runs l a)) q.2.1)

  pub served_alike : AreStores p n m x (Now ++ added) (afterwards d s) t'
      → GoAlike p n m o g x first stage Later rest Then (afterwards d s) t'
  served_alike h =
      let all = first_stays before behind (behind ++ added) alike.others
      (thread (Some l) (going v asked)) (thread (Some l) (going next later)) alike.phase positive
      alike.are_all in
      record {
        grown = grows_on alike.grown (ground_follows fol);
        stores = stores_go_on (Some l) v next asked later before behind added h;
        phase = alike.phase;
        others = all.0;
        are_all = all.1;
        is_first = first_thread.first_on p n m o before behind added (Some l) v next asked later fol
            d s first (λ place lt. lasting (first + place) (alike.first_lasts place lt).0) positive
            spawned alike.phase stage alike.is_first;
        first_lasts = λ place lt.
            let q = alike.first_lasts place lt in (
              fol.lasting (first + place) ∙ q.0,
              (
                q.1.0,
                first_thread.lasts_on d s (first + place) q.1.0 (lasting (first + place) q.0) q.1.1,
              ),
            );
        calm = (alike.calm.0, calm_on path l a b xs ys alike.calm.1);
        serve = all_serve p n m o x Then (afterwards d s) Later serves;
        queue_new = queue_on p n m o g w x first stage Old rest before behind added (Some l) v next
            asked later s t d alike some fol queued are quiet;
        held_once = subst (λ ls. NoneTwice (x.queue ++ ls)) (same_held path l a b xs ys)
            (held_on p n m o g w x first stage Old rest before behind added (Some l) v next
            asked later s t d alike some fol queued are quiet);
        objects_apart = objects_on p n m o g w x first stage Old rest before behind added (Some l) v
            next asked later s t d alike some fol queued are quiet;
        new_ones = news;
        going_ones = goings;
        no_other_first = first_on p n m o g w x first stage Old rest before behind added (Some l) v
            next asked later s t d alike some fol queued are quiet
            (λ e. let z : Some l ≡ None = e in absurd cc);
        owed = owed_on p n m o g w x first stage Old rest before behind added (Some l) v next asked
            later s t d alike some fol queued are quiet
            ∙ ap (λ z. owes stage + (length x.queue + z)) (same_owed path l a b xs ys);
        free = inr (ap (λ z. z + rest + x.spawned) (sym (same_free path l a b xs ys))
            ∙ free_on p n m o g w x first stage Old rest before behind added (Some l) v next asked
            later s t d alike some fol queued are quiet);
      }
