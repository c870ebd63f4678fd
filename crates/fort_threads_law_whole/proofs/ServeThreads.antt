-- All goes on alike where one server goes on, and its thread begins or ends.
use Rattle.std.proofs.Common.{◌≡◌, ℕ, ◌+◌, ◌<◌, ◌≤◌, ◌==◌, Bool, true, false, List, [], ◌∷◌, ◌++◌, length, Option, Some, None, refl, ap, sym, ◌∙◌, subst, arith, rules, inl, inr, ◌⊎◌}
use Rattle.fort_core.specs.declared.program.Program.{Program}
use Rattle.fort_core.specs.declared.term.Term.{Term}
use Rattle.fort_core.specs.declared.value.Value.{Value}
use Rattle.fort_machine.specs.Effects.{Store}
use Rattle.fort_machine.specs.Parts.{IsOneOf}
use Rattle.fort_threads.specs.Objects.{objects, NoneTwice}
use Rattle.fort_threads.specs.Threads.{Paths, Phase, new, going, Thread, thread}
use Rattle.fort_threads_law_servers.specs.Prelude.{Names}
use Rattle.fort_threads_law_servers.specs.Stages.{Stage}
use Rattle.fort_threads_law_servers.specs.Roots.{Start}
use Rattle.fort_threads_law_private.specs.Grounds.{Ground}
use Rattle.fort_threads_law_private.proofs.Growing.{grows_on}
use Rattle.fort_threads_law_worlds.specs.Worlds.{World, FollowsAt}
use Rattle.fort_threads_law_worlds.specs.Known.{Own}
use Rattle.fort_threads_law_worlds.specs.Stores.{AreStores}
use Rattle.fort_threads_law_worlds.proofs.Following.{grounds_grow}
use Rattle.fort_threads_law_trees.specs.Leaves.{Leaf, leaf, waiting, running, held, all_held, owes, is_free, owed_in, free_in, IsCalm}
use Rattle.fort_threads_law_whole.specs.Lists.{IsAt}
use Rattle.fort_threads_law_whole.specs.Roots.{GoAlike}
use Rattle.fort_threads_law_whole.specs.Servers.{IsRunAs, IsKept, IsNew, ServesOne}
use Rattle.fort_threads_law_whole.proofs.Numbers.{stands_at, one_at, stays_at, same_objects, same_number}
use Rattle.fort_threads_law_whole.proofs.ServeLists.{one_of_split, other_in, itself_in, calm_changed, serve_changed, held_alone, owed_split, free_split}
use Rattle.fort_threads_law_whole.proofs.ServeFollows.{far, Stay, run_follows, is_new_follows, serve_follows, first_follows}

pub same_or_not : (a b : ℕ) → (a ≡ b) ⊎ (a ≡ b → ⊥)
same_or_not a b = go (a == b) refl
  where
    go : (c : Bool) → (a == b) ≡ c → (a ≡ b) ⊎ (a ≡ b → ⊥)
    go true e = let z : a ≡ b = search (rules, e) in inl z
    go false e =
        inr (λ f.
        let c : (a == b) ≡ true = search (rules, f) in
        let z : true ≡ false = sym c ∙ e in absurd cc)

-- thread 0 stands first, as it did
pub first_stays : (before behind : List Thread) (l : ℕ) (a b phase : Phase) (others : List Thread)
    → before ++ thread (Some l) a ∷ behind ≡ thread None phase ∷ others
    → (more : List Thread) × (before ++ thread (Some l) b ∷ behind ≡ thread None phase ∷ more)
first_stays [] behind l a b phase others e =
    let c : thread (Some l) a ≡ thread None phase = cc in
    let z : Some l ≡ None = ap (λ (y : Thread). y.object) c in absurd cc
first_stays (u ∷ us) behind l a b phase others e =
    let c : u ≡ thread None phase = cc in
    (us ++ thread (Some l) b ∷ behind, ap (λ y. y ∷ (us ++ thread (Some l) b ∷ behind)) c)

-- threads with other objects stay
pub stays_but : (before behind : List Thread) (l : ℕ) (a b : Phase) (number : ℕ) (u : Thread)
    → (u.object ≡ Some l → ⊥) → IsAt number u (before ++ thread (Some l) a ∷ behind)
    → IsAt number u (before ++ thread (Some l) b ∷ behind)
stays_but before behind l a b number u other at =
    stays_at before behind (thread (Some l) a) (thread (Some l) b) number u not_it at
  where
    not_it : number ≡ length before → ⊥
    not_it e =
        other (ap (λ (y : Thread). y.object)
        (one_at (length before) u (thread (Some l) a) (before ++ thread (Some l) a ∷ behind)
        (subst (λ i. IsAt i u (before ++ thread (Some l) a ∷ behind)) e at)
        (stands_at before behind (thread (Some l) a))))

other_object : (i l : ℕ) (phase : Phase) → (i ≡ l → ⊥) → (thread (Some i) phase).object ≡ Some l → ⊥
other_object i l phase k e = let z : Some i ≡ Some l = e in let c : i ≡ l = cc in k c

module _ (p : Program) (n : Names) (m : Start) (o : Own) (g : Ground) (w x : World) (first : ℕ)
    (stage : Stage) (xs ys : List Leaf) (path : List ℕ) (old next : Stage) (rest : ℕ)
    (before behind : List Thread) (l : ℕ) (a b : Phase) (s q t : Store)
    (all : GoAlike p n m o g w first stage (xs ++ leaf path old ∷ ys) rest
    (before ++ thread (Some l) a ∷ behind) s t)
    (fol : FollowsAt far w x) (same_spawned : x.spawned ≡ w.spawned)
    (same_queue : x.queue ≡ w.queue) (same_unended : x.unended ≡ w.unended)
    (stores : AreStores p n m x (before ++ thread (Some l) b ∷ behind) q t)
    (firsts : (place : ℕ) → place < 4 → q (first + place) ≡ s (first + place))
    (calm : IsCalm next)
    (serves : ServesOne p n m o x (before ++ thread (Some l) b ∷ behind) next) (kept : IsKept q next)
    (others : (y : Leaf) → IsOneOf y xs ⊎ IsOneOf y ys
    → ServesOne p n m o w (before ++ thread (Some l) a ∷ behind) y.stage → IsKept s y.stage
    → IsKept q y.stage)
    (holds : held old ≡ l ∷ []) (waits : (i : ℕ) → IsOneOf i (waiting old) → i ≡ l)
    (ran : (i : ℕ) → IsOneOf i (running old) → i ≡ l)
    (once : NoneTwice (w.queue ++ all_held (xs ++ leaf path next ∷ ys)))
    (not_new : (f : Value) → new f ≡ b → ⊥)
    (run_now : (v : Term) (asked : Paths) → going v asked ≡ b
    → IsOneOf l (running next) × IsRunAs p n m o x (length before) asked v next)
    (owe : owes next ≡ owes old) (frees : is_free next ≡ is_free old) where
  abbrev now : List Thread
  now = before ++ thread (Some l) a ∷ behind

  abbrev later : List Thread
  later = before ++ thread (Some l) b ∷ behind

  abbrev were : List Leaf
  were = xs ++ leaf path old ∷ ys

  abbrev are : List Leaf
  are = xs ++ leaf path next ∷ ys

  apart : (IsOneOf l w.queue → ⊥)
      × ((y : Leaf) → IsOneOf y xs ⊎ IsOneOf y ys → IsOneOf l (held y.stage) → ⊥)
  apart = held_alone w.queue xs ys (leaf path old) l holds all.held_once

  stays : (i : ℕ) (number : ℕ) (phase : Phase) → (i ≡ l → ⊥)
      → IsAt number (thread (Some i) phase) now → IsAt number (thread (Some i) phase) later
  stays i number phase k at =
      stays_but before behind l a b number (thread (Some i) phase) (other_object i l phase k) at

  back : (i : ℕ) (number : ℕ) (phase : Phase) → (i ≡ l → ⊥)
      → IsAt number (thread (Some i) phase) later → IsAt number (thread (Some i) phase) now
  back i number phase k at =
      stays_but before behind l b a number (thread (Some i) phase) (other_object i l phase k) at

  stay_all : (ls : List ℕ) → (IsOneOf l ls → ⊥) → Stay now later ls
  stay_all ls k i j number phase at =
      stays i number phase (λ e. k (subst (λ c. IsOneOf c ls) e j)) at

  objects_same : objects later ≡ objects now
  objects_same = same_objects before behind (thread (Some l) a) (thread (Some l) b) refl

  once_later : NoneTwice (objects later)
  once_later = subst NoneTwice (sym objects_same) all.objects_apart

  -- the thread with this object is the one that was changed
  is_changed : (number : ℕ) (phase : Phase) → IsAt number (thread (Some l) phase) later
      → (number ≡ length before) × (phase ≡ b)
  is_changed number phase at = (e, ap (λ (y : Thread). y.phase) f)
    where
      e : number ≡ length before
      e =
          same_number later number (length before) l phase b once_later at
          (stands_at before behind (thread (Some l) b))

      f : thread (Some l) phase ≡ thread (Some l) b
      f =
          one_at (length before) (thread (Some l) phase) (thread (Some l) b) later
          (subst (λ i. IsAt i (thread (Some l) phase) later) e at)
          (stands_at before behind (thread (Some l) b))

  new_ones : (number i : ℕ) (f : Value) → IsAt number (thread (Some i) (new f)) later
      → IsOneOf i x.queue ⊎ ((y : Leaf) × IsOneOf y are × IsOneOf i (waiting y.stage))
  new_ones number i f at = by_place (same_or_not i l)
    where
      by : (i ≡ l → ⊥) → (y : Leaf)
          → (y ≡ leaf path old) ⊎ (IsOneOf y xs ⊎ IsOneOf y ys) → IsOneOf i (waiting y.stage)
          → IsOneOf i x.queue ⊎ ((y : Leaf) × IsOneOf y are × IsOneOf i (waiting y.stage))
      by k y (inl e) j =
          absurd (k (waits i (subst (λ (z : Leaf). IsOneOf i (waiting z.stage)) e j)))
      by k y (inr c) j = inr (y, other_in xs ys (leaf path next) y c, j)

      go : (i ≡ l → ⊥)
          → IsOneOf i w.queue ⊎ ((y : Leaf) × IsOneOf y were × IsOneOf i (waiting y.stage))
          → IsOneOf i x.queue ⊎ ((y : Leaf) × IsOneOf y are × IsOneOf i (waiting y.stage))
      go k (inl j) = inl (subst (IsOneOf i) (sym same_queue) j)
      go k (inr h) = by k h.0 (one_of_split xs ys (leaf path old) h.0 h.1) h.2

      by_place : (i ≡ l) ⊎ (i ≡ l → ⊥)
          → IsOneOf i x.queue ⊎ ((y : Leaf) × IsOneOf y are × IsOneOf i (waiting y.stage))
      by_place (inl e) =
          absurd (not_new f
          (is_changed number (new f)
          (subst (λ c. IsAt number (thread (Some c) (new f)) later) e at)).1)
      by_place (inr k) = go k (all.new_ones number i f (back i number (new f) k at))

  going_ones : (number i : ℕ) (v : Term) (asked : Paths)
      → IsAt number (thread (Some i) (going v asked)) later
      → (y : Leaf) × IsOneOf y are × IsOneOf i (running y.stage)
      × IsRunAs p n m o x number asked v y.stage
  going_ones number i v asked at = by_place (same_or_not i l)
    where
      by : (i ≡ l → ⊥) → (y : Leaf)
          → (y ≡ leaf path old) ⊎ (IsOneOf y xs ⊎ IsOneOf y ys) → IsOneOf i (running y.stage)
          → IsRunAs p n m o w number asked v y.stage
          → (y : Leaf) × IsOneOf y are × IsOneOf i (running y.stage)
          × IsRunAs p n m o x number asked v y.stage
      by k y (inl e) j h =
          absurd (k (ran i (subst (λ (z : Leaf). IsOneOf i (running z.stage)) e j)))
      by k y (inr c) j h = (
        y,
        other_in xs ys (leaf path next) y c,
        j,
        run_follows fol p n m o number asked v y.stage h,
      )

      by_place : (i ≡ l) ⊎ (i ≡ l → ⊥)
          → (y : Leaf) × IsOneOf y are × IsOneOf i (running y.stage)
          × IsRunAs p n m o x number asked v y.stage
      by_place (inl e) =
          let c = is_changed number (going v asked)
          (subst (λ c. IsAt number (thread (Some c) (going v asked)) later) e at) in
          let r = run_now v asked c.1 in (
            leaf path next,
            itself_in xs ys (leaf path next),
            subst (λ z. IsOneOf z (running next)) (sym e) r.0,
            subst (λ z. IsRunAs p n m o x z asked v next) (sym c.0) r.1,
          )
      by_place (inr k) =
          let h = all.going_ones number i v asked (back i number (going v asked) k at) in
          by k h.0 (one_of_split xs ys (leaf path old) h.0 h.1) h.2 h.3

  owed_then : x.unended ≡ owes stage + (length x.queue + owed_in are)
  owed_then =
      same_unended ∙ all.owed
      ∙ (λ i. owes stage + (length ((sym same_queue) i) + owed_same i))
    where
      owed_same : owed_in were ≡ owed_in are
      owed_same =
          owed_split xs ys (leaf path old) ∙ ap (λ z. z + (owed_in xs + owed_in ys)) (sym owe)
          ∙ sym (owed_split xs ys (leaf path next))

  free_then : (w.unended ≡ 0) ⊎ (free_in were + rest + w.spawned ≡ 64 + length w.queue)
      → (x.unended ≡ 0) ⊎ (free_in are + rest + x.spawned ≡ 64 + length x.queue)
  free_then (inl e) = inl (same_unended ∙ e)
  free_then (inr e) =
      let c : free_in are ≡ free_in were =
      free_split xs ys (leaf path next) ∙ ap (λ z. z + (free_in xs + free_in ys)) frees
      ∙ sym (free_split xs ys (leaf path old)) in
      let f : length x.queue ≡ length w.queue = ap length same_queue in
      inr (omega (arith, e, c, f, same_spawned))

  pub thread_goes_alike : GoAlike p n m o g x first stage are rest later q t
  thread_goes_alike =
      let zero_first = first_stays before behind l a b all.phase all.others all.are_all in
      record {
        grown = grows_on all.grown (grounds_grow fol);
        stores = stores;
        phase = all.phase;
        others = zero_first.0;
        are_all = zero_first.1;
        is_first =
            first_follows fol p n m o s q first same_spawned firsts all.phase stage all.is_first;
        first_lasts = λ place j.
            let h = all.first_lasts place j in
            (fol.lasting (first + place) ∙ h.0, (h.1.0, firsts place j ∙ h.1.1));
        calm = (all.calm.0, calm_changed xs ys (leaf path old) (leaf path next) calm all.calm.1);
        serve = serve_changed p n m o w x now later s q xs ys (leaf path old) (leaf path next)
            (λ y i h. (
              serve_follows fol p n m o now later y.stage (λ e. same_unended ∙ e)
                  (stay_all (held y.stage) (apart.1 y i)) h.0,
              others y i h.0 h.1,
            ))
            serves kept all.serve;
        queue_new = λ i j.
            let c = subst (IsOneOf i) same_queue j in
            is_new_follows fol p n m o now later i
            (λ k e number phase at.
            stays k number phase
            (λ f. apart.0 (subst (λ z. IsOneOf z w.queue) (sym (is_one k i e) ∙ f) c)) at)
            (all.queue_new i c);
        held_once =
            subst (λ ls. NoneTwice (ls ++ all_held are)) (sym same_queue) once;
        objects_apart = once_later;
        new_ones = new_ones;
        going_ones = going_ones;
        no_other_first = λ number other at.
            all.no_other_first number other
            (stays_but before behind l b a number (thread None other)
            (λ e. let z : None ≡ Some l = e in absurd cc) at);
        owed = owed_then;
        free = free_then all.free;
      }
    where
      is_one : (k i : ℕ) → IsOneOf k (i ∷ []) → k ≡ i
      is_one k i (inl e) = e
      is_one k i (inr e) = absurd e
