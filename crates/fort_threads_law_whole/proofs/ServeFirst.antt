-- All goes on alike where `go'` goes on by a pick that is none of thread 0.
use Rattle.std.proofs.Common.{◌≡◌, ℕ, suc, zero, ◌+◌, ◌<◌, ◌≤◌, ◌==◌, Bool, true, false, List, [], ◌∷◌, ◌++◌, length, Option, Some, None, refl, ap, sym, ◌∙◌, subst, arith, rules, inl, inr, ◌⊎◌}
use Rattle.std.specs.Prelude.{pos}
use Rattle.fort_core.specs.declared.pick.Pick.{Pick}
use Rattle.fort_core.specs.declared.program.Program.{Program}
use Rattle.fort_core.specs.declared.term.Term.{Term}
use Rattle.fort_core.specs.declared.term.Term as term
use Rattle.fort_core.specs.declared.value.Value.{Value, Small}
use Rattle.fort_machine.specs.Acts.{unit}
use Rattle.fort_machine.specs.Effects.{Store, Effect, paid, reading, writing, idle, FitsAll, afterwards}
use Rattle.fort_machine.specs.Parts.{IsOneOf}
use Rattle.fort_threads.specs.Known.{Known}
use Rattle.fort_threads.specs.Machine.{applied, ended, rests}
use Rattle.fort_threads.specs.Machine as machine
use Rattle.fort_threads.specs.Threads.{Paths, Phase, new, going, over, Thread, thread}
use Rattle.fort_threads_law_servers.specs.Prelude.{Names, fewer}
use Rattle.fort_threads_law_servers.specs.Stages.{End, at_value, at_throw, end_term, kept_value, mark_of, Stage, Attempted, sent, reads, runs, caught, lost, keeps, has_kept, marks, has_marked, counts, done, Follows, Stands}
use Rattle.fort_threads_law_servers.specs.Stages as stages
use Rattle.fort_threads_law_servers.specs.Roots.{Start}
use Rattle.fort_threads_law_private.specs.Grounds.{Ground}
use Rattle.fort_threads_law_private.proofs.Growing.{grows_on, private_grows}
use Rattle.fort_threads_law_queue.specs.Attempts.{SetsOne}
use Rattle.fort_threads_law_queue.proofs.Taken.{each_count_goes_down}
use Rattle.fort_threads_law_worlds.specs.Worlds.{World, FollowsAt, for_all, unused, part_of, of_prelude}
use Rattle.fort_threads_law_worlds.specs.Known.{Own}
use Rattle.fort_threads_law_worlds.specs.Stores.{AreStores}
use Rattle.fort_threads_law_worlds.proofs.Following.{follows_self, grounds_grow}
use Rattle.fort_threads_law_matches.specs.Ways.{starts, applies_own}
use Rattle.fort_threads_law_matches.specs.Matches.{under_way}
use Rattle.fort_threads_law_runs.specs.Premises.{IsThreaded}
use Rattle.fort_threads_law_trees.specs.Leaves.{Leaf, waiting, running, held, owes, owed_in, free_in, IsCalm}
use Rattle.fort_threads_law_whole.specs.Lists.{IsAt}
use Rattle.fort_threads_law_whole.specs.Picks.{IsOwnPick, FirstGoesOn}
use Rattle.fort_threads_law_whole.specs.Roots.{GoAlike, GoesOnAlike}
use Rattle.fort_threads_law_whole.specs.Servers.{IsRunAs, IsKept, IsFirst, ServesOne}
use Rattle.fort_threads_law_whole.proofs.ServeLists.{serve_all}
use Rattle.fort_threads_law_whole.proofs.ServeFollows.{far, run_follows, is_new_follows, serve_follows}
use Rattle.fort_threads_law_whole.proofs.ServeKept.{no_event}
use Rattle.fort_threads_law_whole.proofs.ServeStores.{recounted, recounted_follows, stores_set}
use Rattle.fort_threads_law_whole.proofs.ServePhases.{stores_phase, no_object_ends}
use Rattle.fort_threads_law_whole.proofs.ServeTaking.{kept_stays, differ, form_no_value}
use Rattle.fort_threads_law_whole.proofs.ServeThreads.{same_or_not}
use Rattle.fort_threads_law_whole.proofs.ServeCounting.{write_sets}
use Rattle.fort_threads_law_whole.proofs.ServeQuiet.{ends_at, throws_at}
use Rattle.fort_threads_law_whole.proofs.Serving.{read_same, read_is, end_finished}

-- a thread with an object stands behind thread 0
others_stay : (a b : Phase) (others : List Thread) (number l : ℕ) (phase : Phase)
    → IsAt number (thread (Some l) phase) (thread None a ∷ others)
    → IsAt number (thread (Some l) phase) (thread None b ∷ others)
others_stay a b others zero l phase at =
    let z : Some (thread None a) ≡ Some (thread (Some l) phase) = at in
    let c : thread None a ≡ thread (Some l) phase = cc in
    let y : None ≡ Some l = ap (λ (u : Thread). u.object) c in absurd cc
others_stay a b others (suc i) l phase at = at

module _ (p : Program) (n : Names) (m : Start) (o : Own) (g : Ground) (w : World) (j first : ℕ)
    (old next : Stage) (xs : List Leaf) (rest : ℕ) (a b : Phase) (others : List Thread)
    (s q t : Store)
    (all : GoAlike p n m o g w first old xs rest (thread None a ∷ others) s t)
    (stores : AreStores p n m (recounted w w.queue j) (thread None b ∷ others) q t)
    (is_first : IsFirst p n m o (recounted w w.queue j) q first b next)
    (there : (place : ℕ) → place < 4 → (v : Value) × (q (first + place) ≡ Some v))
    (calm : IsCalm next)
    (kept : (y : Leaf) → ServesOne p n m o w (thread None a ∷ others) y.stage → IsKept s y.stage
    → IsKept q y.stage) (none : w.unended ≡ 0 → j ≡ 0)
    (owed : j ≡ owes next + (length w.queue + owed_in xs)) where
  abbrev x : World
  x = recounted w w.queue j

  abbrev now : List Thread
  now = thread None a ∷ others

  abbrev later : List Thread
  later = thread None b ∷ others

  fol : FollowsAt far w x
  fol = recounted_follows far w w.queue j

  no_other : (number : ℕ) (other : Phase) → IsAt number (thread None other) later → number ≡ 0
  no_other zero other at = refl
  no_other (suc i) other at = all.no_other_first (suc i) other at

  free_then : (w.unended ≡ 0) ⊎ (free_in xs + rest + w.spawned ≡ 64 + length w.queue)
      → (j ≡ 0) ⊎ (free_in xs + rest + w.spawned ≡ 64 + length w.queue)
  free_then (inl e) = inl (none e)
  free_then (inr e) = inr e

  pub first_alike : GoAlike p n m o g x first next xs rest later q t
  first_alike = record {
    grown = grows_on all.grown (grounds_grow fol);
    stores = stores;
    phase = b;
    others = others;
    are_all = refl;
    is_first = is_first;
    first_lasts = λ place c. ((all.first_lasts place c).0, there place c);
    calm = (calm, all.calm.1);
    serve = serve_all p n m o w x now later s q xs
        (λ y i h. (
          serve_follows fol p n m o now later y.stage none
              (λ l c number phase at. others_stay a b others number l phase at) h.0,
          kept y h.0 h.1,
        ))
        all.serve;
    queue_new = λ l i.
        is_new_follows fol p n m o now later l
        (λ c f number phase at. others_stay a b others number c phase at) (all.queue_new l i);
    held_once = all.held_once;
    objects_apart = all.objects_apart;
    new_ones = λ number l f at.
        all.new_ones number l f (others_stay b a others number l (new f) at);
    going_ones = λ number l v asked at.
        let h = all.going_ones number l v asked
        (others_stay b a others number l (going v asked) at) in
        (h.0, h.1, h.2, run_follows fol p n m o number asked v h.0.stage h.3);
    no_other_first = no_other;
    owed = owed;
    free = free_then all.free;
  }

module _ (p : Program) (n : Names) (m : Start) (o : Own) (k : Known) (g : Ground)
    (known : IsThreaded p n m o k g) (w : World) (first : ℕ) (xs : List Leaf) (rest : ℕ)
    (a : Phase) (others : List Thread) (s t : Store) (pick : Pick) (d : Effect)
    (fits : FitsAll d s) where
  abbrev these : List Thread
  these = thread None a ∷ others

  abbrev Was : Stage → Type 0
  Was old = GoAlike p n m o g w first old xs rest these s t

  abbrev On : Stage → Type 0
  On next = GoesOnAlike p n m o k g first next xs rest these s t d

  abbrev First : Stage → Type 0
  First stage = IsFirst p n m o w s first a stage

  -- what is known of thread 0
  first_is : (old : Stage) → Was old → First old
  first_is old all =
      let z : thread None all.phase ≡ thread None a =
      ap (λ us. get us) (sym all.are_all) in
      subst (λ y. IsFirst p n m o w s first y old) (ap (λ (u : Thread). u.phase) z) all.is_first
    where
      get : List Thread → Thread
      get [] = thread None a
      get (u ∷ us) = u

  silently : (old next : Stage) → Was old → d.output ≡ [] → afterwards d s ≡ s
      → owes next ≡ owes old → IsCalm next → First next → On next
  silently old next all silent same owe calm h =
      no_event (recounted w w.queue w.unended) silent
      (subst (λ z. GoAlike p n m o g (recounted w w.queue w.unended) first next xs rest these z t)
      (sym same)
      (first_alike p n m o g w w.unended first old next xs rest a a others s s t all all.stores h
      (λ place c. (all.first_lasts place c).1) calm (λ y r c. c) (λ e. e)
      (all.owed ∙ ap (λ i. i + (length w.queue + owed_in xs)) (sym owe))))

  paidly : (old next : Stage) → Was old → d ≡ paid 1 → owes next ≡ owes old → IsCalm next
      → First next → On next
  paidly old next all e owe calm h =
      silently old next all (ap (λ (y : Effect). y.output) e) (ap (λ y. afterwards y s) e) owe calm h

  -- its thread comes to something else
  abbrev Ran : Stage → Type 0
  Ran stage = (v : Term) × (asked : Paths) × (a ≡ going v asked) × IsRunAs p n m o w 0 asked v stage

  comes_to : (old next : Stage) → ((number : ℕ) (v : Term) (asked : Paths)
      → IsRunAs p n m o w number asked v old → IsRunAs p n m o w number asked v next)
      → Ran old → Ran next
  comes_to old next move h = (h.0, h.1, h.2, move 0 h.0 h.1 h.3)

  from_sent : (l : ℕ) (next : Stage) → Was (sent l) → Follows p n s pick d (sent l) next → On next
  from_sent l (reads i) all f =
      subst (λ z. On (reads z)) (sym f.0)
      (paidly (sent l) (reads l) all f.1 refl tt (first_is (sent l) all))
  from_sent l _ all f = absurd f

  from_reads : (l : ℕ) (next : Stage) → Was (reads l) → Follows p n s pick d (reads l) next
      → On next
  from_reads l (runs i y) all f =
      subst (λ z. On (runs z y)) (sym f.1)
      (subst (λ z. On (runs l z)) (sym f.2)
      (subst (λ z. On (runs l (applied z))) same_function
      (silently (reads l) (runs l (applied m.own)) all (ap (λ (e : Effect). e.output) f.3)
      (ap (λ e. afterwards e s) f.3 ∙ read_same l f.0 s) refl tt
      (h.0, (o.body, [], h.1, matches)))))
    where
      h : First (reads l)
      h = first_is (reads l) all

      same_function : m.own ≡ f.0
      same_function =
          read_is l f.0 s m.own (subst (λ e. FitsAll e s) f.3 fits) (ap s h.0 ∙ h.2)

      matches : IsRunAs p n m o w 0 [] o.body (runs l (applied m.own))
      matches =
          under_way
          (starts applies_own refl refl (private_grows known.own all.grown) known.own_open)
  from_reads l _ all f = absurd f

  from_runs : (l : ℕ) (u : Term) (next : Stage) → Was (runs l u)
      → Follows p n s pick d (runs l u) next → IsOwnPick p n (runs l u) next → On next
  from_runs l u (runs i v) all f own =
      absurd (own.no_run l u v refl (ap (λ z. runs z v) f.0))
  from_runs l u (keeps i (at_value y)) all f own =
      let h = first_is (runs l u) all in
      subst (λ z. On (keeps z (at_value y))) (sym f.0)
      (paidly (runs l u) (keeps l (at_value y)) all f.2 refl tt (
        h.0,
        comes_to (runs l u) (keeps l (at_value y))
            (ends_at p n m o k g w first (runs l u) xs [] [] rest these s t pick d l u y f.1) h.1,
      ))
  from_runs l u (caught i y) all f own =
      let h = first_is (runs l u) all in
      subst (λ z. On (caught z y)) (sym f.0)
      (paidly (runs l u) (caught l y) all f.2 refl tt (
        h.0,
        comes_to (runs l u) (caught l y)
            (throws_at p n m o k g w first (runs l u) xs [] [] rest these s t pick d l u y f.1
            (own.exceptions l y (ap (runs l) f.1))) h.1,
      ))
  from_runs l u _ all f own = absurd f

  from_caught : (l : ℕ) (y : Value) (next : Stage) → Was (caught l y)
      → Follows p n s pick d (caught l y) next → On next
  from_caught l y (keeps i (at_throw z)) all f =
      subst (λ z'. On (keeps z' (at_throw z))) (sym f.0)
      (subst (λ z'. On (keeps l (at_throw z'))) (sym f.1)
      (paidly (caught l y) (keeps l (at_throw y)) all f.3 refl tt (first_is (caught l y) all)))
  from_caught l y (lost z) all f =
      let h = first_is (caught l y) all in
      let c : true ≡ false = sym h.1.3.1 ∙ f.1 in absurd cc
  from_caught l y _ all f = absurd f

  from_has_kept : (l : ℕ) (end : End) (next : Stage) → Was (has_kept l end)
      → Follows p n s pick d (has_kept l end) next → On next
  from_has_kept l end (marks i other) all f =
      subst (λ z. On (marks z other)) (sym f.0)
      (subst (λ z. On (marks l z)) (sym f.1)
      (paidly (has_kept l end) (marks l end) all f.2 refl tt (first_is (has_kept l end) all)))
  from_has_kept l end _ all f = absurd f

  from_has_marked : (l : ℕ) (end : End) (next : Stage) → Was (has_marked l end)
      → Follows p n s pick d (has_marked l end) next → On next
  from_has_marked l (at_value v) stages.leaves all f =
      let h = first_is (has_marked l (at_value v)) all in
      paidly (has_marked l (at_value v)) stages.leaves all f refl tt (at_value v, h.1, h.2)
  from_has_marked l (at_throw v) (counts form) all f =
      let h = first_is (has_marked l (at_throw v)) all in
      paidly (has_marked l (at_throw v)) (counts form) all f.1 refl tt (at_throw v, h.1, h.2)
  from_has_marked l _ _ all f = absurd f

  from_leaves : (next : Stage) → Was stages.leaves → Follows p n s pick d stages.leaves next
      → On next
  from_leaves (counts form) all f =
      paidly stages.leaves (counts form) all f.1 refl tt (first_is stages.leaves all)
  from_leaves _ all f = absurd f

  -- ---- writes to its own object
  lasts_at : (old : Stage) (all : Was old) (place : ℕ) → place < 4
      → (w.serves (first + place) ≡ of_prelude) × (first + place ≡ n.queue → ⊥)
      × (first + place ≡ n.unended → ⊥) × (first + place ≡ n.count → ⊥)
      × (first + place ≡ m.started → ⊥)
  lasts_at old all place c = all.stores.lasting (first + place) (all.first_lasts place c).0

  no_part : (i l place : ℕ) → w.serves i ≡ of_prelude → w.serves i ≡ part_of l place → ⊥
  no_part i l place e f = let z : of_prelude ≡ part_of l place = sym e ∙ f in absurd cc

  module _ (old : Stage) (all : Was old) (place : ℕ) (less : place < 4) (v : Value)
      (sets : SetsOne d s (first + place) v) where
    abbrev q : Store
    q = afterwards d s

    its : (w.serves (first + place) ≡ of_prelude) × (first + place ≡ n.queue → ⊥)
        × (first + place ≡ n.unended → ⊥) × (first + place ≡ n.count → ⊥)
        × (first + place ≡ m.started → ⊥)
    its = lasts_at old all place less

    written : AreStores p n m (recounted w w.queue w.unended) these q t
    written =
        stores_set p n m w these s q t all.stores (first + place) v sets.sets sets.leaves_others
        (λ e. let z : of_prelude ≡ for_all = sym its.0 ∙ e in absurd cc)
        (λ e. let z : of_prelude ≡ unused = sym its.0 ∙ e in absurd cc)
        (λ l i e. absurd (no_part (first + place) l i its.0 e))
        (λ l f end e c. no_part (first + place) l 2 its.0 c) w.queue w.unended
        (λ e. its.3 (sym e)) (λ e. its.4 (sym e))
        (sets.leaves_others n.unended (λ e. its.2 (sym e)) ∙ all.stores.unended)
        all.stores.unended_few (
          all.stores.queued.0,
          sets.leaves_others n.queue (λ e. its.1 (sym e)) ∙ all.stores.queued.1,
          all.stores.queued.2,
        )
        (λ l c. c)

    others_kept : (y : Leaf) → ServesOne p n m o w these y.stage → IsKept s y.stage
        → IsKept q y.stage
    others_kept y r c =
        kept_stays p n m o w these s q t all.stores y.stage r
        (λ l i e. sets.leaves_others (l + 2)
        (λ u. no_part (first + place) l 2 its.0 (ap w.serves (sym u) ∙ e))) c

    still_there : (i : ℕ) → i < 4 → (x : Value) × (q (first + i) ≡ Some x)
    still_there i c = go (same_or_not (first + i) (first + place))
      where
        go : (first + i ≡ first + place) ⊎ (first + i ≡ first + place → ⊥)
            → (x : Value) × (q (first + i) ≡ Some x)
        go (inl e) = (v, ap q e ∙ sets.sets)
        go (inr k) =
            let z = (all.first_lasts i c).1 in (z.0, sets.leaves_others (first + i) k ∙ z.1)

  keeps_it : (end : End) → Was (keeps first end) → Ran (keeps first end)
      → SetsOne d s (first + 2) (kept_value end) → On (has_kept first end)
  keeps_it end all h sets =
      no_event (recounted w w.queue w.unended) sets.prints_nothing
      (first_alike p n m o g w w.unended first (keeps first end) (has_kept first end) xs rest a a
      others s (afterwards d s) t all
      (written (keeps first end) all 2 (omega arith) (kept_value end) sets)
      (refl, (h.0, h.1, h.2, h.3), sets.sets)
      (still_there (keeps first end) all 2 (omega arith) (kept_value end) sets) tt
      (others_kept (keeps first end) all 2 (omega arith) (kept_value end) sets) (λ e. e) all.owed)

  from_keeps : (l : ℕ) (end : End) (next : Stage) → Was (keeps l end)
      → Follows p n s pick d (keeps l end) next → On next
  from_keeps l end (has_kept i other) all f =
      let h = first_is (keeps l end) all in
      subst (λ z. On (has_kept z other)) (sym (f.0 ∙ h.0))
      (subst (λ z. On (has_kept first z)) (sym f.1)
      (keeps_it end (subst (λ z. Was (keeps z end)) h.0 all) h.1
      (subst (λ e. SetsOne e s (first + 2) (kept_value end))
      (sym (f.2 ∙ ap (λ z. writing (z + 2) (kept_value end)) h.0))
      (write_sets s (first + 2) (kept_value end)))))
  from_keeps l end _ all f = absurd f

  marks_it : (end : End) → Was (marks first end) → Ran (marks first end)
      → IsKept s (marks first end) → SetsOne d s (first + 1) (Small (pos (mark_of end)))
      → On (has_marked first end)
  marks_it end all h kept sets = record {
    world = recounted w w.queue w.unended;
    events = machine.ends 0 ∷ [];
    later = thread None (over h.0) ∷ others;
    effect = idle;
    goes = ended [] others None h.1 refl
        (ap (λ z. thread None z ∷ others) h.2) (end_finished end h.0 h.3.0) (rests refl refl refl);
    bounded = λ i c e. absurd cc;
    same_output = sym sets.prints_nothing;
    alike = first_alike p n m o g w w.unended first (marks first end) (has_marked first end) xs rest
        a (over h.0) others s (afterwards d s) t all
        (stores_phase p n m (recounted w w.queue w.unended) [] others None a (over h.0)
        (afterwards d s) t
        (written (marks first end) all 1 (omega arith) (Small (pos (mark_of end))) sets)
        (λ c e. let z : over h.0 ≡ new c = e in absurd cc)
        (λ i c e r. no_object_ends [] others a (over h.0) i)) (
          refl,
          ap over h.3.0,
          (
            sets.sets,
            sets.leaves_others (first + 2) not_same
                ∙ kept,
            h.3.1,
          ),
        )
        (still_there (marks first end) all 1 (omega arith) (Small (pos (mark_of end))) sets) tt
        (others_kept (marks first end) all 1 (omega arith) (Small (pos (mark_of end))) sets)
        (λ e. e) all.owed;
  }
    where
      not_same : first + 2 ≡ first + 1 → ⊥
      not_same e = omega (arith, e)

  from_marks : (l : ℕ) (end : End) (next : Stage) → Was (marks l end)
      → Follows p n s pick d (marks l end) next → On next
  from_marks l end (has_marked i other) all f =
      let h = first_is (marks l end) all in
      subst (λ z. On (has_marked z other)) (sym (f.0 ∙ h.0))
      (subst (λ z. On (has_marked first z)) (sym f.1)
      (marks_it end (subst (λ z. Was (marks z end)) h.0 all) h.1 h.2
      (subst (λ e. SetsOne e s (first + 1) (Small (pos (mark_of end))))
      (sym (f.2 ∙ ap (λ z. writing (z + 1) (Small (pos (mark_of end)))) h.0))
      (write_sets s (first + 1) (Small (pos (mark_of end)))))))
  from_marks l end _ all f = absurd f

  -- ---- it counts down
  counts_it : (form y : Term) (all : Was (counts form)) (j : ℕ) → w.unended ≡ suc j
      → y ≡ term.Value unit → SetsOne d s n.unended (Small (pos j)) → On (done y)
  counts_it form y all j is_j value sets =
      no_event (recounted w w.queue j) sets.prints_nothing
      (first_alike p n m o g w j first (counts form) (done y) xs rest a a others s (afterwards d s) t
      all stores h
      (λ place c.
      let z = (all.first_lasts place c).1 in
      (z.0, sets.leaves_others (first + place) (lasts_at (counts form) all place c).2 ∙ z.1))
      (unit, value)
      (λ y r c.
      kept_stays p n m o w these s (afterwards d s) t all.stores y.stage r
      (λ l i e. sets.leaves_others (l + 2)
      (λ u. no_part n.unended l 2 all.stores.own.1 (ap w.serves (sym u) ∙ e))) c)
      (λ e. absurd (omega (arith, e, is_j))) owed_then)
    where
      own : w.serves n.unended ≡ of_prelude
      own = all.stores.own.1

      stores : AreStores p n m (recounted w w.queue j) these (afterwards d s) t
      stores =
          stores_set p n m w these s (afterwards d s) t all.stores n.unended (Small (pos j)) sets.sets
          sets.leaves_others (λ e. let z : of_prelude ≡ for_all = sym own ∙ e in absurd cc)
          (λ e. let z : of_prelude ≡ unused = sym own ∙ e in absurd cc)
          (λ l i e. absurd (no_part n.unended l i own e))
          (λ l f end e c. no_part n.unended l 2 own c) w.queue j
          (λ e. differ n.count n.unended known.prelude.apart (sym e))
          (differ n.unended m.started known.same.apart.4) sets.sets
          (let c : w.unended ≤ 1 + w.spawned = all.stores.unended_few in omega (arith, c, is_j)) (
            all.stores.queued.0,
            sets.leaves_others n.queue
                (λ e. differ n.queue n.unended known.same.apart.1 (sym e)) ∙ all.stores.queued.1,
            all.stores.queued.2,
          )
          (λ l c. c)

      at : (place : ℕ) → place < 4 → afterwards d s (first + place) ≡ s (first + place)
      at place c = sets.leaves_others (first + place) (lasts_at (counts form) all place c).2

      h : IsFirst p n m o (recounted w w.queue j) (afterwards d s) first a (done y)
      h =
          let r = first_is (counts form) all in
          (r.0, r.1, (at 1 (omega arith) ∙ r.2.0, at 2 (omega arith) ∙ r.2.1, r.2.2))

      owed_then : j ≡ 0 + (length w.queue + owed_in xs)
      owed_then =
          let c : w.unended ≡ 1 + (length w.queue + owed_in xs) = all.owed in
          omega (arith, c, is_j)

  from_counts : (form : Term) (next : Stage) → Was (counts form)
      → Follows p n s pick d (counts form) next → Stands n next → On next
  from_counts form next all f stands = by w.unended refl
    where
      down : (j : ℕ) → w.unended ≡ suc j → (y : Term) → Attempted p s (fewer n) y d
          → (y ≡ term.Value unit) × SetsOne d s n.unended (Small (pos j))
      down j e y r =
          let b : w.unended ≤ 1 + w.spawned = all.stores.unended_few in
          let c : w.spawned ≤ 64 = all.stores.few in
          each_count_goes_down p n known.prelude known.counts s j y d
          (all.stores.unended ∙ ap (λ i. Some (Small (pos i))) e) (omega (arith, b, c, e)) r

      go : (j : ℕ) → w.unended ≡ suc j → (next : Stage)
          → Follows p n s pick d (counts form) next → Stands n next → On next
      go j e (counts y) r stands =
          absurd (form_no_value y (fewer n) unit stands (down j e y r).0)
      go j e (done y) r stands =
          let z = down j e y r in counts_it form y all j e z.0 z.1
      go j e _ r stands = absurd r

      by : (i : ℕ) → w.unended ≡ i → On next
      by zero e =
          let c : w.unended ≡ 1 + (length w.queue + owed_in xs) = all.owed in
          absurd (omega (arith, c, e))
      by (suc j) e = go j e next f stands

  -- ---- all of them
  pub first_on : (old next : Stage) → Was old → Follows p n s pick d old next → Stands n next
      → IsOwnPick p n old next → First old → On next
  first_on (sent l) next all f b own h = from_sent l next all f
  first_on (reads l) next all f b own h = from_reads l next all f
  first_on (runs l u) next all f b own h = from_runs l u next all f own
  first_on (caught l v) next all f b own h = from_caught l v next all f
  first_on (keeps l end) next all f b own h = from_keeps l end next all f
  first_on (has_kept l end) next all f b own h = from_has_kept l end next all f
  first_on (marks l end) next all f b own h = from_marks l end next all f
  first_on (has_marked l end) next all f b own h = from_has_marked l end next all f
  first_on stages.leaves next all f b own h = from_leaves next all f
  first_on (counts form) next all f b own h = from_counts form next all f b
  first_on (done y) next all f b own h = no_more next f
    where
      no_more : (next : Stage) → Follows p n s pick d (done y) next → On next
      no_more _ r = absurd r
  first_on _ next all f b own h = absurd h

pub first_goes_on : FirstGoesOn
first_goes_on p n m o k g known w first stage next xs rest us s t q d all f a b own fits =
    subst (λ us. GoesOnAlike p n m o k g first next xs rest us s t d) (sym all.are_all)
    (first_on p n m o k g known w first xs rest all.phase all.others s t q d fits stage next
    (subst (λ us. GoAlike p n m o g w first stage xs rest us s t) all.are_all all) f b own
    all.is_first)
