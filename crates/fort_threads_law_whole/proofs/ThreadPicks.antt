-- By a pick of a thread all goes on alike.
use Rattle.std.proofs.Common.{◌≡◌, ℕ, ◌+◌, ◌<◌, false, List, [], ◌∷◌, ◌++◌, length, Option, Some, None, refl, sym, ap, ◌∙◌, subst, arith, append-nil}
use Rattle.fort_core.specs.declared.pick.Pick.{Pick}
use Rattle.fort_core.specs.declared.program.Program.{Program}
use Rattle.fort_core.specs.declared.term.Term.{Term}
use Rattle.fort_machine.specs.Attempts.{goes}
use Rattle.fort_machine.specs.Cells.{made, untouched}
use Rattle.fort_machine.specs.Effects.{Store, Effect, idle, afterwards}
use Rattle.fort_machine.specs.Journals.{MakesWithinBounds}
use Rattle.fort_machine.proofs.WholeEffects.{both_idle}
use Rattle.fort_threads.specs.Known.{Known}
use Rattle.fort_threads.specs.Machine.{Goes, takes, rests, goes_on}
use Rattle.fort_threads.specs.Runs.{Runs}
use Rattle.fort_threads.specs.Threads.{Paths, going, Thread, thread, Done, noted_by}
use Rattle.fort_threads.proofs.Added.{runs_new}
use Rattle.fort_threads_law_servers.specs.Prelude.{Names}
use Rattle.fort_threads_law_servers.specs.Stages.{Stage, runs}
use Rattle.fort_threads_law_servers.specs.Roots.{Start}
use Rattle.fort_threads_law_private.specs.Grounds.{Ground}
use Rattle.fort_threads_law_worlds.specs.Worlds.{World}
use Rattle.fort_threads_law_worlds.specs.Known.{Own}
use Rattle.fort_threads_law_worlds.specs.Effects.{DoAlike}
use Rattle.fort_threads_law_worlds.specs.Stores.{AreStores}
use Rattle.fort_threads_law_matches.specs.Matches.{Matches}
use Rattle.fort_threads_law_runs.proofs.Going.{threads_go_alike}
use Rattle.fort_threads_law_runs.specs.Premises.{IsThreaded}
use Rattle.fort_threads_law_runs.specs.Threads as alike
use Rattle.fort_threads_law_runs.specs.Threads.{ThreadGoesAlike, thread_spot}
use Rattle.fort_threads_law_trees.specs.Leaves.{Leaf, leaf}
use Rattle.fort_threads_law_whole.specs.Roots.{GoAlike, GoesOnAlike}
use Rattle.fort_threads_law_whole.specs.Picks.{IsThreadPick, ThreadsGoOn, FirstThreadGoesOn}
use Rattle.fort_threads_law_whole.proofs.Numbers.{split}
use Rattle.fort_threads_law_whole.proofs.ThreadAdded.{each_serves}
use Rattle.fort_threads_law_whole.proofs.ThreadAlike.{served_alike}
use Rattle.fort_threads_law_whole.proofs.ThreadAlone.{alone_alike}
use Rattle.fort_threads_law_whole.proofs.ThreadFresh.{fresh}
use Rattle.fort_threads_law_whole.proofs.ThreadGoes.{AreAdded}
use Rattle.fort_threads_law_whole.proofs.ThreadHeld.{leaf_there}
use Rattle.fort_threads_law_whole.proofs.ThreadObjects.{runs_have}
use Rattle.fort_threads_law_whole.proofs.ThreadStand.{added_once}

none_added : (now : List Thread) → AreAdded [] now
none_added now = record { all_new = tt; have = tt; once = tt; fresh = λ l i j. i }

bounded_idle : MakesWithinBounds idle
bounded_idle l v e = let z : untouched ≡ made v = e in absurd cc

-- threads that a pick added
are_added : {p : Program} {n : Names} {m : Start} {k : Known} {w x : World}
    {beside now : List Thread} {asked : Paths} {s s' t : Store} {pick : Pick} {u v : Term}
    {d : Effect} {done : Done} → AreStores p n m w now s t
    → AreStores p n m x (now ++ done.added) s' (afterwards done.effect t)
    → DoAlike w x d done.effect → Runs p k false beside now asked t (pick ∷ []) u (goes v) done
    → AreAdded done.added now
are_added stores later same run =
    record {
      all_new = runs_new run;
      have = runs_have run;
      once = (added_once run).0;
      fresh = fresh stores later same run;
    }

-- where the machine with threads has a pick of its own
by_event : {p : Program} {k : Known} {t : Store} {u v : Term} {asked : Paths} {pick : Pick}
    {done : Done} (before behind : List Thread) (own : Option ℕ)
    → Runs p k false (before ++ behind) (before ++ thread own (going u asked) ∷ behind) asked t
    (pick ∷ []) u (goes v) done
    → Goes p k (before ++ thread own (going u asked) ∷ behind) t (takes (length before) pick ∷ [])
    (before ++ thread own (going v (noted_by pick done.came asked)) ∷ (behind ++ done.added))
    done.effect
by_event {done = done} before behind own run =
    goes_on before behind own refl refl run (rests refl refl refl) (sym (both_idle done.effect))

-- where it has none
by_none : {p : Program} {k : Known} {t : Store} (before behind : List Thread) (u : Thread)
    → Goes p k (before ++ u ∷ behind) t [] (before ++ u ∷ (behind ++ [])) idle
by_none before behind u =
    rests refl (ap (λ us. before ++ u ∷ us) (append-nil behind)) refl

abbrev Stood : List Thread → List Thread → Option ℕ → Term → Paths → List Thread
Stood before behind own term asked = before ++ thread own (going term asked) ∷ behind

-- by a pick of a thread that a server runs
served : (p : Program) (n : Names) (m : Start) (o : Own) (k : Known) (g : Ground)
    → IsThreaded p n m o k g
    → (w : World) (first : ℕ) (stage : Stage) (xs ys : List Leaf) (path : List ℕ) (l : ℕ)
    (u v : Term) (rest : ℕ) (s t : Store) (q : Pick) (d : Effect)
    (before behind : List Thread) (term : Term) (asked : Paths)
    → GoAlike p n m o g w first stage (xs ++ leaf path (runs l u) ∷ ys) rest
    (before ++ thread (Some l) (going term asked) ∷ behind) s t
    → IsThreadPick p n m o k (Some l) (before ++ thread (Some l) (going term asked) ∷ behind)
    s t q u v d
    → 0 < length before → Matches p n m o w (thread_spot (length before)) asked [] u term
    → GoesOnAlike p n m o k g first stage (xs ++ leaf path (runs l v) ∷ ys) rest
    (before ++ thread (Some l) (going term asked) ∷ behind) s t d
served p n m o k g threaded w first stage xs ys path l u v rest s t q d before behind term asked
    all pick positive match =
    go (threads_go_alike p n m o k g threaded w (length before) (before ++ behind)
    (Stood before behind (Some l) term asked) asked s t q u term v d pick.round
    all.grown all.stores match pick.run pick.bounded pick.reached pick.finely
    (pick.may_go before behind term asked refl))
  where
    go : ThreadGoesAlike p n m o k w (thread_spot (length before)) (before ++ behind)
        (Stood before behind (Some l) term asked) asked s t q term v d
        → GoesOnAlike p n m o k g first stage (xs ++ leaf path (runs l v) ∷ ys) rest
        (Stood before behind (Some l) term asked) s t d
    go (alike.nothing x fol met does stores queued) =
        record {
          world = x;
          events = [];
          later = before ++ thread (Some l) (going term asked) ∷ (behind ++ []);
          effect = idle;
          goes = by_none before behind (thread (Some l) (going term asked));
          bounded = bounded_idle;
          same_output = sym does.output;
          alike = served_alike p n m o g w x first stage xs ys path l u v rest before behind []
              term term asked asked s t t d all fol queued
              (none_added (Stood before behind (Some l) term asked))
              (λ i f h. (does.unended i f h).1) does.lasting positive met
              (subst (λ us. AreStores p n m x us (afterwards d s) t)
              (sym (append-nil (Stood before behind (Some l) term asked))) stores);
        }
    go (alike.takes x other next done fol told run met does stores queued bounded) =
        record {
          world = x;
          events = takes (length before) other ∷ [];
          later = before ++ thread (Some l) (going next (noted_by other done.came asked))
              ∷ (behind ++ done.added);
          effect = done.effect;
          goes = by_event before behind (Some l) run;
          bounded = bounded;
          same_output = sym does.output;
          alike = served_alike p n m o g w x first stage xs ys path l u v rest before behind
              done.added term next asked (noted_by other done.came asked) s t
              (afterwards done.effect t) d all fol queued (are_added all.stores stores does run)
              (λ i f h. (does.unended i f h).1) does.lasting positive met stores;
        }

-- and so by one of thread 0
alone : (p : Program) (n : Names) (m : Start) (o : Own) (k : Known) (g : Ground)
    → IsThreaded p n m o k g
    → (w : World) (first : ℕ) (xs : List Leaf) (l : ℕ) (u v : Term) (rest : ℕ) (s t : Store)
    (q : Pick) (d : Effect) (behind : List Thread) (term : Term) (asked : Paths)
    → GoAlike p n m o g w first (runs l u) xs rest (thread None (going term asked) ∷ behind) s t
    → IsThreadPick p n m o k None (thread None (going term asked) ∷ behind) s t q u v d
    → Matches p n m o w (thread_spot 0) asked [] u term
    → GoesOnAlike p n m o k g first (runs l v) xs rest (thread None (going term asked) ∷ behind)
    s t d
alone p n m o k g threaded w first xs l u v rest s t q d behind term asked all pick match =
    go (threads_go_alike p n m o k g threaded w 0 behind (Stood [] behind None term asked) asked
    s t q u term v d
    pick.round all.grown all.stores match pick.run pick.bounded pick.reached pick.finely
    (pick.may_go [] behind term asked refl))
  where
    go : ThreadGoesAlike p n m o k w (thread_spot 0) behind (Stood [] behind None term asked) asked
        s t q term v d
        → GoesOnAlike p n m o k g first (runs l v) xs rest (Stood [] behind None term asked) s t d
    go (alike.nothing x fol met does stores queued) =
        record {
          world = x;
          events = [];
          later = thread None (going term asked) ∷ (behind ++ []);
          effect = idle;
          goes = by_none [] behind (thread None (going term asked));
          bounded = bounded_idle;
          same_output = sym does.output;
          alike = alone_alike p n m o g w x first xs l u v rest behind [] term term asked asked
              s t t d all fol queued (none_added (Stood [] behind None term asked))
              (λ i f h. (does.unended i f h).1) does.lasting met
              (subst (λ us. AreStores p n m x us (afterwards d s) t)
              (sym (append-nil (Stood [] behind None term asked))) stores);
        }
    go (alike.takes x other next done fol told run met does stores queued bounded) =
        record {
          world = x;
          events = takes 0 other ∷ [];
          later = thread None (going next (noted_by other done.came asked))
              ∷ (behind ++ done.added);
          effect = done.effect;
          goes = by_event [] behind None run;
          bounded = bounded;
          same_output = sym does.output;
          alike = alone_alike p n m o g w x first xs l u v rest behind done.added term next asked
              (noted_by other done.came asked) s t (afterwards done.effect t) d all fol queued
              (are_added all.stores stores does run) (λ i f h. (does.unended i f h).1) does.lasting
              met stores;
        }

pub threads_go_on : ThreadsGoOn
threads_go_on p n m o k g threaded w first stage xs ys path l u v rest now s t q d all pick =
    let one = (each_serves p n m o w now s (xs ++ leaf path (runs l u) ∷ ys) (leaf path (runs l u))
    all.serve (leaf_there xs ys (leaf path (runs l u)))).0 in
    let place = split one.0 (thread (Some l) (going one.1 one.2)) now one.3 in
    let length_is = place.is_number in
    let positive = one.4 in
    let stood = Stood place.before place.behind (Some l) one.1 one.2 in
    subst (λ us. GoesOnAlike p n m o k g first stage (xs ++ leaf path (runs l v) ∷ ys) rest us
    s t d)
    (sym place.are_all)
    (served p n m o k g threaded w first stage xs ys path l u v rest s t q d place.before
    place.behind one.1 one.2
    (subst (λ us. GoAlike p n m o g w first stage (xs ++ leaf path (runs l u) ∷ ys) rest us s t)
    place.are_all all)
    (subst (λ us. IsThreadPick p n m o k (Some l) us s t q u v d) place.are_all pick)
    (omega (arith, length_is, positive))
    (subst (λ z. Matches p n m o w (thread_spot z) one.2 [] u one.1) (sym length_is) one.5))

pub first_thread_goes_on : FirstThreadGoesOn
first_thread_goes_on p n m o k g threaded w first xs l u v rest now s t q d all pick =
    let h = all.is_first.1 in
    let are : now ≡ thread None (going h.0 h.1) ∷ all.others =
    all.are_all ∙ ap (λ y. thread None y ∷ all.others) h.2 in
    subst (λ us. GoesOnAlike p n m o k g first (runs l v) xs rest us s t d) (sym are)
    (alone p n m o k g threaded w first xs l u v rest s t q d all.others h.0 h.1
    (subst (λ us. GoAlike p n m o g w first (runs l u) xs rest us s t) are all)
    (subst (λ us. IsThreadPick p n m o k None us s t q u v d) are pick) h.3)
