-- All goes on alike where thread 0 goes on.
use Rattle.std.proofs.Common.{◌≡◌, ℕ, ◌+◌, true, List, [], ◌∷◌, ◌++◌, length, Some, None, refl, ap, ◌∙◌, arith, ◌⊎◌, inl, inr}
use Rattle.fort_core.specs.declared.program.Program.{Program}
use Rattle.fort_core.specs.declared.term.Term.{Term}
use Rattle.fort_core.specs.declared.value.Value.{Value}
use Rattle.fort_machine.specs.Cells.{untouched}
use Rattle.fort_machine.specs.Effects.{Store, Effect, afterwards}
use Rattle.fort_threads.specs.Threads.{Paths, going, Thread, thread}
use Rattle.fort_threads_law_servers.specs.Prelude.{Names}
use Rattle.fort_threads_law_servers.specs.Stages.{runs}
use Rattle.fort_threads_law_servers.specs.Roots.{Start}
use Rattle.fort_threads_law_private.specs.Grounds.{Ground}
use Rattle.fort_threads_law_private.proofs.Growing.{grows_on}
use Rattle.fort_threads_law_worlds.specs.Worlds.{given, object, World, FollowsAt}
use Rattle.fort_threads_law_worlds.specs.Known.{Own}
use Rattle.fort_threads_law_worlds.specs.Queues.{HasQueued}
use Rattle.fort_threads_law_worlds.specs.Stores.{AreStores}
use Rattle.fort_threads_law_matches.specs.Matches.{Matches}
use Rattle.fort_threads_law_matches.proofs.Follows.{ground_follows}
use Rattle.fort_threads_law_runs.specs.Threads.{thread_spot}
use Rattle.fort_threads_law_trees.specs.Leaves.{Leaf, owed_in}
use Rattle.fort_threads_law_whole.specs.Lists.{IsAt}
use Rattle.fort_threads_law_whole.specs.Roots.{GoAlike}
use Rattle.fort_threads_law_whole.proofs.ThreadAdded.{all_serve}
use Rattle.fort_threads_law_whole.proofs.ThreadFirst.{lasts_on}
use Rattle.fort_threads_law_whole.proofs.ThreadGoes.{AreAdded, OldOne, queue_on, held_on, objects_on, server_on, new_on, going_on, first_on, owed_on, free_on}
use Rattle.fort_threads_law_whole.proofs.ThreadStores.{stores_go_on}

module _ (p : Program) (n : Names) (m : Start) (o : Own) (g : Ground) (w x : World) (first : ℕ)
    (servers : List Leaf) (l : ℕ) (a b : Term) (rest : ℕ)
    (behind added : List Thread) (v next : Term) (asked later : Paths)
    (s t t' : Store) (d : Effect)
    (alike : GoAlike p n m o g w first (runs l a) servers rest
    (thread None (going v asked) ∷ behind) s t)
    (fol : FollowsAt (thread_spot 0) w x) (queued : HasQueued w x added)
    (are : AreAdded added (thread None (going v asked) ∷ behind))
    (quiet : (i : ℕ) (f : Value) → w.object i ≡ Some (object f (given None))
    → d.cells (i + 2) ≡ untouched)
    (lasting : (i : ℕ) → w.lasts i ≡ true → d.cells i ≡ untouched)
    (match : Matches p n m o x (thread_spot 0) later [] b next) where
  abbrev Then : List Thread
  Then = thread None (going next later) ∷ (behind ++ added)

  some : w.unended ≡ 0 → ⊥
  some e =
      let q : w.unended ≡ 1 + (length w.queue + owed_in servers) = alike.owed in
      omega (arith, e, q)

  goings : (number k : ℕ) (u : Term) (paths : Paths)
      → IsAt number (thread (Some k) (going u paths)) Then
      → OldOne p n m o x servers number k u paths
  goings number k u paths at =
      go (going_on p n m o g w x first (runs l a) servers rest [] behind added None v next asked
      later s t d alike some fol queued are quiet number k u paths at)
    where
      go : ((number ≡ length {A = Thread} [])
          × (thread (Some k) (going u paths) ≡ thread None (going next later)))
          ⊎ ((number ≡ length {A = Thread} [] → ⊥)
          × IsAt number (thread (Some k) (going u paths)) (thread None (going v asked) ∷ behind)
          × OldOne p n m o x servers number k u paths)
          → OldOne p n m o x servers number k u paths
      go (inl q) = let e : Some k ≡ None = ap (λ (z : Thread). z.object) q.1 in absurd cc
      go (inr q) = q.2

  pub alone_alike
      : AreStores p n m x ((thread None (going v asked) ∷ behind) ++ added) (afterwards d s) t'
      → GoAlike p n m o g x first (runs l b) servers rest Then (afterwards d s) t'
  alone_alike h =
      record {
        grown = grows_on alike.grown (ground_follows fol);
        stores = stores_go_on None v next asked later [] behind added h;
        phase = going next later;
        others = behind ++ added;
        are_all = refl;
        is_first = (alike.is_first.0, (next, later, refl, match));
        first_lasts = λ place lt.
            let q = alike.first_lasts place lt in (
              fol.lasting (first + place) ∙ q.0,
              (
                q.1.0,
                lasts_on d s (first + place) q.1.0 (lasting (first + place) q.0) q.1.1,
              ),
            );
        calm = (tt, alike.calm.1);
        serve = all_serve p n m o x Then (afterwards d s) servers (λ y i.
            server_on p n m o g w x first (runs l a) servers rest [] behind added None v next asked
            later s t d alike some fol queued are quiet y i
            (λ k r e. let z : None ≡ Some k = e in absurd cc));
        queue_new = queue_on p n m o g w x first (runs l a) servers rest [] behind added None v next
            asked later s t d alike some fol queued are quiet;
        held_once = held_on p n m o g w x first (runs l a) servers rest [] behind added None v next
            asked later s t d alike some fol queued are quiet;
        objects_apart = objects_on p n m o g w x first (runs l a) servers rest [] behind added None
            v next asked later s t d alike some fol queued are quiet;
        new_ones = new_on p n m o g w x first (runs l a) servers rest [] behind added None v
            next asked later s t d alike some fol queued are quiet;
        going_ones = goings;
        no_other_first = first_on p n m o g w x first (runs l a) servers rest [] behind added None v
            next asked later s t d alike some fol queued are quiet (λ e. refl);
        owed = owed_on p n m o g w x first (runs l a) servers rest [] behind added None v next asked
            later s t d alike some fol queued are quiet;
        free = inr (free_on p n m o g w x first (runs l a) servers rest [] behind added None v next
            asked later s t d alike some fol queued are quiet);
      }
