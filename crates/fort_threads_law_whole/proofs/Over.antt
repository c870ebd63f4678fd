-- All that goes on beside one another is over: so are all threads.
use Rattle.std.proofs.Common.{◌≡◌, ℕ, suc, ◌+◌, ◌<◌, ◌≤◌, arith, Bool, List, [], ◌∷◌, ◌++◌, length, Option, Some, None, refl, ap, sym, ◌∙◌, subst, inl, inr, ◌⊎◌}
use Rattle.fort_core.specs.declared.program.Program.{Program}
use Rattle.fort_core.specs.declared.term.Term.{Term}
use Rattle.fort_core.specs.declared.term.Term as term
use Rattle.fort_core.specs.declared.value.Value.{Value}
use Rattle.fort_machine.specs.Acts.{unit}
use Rattle.fort_machine.specs.Effects.{Store}
use Rattle.fort_machine.specs.Ends.{throw_of}
use Rattle.fort_machine.specs.Parts.{IsOneOf}
use Rattle.fort_threads.specs.Machine.{HaveEnded}
use Rattle.fort_threads.specs.Threads.{Phase, new, going, over, Thread, thread}
use Rattle.fort_threads_law_servers.specs.Prelude.{Names}
use Rattle.fort_threads_law_servers.specs.Stages.{End, end_term, Stage, done, term_at}
use Rattle.fort_threads_law_servers.specs.Roots.{Start, Served, all}
use Rattle.fort_threads_law_servers.specs.Trees.{Tree, with_step, tree_term, IsOver, are_values, first_threw, second_threw}
use Rattle.fort_threads_law_private.specs.Grounds.{Ground}
use Rattle.fort_threads_law_worlds.specs.Worlds.{World}
use Rattle.fort_threads_law_worlds.specs.Known.{Own}
use Rattle.fort_threads_law_trees.specs.Changes.{AreDone}
use Rattle.fort_threads_law_trees.specs.Leaves.{Leaf, leaves, yet, waiting, running, free_in, owed_in, owes, AreCalm}
use Rattle.fort_threads_law_trees.proofs.Leaving.{in_front, in_back}
use Rattle.fort_threads_law_trees.proofs.Changing.{unmarked_value, unmarked_throw, value_done, emptied, stage_throws_not, calm_throw}
use Rattle.fort_threads_law_whole.specs.Lists.{IsAt}
use Rattle.fort_threads_law_whole.specs.Servers.{HasEnd, IsFirst}
use Rattle.fort_threads_law_whole.specs.Roots.{GoAlike}
use Rattle.fort_threads_law_whole.proofs.Leaving.{done_none, done_free}
use Rattle.fort_threads_law_whole.proofs.Numbers.{has_number}

-- all is over, with the end of thread 0
pub record IsAllOver (p : Program) (n : Names) (s : Store) (first : ℕ) (now : List Thread)
    : Type 0 where
  pub end : End
  pub holds : HasEnd p n s first end
  pub have_ended : HaveEnded now (end_term end)

no_length : (ls : List ℕ) → length ls ≡ 0 → (l : ℕ) → IsOneOf l ls → ⊥
no_length [] e l i = i
no_length (x ∷ ls) e l i = absurd (omega (arith, e))

module _ {p : Program} {n : Names} {m : Start} {o : Own} {g : Ground} {w : World} {first : ℕ}
    {servers : List Leaf} {now : List Thread} {s t : Store} where
  -- where `go'` is done and so are all servers, and none is yet to be called, all is over
  pub all_done : (x : Term) → AreDone servers
      → GoAlike p n m o g w first (done x) servers 0 now s t → IsAllOver p n s first now
  all_done x are h =
      record {
        end = h.is_first.0;
        holds = h.is_first.2;
        have_ended =
            record {
              others = h.others;
              are_all = h.are_all ∙ ap (λ y. thread None y ∷ h.others) h.is_first.1;
              all_over = λ u i. let j = has_number u h.others i in
                  by_thread (suc j.0) u.object u.phase
                  (subst (λ us. IsAt (suc j.0) u us) (sym h.are_all) j.1) (omega arith);
            };
      }
    where
      empty : (l : ℕ) → IsOneOf l w.queue → ⊥
      empty = by_free h.free
        where
          by_free : (w.unended ≡ 0) ⊎ (free_in servers + 0 + w.spawned ≡ 64 + length w.queue)
              → (l : ℕ) → IsOneOf l w.queue → ⊥
          by_free (inl e) =
              let q = h.owed in
              no_length w.queue (let z : length w.queue ≡ 0 = omega (arith, e, q) in z)
          by_free (inr e) =
              let f = done_free servers are in
              let few = h.stores.few in
              no_length w.queue (let z : length w.queue ≡ 0 = omega (arith, e, f, few) in z)

      by_thread : (number : ℕ) (object : Option ℕ) (phase : Phase)
          → IsAt number (thread object phase) now → 0 < number
          → (y : Term) × (phase ≡ over y)
      by_thread number object (over y) e z = (y, refl)
      by_thread number None phase e z =
          let q = h.no_other_first number phase e in absurd (omega (arith, q, z))
      by_thread number (Some l) (new f) e z = absurd (new_one (h.new_ones number l f e))
        where
          new_one : IsOneOf l w.queue
              ⊎ ((y : Leaf) × IsOneOf y servers × IsOneOf l (waiting y.stage)) → ⊥
          new_one (inl i) = empty l i
          new_one (inr y) =
              done_none servers are y.0 l y.1
              (in_front l (waiting y.0.stage) (running y.0.stage) y.2)
      by_thread number (Some l) (going v asked) e z =
          let y = h.going_ones number l v asked e in
          absurd (done_none servers are y.0 l y.1
          (in_back l (waiting y.0.stage) (running y.0.stage) y.2))

-- both parts are over
pub over_alike : (p : Program) (n : Names) (m : Start) (o : Own) (g : Ground) (w : World)
    (first : ℕ) (a b : Bool) (stage : Stage) (tree : Tree) (now : List Thread) (s t : Store)
    (x : Term) → GoAlike p n m o g w first stage (leaves [] tree) (yet tree) now s t
    → Served p n (all first a stage b tree) → AreCalm tree
    → IsOver (with_step a (term_at n stage)) (with_step b (tree_term n tree)) x
    → (x ≡ term.Value unit) × IsAllOver p n s first now
over_alike p n m o g w first a b stage tree now s t x h served calm (are_values y z e f q) =
    let d = value_done n stage y served.0 (unmarked_value a (term_at n stage) y e) in
    let k = emptied p n [] tree z served.2 (unmarked_value b (tree_term n tree) z f) in (
      q,
      all_done d.0 k.are_done
          (subst (λ r. GoAlike p n m o g w first (done d.0) (leaves [] tree) r now s t) k.none_yet
          (subst (λ r. GoAlike p n m o g w first r (leaves [] tree) (yet tree) now s t) d.1 h)),
    )
over_alike p n m o g w first a b stage tree now s t x h served calm (first_threw y z e q) =
    absurd (stage_throws_not n stage y served.0 h.calm.0
    (unmarked_throw a (term_at n stage) y e))
over_alike p n m o g w first a b stage tree now s t x h served calm (second_threw y z e q) =
    absurd (calm_throw p n tree y served.2 calm (unmarked_throw b (tree_term n tree) y e))
