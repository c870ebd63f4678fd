-- What servers have kept of the ends of their threads stays where another thread goes on.
use Rattle.std.proofs.Common.{◌≡◌, ℕ, ◌+◌, ◌==◌, true, false, List, [], ◌∷◌, ◌++◌, Option, Some, None, refl, sym, ap, ◌∙◌, subst, rules, inl, inr}
use Rattle.std.specs.Prelude.{option_map, if◌then◌else◌}
use Rattle.std.specs.List.{cons_option}
use Rattle.fort_core.specs.declared.program.Program.{Program}
use Rattle.fort_core.specs.declared.term.Term.{Term}
use Rattle.fort_core.specs.declared.value.Value.{Value, out-Value}
use Rattle.fort_core.specs.declared.value.Value.TheVariants.{outs-Object}
use Rattle.fort_machine.specs.Cells.{untouched, left_at}
use Rattle.fort_machine.specs.Effects.{Store, Effect, afterwards}
use Rattle.fort_machine.specs.Parts.{IsOneOf}
use Rattle.fort_machine.specs.Runs.{location}
use Rattle.fort_threads.specs.Objects.{objects, NoneTwice}
use Rattle.fort_threads.specs.Threads.{Paths, new, going, Thread, thread, end_at, is_at, end_of}
use Rattle.fort_threads_law_servers.specs.Prelude.{Names}
use Rattle.fort_threads_law_servers.specs.Stages.{End, end_term, kept_value, Stage, called, asking, trying, got, refused, looking, sent, reads, runs, caught, lost, keeps, has_kept, marks, has_marked, counts, done}
use Rattle.fort_threads_law_servers.specs.Stages as stages
use Rattle.fort_threads_law_servers.specs.Roots.{Start}
use Rattle.fort_threads_law_worlds.specs.Worlds.{given, object, World}
use Rattle.fort_threads_law_worlds.specs.Known.{Own}
use Rattle.fort_threads_law_worlds.specs.Stores.{AreStores}
use Rattle.fort_threads_law_trees.specs.Leaves.{held, object_in}
use Rattle.fort_threads_law_whole.specs.Lists.{IsAt}
use Rattle.fort_threads_law_whole.specs.Servers.{IsKept, RunsOne, IsNew, IsNewOrNone, ServesOne}
use Rattle.fort_threads_law_whole.proofs.Numbers.{is_one_at, object_is_one}

-- a thread that goes on has no end
same_place : (l : ℕ) → (l == l) ≡ true
same_place l = let e : l ≡ l = refl in search (rules, e)

other_place : (m l : ℕ) → (m ≡ l → ⊥) → (m == l) ≡ false
other_place m l h = search (rules, h)

pub no_end_yet : (us : List Thread) (l : ℕ) (v : Term) (asked : Paths) → NoneTwice (objects us)
    → IsOneOf (thread (Some l) (going v asked)) us → end_of us l ≡ None
no_end_yet [] l v asked once i = absurd i
no_end_yet (u ∷ us) l v asked once (inl e) =
    subst (λ (z : Thread). (if is_at l z.object then end_at z.phase else end_of us l) ≡ None) e
    (ap (λ b. if b then None else end_of us l) (same_place l))
no_end_yet (u ∷ us) l v asked once (inr i) =
    go u.object (no_end_yet us l v asked) once
    (object_is_one (thread (Some l) (going v asked)) us l i refl)
  where
    go : (o : Option ℕ)
        → (NoneTwice (objects us) → IsOneOf (thread (Some l) (going v asked)) us
        → end_of us l ≡ None)
        → NoneTwice (cons_option o (objects us)) → IsOneOf l (objects us)
        → (if is_at l o then end_at u.phase else end_of us l) ≡ None
    go None rest once j = rest once i
    go (Some m) rest once j =
        ap (λ b. if b then end_at u.phase else end_of us l)
        (other_place m l (λ e. once.0 (subst (λ k. IsOneOf k (objects us)) (sym e) j)))
        ∙ rest once.1 i

module _ {p : Program} {n : Names} {m : Start} {w : World} {now : List Thread} {s t : Store}
    (stores : AreStores p n m w now s t) (once : NoneTwice (objects now)) where
  -- its object isn't marked
  pub unmarked : (l number : ℕ) (v : Term) (asked : Paths)
      → IsAt number (thread (Some l) (going v asked)) now
      → (f : Value) × (w.object l ≡ Some (object f (given None)))
  unmarked l number v asked at =
      let u = thread (Some l) (going v asked) in
      let i = is_one_at number u now at in
      let g = stores.objects_given u l i refl in
      go g.0 g.1 g.2
      (sym (no_end_yet now l v asked once i) ∙ (stores.marked l g.0 g.1 g.2).1)
    where
      go : (f : Value) (end : Option End) → w.object l ≡ Some (object f (given end))
          → None ≡ option_map end_term end
          → (f : Value) × (w.object l ≡ Some (object f (given None)))
      go f None e q = (f, e)
      go f (Some end) e q = let z : None ≡ Some (end_term end) = q in absurd cc

  -- what is kept of its end stays where nothing happens there
  module _ (o : Own) (d : Effect)
      (quiet : (l : ℕ) (f : Value) → w.object l ≡ Some (object f (given None))
      → d.cells (l + 2) ≡ untouched) where
    pub one_kept : (l : ℕ) (stage : Stage) (v : Value) → RunsOne p n m o w now l stage
        → s (l + 2) ≡ Some v → afterwards d s (l + 2) ≡ Some v
    one_kept l stage v h e =
        let q = unmarked l h.0 h.1 h.2 h.3 in
        ap (λ c. left_at c (s (l + 2))) (quiet l q.0 q.1) ∙ e

    pub kept_stays : (stage : Stage) → ServesOne p n m o w now stage → IsKept s stage
        → IsKept (afterwards d s) stage
    kept_stays (has_kept l end) h e = one_kept l (has_kept l end) (kept_value end) h e
    kept_stays (marks l end) h e = one_kept l (marks l end) (kept_value end) h e
    kept_stays (got value) h e = tt
    kept_stays (looking value) h e = tt
    kept_stays (sent l) h e = tt
    kept_stays (reads l) h e = tt
    kept_stays (runs l u) h e = tt
    kept_stays (caught l u) h e = tt
    kept_stays (keeps l end) h e = tt
    kept_stays (has_marked l end) h e = tt
    kept_stays called h e = tt
    kept_stays asking h e = tt
    kept_stays (trying form) h e = tt
    kept_stays (refused thrown) h e = tt
    kept_stays (lost thrown) h e = tt
    kept_stays stages.leaves h e = tt
    kept_stays (counts form) h e = tt
    kept_stays (done end) h e = tt

-- what a server holds is the object of a thread that stands
module _ (p : Program) (n : Names) (m : Start) (o : Own) (w : World) (now : List Thread) where
  new_stands : (l k : ℕ) → IsNew now l → k ≡ l → IsOneOf k (objects now)
  new_stands l k h e =
      subst (λ z. IsOneOf z (objects now)) (sym e)
      (object_is_one (thread (Some l) (new h.1)) now l
      (is_one_at h.0 (thread (Some l) (new h.1)) now h.2) refl)

  one_stands : (l k : ℕ) (stage : Stage) → RunsOne p n m o w now l stage → k ≡ l
      → IsOneOf k (objects now)
  one_stands l k stage h e =
      let u = thread (Some l) (going h.1 h.2) in
      subst (λ z. IsOneOf z (objects now)) (sym e)
      (object_is_one u now l (is_one_at h.0 u now h.3) refl)

  only_one : (k l : ℕ) → IsOneOf k (l ∷ []) → k ≡ l
  only_one k l (inl e) = e
  only_one k l (inr i) = absurd i

  new_or_none : (value : Value) (k : ℕ) → (w.unended ≡ 0 → ⊥) → IsNewOrNone p n w now value
      → IsOneOf k (object_in (out-Value value) ++ []) → IsOneOf k (objects now)
  new_or_none value k some (inl h) i =
      let place : object_in (out-Value value) ++ [] ≡ h.0 ∷ [] =
      ap (λ z. object_in (out-Value z) ++ []) h.1
      ∙ ap (λ z. object_in z ++ []) (outs-Object n.thread (location h.0)) in
      new_stands h.0 k h.2 (only_one k h.0 (subst (IsOneOf k) place i))
  new_or_none value k some (inr h) i = absurd (some h.1)

  pub held_stands : (stage : Stage) (k : ℕ) → (w.unended ≡ 0 → ⊥)
      → ServesOne p n m o w now stage → IsOneOf k (held stage) → IsOneOf k (objects now)
  held_stands (got value) k some h i = new_or_none value k some h i
  held_stands (looking value) k some h i = new_or_none value k some h i
  held_stands (sent l) k some h i = new_stands l k h (only_one k l i)
  held_stands (reads l) k some h i = new_stands l k h (only_one k l i)
  held_stands (runs l u) k some h i = one_stands l k (runs l u) h (only_one k l i)
  held_stands (caught l u) k some h i = one_stands l k (caught l u) h (only_one k l i)
  held_stands (keeps l end) k some h i = one_stands l k (keeps l end) h (only_one k l i)
  held_stands (has_kept l end) k some h i = one_stands l k (has_kept l end) h (only_one k l i)
  held_stands (marks l end) k some h i = one_stands l k (marks l end) h (only_one k l i)
  held_stands (has_marked l end) k some h i = absurd i
  held_stands called k some h i = absurd i
  held_stands asking k some h i = absurd i
  held_stands (trying form) k some h i = absurd i
  held_stands (refused thrown) k some h i = absurd i
  held_stands (lost thrown) k some h i = absurd i
  held_stands stages.leaves k some h i = absurd i
  held_stands (counts form) k some h i = absurd i
  held_stands (done end) k some h i = absurd i
