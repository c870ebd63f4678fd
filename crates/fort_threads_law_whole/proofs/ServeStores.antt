-- Both stores where the machine writes to one location of the prelude.
use Rattle.std.proofs.Common.{◌≡◌, ℕ, ◌+◌, ◌<◌, ◌≤◌, ◌==◌, Bool, true, false, List, [], ◌∷◌, Option, Some, None, pos, refl, ap, sym, ◌∙◌, subst, arith, rules, inl, inr, ◌⊎◌}
use Rattle.fort_core.specs.declared.program.Program.{Program}
use Rattle.fort_core.specs.declared.value.Value.{Value, Small}
use Rattle.fort_machine.specs.Effects.{Store}
use Rattle.fort_machine.specs.Parts.{IsOneOf}
use Rattle.fort_threads.specs.Threads.{Thread}
use Rattle.fort_threads_law_servers.specs.Prelude.{Names}
use Rattle.fort_threads_law_servers.specs.Stages.{End}
use Rattle.fort_threads_law_servers.specs.Roots.{Start}
use Rattle.fort_threads_law_worlds.specs.Worlds.{Spot, unused, for_all, part_of, of_prelude, given, Object, object, World, HasParts, IsGiven, FollowsAt}
use Rattle.fort_threads_law_worlds.specs.Stores.{IsQueue, AreStores}
use Rattle.fort_threads_law_worlds.proofs.Following.{ends_stay, open_at}
use Rattle.fort_threads_law_worlds.proofs.Queues.{queue_kept}

-- the same world with another queue and count
abbrev pub recounted : World → List ℕ → ℕ → World
recounted w ls k = record w { queue = ls; unended = k }

pub recounted_follows : (spot : Spot) (w : World) (ls : List ℕ) (k : ℕ)
    → FollowsAt spot w (recounted w ls k)
recounted_follows spot w ls k = record {
  uses = λ l h. refl;
  functions = λ l f stage e. (stage, e);
  given = λ l f end e. (end, e, ends_stay end);
  flying = λ l f other e h. e;
  spawned = omega arith;
  lasting = λ l. refl;
}

module _ (p : Program) (n : Names) (m : Start) (w : World) (now : List Thread) (s q t : Store)
    (h : AreStores p n m w now s t) (at : ℕ) (v : Value) (sets : q at ≡ Some v)
    (leaves : (l : ℕ) → (l ≡ at → ⊥) → q l ≡ s l) (shut : w.serves at ≡ for_all → ⊥)
    (used : w.serves at ≡ unused → ⊥)
    (no_place : (l place : ℕ) → w.serves at ≡ part_of l place → place ≡ 2)
    (no_end : (l : ℕ) (f : Value) (end : End) → w.object l ≡ Some (object f (given (Some end)))
    → w.serves at ≡ part_of l 2 → ⊥) (ls : List ℕ) (k : ℕ) (count : n.count ≡ at → ⊥)
    (started : m.started ≡ at → ⊥) (unended : q n.unended ≡ Some (Small (pos k)))
    (few : k ≤ 1 + w.spawned)
    (queued : (x : Value) × (q n.queue ≡ Some x) × IsQueue n s x ls)
    (in_queue : (l : ℕ) → IsOneOf l ls → IsOneOf l w.queue) where
  spared : (l : ℕ) → (w.serves l ≡ w.serves at → ⊥) → q l ≡ s l
  spared l j = leaves l (λ e. j (ap w.serves e))

  part_left : (l place : ℕ) → HasParts w l → place < 4 → (place ≡ 2 → ⊥)
      → q (l + place) ≡ s (l + place)
  part_left l place parts less j =
      spared (l + place) (λ e. j (no_place l place (sym e ∙ parts place less)))

  at_first : (l : ℕ) → l + 0 ≡ l
  at_first l = omega arith

  first_left : (l : ℕ) → HasParts w l → q l ≡ s l
  first_left l parts =
      subst (λ i. q i ≡ s i) (at_first l)
      (part_left l 0 parts (omega arith) (λ e. let z : 0 ≡ 2 = e in omega (arith, z)))

  second_left : (l : ℕ) → HasParts w l → q (l + 1) ≡ s (l + 1)
  second_left l parts =
      part_left l 1 parts (omega arith) (λ e. let z : 1 ≡ 2 = e in omega (arith, z))

  fourth_left : (l : ℕ) → HasParts w l → q (l + 3) ≡ s (l + 3)
  fourth_left l parts =
      part_left l 3 parts (omega arith) (λ e. let z : 3 ≡ 2 = e in omega (arith, z))

  third_left : (l : ℕ) (f : Value) (end : End) → w.object l ≡ Some (object f (given (Some end)))
      → q (l + 2) ≡ s (l + 2)
  third_left l f end e =
      spared (l + 2) (λ z. no_end l f end e (sym z ∙ h.parts l _ e 2 (omega arith)))

  there_still : (l : ℕ) → q l ≡ None → w.serves l ≡ unused
  there_still l e = go (l == at) refl
    where
      go : (b : Bool) → (l == at) ≡ b → w.serves l ≡ unused
      go true r =
          let z : l ≡ at = search (rules, r) in
          let y : Some v ≡ None = sym sets ∙ ap q (sym z) ∙ e in absurd cc
      go false r =
          h.there l
          (sym (leaves l (λ z.
          let c : (l == at) ≡ true = search (rules, z) in
          let y : true ≡ false = sym c ∙ r in absurd cc))
          ∙ e)

  parts_in_queue : (l : ℕ) → IsOneOf l ls → q (l + 3) ≡ s (l + 3)
  parts_in_queue l i =
      let g = h.in_queue l (in_queue l i) in
      fourth_left l (h.parts l (object g.0 (given g.1)) g.2)

  pub stores_set : AreStores p n m (recounted w ls k) now q t
  stores_set = record {
    agree = λ l e. spared l (λ z. shut (sym z ∙ e)) ∙ h.agree l e;
    private_store = λ l y e z.
        h.private_store l y e (sym (leaves l (λ c. shut (ap w.serves (sym c) ∙ open_at w l e))) ∙ z);
    nothing = λ l e.
        let z = h.nothing l e in (spared l (λ c. used (sym c ∙ e)) ∙ z.0, z.1);
    there = there_still;
    parts = h.parts;
    are_objects = h.are_objects;
    function = λ l y e.
        let z = h.function l y e in (first_left l (h.parts l y e) ∙ z.0, z.1);
    marked = λ l f end e.
        let z = h.marked l f end e in (second_left l (h.parts l _ e) ∙ z.0, z.1);
    kept = λ l f end e.
        let z = h.kept l f end e in (third_left l f end e ∙ z.0, z.1);
    exceptions = h.exceptions;
    flying = λ l f spot e.
        let z = h.flying l f spot e in (second_left l (h.parts l _ e) ∙ z.0, z.1);
    own = h.own;
    count = leaves n.count count ∙ h.count;
    few = h.few;
    standing_count = h.standing_count;
    objects_given = h.objects_given;
    bounded = h.bounded;
    new_threads = h.new_threads;
    lasting = h.lasting;
    unended = unended;
    unended_few = few;
    queued = (
      queued.0,
      queued.1,
      queue_kept n s q queued.0 ls parts_in_queue queued.2,
    );
    in_queue = λ l i. h.in_queue l (in_queue l i);
    started = leaves m.started started ∙ h.started;
  }
