-- Both stores behind the pick of `spawn'` that makes an object, which the machine with threads has
-- not made yet.
use Rattle.std.proofs.Common.{◌≡◌, ℕ, ◌+◌, ◌<◌, ◌≤◌, ◌^◌, ◌==◌, Bool, true, false, List, Some, None, if◌then◌else◌, pos, arith, rules, refl, ap, sym, ◌∙◌, subst, inl}
use Rattle.fort_core.specs.declared.program.Program.{Program}
use Rattle.fort_core.specs.declared.value.Value.{Value, Small}
use Rattle.fort_machine.specs.Effects.{Store, Effect, idle, making, FitsAll, afterwards}
use Rattle.fort_machine.specs.Parts.{IsOneOf}
use Rattle.fort_threads.specs.Moves.{opening_fields}
use Rattle.fort_threads.specs.Threads.{Thread}
use Rattle.fort_threads_law_servers.specs.Prelude.{Names}
use Rattle.fort_threads_law_servers.specs.Roots.{Start}
use Rattle.fort_threads_law_private.specs.Grounds.{Grows}
use Rattle.fort_threads_law_private.specs.Private.{PrivateValue}
use Rattle.fort_threads_law_private.proofs.Growing.{value_grows}
use Rattle.fort_threads_law_worlds.specs.Worlds.{Spot, unused, for_all, part_of, of_prelude, in_flight, given, Object, object, World, ground_of, HasParts, FollowsAt}
use Rattle.fort_threads_law_worlds.specs.Stores.{AreStores}
use Rattle.fort_threads_law_worlds.specs.Effects.{DoAlike}
use Rattle.fort_threads_law_worlds.proofs.Following.{part_used, prelude_used, used_not, same_part, ends_stay, not_both, open_at, at_open, grounds_grow}
use Rattle.fort_threads_law_worlds.proofs.Queues.{queue_kept}
use Rattle.fort_threads_law_calls.proofs.Rows.{InRow, in_row, out_of_row, place_at, use_at, part_at, part_in, part_out, field_at, field_left, row_untouched, row_left, row_absent}

-- the world in which an object is in flight besides
abbrev pub in_air : World → Spot → ℕ → Value → World
in_air w spot l f = record w {
  serves = λ i. part_at l i (w.serves i);
  object = λ i. if l == i then Some (object f (in_flight spot)) else w.object i;
}

module _ (p : Program) (n : Names) (m : Start) (w : World) (spot : Spot) (standing : List Thread)
    (s t : Store) (l : ℕ) (f : Value) (h : AreStores p n m w standing s t)
    (fits : FitsAll (making l (opening_fields f) 1) s) (ends : l + 4 ≤ 2 ^ 64)
    (is_private : PrivateValue p n m (ground_of w) f) where
  abbrev x : World
  x = in_air w spot l f

  abbrev d : Effect
  d = making l (opening_fields f) 1

  abbrev Elsewhere : ℕ → Type 0
  Elsewhere i = (place : ℕ) → place < 4 → i ≡ l + place → ⊥

  was_unused : (place : ℕ) → place < 4 → w.serves (l + place) ≡ unused
  was_unused place k = h.there (l + place) (row_absent l f 1 s fits place k)

  used_elsewhere : (i : ℕ) → (w.serves i ≡ unused → ⊥) → Elsewhere i
  used_elsewhere i k place j e = k (ap w.serves e ∙ was_unused place j)

  same_use : (i : ℕ) → (w.serves i ≡ unused → ⊥) → x.serves i ≡ w.serves i
  same_use i k = part_out l i (w.serves i) (used_elsewhere i k)

  none_less : 0 < 4
  none_less = omega arith

  one_less : 1 < 4
  one_less = omega arith

  no_object : (o : Object) → w.object l ≡ Some o → ⊥
  no_object o e =
      let q = h.parts l o e 0 none_less in
      let z : part_of l 0 ≡ unused = sym q ∙ was_unused 0 none_less in absurd cc

  object_kept : (i : ℕ) (o : Object) → w.object i ≡ Some o → x.object i ≡ Some o
  object_kept i o e = go (l == i) refl
    where
      go : (b : Bool) → (l == i) ≡ b
          → (if b then Some (object f (in_flight spot)) else w.object i) ≡ Some o
      go true q =
          let z : l ≡ i = search (rules, q) in
          absurd (no_object o (ap w.object z ∙ e))
      go false q = e

  -- an object is the new one, or an older one
  data Which (i : ℕ) (o : Object) : Type 0 where
    new_one : l ≡ i → o ≡ object f (in_flight spot) → Which i o
    old_one : w.object i ≡ Some o → Which i o

  which : (i : ℕ) (o : Object) → x.object i ≡ Some o → Which i o
  which i o e = go (l == i) refl e
    where
      go : (b : Bool) → (l == i) ≡ b
          → (if b then Some (object f (in_flight spot)) else w.object i) ≡ Some o → Which i o
      go true q e =
          let z : l ≡ i = search (rules, q) in
          let y : object f (in_flight spot) ≡ o = cc in new_one z (sym y)
      go false q e = old_one e

  which_given : (i : ℕ) (g : Value) (end : _) → x.object i ≡ Some (object g (given end))
      → w.object i ≡ Some (object g (given end))
  which_given i g end e = go (which i _ e)
    where
      go : Which i (object g (given end)) → w.object i ≡ Some (object g (given end))
      go (old_one q) = q
      go (new_one z q) = absurd (not_both (ap Some q) refl)

  pub follows_air : FollowsAt spot w x
  follows_air = record {
    uses = same_use;
    functions = λ i g stage e. (stage, object_kept i _ e);
    given = λ i g end e. (end, object_kept i _ e, ends_stay end);
    flying = λ i g other e k. object_kept i _ e;
    spawned = omega arith;
    lasting = λ i. refl;
  }

  grown : Grows (ground_of w) (ground_of x)
  grown = grounds_grow follows_air

  open_elsewhere : (i : ℕ) → x.serves i ≡ for_all → Elsewhere i × (w.serves i ≡ for_all)
  open_elsewhere i e = go (place_at l i) e
    where
      go : (y : InRow l i) → use_at l i (w.serves i) y ≡ for_all
          → Elsewhere i × (w.serves i ≡ for_all)
      go (in_row place k q) e = let z : part_of l place ≡ for_all = e in absurd cc
      go (out_of_row k) e = (k, e)

  unused_elsewhere : (i : ℕ) → x.serves i ≡ unused → Elsewhere i × (w.serves i ≡ unused)
  unused_elsewhere i e = go (place_at l i) e
    where
      go : (y : InRow l i) → use_at l i (w.serves i) y ≡ unused
          → Elsewhere i × (w.serves i ≡ unused)
      go (in_row place k q) e = absurd (part_used l place e)
      go (out_of_row k) e = (k, e)

  left : (i : ℕ) → Elsewhere i → afterwards d s i ≡ s i
  left i k = row_left l f 1 s i k

  used_left : (i : ℕ) → (w.serves i ≡ unused → ⊥) → afterwards d s i ≡ s i
  used_left i k = left i (used_elsewhere i k)

  part_left : (i place : ℕ) → HasParts w i → place < 4
      → afterwards d s (i + place) ≡ s (i + place)
  part_left i place q k =
      used_left (i + place) (used_not (part_of i place) (q place k) (part_used i place))

  there_still : (i : ℕ) → afterwards d s i ≡ None → x.serves i ≡ unused
  there_still i e = go (place_at l i)
    where
      go : InRow l i → x.serves i ≡ unused
      go (in_row place k q) =
          let v = field_at f place k in
          let z : Some v.0 ≡ None =
          sym (field_left l f 1 s place v.0 v.1) ∙ ap (afterwards d s) (sym q) ∙ e in absurd cc
      go (out_of_row k) = part_out l i (w.serves i) k ∙ h.there i (sym (left i k) ∙ e)

  new_parts : HasParts x l
  new_parts place k = part_in l place (w.serves (l + place)) k

  old_parts : (i : ℕ) → HasParts w i → HasParts x i
  old_parts i q place k =
      same_use (i + place) (used_not (part_of i place) (q place k) (part_used i place)) ∙ q place k

  parts_still : (i : ℕ) (o : Object) → x.object i ≡ Some o → HasParts x i
  parts_still i o e = go (which i o e)
    where
      go : Which i o → HasParts x i
      go (new_one z q) = subst (HasParts x) z new_parts
      go (old_one q) = old_parts i (h.parts i o q)

  here : (l == l) ≡ true
  here = search rules

  new_object : x.object l ≡ Some (object f (in_flight spot))
  new_object = ap (λ b. if b then Some (object f (in_flight spot)) else w.object l) here

  objects_still : (k place : ℕ) (i : ℕ) → x.serves i ≡ part_of k place
      → (o : Object) × (x.object k ≡ Some o) × (place < 4) × (i ≡ k + place)
  objects_still k place i e = go (place_at l i) e
    where
      go : (y : InRow l i) → use_at l i (w.serves i) y ≡ part_of k place
          → (o : Object) × (x.object k ≡ Some o) × (place < 4) × (i ≡ k + place)
      go (in_row other j q) e =
          let z = same_part e in
          let z0 : l ≡ k = z.0 in let z1 : other ≡ place = z.1 in (
            object f (in_flight spot),
            ap x.object (sym z0) ∙ new_object,
            omega arith,
            omega arith,
          )
      go (out_of_row j) e =
          let q = h.are_objects k place i e in (q.0, object_kept k q.0 q.1, q.2, q.3)

  at_first : (i : ℕ) → i + 0 ≡ i
  at_first i = omega arith

  first_left : (i : ℕ) → HasParts w i → afterwards d s i ≡ s i
  first_left i q =
      subst (λ j. afterwards d s j ≡ s j) (at_first i) (part_left i 0 q none_less)

  functions_still : (i : ℕ) (o : Object) → x.object i ≡ Some o
      → (afterwards d s i ≡ Some o.function) × PrivateValue p n m (ground_of x) o.function
  functions_still i o e = go (which i o e)
    where
      go : Which i o
          → (afterwards d s i ≡ Some o.function) × PrivateValue p n m (ground_of x) o.function
      go (new_one z q) =
          let g : f ≡ o.function = ap (λ (y : Object). y.function) (sym q) in (
            ap (afterwards d s) (sym (at_first l ∙ z)) ∙ field_left l f 1 s 0 f refl ∙ ap Some g,
            subst (PrivateValue p n m (ground_of x)) g (value_grows is_private grown),
          )
      go (old_one q) =
          let k = h.function i o q in
          (first_left i (h.parts i o q) ∙ k.0, value_grows k.1 grown)

  flying_still : (i : ℕ) (g : Value) (other : Spot) → x.object i ≡ Some (object g (in_flight other))
      → (afterwards d s (i + 1) ≡ Some (Small (pos 0)))
      × ((place : ℕ) → place < 4 → t (i + place) ≡ None)
  flying_still i g other e = go (which i _ e)
    where
      go : Which i (object g (in_flight other))
          → (afterwards d s (i + 1) ≡ Some (Small (pos 0)))
          × ((place : ℕ) → place < 4 → t (i + place) ≡ None)
      go (new_one z q) = (
        ap (λ j. afterwards d s (j + 1)) (sym z) ∙ field_left l f 1 s 1 (Small (pos 0)) refl,
        λ place k. ap (λ j. t (j + place)) (sym z) ∙ (h.nothing (l + place) (was_unused place k)).1,
      )
      go (old_one q) =
          let k = h.flying i g other q in
          (part_left i 1 (h.parts i _ q) one_less ∙ k.0, k.1)

  own_left : (i : ℕ) → w.serves i ≡ of_prelude → afterwards d s i ≡ s i
  own_left i e = used_left i (used_not of_prelude e prelude_used)

  own_use : (i : ℕ) → w.serves i ≡ of_prelude → x.serves i ≡ of_prelude
  own_use i e = same_use i (used_not of_prelude e prelude_used) ∙ e

  fourth_left : (i : ℕ) → IsOneOf i w.queue → afterwards d s (i + 3) ≡ s (i + 3)
  fourth_left i k =
      let g = h.in_queue i k in
      part_left i 3 (h.parts i (object g.0 (given g.1)) g.2) (omega arith)

  bounded_still : (i : ℕ) (o : Object) → x.object i ≡ Some o → i + 4 ≤ 2 ^ 64
  bounded_still i o e = go (which i o e)
    where
      go : Which i o → i + 4 ≤ 2 ^ 64
      go (new_one z q) = subst (λ j. j + 4 ≤ 2 ^ 64) z ends
      go (old_one q) = h.bounded i o q

  pub stores_air : AreStores p n m x standing (afterwards d s) t
  stores_air = record {
    agree = λ i e. let z = open_elsewhere i e in left i z.0 ∙ h.agree i z.1;
    private_store = λ i v e q.
        let z = open_elsewhere i (open_at x i e) in
        value_grows (h.private_store i v (at_open w i z.1) (sym (left i z.0) ∙ q)) grown;
    nothing = λ i e.
        let z = unused_elsewhere i e in let y = h.nothing i z.1 in (left i z.0 ∙ y.0, y.1);
    there = there_still;
    parts = parts_still;
    are_objects = objects_still;
    function = functions_still;
    marked = λ i g end e.
        let q = which_given i g end e in let k = h.marked i g end q in
        (part_left i 1 (h.parts i _ q) one_less ∙ k.0, k.1);
    kept = λ i g end e.
        let q = which_given i g (Some end) e in let k = h.kept i g end q in
        (part_left i 2 (h.parts i _ q) (omega arith) ∙ k.0, value_grows k.1 grown);
    exceptions = λ i g v e. h.exceptions i g v (which_given i g _ e);
    flying = flying_still;
    own = (
      own_use n.queue h.own.0,
      own_use n.unended h.own.1,
      own_use n.count h.own.2,
      own_use m.started h.own.3,
    );
    count = own_left n.count h.own.2 ∙ h.count;
    few = h.few;
    standing_count = h.standing_count;
    objects_given = λ u i k e.
        let g = h.objects_given u i k e in (g.0, g.1, object_kept i _ g.2);
    bounded = bounded_still;
    new_threads = λ u i g k e c.
        let q = h.new_threads u i g k e c in (q.0, object_kept i _ q.1);
    lasting = λ i e. let z = h.lasting i e in (own_use i z.0, z.1, z.2, z.3, z.4);
    unended = own_left n.unended h.own.1 ∙ h.unended;
    unended_few = h.unended_few;
    queued = (
      h.queued.0,
      own_left n.queue h.own.0 ∙ h.queued.1,
      queue_kept n s (afterwards d s) h.queued.0 w.queue fourth_left h.queued.2,
    );
    in_queue = λ i k. let g = h.in_queue i k in (g.0, g.1, object_kept i _ g.2);
    started = own_left m.started h.own.3 ∙ h.started;
  }

  pub alike_air : DoAlike w x d idle
  alike_air = record {
    same = λ i e. row_untouched l f 1 i (open_elsewhere i e).0;
    newly_made = λ i e u.
        let z : for_all ≡ unused = sym (open_elsewhere i e).1 ∙ u in absurd cc;
    nothing_else = λ i k. inl refl;
    lasting = λ i e.
        row_untouched l f 1 i
        (used_elsewhere i (used_not of_prelude (h.lasting i e).0 prelude_used));
    output = refl;
    unended = λ i g e. (
      object_kept i _ e,
      row_untouched l f 1 (i + 2)
          (used_elsewhere (i + 2)
          (used_not (part_of i 2) (h.parts i _ e 2 (omega arith)) (part_used i 2))),
    );
  }

  pub object_air : x.object l ≡ Some (object f (in_flight spot))
  object_air = new_object
