-- Both stores behind a completed attempt of `spawn'`, where the machine with threads makes the
-- object and adds its thread.
use Rattle.std.proofs.Common.{◌≡◌, ℕ, ◌+◌, ◌<◌, ◌≤◌, ◌^◌, ◌==◌, Bool, true, false, List, [], ◌∷◌, ◌++◌, length, length-append, option_map, Option, Some, None, if◌then◌else◌, pos, arith, rules, refl, ap, sym, ◌∙◌, subst, ◌⊎◌, inl, inr}
use Rattle.fort_core.specs.declared.program.Program.{Program}
use Rattle.fort_core.specs.declared.value.Value.{Value, Small}
use Rattle.fort_machine.specs.Cells.{Cell, untouched, found, made, joined, left_at}
use Rattle.fort_machine.specs.Effects.{Store, Effect, making, completing, FitsAll, afterwards}
use Rattle.fort_machine.specs.Journals.{MakesWithinBounds}
use Rattle.fort_machine.specs.Parts.{IsOneOf}
use Rattle.fort_machine.specs.RunLaws.{all_of}
use Rattle.fort_machine.proofs.Effects.{made_in_row}
use Rattle.fort_threads.specs.Moves.{opening_fields}
use Rattle.fort_threads.specs.Threads.{new, Thread, thread, end_of}
use Rattle.fort_threads_law_servers.specs.Prelude.{Names, object_of}
use Rattle.fort_threads_law_servers.specs.Queue.{adds_thread}
use Rattle.fort_threads_law_servers.specs.Stages.{End, end_term}
use Rattle.fort_threads_law_servers.specs.Roots.{Start}
use Rattle.fort_threads_law_private.specs.Grounds.{Grows}
use Rattle.fort_threads_law_private.specs.Private.{PrivateValue}
use Rattle.fort_threads_law_private.proofs.Growing.{value_grows}
use Rattle.fort_threads_law_worlds.specs.Worlds.{AllNew, Spot, IsAtOrIn, unused, for_all, part_of, of_prelude, Stage, in_flight, given, Object, object, World, ground_of, HasParts, HasNothing, IsGiven, FollowsAt}
use Rattle.fort_threads_law_worlds.specs.Stores.{mark, IsQueue, AreStores}
use Rattle.fort_threads_law_worlds.specs.Effects.{DoAlike}
use Rattle.fort_threads_law_worlds.specs.Queues.{HasQueued}
use Rattle.fort_threads_law_worlds.proofs.Following.{same_part, ends_stay, not_both, same_given, same_flying, open_at, at_itself, grounds_grow, given_later}
use Rattle.fort_threads_law_worlds.proofs.Fitting.{no_end, same_end}
use Rattle.fort_threads_law_worlds.proofs.Queues.{queue_kept}
use Rattle.fort_threads_law_calls.proofs.Rows.{InRow, in_row, out_of_row, place_at, row_untouched, row_left, row_fits, field_at, field_made}

-- the world in which an object that was in flight is given
abbrev pub is_given : World → ℕ → Value → World
is_given w l f = record w {
  object = λ i. if l == i then Some (object f (given None)) else w.object i;
  spawned = w.spawned + 1;
  queue = l ∷ w.queue;
  unended = w.unended + 1;
}

-- ---- what the attempt does at a location

abbrev when : Bool → Cell → Cell
when b c = if b then c else untouched

abbrev all_joined : List Cell → Cell
all_joined [] = untouched
all_joined (c ∷ cs) = joined c (all_joined cs)

-- by whether the location is that of `count'`, of `open'`, of `queue'`, or the object's `next'`
abbrev cell_by : Value → Value → Value → Value → Value → Value → Bool → Bool → Bool → Bool → Cell
cell_by k k' o o' w x c u q n =
    joined untouched
    (all_joined
    (when c (found (Some k) None) ∷ untouched ∷ untouched ∷ untouched
    ∷ when c (found (Some k) None) ∷ untouched ∷ when c (found None (Some k')) ∷ untouched
    ∷ when u (found (Some o) None) ∷ untouched ∷ when u (found None (Some o')) ∷ untouched
    ∷ when q (found (Some w) None) ∷ when n (found None (Some w)) ∷ untouched
    ∷ when q (found None (Some x)) ∷ []))

module _ (p : Program) (n : Names) (m : Start) (w : World) (spot : Spot) (standing : List Thread)
    (s t : Store) (l : ℕ) (f v : Value) (h : AreStores p n m w standing s t)
    (flies : w.object l ≡ Some (object f (in_flight spot))) (few : (w.spawned == 64) ≡ false)
    (queue : s n.queue ≡ Some v) (is_queue : IsQueue n s v w.queue)
    (queue_count : (n.queue == n.count) ≡ false) (queue_unended : (n.queue == n.unended) ≡ false)
    (queue_started : (n.queue == m.started) ≡ false)
    (count_unended : (n.count == n.unended) ≡ false)
    (count_started : (n.count == m.started) ≡ false)
    (unended_started : (n.unended == m.started) ≡ false) where
  abbrev x : World
  x = is_given w l f

  abbrev o : ℕ
  o = w.unended

  abbrev d : Effect
  d = completing (all_of (adds_thread n l w.spawned o v))

  abbrev e : Effect
  e = making l (opening_fields f) 1

  abbrev born : Thread
  born = thread (Some l) (new f)

  abbrev cell : Bool → Bool → Bool → Bool → Cell
  cell = cell_by (Small (pos w.spawned)) (Small (pos (w.spawned + 1))) (Small (pos o))
      (Small (pos (o + 1))) v (object_of n l)

  cells_are : (i : ℕ)
      → d.cells i ≡ cell (n.count == i) (n.unended == i) (n.queue == i) (l + 3 == i)
  cells_are i = refl

  cells_by : (i : ℕ) (a b c g : Bool) → (n.count == i) ≡ a → (n.unended == i) ≡ b
      → (n.queue == i) ≡ c → (l + 3 == i) ≡ g → d.cells i ≡ cell a b c g
  cells_by i a b c g ea eb ec eg = λ j. cell (ea j) (eb j) (ec j) (eg j)

  parts : HasParts w l
  parts = h.parts l _ flies

  none_less : 0 < 4
  none_less = omega arith

  one_less : 1 < 4
  one_less = omega arith

  two_less : 2 < 4
  two_less = omega arith

  three_less : 3 < 4
  three_less = omega arith

  same_number : (a b : ℕ) → (a == b) ≡ true → a ≡ b
  same_number a b q = search (rules, q)

  -- a location of the prelude's variables isn't one of an object
  apart_use : (i a place : ℕ) → w.serves i ≡ part_of a place → w.serves i ≡ of_prelude → ⊥
  apart_use i a place q r = let z : part_of a place ≡ of_prelude = sym q ∙ r in absurd cc

  not_at : (a i : ℕ) → (a ≡ i → ⊥) → (a == i) ≡ false
  not_at a i k = go (a == i) refl
    where
      go : (b : Bool) → (a == i) ≡ b → (a == i) ≡ false
      go true q = absurd (k (same_number a i q))
      go false q = q

  -- where a location is
  data Where (i : ℕ) : Type 0 where
    at_count : n.count ≡ i → Where i
    at_unended : n.unended ≡ i → Where i
    at_queue : n.queue ≡ i → Where i
    at_next : l + 3 ≡ i → Where i
    elsewhere : (n.count == i) ≡ false → (n.unended == i) ≡ false → (n.queue == i) ≡ false
        → (l + 3 == i) ≡ false → Where i

  where_is : (i : ℕ) → Where i
  where_is i = go (n.count == i) refl (n.unended == i) refl (n.queue == i) refl (l + 3 == i) refl
    where
      go : (a : Bool) → (n.count == i) ≡ a → (b : Bool) → (n.unended == i) ≡ b → (c : Bool)
          → (n.queue == i) ≡ c → (g : Bool) → (l + 3 == i) ≡ g → Where i
      go true ea b eb c ec g eg = at_count (same_number n.count i ea)
      go false ea true eb c ec g eg = at_unended (same_number n.unended i eb)
      go false ea false eb true ec g eg = at_queue (same_number n.queue i ec)
      go false ea false eb false ec true eg = at_next (same_number (l + 3) i eg)
      go false ea false eb false ec false eg = elsewhere ea eb ec eg

  -- what is neither for the prelude nor a place `next'` is left alone
  spared : (i : ℕ) → (w.serves i ≡ of_prelude → ⊥) → (w.serves i ≡ part_of l 3 → ⊥)
      → d.cells i ≡ untouched
  spared i k j =
      cells_by i false false false false
      (not_at n.count i (λ q. k (ap w.serves (sym q) ∙ h.own.2)))
      (not_at n.unended i (λ q. k (ap w.serves (sym q) ∙ h.own.1)))
      (not_at n.queue i (λ q. k (ap w.serves (sym q) ∙ h.own.0)))
      (not_at (l + 3) i (λ q. j (ap w.serves (sym q) ∙ parts 3 three_less)))

  open_spared : (i : ℕ) → w.serves i ≡ for_all → d.cells i ≡ untouched
  open_spared i q =
      spared i (λ r. let z : for_all ≡ of_prelude = sym q ∙ r in absurd cc)
      (λ r. let z : for_all ≡ part_of l 3 = sym q ∙ r in absurd cc)

  unused_spared : (i : ℕ) → w.serves i ≡ unused → d.cells i ≡ untouched
  unused_spared i q =
      spared i (λ r. let z : unused ≡ of_prelude = sym q ∙ r in absurd cc)
      (λ r. let z : unused ≡ part_of l 3 = sym q ∙ r in absurd cc)

  left_by : (i : ℕ) → d.cells i ≡ untouched → afterwards d s i ≡ s i
  left_by i q = ap (λ c. left_at c (s i)) q

  part_left : (i a place : ℕ) → w.serves i ≡ part_of a place → (place ≡ 3 → ⊥)
      → afterwards d s i ≡ s i
  part_left i a place q k =
      left_by i (spared i (apart_use i a place q) (λ r. k (same_part (sym q ∙ r)).1))

  -- the prelude's variables
  next_apart : (i : ℕ) → w.serves i ≡ of_prelude → (l + 3 == i) ≡ false
  next_apart i q =
      not_at (l + 3) i (λ r. apart_use i l 3 (ap w.serves (sym r) ∙ parts 3 three_less) q)

  other_way : (a b : ℕ) → (a == b) ≡ false → (b == a) ≡ false
  other_way a b q =
      not_at b a (λ r.
      let y : (a == b) ≡ true = search (rules, sym r) in
      let z : true ≡ false = sym y ∙ q in absurd cc)

  self : (i : ℕ) → (i == i) ≡ true
  self i = search rules

  count_left : afterwards d s n.count ≡ Some (Small (pos (w.spawned + 1)))
  count_left =
      ap (λ c. left_at c (s n.count))
      (cells_by n.count true false false false (self n.count)
      (other_way n.count n.unended count_unended) queue_count (next_apart n.count h.own.2))

  unended_left : afterwards d s n.unended ≡ Some (Small (pos (o + 1)))
  unended_left =
      ap (λ c. left_at c (s n.unended))
      (cells_by n.unended false true false false count_unended (self n.unended) queue_unended
      (next_apart n.unended h.own.1))

  queue_left : afterwards d s n.queue ≡ Some (object_of n l)
  queue_left =
      ap (λ c. left_at c (s n.queue))
      (cells_by n.queue false false true false (other_way n.queue n.count queue_count)
      (other_way n.queue n.unended queue_unended) (self n.queue) (next_apart n.queue h.own.0))

  next_left : afterwards d s (l + 3) ≡ Some v
  next_left =
      let q = parts 3 three_less in
      ap (λ c. left_at c (s (l + 3)))
      (cells_by (l + 3) false false false true
      (not_at n.count (l + 3) (λ r. apart_use (l + 3) l 3 q (ap w.serves (sym r) ∙ h.own.2)))
      (not_at n.unended (l + 3) (λ r. apart_use (l + 3) l 3 q (ap w.serves (sym r) ∙ h.own.1)))
      (not_at n.queue (l + 3) (λ r. apart_use (l + 3) l 3 q (ap w.serves (sym r) ∙ h.own.0)))
      (self (l + 3)))

  started_left : afterwards d s m.started ≡ s m.started
  started_left =
      left_by m.started
      (cells_by m.started false false false false count_started unended_started queue_started
      (next_apart m.started h.own.3))

  -- ---- the machine with threads

  out_row : (i : ℕ) → ((place : ℕ) → w.serves i ≡ part_of l place → ⊥) → (place : ℕ) → place < 4
      → i ≡ l + place → ⊥
  out_row i k place j q = k place (ap w.serves q ∙ parts place j)

  model_spared : (i : ℕ) → ((place : ℕ) → w.serves i ≡ part_of l place → ⊥)
      → e.cells i ≡ untouched
  model_spared i k = row_untouched l f 1 i (out_row i k)

  model_left : (i : ℕ) → ((place : ℕ) → w.serves i ≡ part_of l place → ⊥)
      → afterwards e t i ≡ t i
  model_left i k = row_left l f 1 t i (out_row i k)

  open_no_part : (i : ℕ) → w.serves i ≡ for_all → (place : ℕ) → w.serves i ≡ part_of l place → ⊥
  open_no_part i q place r = let z : for_all ≡ part_of l place = sym q ∙ r in absurd cc

  unused_no_part : (i : ℕ) → w.serves i ≡ unused → (place : ℕ) → w.serves i ≡ part_of l place → ⊥
  unused_no_part i q place r = let z : unused ≡ part_of l place = sym q ∙ r in absurd cc

  not_given : IsGiven w l → ⊥
  not_given g = not_both flies g.2

  pub fits_given : FitsAll e t
  fits_given = row_fits l f 1 t (h.flying l f spot flies).1

  -- ---- objects

  data Which (i : ℕ) (y : Object) : Type 0 where
    new_one : l ≡ i → object f (given None) ≡ y → Which i y
    old_one : (l ≡ i → ⊥) → w.object i ≡ Some y → Which i y

  which : (i : ℕ) (y : Object) → x.object i ≡ Some y → Which i y
  which i y q = go (l == i) refl q
    where
      go : (b : Bool) → (l == i) ≡ b
          → (if b then Some (object f (given None)) else w.object i) ≡ Some y → Which i y
      go true r q =
          let g : object f (given None) ≡ y = cc in new_one (same_number l i r) g
      go false r q =
          old_one (λ z.
          let c : (l == i) ≡ true = search (rules, z) in
          let g : true ≡ false = sym c ∙ r in absurd cc) q

  object_kept : (i : ℕ) (y : Object) → (l ≡ i → ⊥) → w.object i ≡ Some y → x.object i ≡ Some y
  object_kept i y k q =
      ap (λ b. if b then Some (object f (given None)) else w.object i) (not_at l i k) ∙ q

  pub object_given : x.object l ≡ Some (object f (given None))
  object_given = ap (λ b. if b then Some (object f (given None)) else w.object l) (self l)

  here : (i : ℕ) → l ≡ i → (y : Object) → w.object i ≡ Some y → y ≡ object f (in_flight spot)
  here i z y q =
      let r : Some (object f (in_flight spot)) ≡ Some y = sym flies ∙ ap w.object z ∙ q in
      let g : object f (in_flight spot) ≡ y = cc in sym g

  pub follows_given : FollowsAt spot w x
  follows_given = record {
    uses = λ i k. refl;
    functions = λ i g stage q. by_place i g stage q (l == i) refl;
    given = λ i g end q. (end, object_kept i _ (λ z. given_apart i g end q z) q, ends_stay end);
    flying = λ i g other q k. object_kept i _ (λ z. flying_apart i g other q k z) q;
    spawned = omega arith;
    lasting = λ i. refl;
  }
    where
      given_apart : (i : ℕ) (g : Value) (end : _) → w.object i ≡ Some (object g (given end))
          → l ≡ i → ⊥
      given_apart i g end q z = not_both flies (ap w.object z ∙ q)

      flying_apart : (i : ℕ) (g : Value) (other : Spot)
          → w.object i ≡ Some (object g (in_flight other)) → (IsAtOrIn spot other → ⊥) → l ≡ i → ⊥
      flying_apart i g other q k z =
          k (subst (IsAtOrIn spot) (same_flying flies (ap w.object z ∙ q)).1 (at_itself spot))

      by_place : (i : ℕ) (g : Value) (stage : Stage) → w.object i ≡ Some (object g stage)
          → (b : Bool) → (l == i) ≡ b
          → (later : Stage) × (x.object i ≡ Some (object g later))
      by_place i g stage q true r =
          let z = same_number l i r in
          let y : object g stage ≡ object f (in_flight spot) = here i z (object g stage) q in
          let c : f ≡ g = ap (λ (a : Object). a.function) (sym y) in (
            given None,
            ap (λ b. if b then Some (object f (given None)) else w.object i) r
                ∙ ap (λ a. Some (object a (given None))) c,
          )
      by_place i g stage q false r = (
        stage,
        ap (λ b. if b then Some (object f (given None)) else w.object i) r ∙ q,
      )

  grown : Grows (ground_of w) (ground_of x)
  grown = grounds_grow follows_given

  kept_spared : (i : ℕ) → HasParts w i → d.cells (i + 2) ≡ untouched
  kept_spared i q =
      spared (i + 2) (apart_use (i + 2) i 2 (q 2 two_less))
      (λ r. let z : 2 ≡ 3 = (same_part (sym (q 2 two_less) ∙ r)).1 in omega arith)

  pub alike_given : DoAlike w x d e
  alike_given = record {
    same = λ i q. open_spared i q ∙ sym (model_spared i (open_no_part i q));
    newly_made = λ i q u. let z : for_all ≡ unused = sym q ∙ u in absurd cc;
    nothing_else = λ i k. by_row i (place_at l i);
    lasting = λ i q.
        let z = h.lasting i q in
        cells_by i false false false false (not_at n.count i (λ r. z.3 (sym r)))
        (not_at n.unended i (λ r. z.2 (sym r))) (not_at n.queue i (λ r. z.1 (sym r)))
        (next_apart i z.0);
    output = refl;
    unended = λ i g q. (
      object_kept i _ (λ z. not_both flies (ap w.object z ∙ q)) q,
      kept_spared i (h.parts i _ q),
    );
  }
    where
      by_row : (i : ℕ) → InRow l i
          → (e.cells i ≡ untouched) ⊎ ((y : Option Value) × (e.cells i ≡ made y) × HasNothing w i)
      by_row i (in_row place j q) =
          let y = field_at f place j in
          inr (
            Some y.0,
            ap e.cells q ∙ field_made l f 1 place y.0 y.1,
            inr (l, place, ap w.serves q ∙ parts place j, not_given),
          )
      by_row i (out_of_row k) = inl (row_untouched l f 1 i k)

  -- ---- the stores

  there_still : (i : ℕ) → afterwards d s i ≡ None → x.serves i ≡ unused
  there_still i q = go (where_is i)
    where
      never : (y : Value) → afterwards d s i ≡ Some y → x.serves i ≡ unused
      never y r = let z : Some y ≡ None = sym r ∙ q in absurd cc

      go : Where i → x.serves i ≡ unused
      go (at_count z) = never _ (ap (afterwards d s) (sym z) ∙ count_left)
      go (at_unended z) = never _ (ap (afterwards d s) (sym z) ∙ unended_left)
      go (at_queue z) = never _ (ap (afterwards d s) (sym z) ∙ queue_left)
      go (at_next z) = never _ (ap (afterwards d s) (sym z) ∙ next_left)
      go (elsewhere a b c g) =
          h.there i (sym (left_by i (cells_by i false false false false a b c g)) ∙ q)

  at_first : (i : ℕ) → i + 0 ≡ i
  at_first i = omega arith

  first_left : (i : ℕ) → HasParts w i → afterwards d s i ≡ s i
  first_left i q =
      subst (λ j. afterwards d s j ≡ s j) (at_first i)
      (part_left (i + 0) i 0 (q 0 none_less) (λ z. let y : 0 ≡ 3 = z in omega arith))

  second_left : (i : ℕ) → HasParts w i → afterwards d s (i + 1) ≡ s (i + 1)
  second_left i q = part_left (i + 1) i 1 (q 1 one_less) (λ z. let y : 1 ≡ 3 = z in omega arith)

  third_left : (i : ℕ) → HasParts w i → afterwards d s (i + 2) ≡ s (i + 2)
  third_left i q = part_left (i + 2) i 2 (q 2 two_less) (λ z. let y : 2 ≡ 3 = z in omega arith)

  parts_still : (i : ℕ) (y : Object) → x.object i ≡ Some y → HasParts x i
  parts_still i y q = go (which i y q)
    where
      go : Which i y → HasParts x i
      go (new_one z r) = subst (HasParts w) z parts
      go (old_one k r) = h.parts i y r

  objects_still : (k place : ℕ) (i : ℕ) → x.serves i ≡ part_of k place
      → (y : Object) × (x.object k ≡ Some y) × (place < 4) × (i ≡ k + place)
  objects_still k place i q = go (l == k) refl (h.are_objects k place i q)
    where
      go : (b : Bool) → (l == k) ≡ b
          → (y : Object) × (w.object k ≡ Some y) × (place < 4) × (i ≡ k + place)
          → (y : Object) × (x.object k ≡ Some y) × (place < 4) × (i ≡ k + place)
      go true r a = (
        object f (given None),
        ap (λ b. if b then Some (object f (given None)) else w.object k) r,
        a.2,
        a.3,
      )
      go false r a = (
        a.0,
        ap (λ b. if b then Some (object f (given None)) else w.object k) r ∙ a.1,
        a.2,
        a.3,
      )

  functions_still : (i : ℕ) (y : Object) → x.object i ≡ Some y
      → (afterwards d s i ≡ Some y.function) × PrivateValue p n m (ground_of x) y.function
  functions_still i y q = go (which i y q)
    where
      go : Which i y
          → (afterwards d s i ≡ Some y.function) × PrivateValue p n m (ground_of x) y.function
      go (new_one z r) =
          let g : f ≡ y.function = ap (λ (a : Object). a.function) r in
          let k = h.function l _ flies in (
            ap (afterwards d s) (sym z) ∙ first_left l parts ∙ k.0 ∙ ap Some g,
            subst (PrivateValue p n m (ground_of x)) g (value_grows k.1 grown),
          )
      go (old_one j r) =
          let k = h.function i y r in (first_left i (h.parts i y r) ∙ k.0, value_grows k.1 grown)

  all_new : AllNew (born ∷ [])
  all_new = ((f, refl), tt)

  same_ends : (i : ℕ) → end_of (standing ++ born ∷ []) i ≡ end_of standing i
  same_ends i = same_end standing (born ∷ []) all_new i

  marked_still : (i : ℕ) (g : Value) (end : Option End) → x.object i ≡ Some (object g (given end))
      → (afterwards d s (i + 1) ≡ Some (Small (pos (mark end))))
      × (end_of (standing ++ born ∷ []) i ≡ option_map end_term end)
  marked_still i g end q = go (which i _ q)
    where
      go : Which i (object g (given end))
          → (afterwards d s (i + 1) ≡ Some (Small (pos (mark end))))
          × (end_of (standing ++ born ∷ []) i ≡ option_map end_term end)
      go (new_one z r) =
          let c : end ≡ None = sym (same_given (ap Some (sym r)) refl).1 in
          let j = no_end w standing h.objects_given l not_given in (
            ap (λ y. afterwards d s (y + 1)) (sym z) ∙ second_left l parts
                ∙ (h.flying l f spot flies).0 ∙ ap (λ y. Some (Small (pos (mark y)))) (sym c),
            same_ends i ∙ ap (end_of standing) (sym z) ∙ j ∙ ap (option_map end_term) (sym c),
          )
      go (old_one k r) =
          let j = h.marked i g end r in
          (second_left i (h.parts i _ r) ∙ j.0, same_ends i ∙ j.1)

  old_end : (i : ℕ) (g : Value) (end : End) → x.object i ≡ Some (object g (given (Some end)))
      → w.object i ≡ Some (object g (given (Some end)))
  old_end i g end q = go (which i _ q)
    where
      go : Which i (object g (given (Some end))) → w.object i ≡ Some (object g (given (Some end)))
      go (new_one z r) =
          let c : None ≡ Some end = (same_given (ap Some (sym r)) refl).1 in absurd cc
      go (old_one k r) = r

  flying_still : (i : ℕ) (g : Value) (other : Spot) → x.object i ≡ Some (object g (in_flight other))
      → (afterwards d s (i + 1) ≡ Some (Small (pos 0)))
      × ((place : ℕ) → place < 4 → afterwards e t (i + place) ≡ None)
  flying_still i g other q = go (which i _ q)
    where
      go : Which i (object g (in_flight other))
          → (afterwards d s (i + 1) ≡ Some (Small (pos 0)))
          × ((place : ℕ) → place < 4 → afterwards e t (i + place) ≡ None)
      go (new_one z r) = absurd (not_both refl (ap Some (sym r)))
      go (old_one k r) =
          let j = h.flying i g other r in (
            second_left i (h.parts i _ r) ∙ j.0,
            λ place c.
                model_left (i + place)
                (λ a b. k (sym (same_part (sym (h.parts i _ r place c) ∙ b)).0)) ∙ j.1 place c,
          )

  given_still : (u : Thread) (i : ℕ) → IsOneOf u (standing ++ born ∷ []) → u.object ≡ Some i
      → IsGiven x i
  given_still u i a q = go standing (λ b. given_later follows_given i (h.objects_given u i b q)) a
    where
      go : (us : List Thread) → (IsOneOf u us → IsGiven x i) → IsOneOf u (us ++ born ∷ [])
          → IsGiven x i
      go [] k (inl r) =
          let z : Some l ≡ Some i = ap (λ (y : Thread). y.object) (sym r) ∙ q in
          let y : l ≡ i = cc in
          (f, None, ap x.object (sym y) ∙ object_given)
      go [] k (inr r) = absurd r
      go (y ∷ us) k (inl r) = k (inl r)
      go (y ∷ us) k (inr r) = go us (λ b. k (inr b)) r

  new_still : (u : Thread) (i : ℕ) (g : Value) → IsOneOf u (standing ++ born ∷ [])
      → u.object ≡ Some i → u.phase ≡ new g
      → (end : Option End) × (x.object i ≡ Some (object g (given end)))
  new_still u i g a q c =
      go standing (λ b.
      let z = h.new_threads u i g b q c in
      let y = follows_given.given i g z.0 z.1 in (y.0, y.1)) a
    where
      go : (us : List Thread)
          → (IsOneOf u us → (end : Option End) × (x.object i ≡ Some (object g (given end))))
          → IsOneOf u (us ++ born ∷ [])
          → (end : Option End) × (x.object i ≡ Some (object g (given end)))
      go [] k (inl r) =
          let z : Some l ≡ Some i = ap (λ (y : Thread). y.object) (sym r) ∙ q in
          let y : l ≡ i = cc in
          let b : new f ≡ new g = ap (λ (y : Thread). y.phase) (sym r) ∙ c in
          let e : f ≡ g = cc in
          (None, ap x.object (sym y) ∙ object_given ∙ ap (λ a. Some (object a (given None))) e)
      go [] k (inr r) = absurd r
      go (y ∷ us) k (inl r) = k (inl r)
      go (y ∷ us) k (inr r) = go us (λ b. k (inr b)) r

  bounded_still : (i : ℕ) (y : Object) → x.object i ≡ Some y → i + 4 ≤ 2 ^ 64
  bounded_still i y q = go (which i y q)
    where
      go : Which i y → i + 4 ≤ 2 ^ 64
      go (new_one z r) = subst (λ j. j + 4 ≤ 2 ^ 64) z (h.bounded l _ flies)
      go (old_one k r) = h.bounded i y r

  fourth_left : (i : ℕ) → IsOneOf i w.queue → afterwards d s (i + 3) ≡ s (i + 3)
  fourth_left i k =
      let g = h.in_queue i k in
      let q = h.parts i (object g.0 (given g.1)) g.2 3 three_less in
      left_by (i + 3)
      (spared (i + 3) (apart_use (i + 3) i 3 q)
      (λ r. not_both flies (ap w.object (sym (same_part (sym q ∙ r)).0) ∙ g.2)))

  queue_still : (i : ℕ) → IsOneOf i (l ∷ w.queue) → IsGiven x i
  queue_still i (inl q) = (f, None, ap x.object q ∙ object_given)
  queue_still i (inr k) = given_later follows_given i (h.in_queue i k)

  pub queued_given : HasQueued w x (born ∷ [])
  queued_given = (refl, omega arith, omega arith)

  pub bounded_given : MakesWithinBounds e
  bounded_given i y q =
      let z = made_in_row l (opening_fields f) i y q in
      let a : i < l + 4 = z.1 in let b : l + 4 ≤ 2 ^ 64 = h.bounded l _ flies in omega arith

  fewer : w.spawned + 1 ≤ 64
  fewer =
      let a : w.spawned ≤ 64 = h.few in
      let b : w.spawned ≡ 64 → ⊥ = λ z.
      let y : (w.spawned == 64) ≡ true = search (rules, z) in
      let c : true ≡ false = sym y ∙ few in absurd cc in
      less a b
    where
      less : w.spawned ≤ 64 → (w.spawned ≡ 64 → ⊥) → w.spawned + 1 ≤ 64
      less a b = grind (arith, b)

  pub stores_given : AreStores p n m x (standing ++ born ∷ []) (afterwards d s) (afterwards e t)
  stores_given = record {
    agree = λ i q.
        left_by i (open_spared i q) ∙ h.agree i q ∙ sym (model_left i (open_no_part i q));
    private_store = λ i y q r.
        let z = open_at w i q in
        value_grows (h.private_store i y q (sym (left_by i (open_spared i z)) ∙ r)) grown;
    nothing = λ i q.
        let z = h.nothing i q in
        (left_by i (unused_spared i q) ∙ z.0, model_left i (unused_no_part i q) ∙ z.1);
    there = there_still;
    parts = parts_still;
    are_objects = objects_still;
    function = functions_still;
    marked = marked_still;
    kept = λ i g end q.
        let r = old_end i g end q in let j = h.kept i g end r in
        (third_left i (h.parts i _ r) ∙ j.0, value_grows j.1 grown);
    exceptions = λ i g y q. h.exceptions i g y (old_end i g _ q);
    flying = flying_still;
    own = h.own;
    count = count_left;
    few = fewer;
    standing_count =
        length-append standing (born ∷ [])
        ∙ more h.standing_count;
    objects_given = given_still;
    bounded = bounded_still;
    new_threads = new_still;
    lasting = h.lasting;
    unended = unended_left;
    unended_few = let a : o ≤ 1 + w.spawned = h.unended_few in omega arith;
    queued = (
      object_of n l,
      queue_left,
      (refl, (v, next_left, queue_kept n s (afterwards d s) v w.queue fourth_left is_queue)),
    );
    in_queue = queue_still;
    started = started_left ∙ h.started;
  }
    where
      more : length standing ≡ 1 + w.spawned → length standing + 1 ≡ 1 + (w.spawned + 1)
      more q = omega arith
