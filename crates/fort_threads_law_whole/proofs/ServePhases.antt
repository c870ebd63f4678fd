-- Both stores where a thread begins, and where it ends.
use Rattle.std.proofs.Common.{◌≡◌, ℕ, ◌+◌, ◌<◌, ◌≤◌, ◌==◌, Bool, true, false, List, [], ◌∷◌, ◌++◌, length, if◌then◌else◌, Option, Some, None, option_map, pos, refl, ap, sym, ◌∙◌, subst, arith, rules, inl, inr, ◌⊎◌, suc}
use Rattle.std.specs.List.{cons_option}
use Rattle.fort_core.specs.declared.program.Program.{Program}
use Rattle.fort_core.specs.declared.term.Term.{Term}
use Rattle.fort_core.specs.declared.value.Value.{Value, Small}
use Rattle.fort_machine.specs.Effects.{Store}
use Rattle.fort_machine.specs.Parts.{IsOneOf}
use Rattle.fort_machine.specs.Types.{has_type}
use Rattle.fort_threads.specs.Objects.{objects, NoneTwice}
use Rattle.fort_threads.specs.Threads.{Paths, Phase, new, going, over, Thread, thread, end_at, is_at, end_of}
use Rattle.fort_threads_law_servers.specs.Prelude.{Names}
use Rattle.fort_threads_law_servers.specs.Stages.{End, at_throw, end_term, kept_value, mark_of}
use Rattle.fort_threads_law_servers.specs.Roots.{Start}
use Rattle.fort_threads_law_private.specs.Private.{PrivateValue}
use Rattle.fort_threads_law_private.proofs.Growing.{value_grows}
use Rattle.fort_threads_law_worlds.specs.Worlds.{Spot, unused, for_all, part_of, of_prelude, Stage, in_flight, given, Object, object, World, ground_of, HasParts, IsGiven, EndStays, FollowsAt}
use Rattle.fort_threads_law_worlds.specs.Stores.{mark, AreStores}
use Rattle.fort_threads_law_worlds.proofs.Following.{same_part, same_given, same_flying, not_both, ends_stay, grounds_grow, open_at, at_open}
use Rattle.fort_threads_law_worlds.proofs.Queues.{queue_kept}
use Rattle.fort_threads_law_whole.specs.Servers.{IsEnd}
use Rattle.fort_threads_law_whole.proofs.Numbers.{object_is_one}

-- ---- threads of which one gets another phase

ends_same : (before behind : List Thread) (o : Option ℕ) (a b : Phase) (i : ℕ)
    → ((e : Option Term)
    → (if is_at i o then end_at a else e) ≡ (if is_at i o then end_at b else e))
    → end_of (before ++ thread o a ∷ behind) i ≡ end_of (before ++ thread o b ∷ behind) i
ends_same [] behind o a b i h = h (end_of behind i)
ends_same (u ∷ us) behind o a b i h =
    ap (λ z. if is_at i u.object then end_at u.phase else z) (ends_same us behind o a b i h)

length_same : (before behind : List Thread) (u v : Thread)
    → length (before ++ u ∷ behind) ≡ length (before ++ v ∷ behind)
length_same [] behind u v = refl
length_same (x ∷ us) behind u v = ap suc (length_same us behind u v)

changed_one : (before behind : List Thread) (a b u : Thread) → IsOneOf u (before ++ b ∷ behind)
    → (u ≡ b) ⊎ IsOneOf u (before ++ a ∷ behind)
changed_one [] behind a b u (inl e) = inl e
changed_one [] behind a b u (inr i) = inr (inr i)
changed_one (x ∷ us) behind a b u (inl e) = inr (inl e)
changed_one (x ∷ us) behind a b u (inr i) = go (changed_one us behind a b u i)
  where
    go : (u ≡ b) ⊎ IsOneOf u (us ++ a ∷ behind) → (u ≡ b) ⊎ IsOneOf u (x ∷ (us ++ a ∷ behind))
    go (inl e) = inl e
    go (inr j) = inr (inr j)

pub it_in : (before behind : List Thread) (a : Thread) → IsOneOf a (before ++ a ∷ behind)
it_in [] behind a = inl refl
it_in (x ∷ us) behind a = inr (it_in us behind a)

same_place : (l : ℕ) → (l == l) ≡ true
same_place l = let e : l ≡ l = refl in search (rules, e)

other_place : (m l : ℕ) → (m ≡ l → ⊥) → (m == l) ≡ false
other_place m l h = search (rules, h)

-- the end of a thread that is over
end_there : (us : List Thread) (l : ℕ) (v : Term) → NoneTwice (objects us)
    → IsOneOf (thread (Some l) (over v)) us → end_of us l ≡ Some v
end_there [] l v once i = absurd i
end_there (u ∷ us) l v once (inl e) =
    subst (λ (z : Thread). (if is_at l z.object then end_at z.phase else end_of us l) ≡ Some v) e
    (ap (λ b. if b then Some v else end_of us l) (same_place l))
end_there (u ∷ us) l v once (inr i) =
    go u.object (end_there us l v) once
    (object_is_one (thread (Some l) (over v)) us l i refl)
  where
    go : (o : Option ℕ)
        → (NoneTwice (objects us) → IsOneOf (thread (Some l) (over v)) us → end_of us l ≡ Some v)
        → NoneTwice (cons_option o (objects us)) → IsOneOf l (objects us)
        → (if is_at l o then end_at u.phase else end_of us l) ≡ Some v
    go None rest once j = rest once i
    go (Some m) rest once j =
        ap (λ b. if b then end_at u.phase else end_of us l)
        (other_place m l (λ e. once.0 (subst (λ k. IsOneOf k (objects us)) (sym e) j)))
        ∙ rest once.1 i

module _ (p : Program) (n : Names) (m : Start) (w : World) (before behind : List Thread)
    (o : Option ℕ) (a b : Phase) (s t : Store)
    (h : AreStores p n m w (before ++ thread o a ∷ behind) s t)
    (not_new : (f : Value) → b ≡ new f → ⊥)
    (ends : (i : ℕ) (f : Value) (e : Option End) → w.object i ≡ Some (object f (given e))
    → end_of (before ++ thread o b ∷ behind) i ≡ end_of (before ++ thread o a ∷ behind) i) where
  abbrev now : List Thread
  now = before ++ thread o a ∷ behind

  abbrev later : List Thread
  later = before ++ thread o b ∷ behind

  pub given_still : (u : Thread) (l : ℕ) → IsOneOf u later → u.object ≡ Some l → IsGiven w l
  given_still u l i e = go (changed_one before behind (thread o a) (thread o b) u i)
    where
      go : (u ≡ thread o b) ⊎ IsOneOf u now → IsGiven w l
      go (inl c) =
          h.objects_given (thread o a) l (it_in before behind (thread o a))
          (ap (λ (y : Thread). y.object) (sym c) ∙ e)
      go (inr j) = h.objects_given u l j e

  pub new_still : (u : Thread) (l : ℕ) (f : Value) → IsOneOf u later → u.object ≡ Some l
      → u.phase ≡ new f → (end : Option End) × (w.object l ≡ Some (object f (given end)))
  new_still u l f i e c = go (changed_one before behind (thread o a) (thread o b) u i)
    where
      go : (u ≡ thread o b) ⊎ IsOneOf u now
          → (end : Option End) × (w.object l ≡ Some (object f (given end)))
      go (inl z) = absurd (not_new f (ap (λ (y : Thread). y.phase) (sym z) ∙ c))
      go (inr j) = h.new_threads u l f j e c

  -- the stores are as before
  pub stores_phase : AreStores p n m w later s t
  stores_phase = record {
    agree = h.agree;
    private_store = h.private_store;
    nothing = h.nothing;
    there = h.there;
    parts = h.parts;
    are_objects = h.are_objects;
    function = h.function;
    marked = λ l f end e.
        let z = h.marked l f end e in (z.0, ends l f end e ∙ z.1);
    kept = h.kept;
    exceptions = h.exceptions;
    flying = h.flying;
    own = h.own;
    count = h.count;
    few = h.few;
    standing_count = length_same before behind (thread o b) (thread o a) ∙ h.standing_count;
    objects_given = given_still;
    bounded = h.bounded;
    new_threads = new_still;
    lasting = h.lasting;
    unended = h.unended;
    unended_few = h.unended_few;
    queued = h.queued;
    in_queue = h.in_queue;
    started = h.started;
  }

-- where no phase is an end, ends stay
pub no_ends : (before behind : List Thread) (o : Option ℕ) (a b : Phase) → end_at a ≡ None
    → end_at b ≡ None → (i : ℕ)
    → end_of (before ++ thread o b ∷ behind) i ≡ end_of (before ++ thread o a ∷ behind) i
no_ends before behind o a b e f i =
    ends_same before behind o b a i (λ c. ap (λ z. if is_at i o then z else c) (f ∙ sym e))

-- thread 0 has no object
pub no_object_ends : (before behind : List Thread) (a b : Phase) (i : ℕ)
    → end_of (before ++ thread None b ∷ behind) i ≡ end_of (before ++ thread None a ∷ behind) i
no_object_ends before behind a b i = ends_same before behind None b a i (λ c. refl)

-- ---- a thread ends

abbrev pub ended_world : World → ℕ → Value → End → World
ended_world w l f end =
    record w { object = λ i. if l == i then Some (object f (given (Some end))) else w.object i }

module _ (p : Program) (n : Names) (m : Start) (w : World) (before behind : List Thread) (l : ℕ)
    (v : Term) (asked : Paths) (f : Value) (end : End) (s q t : Store)
    (h : AreStores p n m w (before ++ thread (Some l) (going v asked) ∷ behind) s t)
    (once : NoneTwice (objects (before ++ thread (Some l) (over v) ∷ behind)))
    (open_one : w.object l ≡ Some (object f (given None))) (is_end : v ≡ end_term end)
    (typed : IsEnd p n end) (is_private : PrivateValue p n m (ground_of w) (kept_value end))
    (kept : s (l + 2) ≡ Some (kept_value end))
    (sets : q (l + 1) ≡ Some (Small (pos (mark_of end))))
    (leaves : (i : ℕ) → (i ≡ l + 1 → ⊥) → q i ≡ s i) where
  abbrev x : World
  x = ended_world w l f end

  abbrev was : List Thread
  was = before ++ thread (Some l) (going v asked) ∷ behind

  abbrev is : List Thread
  is = before ++ thread (Some l) (over v) ∷ behind

  parts : HasParts w l
  parts = h.parts l _ open_one

  object_here : x.object l ≡ Some (object f (given (Some end)))
  object_here =
      ap (λ b. if b then Some (object f (given (Some end))) else w.object l) (same_place l)

  object_kept : (i : ℕ) → (l ≡ i → ⊥) → x.object i ≡ w.object i
  object_kept i k =
      ap (λ b. if b then Some (object f (given (Some end))) else w.object i) (other_place l i k)

  data Which (i : ℕ) : Type 0 where
    here : l ≡ i → Which i
    elsewhere : (l ≡ i → ⊥) → Which i

  which : (i : ℕ) → Which i
  which i = go (l == i) refl
    where
      go : (b : Bool) → (l == i) ≡ b → Which i
      go true e = let z : l ≡ i = search (rules, e) in here z
      go false e =
          elsewhere (λ z.
          let c : (l == i) ≡ true = search (rules, z) in
          let y : true ≡ false = sym c ∙ e in absurd cc)

  pub follows_end : (spot : Spot) → FollowsAt spot w x
  follows_end spot = record {
    uses = λ i k. refl;
    functions = λ i g stage e. functions i g stage e (which i);
    given = λ i g past e. gives i g past e (which i);
    flying = λ i g other e k. flies i g other e (which i);
    spawned = omega arith;
    lasting = λ i. refl;
  }
    where
      functions : (i : ℕ) (g : Value) (stage : Stage) → w.object i ≡ Some (object g stage)
          → Which i → (later : Stage) × (x.object i ≡ Some (object g later))
      functions i g stage e (elsewhere k) = (stage, object_kept i k ∙ e)
      functions i g stage e (here z) =
          let c : Some (object f (given None)) ≡ Some (object g stage) =
          sym open_one ∙ ap w.object z ∙ e in
          let y : object f (given None) ≡ object g stage = cc in
          let r : f ≡ g = ap (λ (u : Object). u.function) y in (
            given (Some end),
            ap x.object (sym z) ∙ object_here ∙ ap (λ u. Some (object u (given (Some end)))) r,
          )

      gives : (i : ℕ) (g : Value) (past : Option End) → w.object i ≡ Some (object g (given past))
          → Which i → (later : Option End) × (x.object i ≡ Some (object g (given later)))
          × EndStays past later
      gives i g past e (elsewhere k) = (past, object_kept i k ∙ e, ends_stay past)
      gives i g past e (here z) =
          let c = same_given open_one (ap w.object z ∙ e) in (
            Some end,
            ap x.object (sym z) ∙ object_here ∙ ap (λ u. Some (object u (given (Some end)))) c.0,
            subst (λ u. EndStays u (Some end)) c.1 tt,
          )

      flies : (i : ℕ) (g : Value) (other : Spot) → w.object i ≡ Some (object g (in_flight other))
          → Which i → x.object i ≡ Some (object g (in_flight other))
      flies i g other e (elsewhere k) = object_kept i k ∙ e
      flies i g other e (here z) = absurd (not_both (ap w.object z ∙ e) open_one)

  grown : (y : Value) → PrivateValue p n m (ground_of w) y → PrivateValue p n m (ground_of x) y
  grown y k = value_grows k (grounds_grow (follows_end []))

  spared : (i : ℕ) → (w.serves i ≡ part_of l 1 → ⊥) → q i ≡ s i
  spared i k = leaves i (λ e. k (ap w.serves e ∙ parts 1 (omega arith)))

  place_left : (i place : ℕ) → w.serves i ≡ part_of l place → (place ≡ 1 → ⊥) → q i ≡ s i
  place_left i place e k = spared i (λ r. k (same_part (sym e ∙ r)).1)

  part_left : (i place : ℕ) → HasParts w i → place < 4 → (place ≡ 1 → ⊥)
      → q (i + place) ≡ s (i + place)
  part_left i place k less j =
      spared (i + place) (λ r. j (same_part (sym (k place less) ∙ r)).1)

  at_first : (i : ℕ) → i + 0 ≡ i
  at_first i = omega arith

  first_left : (i : ℕ) → HasParts w i → q i ≡ s i
  first_left i k =
      subst (λ j. q j ≡ s j) (at_first i)
      (part_left i 0 k (omega arith) (λ e. let z : 0 ≡ 1 = e in omega (arith, z)))

  third_left : (i : ℕ) → HasParts w i → q (i + 2) ≡ s (i + 2)
  third_left i k = part_left i 2 k (omega arith) (λ e. let z : 2 ≡ 1 = e in omega (arith, z))

  fourth_left : (i : ℕ) → HasParts w i → q (i + 3) ≡ s (i + 3)
  fourth_left i k = part_left i 3 k (omega arith) (λ e. let z : 3 ≡ 1 = e in omega (arith, z))

  second_left : (i : ℕ) → HasParts w i → (l ≡ i → ⊥) → q (i + 1) ≡ s (i + 1)
  second_left i k j =
      spared (i + 1) (λ r. j (sym (same_part (sym (k 1 (omega arith)) ∙ r)).0))

  not_part : (i : ℕ) → w.serves i ≡ of_prelude → q i ≡ s i
  not_part i e = spared i (λ r. let z : of_prelude ≡ part_of l 1 = sym e ∙ r in absurd cc)

  -- an object of before
  record Before (i : ℕ) (g : Value) (stage : Stage) : Type 0 where
    pub past : Stage
    pub stood : w.object i ≡ Some (object g past)

  before_it : (i : ℕ) (g : Value) (stage : Stage) → x.object i ≡ Some (object g stage)
      → Before i g stage
  before_it i g stage e = go (which i)
    where
      go : Which i → Before i g stage
      go (elsewhere k) = record { past = stage; stood = sym (object_kept i k) ∙ e }
      go (here z) =
          let c : Some (object f (given (Some end))) ≡ Some (object g stage) =
          sym object_here ∙ ap x.object z ∙ e in
          let y : object f (given (Some end)) ≡ object g stage = cc in
          record {
            past = given None;
            stood = ap w.object (sym z) ∙ open_one
                ∙ ap (λ (u : Object). Some (object u.function (given None))) y;
          }

  old_parts : (i : ℕ) (u : Object) → x.object i ≡ Some u → HasParts w i
  old_parts i u e = let z = before_it i u.function u.stage e in h.parts i _ z.stood

  ends_but : (i : ℕ) → (l ≡ i → ⊥) → end_of is i ≡ end_of was i
  ends_but i k =
      ends_same before behind (Some l) (over v) (going v asked) i
      (λ c.
      ap (λ b. if b then Some v else c) (other_place l i k)
      ∙ sym (ap (λ b. if b then None else c) (other_place l i k)))

  end_here : end_of is l ≡ Some (end_term end)
  end_here =
      end_there is l v once (it_in before behind (thread (Some l) (over v))) ∙ ap Some is_end

  marked_then : (i : ℕ) (g : Value) (e : Option End) → x.object i ≡ Some (object g (given e))
      → (q (i + 1) ≡ Some (Small (pos (mark e)))) × (end_of is i ≡ option_map end_term e)
  marked_then i g e c = go (which i)
    where
      go : Which i → (q (i + 1) ≡ Some (Small (pos (mark e)))) × (end_of is i ≡ option_map end_term e)
      go (elsewhere k) =
          let r = h.marked i g e (sym (object_kept i k) ∙ c) in
          (second_left i (old_parts i _ c) k ∙ r.0, ends_but i k ∙ r.1)
      go (here z) =
          let y : Some end ≡ e = (same_given object_here (ap x.object z ∙ c)).1 in (
            ap (λ j. q (j + 1)) (sym z) ∙ sets ∙ ap (λ u. Some (Small (pos (mark u)))) y,
            ap (end_of is) (sym z) ∙ end_here ∙ ap (option_map end_term) y,
          )

  kept_then : (i : ℕ) (g : Value) (e : End) → x.object i ≡ Some (object g (given (Some e)))
      → (q (i + 2) ≡ Some (kept_value e)) × PrivateValue p n m (ground_of x) (kept_value e)
  kept_then i g e c = go (which i)
    where
      go : Which i
          → (q (i + 2) ≡ Some (kept_value e)) × PrivateValue p n m (ground_of x) (kept_value e)
      go (elsewhere k) =
          let r = h.kept i g e (sym (object_kept i k) ∙ c) in
          (third_left i (old_parts i _ c) ∙ r.0, grown _ r.1)
      go (here z) =
          let y : Some end ≡ Some e = (same_given object_here (ap x.object z ∙ c)).1 in
          let r : end ≡ e = cc in (
            ap (λ j. q (j + 2)) (sym z) ∙ third_left l parts ∙ kept
                ∙ ap (λ u. Some (kept_value u)) r,
            subst (λ u. PrivateValue p n m (ground_of x) (kept_value u)) r (grown _ is_private),
          )

  exceptions_then : (i : ℕ) (g y : Value) → x.object i ≡ Some (object g (given (Some (at_throw y))))
      → has_type p y n.exception ≡ true
  exceptions_then i g y c = go (which i)
    where
      go : Which i → has_type p y n.exception ≡ true
      go (elsewhere k) = h.exceptions i g y (sym (object_kept i k) ∙ c)
      go (here z) =
          let e : Some end ≡ Some (at_throw y) = (same_given object_here (ap x.object z ∙ c)).1 in
          let r : end ≡ at_throw y = cc in subst (IsEnd p n) r typed

  flying_then : (i : ℕ) (g : Value) (spot : Spot) → x.object i ≡ Some (object g (in_flight spot))
      → (q (i + 1) ≡ Some (Small (pos 0))) × ((place : ℕ) → place < 4 → t (i + place) ≡ None)
  flying_then i g spot c = go (which i)
    where
      go : Which i
          → (q (i + 1) ≡ Some (Small (pos 0))) × ((place : ℕ) → place < 4 → t (i + place) ≡ None)
      go (elsewhere k) =
          let r = h.flying i g spot (sym (object_kept i k) ∙ c) in
          (second_left i (old_parts i _ c) k ∙ r.0, r.1)
      go (here z) = absurd (not_both (ap x.object z ∙ c) object_here)

  given_then : (i : ℕ) → IsGiven w i → IsGiven x i
  given_then i k = let r = (follows_end []).given i k.0 k.1 k.2 in (k.0, r.0, r.1)

  there_then : (i : ℕ) → q i ≡ None → w.serves i ≡ unused
  there_then i e = go (i == l + 1) refl
    where
      go : (b : Bool) → (i == l + 1) ≡ b → w.serves i ≡ unused
      go true r =
          let z : i ≡ l + 1 = search (rules, r) in
          let y : Some (Small (pos (mark_of end))) ≡ None = sym sets ∙ ap q (sym z) ∙ e in absurd cc
      go false r =
          h.there i
          (sym (leaves i (λ z.
          let c : (i == l + 1) ≡ true = search (rules, z) in
          let y : true ≡ false = sym c ∙ r in absurd cc)) ∙ e)

  pub stores_end : AreStores p n m x is q t
  stores_end = record {
    agree = λ i e.
        spared i (λ r. let z : for_all ≡ part_of l 1 = sym e ∙ r in absurd cc) ∙ h.agree i e;
    private_store = λ i y e c.
        grown y
        (h.private_store i y e
        (sym (spared i (λ r. let z : for_all ≡ part_of l 1 = sym (open_at w i e) ∙ r in absurd cc))
        ∙ c));
    nothing = λ i e.
        let z = h.nothing i e in
        (spared i (λ r. let y : unused ≡ part_of l 1 = sym e ∙ r in absurd cc) ∙ z.0, z.1);
    there = there_then;
    parts = λ i u e. old_parts i u e;
    are_objects = λ i place c e.
        let r = h.are_objects i place c e in
        let y = (follows_end []).functions i r.0.function r.0.stage r.1 in
        (object r.0.function y.0, y.1, r.2, r.3);
    function = λ i u e.
        let z = before_it i u.function u.stage e in let r = h.function i _ z.stood in
        (first_left i (old_parts i u e) ∙ r.0, grown _ r.1);
    marked = marked_then;
    kept = kept_then;
    exceptions = exceptions_then;
    flying = flying_then;
    own = h.own;
    count = not_part n.count h.own.2 ∙ h.count;
    few = h.few;
    standing_count =
        length_same before behind (thread (Some l) (over v)) (thread (Some l) (going v asked))
        ∙ h.standing_count;
    objects_given = λ u i j e. go_given u i e (changed_one before behind (thread (Some l) (going v asked)) (thread (Some l) (over v)) u j);
    bounded = λ i u e. let z = before_it i u.function u.stage e in h.bounded i _ z.stood;
    new_threads = λ u i g j e c. go_new u i g e c (changed_one before behind (thread (Some l) (going v asked)) (thread (Some l) (over v)) u j);
    lasting = h.lasting;
    unended = not_part n.unended h.own.1 ∙ h.unended;
    unended_few = h.unended_few;
    queued = (
      h.queued.0,
      not_part n.queue h.own.0 ∙ h.queued.1,
      queue_kept n s q h.queued.0 w.queue
          (λ i j. let c = h.in_queue i j in fourth_left i (h.parts i (object c.0 (given c.1)) c.2))
          h.queued.2,
    );
    in_queue = λ i j. given_then i (h.in_queue i j);
    started = not_part m.started h.own.3 ∙ h.started;
  }
    where
      go_given : (u : Thread) (i : ℕ) → u.object ≡ Some i
          → (u ≡ thread (Some l) (over v)) ⊎ IsOneOf u was → IsGiven x i
      go_given u i e (inl c) =
          given_then i
          (h.objects_given (thread (Some l) (going v asked)) i
          (it_in before behind (thread (Some l) (going v asked)))
          (ap (λ (y : Thread). y.object) (sym c) ∙ e))
      go_given u i e (inr j) = given_then i (h.objects_given u i j e)

      go_new : (u : Thread) (i : ℕ) (g : Value) → u.object ≡ Some i → u.phase ≡ new g
          → (u ≡ thread (Some l) (over v)) ⊎ IsOneOf u was
          → (e : Option End) × (x.object i ≡ Some (object g (given e)))
      go_new u i g e c (inl z) =
          let y : over v ≡ new g = ap (λ (a : Thread). a.phase) (sym z) ∙ c in absurd cc
      go_new u i g e c (inr j) =
          let r = h.new_threads u i g j e c in let y = (follows_end []).given i g r.0 r.1 in
          (y.0, y.1)
