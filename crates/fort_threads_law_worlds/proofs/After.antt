-- Both stores behind an attempt.
use Rattle.std.proofs.Common.{◌≡◌, ℕ, ◌+◌, ◌<◌, List, ◌++◌, Option, Some, None, refl, ap, sym, ◌∙◌, subst, arith, ◌⊎◌, inl, inr, pos, option_map}
use Rattle.std.proofs.Math.Path.{fun_ext}
use Rattle.fort_core.specs.declared.program.Program.{Program}
use Rattle.fort_core.specs.declared.term.Term.{Term}
use Rattle.fort_core.specs.declared.value.Value.{Value, Small}
use Rattle.fort_machine.specs.Cells.{Cell, untouched, made, Fits, left_at, given_back}
use Rattle.fort_machine.specs.Effects.{Store, Effect, FitsAll, afterwards, failing, aborting}
use Rattle.fort_machine.proofs.Cells.{older_back, newer_kept, all_back}
use Rattle.fort_threads.specs.Threads.{Thread, end_of}
use Rattle.fort_threads_law_servers.specs.Prelude.{Names}
use Rattle.fort_threads_law_servers.specs.Stages.{End, end_term, kept_value}
use Rattle.fort_threads_law_servers.specs.Roots.{Start}
use Rattle.fort_threads_law_private.specs.Grounds.{Open, Grows}
use Rattle.fort_threads_law_private.specs.Private.{PrivateValue}
use Rattle.fort_threads_law_private.proofs.Growing.{value_grows}
use Rattle.fort_threads_law_worlds.specs.Worlds.{Spot, unused, for_all, part_of, in_flight, given, Object, object, World, ground_of, HasNothing, FollowsAt, with_counts, AllNew}
use Rattle.fort_threads_law_worlds.specs.Stores.{mark, AreStores}
use Rattle.fort_threads_law_worlds.specs.Effects.{DoAlike}
use Rattle.fort_threads_law_worlds.specs.Laws.{StoresAfterCompleting, StoresAfterFailing, StoresAfterAborting}
use Rattle.fort_threads_law_worlds.proofs.Following.{Standing, no_object, in_the_air, was_given, stands, not_both, same_given, open_at, at_open, unused_before, given_later, grounds_grow}
use Rattle.fort_threads_law_worlds.proofs.Closing.{failed_alike}
use Rattle.fort_threads_law_worlds.proofs.Queues.{queue_there}
use Rattle.fort_threads_law_worlds.proofs.Fitting.{fit_both, agree_after, no_end, same_end}

pub stores_after_completing : StoresAfterCompleting
stores_after_completing p n m x standing s t d e h = h

aborted_store : (d : Effect) (s : Store) → FitsAll d s → afterwards (aborting d) s ≡ s
aborted_store d s f = fun_ext (λ l. all_back (d.cells l) (s l) (f l))

pub stores_after_aborting : StoresAfterAborting
stores_after_aborting p n m spot w x standing s t d e h a k f =
    let g = fit_both p n m w standing s t h a k f in
    subst (λ y. AreStores p n m w standing (afterwards (aborting d) s) y)
    (sym (aborted_store e t g))
    (subst (λ y. AreStores p n m w standing y t) (sym (aborted_store d s f)) h)

-- ---- an attempt that failed

-- what stands in a store at a location: something older, or nothing
data Older (o : Option Value) : Type 0 where
  older : (v : Value) → o ≡ Some v → Older o
  newer : o ≡ None → Older o

is_older : (o : Option Value) → Older o
is_older None = newer refl
is_older (Some v) = older v refl

back_older : (c : Cell) (o : Option Value) (v : Value) → o ≡ Some v → Fits c o
    → left_at (given_back c) o ≡ o
back_older c o v e f =
    ap (left_at (given_back c)) e ∙ older_back c v (subst (Fits c) e f) ∙ sym e

back_newer : (c : Cell) (o : Option Value) → o ≡ None → Fits c o
    → left_at (given_back c) o ≡ left_at c o
back_newer c o e f =
    ap (left_at (given_back c)) e ∙ newer_kept c (subst (Fits c) e f) ∙ sym (ap (left_at c) e)

back_spared : (c : Cell) (o : Option Value) → (c ≡ untouched) ⊎ ((v : Option Value) × (c ≡ made v))
    → left_at (given_back c) o ≡ left_at c o
back_spared c o (inl e) =
    ap (λ x. left_at (given_back x) o) e ∙ sym (ap (λ x. left_at x o) e)
back_spared c o (inr e) =
    ap (λ x. left_at (given_back x) o) e.1 ∙ sym (ap (λ x. left_at x o) e.1)

none_end : (f : End → Term) (end : Option End) → None ≡ option_map f end → end ≡ None
none_end f None e = refl
none_end f (Some end) e = let z : None ≡ Some (f end) = e in absurd cc

module _ (p : Program) (n : Names) (m : Start) (spot : Spot) (w x : World)
    (before added : List Thread) (s t : Store) (d e : Effect) (h : AreStores p n m w before s t)
    (a : FollowsAt spot w x) (k : DoAlike w x d e) (f : FitsAll d s) (new : AllNew added)
    (i : AreStores p n m x (before ++ added) (afterwards d s) (afterwards e t)) where
  abbrev left : Store
  left = afterwards (failing d) s

  abbrev model : Store
  model = afterwards (failing e) t

  grown : Grows (ground_of w) (ground_of x)
  grown = grounds_grow a

  real_older : (l : ℕ) (v : Value) → s l ≡ Some v → left l ≡ s l
  real_older l v q = back_older (d.cells l) (s l) v q (f l)

  real_newer : (l : ℕ) → s l ≡ None → left l ≡ afterwards d s l
  real_newer l q = back_newer (d.cells l) (s l) q (f l)

  model_kept : (l : ℕ) → (x.serves l ≡ for_all → ⊥) → model l ≡ afterwards e t l
  model_kept l q = back_spared (e.cells l) (t l) (spared (k.nothing_else l q))
    where
      spared : (e.cells l ≡ untouched)
          ⊎ ((v : Option Value) × (e.cells l ≡ made v) × HasNothing w l)
          → (e.cells l ≡ untouched) ⊎ ((v : Option Value) × (e.cells l ≡ made v))
      spared (inl z) = inl z
      spared (inr z) = inr (z.0, z.1)

  same_ends : (l : ℕ) → end_of (before ++ added) l ≡ end_of before l
  same_ends l = same_end before added new l

  -- a location with something is used, now as then
  used_of : (l : ℕ) (v : Value) → s l ≡ Some v → x.serves l ≡ w.serves l
  used_of l v q =
      a.uses l (λ z. let y : Some v ≡ None = sym q ∙ (h.nothing l z).0 in absurd cc)

  -- an older place of an object
  record OldPart (l place : ℕ) (v : Value) : Type 0 where
    pub object : Object
    pub stood : w.object l ≡ Some object

  old_part : (l place : ℕ) (o : Object) (v : Value) → x.object l ≡ Some o → place < 4
      → s (l + place) ≡ Some v → OldPart l place v
  old_part l place o v q j z =
      let g = h.are_objects l place (l + place)
      (sym (used_of (l + place) v z) ∙ i.parts l o q place j) in
      record { object = g.0; stood = g.1 }

  private_left : (l : ℕ) (v : Value) → Open (ground_of x) l → left l ≡ Some v
      → PrivateValue p n m (ground_of x) v
  private_left l v o q = go (is_older (s l))
    where
      go : Older (s l) → PrivateValue p n m (ground_of x) v
      go (newer z) = i.private_store l v o (sym (real_newer l z) ∙ q)
      go (older y z) =
          let b = used_of l y z in
          value_grows
          (h.private_store l v (at_open w l (sym b ∙ open_at x l o)) (sym (real_older l y z) ∙ q))
          grown

  nothing_left : (l : ℕ) → x.serves l ≡ unused → (left l ≡ None) × (model l ≡ None)
  nothing_left l q =
      let z = i.nothing l q in let y = h.nothing l (unused_before a l q) in (
        real_newer l y.0 ∙ z.0,
        model_kept l (λ b. let c : unused ≡ for_all = sym q ∙ b in absurd cc) ∙ z.1,
      )

  there_left : (l : ℕ) → left l ≡ None → x.serves l ≡ unused
  there_left l q = go (is_older (s l))
    where
      go : Older (s l) → x.serves l ≡ unused
      go (newer z) = i.there l (sym (real_newer l z) ∙ q)
      go (older y z) = let b : Some y ≡ None = sym z ∙ sym (real_older l y z) ∙ q in absurd cc

  none_less : 0 < 4
  none_less = omega arith

  one_less : 1 < 4
  one_less = omega arith

  two_less : 2 < 4
  two_less = omega arith

  at_first : (l : ℕ) → l + 0 ≡ l
  at_first l = omega arith

  same_function : (l : ℕ) (o q : Object) → x.object l ≡ Some o → w.object l ≡ Some q
      → q.function ≡ o.function
  same_function l o q y z =
      let b = a.functions l q.function q.stage z in
      let c : Some (object q.function b.0) ≡ Some o = sym b.1 ∙ y in
      let g : object q.function b.0 ≡ o = cc in ap (λ (y : Object). y.function) g

  function_left : (l : ℕ) (o : Object) → x.object l ≡ Some o → left l ≡ Some o.function
  function_left l o q = go (is_older (s l))
    where
      go : Older (s l) → left l ≡ Some o.function
      go (newer z) = real_newer l z ∙ (i.function l o q).0
      go (older v z) =
          let b = old_part l 0 o v q none_less (subst (λ y. s y ≡ Some v) (sym (at_first l)) z) in
          real_older l v z ∙ (h.function l b.object b.stood).0
          ∙ ap Some (same_function l o b.object q b.stood)

  -- an end that is known after it was known before it
  mark_left : (l : ℕ) (g : Value) (end : Option End) → x.object l ≡ Some (object g (given end))
      → left (l + 1) ≡ Some (Small (pos (mark end)))
  mark_left l g end q = go (is_older (s (l + 1)))
    where
      ends : end_of before l ≡ option_map end_term end
      ends = sym (same_ends l) ∙ (i.marked l g end q).1

      by_stage : (v : Value) → s (l + 1) ≡ Some v → (o : Object) → w.object l ≡ Some o
          → Standing (w.object l) → left (l + 1) ≡ Some (Small (pos (mark end)))
      by_stage v z o y (no_object c) = let r : None ≡ Some o = sym c ∙ y in absurd cc
      by_stage v z o y (in_the_air b other c) =
          let r = no_end w before h.objects_given l
          (λ j. not_both c j.2) in
          let u : end ≡ None = none_end end_term end (sym r ∙ ends) in
          real_older (l + 1) v z ∙ (h.flying l b other c).0
          ∙ ap (λ x. Some (Small (pos (mark x)))) (sym u)
      by_stage v z o y (was_given b then c) =
          real_older (l + 1) v z ∙ (h.marked l b then c).0
          ∙ ap (λ x. Some (Small (pos (mark x)))) (same then c)
        where
          same : (then : Option End) → w.object l ≡ Some (object b (given then)) → then ≡ end
          same None c =
              sym (none_end end_term end (sym (h.marked l b None c).1 ∙ ends))
          same (Some fin) c =
              let r = a.given l b (Some fin) c in
              sym r.2 ∙ (same_given r.1 q).1

      go : Older (s (l + 1)) → left (l + 1) ≡ Some (Small (pos (mark end)))
      go (newer z) = real_newer (l + 1) z ∙ (i.marked l g end q).0
      go (older v z) =
          let b = old_part l 1 (object g (given end)) v q one_less z in
          by_stage v z b.object b.stood (stands (w.object l))

  kept_left : (l : ℕ) (g : Value) (end : End) → x.object l ≡ Some (object g (given (Some end)))
      → left (l + 2) ≡ Some (kept_value end)
  kept_left l g end q = go (is_older (s (l + 2)))
    where
      ends : end_of before l ≡ Some (end_term end)
      ends = sym (same_ends l) ∙ (i.marked l g (Some end) q).1

      by_stage : (v : Value) → s (l + 2) ≡ Some v → (o : Object) → w.object l ≡ Some o
          → Standing (w.object l) → left (l + 2) ≡ Some (kept_value end)
      by_stage v z o y (no_object c) = let r : None ≡ Some o = sym c ∙ y in absurd cc
      by_stage v z o y (in_the_air b other c) =
          let r = no_end w before h.objects_given l
          (λ j. not_both c j.2) in
          let u : None ≡ Some (end_term end) = sym r ∙ ends in absurd cc
      by_stage v z o y (was_given b then c) = known then c
        where
          known : (then : Option End) → w.object l ≡ Some (object b (given then))
              → left (l + 2) ≡ Some (kept_value end)
          known None c =
              let u : None ≡ Some (end_term end) = sym (h.marked l b None c).1 ∙ ends in absurd cc
          known (Some fin) c =
              let r = a.given l b (Some fin) c in
              let y = (same_given r.1 q).1 in
              let c' : Some fin ≡ Some end = sym r.2 ∙ y in
              let z' : fin ≡ end = cc in
              real_older (l + 2) v z ∙ (h.kept l b fin c).0 ∙ ap (λ x. Some (kept_value x)) z'

      go : Older (s (l + 2)) → left (l + 2) ≡ Some (kept_value end)
      go (newer z) = real_newer (l + 2) z ∙ (i.kept l g end q).0
      go (older v z) =
          let b = old_part l 2 (object g (given (Some end))) v q two_less z in
          by_stage v z b.object b.stood (stands (w.object l))

  flying_left : (l : ℕ) (g : Value) (other : Spot) → x.object l ≡ Some (object g (in_flight other))
      → left (l + 1) ≡ Some (Small (pos 0))
  flying_left l g other q = go (is_older (s (l + 1)))
    where
      by_stage : (v : Value) → s (l + 1) ≡ Some v → (o : Object) → w.object l ≡ Some o
          → Standing (w.object l) → left (l + 1) ≡ Some (Small (pos 0))
      by_stage v z o y (no_object c) = let r : None ≡ Some o = sym c ∙ y in absurd cc
      by_stage v z o y (in_the_air b place c) = real_older (l + 1) v z ∙ (h.flying l b place c).0
      by_stage v z o y (was_given b then c) =
          let r = a.given l b then c in absurd (not_both q r.1)

      go : Older (s (l + 1)) → left (l + 1) ≡ Some (Small (pos 0))
      go (newer z) = real_newer (l + 1) z ∙ (i.flying l g other q).0
      go (older v z) =
          let b = old_part l 1 (object g (in_flight other)) v q one_less z in
          by_stage v z b.object b.stood (stands (w.object l))

  own_left : (l : ℕ) (v : Value) → s l ≡ Some v → left l ≡ Some v
  own_left l v q = real_older l v q ∙ q

  part_shut : (l place : ℕ) → x.serves l ≡ part_of l place → x.serves l ≡ for_all → ⊥
  part_shut l place q z = let y : part_of l place ≡ for_all = sym q ∙ z in absurd cc

  pub stores_failed : AreStores p n m (with_counts w x) before left model
  stores_failed = record {
    agree =
        agree_after p n m w before s t h {spot = spot} {x = x} {d = failing d} {e = failing e} a
        (failed_alike w x d e k);
    private_store = private_left;
    nothing = nothing_left;
    there = there_left;
    parts = i.parts;
    are_objects = i.are_objects;
    function = λ l o q. (function_left l o q, (i.function l o q).1);
    marked = λ l g end q. (mark_left l g end q, sym (same_ends l) ∙ (i.marked l g end q).1);
    kept = λ l g end q. (kept_left l g end q, (i.kept l g end q).1);
    exceptions = i.exceptions;
    flying = λ l g other q. (
      flying_left l g other q,
      λ place j.
          model_kept (l + place)
          (λ z. let y : part_of l place ≡ for_all = sym (i.parts l _ q place j) ∙ z in absurd cc)
          ∙ (i.flying l g other q).1 place j,
    );
    own = i.own;
    count = own_left n.count (Small (pos w.spawned)) h.count;
    few = h.few;
    standing_count = h.standing_count;
    objects_given = λ u l j q. given_later a l (h.objects_given u l j q);
    bounded = i.bounded;
    new_threads = λ u l g j q c.
        let z = h.new_threads u l g j q c in let y = a.given l g z.0 z.1 in (y.0, y.1);
    lasting = i.lasting;
    unended = own_left n.unended (Small (pos w.unended)) h.unended;
    unended_few = h.unended_few;
    queued = (
      h.queued.0,
      own_left n.queue h.queued.0 h.queued.1,
      queue_there n s left h.queued.0 w.queue own_left h.queued.2,
    );
    in_queue = λ l j. given_later a l (h.in_queue l j);
    started = own_left m.started _ h.started;
  }

pub stores_after_failing : StoresAfterFailing
stores_after_failing p n m spot w x before added s t d e h a k f new i =
    stores_failed p n m spot w x before added s t d e h a k f new i
