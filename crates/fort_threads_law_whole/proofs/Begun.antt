-- Once the first object is there, all goes on alike.
use Rattle.std.proofs.Common.{◌≡◌, ℕ, zero, suc, ◌+◌, ◌<◌, ◌≤◌, Bool, true, false, List, [], ◌∷◌, Option, Some, None, pos, arith, refl, ap, sym, ◌∙◌, subst, ◌⊎◌, inl, inr}
use Rattle.fort_core.specs.declared.program.Program.{Program}
use Rattle.fort_core.specs.declared.value.Value.{Value, Small, Truth}
use Rattle.fort_machine.specs.Acts.{unit}
use Rattle.fort_machine.specs.Effects.{Store, FitsAll, afterwards}
use Rattle.fort_machine.specs.Journals.{opening_store}
use Rattle.fort_machine.specs.Parts.{IsOneOf}
use Rattle.fort_threads.specs.Known.{Known}
use Rattle.fort_threads.specs.Machine.{alone}
use Rattle.fort_threads.specs.Threads.{Paths, Phase, new, going, Thread, thread}
use Rattle.fort_threads_law_servers.specs.Prelude.{Names}
use Rattle.fort_threads_law_servers.specs.Roots.{Start, Starts}
use Rattle.fort_threads_law_servers.specs.Stages.{sent}
use Rattle.fort_threads_law_private.specs.Grounds.{Ground, Open, Grows}
use Rattle.fort_threads_law_private.specs.Private.{PrivateValue}
use Rattle.fort_threads_law_private.proofs.Growing.{value_grows}
use Rattle.fort_threads_law_worlds.specs.Worlds.{Use, unused, for_all, of_prelude, part_of, Object, object, World, ground_of, IsGiven}
use Rattle.fort_threads_law_worlds.specs.Known.{Own}
use Rattle.fort_threads_law_worlds.specs.Stores.{AreStores}
use Rattle.fort_threads_law_worlds.proofs.Following.{open_at, at_open}
use Rattle.fort_threads_law_calls.proofs.Rows.{field_at, field_left, row_left, row_absent}
use Rattle.fort_threads_law_runs.specs.Premises.{IsThreaded}
use Rattle.fort_threads_law_whole.specs.Lists.{IsAt}
use Rattle.fort_threads_law_whole.specs.Early.{variables, IsBeginning, started_store, open_store, first_made, AllBegins}
use Rattle.fort_threads_law_whole.specs.Roots.{GoAlike}
use Rattle.fort_threads_law_whole.proofs.First.{Where, at_first, at_variable, elsewhere, where_is, by_value, use_where, lasts_where, first_world, apart_by, written_left, written_there, open_elsewhere}

-- thread 0 alone
alone_at : (number : ℕ) (u v : Thread) → IsAt number u (v ∷ []) → (number ≡ 0) × (v ≡ u)
alone_at zero u v e = let q : Some v ≡ Some u = e in let z : v ≡ u = cc in (refl, z)
alone_at (suc k) u v e = let q : None ≡ Some u = e in absurd cc

no_other_object : (u : Thread) (l : ℕ) (phase : Phase) → thread None phase ≡ u
    → u.object ≡ Some l → ⊥
no_other_object u l phase e q =
    let z : None ≡ Some l = ap (λ (x : Thread). x.object) e ∙ q in cc

module _ (p : Program) (n : Names) (m : Start) (o : Own) (k : Known) (g : Ground)
    (is : IsThreaded p n m o k g) (begins : IsBeginning p n m k g) (starts : Starts p n m) (l : ℕ)
    (fits : FitsAll (first_made m l) (open_store p n m)) where
  abbrev w : World
  w = first_world p n m l

  abbrev s : Store
  s = afterwards (first_made m l) (open_store p n m)

  abbrev Outside : ℕ → Type 0
  Outside i = (place : ℕ) → place < 4 → i ≡ l + place → ⊥

  -- what is there stands outside the first object, and stays
  outside : (i : ℕ) (v : Value) → open_store p n m i ≡ Some v → Outside i
  outside i v e place h q =
      let z : Some v ≡ None = sym e ∙ ap (open_store p n m) q
      ∙ row_absent l m.own 1 (open_store p n m) fits place h in cc

  left : (i : ℕ) → Outside i → s i ≡ open_store p n m i
  left i h = row_left l m.own 1 (open_store p n m) i h

  -- the four variables
  queue_open : open_store p n m n.queue ≡ Some unit
  queue_open =
      open_elsewhere p n m n.queue (λ e. apart_by _ _ is.same.apart.1 (sym e))
      (λ e. apart_by _ _ is.same.apart.2 (sym e)) ∙ begins.queue

  count_open : open_store p n m n.count ≡ Some (Small (pos 0))
  count_open =
      open_elsewhere p n m n.count (λ e. apart_by _ _ is.prelude.apart (sym e))
      (λ e. apart_by _ _ is.same.apart.3 (sym e)) ∙ begins.count

  started_open : open_store p n m m.started ≡ Some (Truth true)
  started_open =
      written_left n.unended (Small (pos 1)) (started_store p m) m.started
      (λ e. apart_by _ _ is.same.apart.4 e)
      ∙ written_there m.started (Truth true) (opening_store p)

  unended_open : open_store p n m n.unended ≡ Some (Small (pos 1))
  unended_open = written_there n.unended (Small (pos 1)) (started_store p m)

  variable_open : (i : ℕ) → IsOneOf i (variables n m)
      → (v : Value) × (open_store p n m i ≡ Some v)
  variable_open i (inl e) = (unit, ap (open_store p n m) e ∙ queue_open)
  variable_open i (inr (inl e)) = (Small (pos 1), ap (open_store p n m) e ∙ unended_open)
  variable_open i (inr (inr (inl e))) = (Small (pos 0), ap (open_store p n m) e ∙ count_open)
  variable_open i (inr (inr (inr (inl e)))) =
      (Truth true, ap (open_store p n m) e ∙ started_open)
  variable_open i (inr (inr (inr (inr h)))) = absurd h

  variable_left : (i : ℕ) (v : Value) → open_store p n m i ≡ Some v → s i ≡ Some v
  variable_left i v e = left i (outside i v e) ∙ e

  -- elsewhere the store is the opening one
  same_elsewhere : (i : ℕ) → Outside i → (IsOneOf i (variables n m) → ⊥)
      → s i ≡ opening_store p i
  same_elsewhere i h q =
      left i h
      ∙ open_elsewhere p n m i (λ e. q (inr (inl (sym e)))) (λ e. q (inr (inr (inr (inl (sym e))))))

  -- what a use says of its location
  abbrev UseIs : ℕ → Use → Type 0
  UseIs i u = w.serves i ≡ u

  value_unused : (v : Option Value) → by_value v ≡ unused → v ≡ None
  value_unused None e = refl
  value_unused (Some v) e = let z : for_all ≡ unused = e in absurd cc

  value_open : (v : Option Value) → by_value v ≡ for_all → (x : Value) × (v ≡ Some x)
  value_open None e = let z : unused ≡ for_all = e in absurd cc
  value_open (Some v) e = (v, refl)

  is_open : (i : ℕ) → UseIs i for_all
      → (s i ≡ opening_store p i) × ((v : Value) × (opening_store p i ≡ Some v)) × Open g i
  is_open i e = go (where_is n m l i) e
    where
      go : (x : Where n m l i) → use_where (opening_store p i) x ≡ for_all
          → (s i ≡ opening_store p i) × ((v : Value) × (opening_store p i ≡ Some v)) × Open g i
      go (at_first place h q) e = let z : of_prelude ≡ for_all = e in absurd cc
      go (at_variable h q) e = let z : of_prelude ≡ for_all = e in absurd cc
      go (elsewhere h q) e =
          let v = value_open (opening_store p i) e in
          (same_elsewhere i h q, v, either v (begins.is_open i v.0 v.1))
        where
          either : (v : Value) × (opening_store p i ≡ Some v)
              → Open g i ⊎ IsOneOf i (variables n m) → Open g i
          either v (inl a) = a
          either v (inr a) = absurd (q a)

  is_unused : (i : ℕ) → UseIs i unused → (s i ≡ None) × (opening_store p i ≡ None)
  is_unused i e = go (where_is n m l i) e
    where
      go : (x : Where n m l i) → use_where (opening_store p i) x ≡ unused
          → (s i ≡ None) × (opening_store p i ≡ None)
      go (at_first place h q) e = let z : of_prelude ≡ unused = e in absurd cc
      go (at_variable h q) e = let z : of_prelude ≡ unused = e in absurd cc
      go (elsewhere h q) e =
          let v = value_unused (opening_store p i) e in (same_elsewhere i h q ∙ v, v)

  no_part : (i k place : ℕ) → UseIs i (part_of k place) → ⊥
  no_part i k place e = go (where_is n m l i) e
    where
      by : (v : Option Value) → by_value v ≡ part_of k place → ⊥
      by None e = let z : unused ≡ part_of k place = e in cc
      by (Some v) e = let z : for_all ≡ part_of k place = e in cc

      go : (x : Where n m l i) → use_where (opening_store p i) x ≡ part_of k place → ⊥
      go (at_first other h q) e = let z : of_prelude ≡ part_of k place = e in cc
      go (at_variable h q) e = let z : of_prelude ≡ part_of k place = e in cc
      go (elsewhere h q) e = by (opening_store p i) e

  none_there : (i : ℕ) → s i ≡ None → UseIs i unused
  none_there i e = go (where_is n m l i)
    where
      go : (x : Where n m l i) → use_where (opening_store p i) x ≡ unused
      go (at_first place h q) =
          let v = field_at m.own place h in
          let z : Some v.0 ≡ None =
          sym (field_left l m.own 1 (open_store p n m) place v.0 v.1) ∙ ap s (sym q) ∙ e in
          absurd cc
      go (at_variable h q) =
          let v = variable_open i q in
          let z : Some v.0 ≡ None = sym (variable_left i v.0 v.1) ∙ e in absurd cc
      go (elsewhere h q) = ap by_value (sym (same_elsewhere i h q) ∙ e)

  -- the variables are the prelude's
  is_own : (i : ℕ) → IsOneOf i (variables n m) → UseIs i of_prelude
  is_own i h = go (where_is n m l i)
    where
      go : (x : Where n m l i) → use_where (opening_store p i) x ≡ of_prelude
      go (at_first place q e) = refl
      go (at_variable q e) = refl
      go (elsewhere q e) = absurd (e h)

  -- the first object lasts, and nothing else
  does_last : (i : ℕ) → w.lasts i ≡ true
      → (UseIs i of_prelude) × (IsOneOf i (variables n m) → ⊥)
  does_last i e = go (where_is n m l i) e
    where
      go : (x : Where n m l i) → lasts_where x ≡ true
          → (use_where (opening_store p i) x ≡ of_prelude) × (IsOneOf i (variables n m) → ⊥)
      go (at_first place h q) e =
          (refl, λ a. let v = variable_open i a in outside i v.0 v.1 place h q)
      go (at_variable h q) e = let z : false ≡ true = e in absurd cc
      go (elsewhere h q) e = let z : false ≡ true = e in absurd cc

  first_lasts : (place : ℕ) → place < 4 → w.lasts (l + place) ≡ true
  first_lasts place h = go (where_is n m l (l + place))
    where
      go : (x : Where n m l (l + place)) → lasts_where x ≡ true
      go (at_first other q e) = refl
      go (at_variable q e) = absurd (q place h refl)
      go (elsewhere q e) = absurd (q place h refl)

  grown : Grows g (ground_of w)
  grown = record {
    stay_open = λ i e. at_open w i (opens i e (where_is n m l i));
    stay = λ i f e.
        let z : None ≡ Some f = sym (begins.no_object i) ∙ e in absurd cc;
  }
    where
      opens : (i : ℕ) → Open g i → (x : Where n m l i)
          → use_where (opening_store p i) x ≡ for_all
      opens i e (at_first place h q) =
          let v = begins.open_there i e in
          absurd (outside i v.0
          (open_elsewhere p n m i
          (λ z. begins.shut i (inr (inl (sym z))) e)
          (λ z. begins.shut i (inr (inr (inr (inl (sym z))))) e) ∙ v.1) place h q)
      opens i e (at_variable h q) = absurd (begins.shut i q e)
      opens i e (elsewhere h q) = ap by_value (begins.open_there i e).1

  no_object : (i : ℕ) (x : Object) → w.object i ≡ Some x → ⊥
  no_object i x e = let z : None ≡ Some x = e in cc

  stores : AreStores p n m w (alone o.body) s (opening_store p)
  stores = record {
    agree = λ i e. (is_open i e).0;
    private_store = λ i v e q.
        let z = is_open i (open_at w i e) in
        value_grows (is.apart.opening i v z.2 (sym z.0 ∙ q)) grown;
    nothing = is_unused;
    there = none_there;
    parts = λ i x e. absurd (no_object i x e);
    are_objects = λ i place j e. absurd (no_part j i place e);
    function = λ i x e. absurd (no_object i x e);
    marked = λ i f end e. absurd (no_object i _ e);
    kept = λ i f end e. absurd (no_object i _ e);
    exceptions = λ i f v e. absurd (no_object i _ e);
    flying = λ i f spot e. absurd (no_object i _ e);
    own = (
      is_own n.queue (inl refl),
      is_own n.unended (inr (inl refl)),
      is_own n.count (inr (inr (inl refl))),
      is_own m.started (inr (inr (inr (inl refl)))),
    );
    count = variable_left n.count _ count_open;
    few = omega arith;
    standing_count = refl;
    objects_given = λ u i h e. absurd (no_thread u i h e);
    bounded = λ i x e. absurd (no_object i x e);
    new_threads = λ u i f h e c. absurd (no_thread u i h e);
    lasting = λ i e.
        let z = does_last i e in (
          z.0,
          λ q. z.1 (inl q),
          λ q. z.1 (inr (inl q)),
          λ q. z.1 (inr (inr (inl q))),
          λ q. z.1 (inr (inr (inr (inl q)))),
        );
    unended = variable_left n.unended _ unended_open;
    unended_few = omega arith;
    queued = (unit, variable_left n.queue _ queue_open, refl);
    in_queue = λ i h. absurd h;
    started = variable_left m.started _ started_open;
  }
    where
      no_thread : (u : Thread) (i : ℕ) → IsOneOf u (alone o.body) → u.object ≡ Some i → ⊥
      no_thread u i (inl h) e = no_other_object u i (going o.body []) (sym h) e
      no_thread u i (inr h) e = absurd h

  first_there : (place : ℕ) → place < 4
      → (w.lasts (l + place) ≡ true) × ((v : Value) × (s (l + place) ≡ Some v))
  first_there place h =
      let v = field_at m.own place h in
      (first_lasts place h, (v.0, field_left l m.own 1 (open_store p n m) place v.0 v.1))

  first_function : s l ≡ Some m.own
  first_function =
      let z : l + 0 ≡ l = omega arith in
      ap s (sym z) ∙ field_left l m.own 1 (open_store p n m) 0 m.own refl

  alike : GoAlike p n m o g w l (sent l) [] 64 (alone o.body) s (opening_store p)
  alike = record {
    grown = grown;
    stores = stores;
    phase = going o.body [];
    others = [];
    are_all = refl;
    is_first = (refl, refl, first_function, refl);
    first_lasts = first_there;
    calm = (tt, tt);
    serve = tt;
    queue_new = λ i h. absurd h;
    held_once = tt;
    objects_apart = tt;
    new_ones = λ number i f e.
        let z = alone_at number (thread (Some i) (new f)) _ e in
        absurd (no_other_object _ i (going o.body []) z.1 refl);
    going_ones = λ number i v asked e.
        let z = alone_at number (thread (Some i) (going v asked)) _ e in
        absurd (no_other_object _ i (going o.body []) z.1 refl);
    no_other_first = λ number other e. (alone_at number (thread None other) _ e).0;
    owed = refl;
    free = inr refl;
  }

pub all_begins : AllBegins
all_begins p n m o k g is begins starts l now s t e =
    let a = alike p n m o k g is begins starts l e.3 in (
      first_world p n m l,
      subst (λ x. GoAlike p n m o g (first_world p n m l) l (sent l) [] 64 now x t) (sym e.0)
          (subst (λ x. GoAlike p n m o g (first_world p n m l) l (sent l) [] 64 now
          (afterwards (first_made m l) (open_store p n m)) x) (sym e.1)
          (subst (λ x. GoAlike p n m o g (first_world p n m l) l (sent l) [] 64 x
          (afterwards (first_made m l) (open_store p n m)) (opening_store p)) (sym e.2) a)),
    )
