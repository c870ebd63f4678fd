-- Both stores behind a step that is no call of the prelude.
use Rattle.std.proofs.Common.{◌≡◌, ℕ, ◌+◌, ◌<◌, ◌≤◌, List, [], Option, Some, None, refl, ap, sym, ◌∙◌, subst, arith, ◌⊎◌, inl, inr, pos}
use Rattle.fort_core.specs.declared.program.Program.{Program}
use Rattle.fort_core.specs.declared.term.Term.{Term}
use Rattle.fort_core.specs.declared.value.Value.{Value, Small}
use Rattle.fort_machine.specs.Cells.{Cell, untouched, found, made, Fits, left_at}
use Rattle.fort_machine.specs.Effects.{Store, Effect, FitsAll, afterwards}
use Rattle.fort_machine.specs.Parts.{IsOneOf}
use Rattle.fort_threads.specs.Threads.{Thread}
use Rattle.fort_threads_law_servers.specs.Prelude.{Names}
use Rattle.fort_threads_law_servers.specs.Roots.{Start}
use Rattle.fort_threads_law_private.specs.Grounds.{Open, Grows}
use Rattle.fort_threads_law_private.specs.Private.{Private}
use Rattle.fort_threads_law_private.specs.Fine.{PrivateStore, TouchesOpen, StaysPrivate}
use Rattle.fort_threads_law_private.proofs.Growing.{value_grows, private_grows}
use Rattle.fort_threads_law_worlds.specs.Worlds.{Spot, Use, unused, for_all, part_of, of_prelude, in_flight, given, Object, object, World, ground_of, HasParts, HasNothing, FollowsAt}
use Rattle.fort_threads_law_worlds.specs.Stores.{IsQueue, AreStores}
use Rattle.fort_threads_law_worlds.specs.Effects.{DoAlike, Opens, use_after, opened}
use Rattle.fort_threads_law_worlds.specs.Laws.{StoresAfterOpen}
use Rattle.fort_threads_law_worlds.proofs.Following.{part_used, prelude_used, used_not, ends_stay, open_at, at_open, grounds_grow}
use Rattle.fort_threads_law_worlds.proofs.Fitting.{agree_after, fit_both}
use Rattle.fort_threads_law_worlds.proofs.Queues.{queue_kept}

-- whether a cell is left alone
pub data Alone (c : Cell) : Type 0 where
  alone : c ≡ untouched → Alone c
  touched : (c ≡ untouched → ⊥) → Alone c

pub is_alone : (c : Cell) → Alone c
is_alone untouched = alone refl
is_alone (found r v) = touched (λ e. let q : found r v ≡ untouched = e in absurd cc)
is_alone (made v) = touched (λ e. let q : made v ≡ untouched = e in absurd cc)

abbrev Uses : World → World → Effect → ℕ → Type 0
Uses w x d l = (x.serves l ≡ w.serves l)
    ⊎ ((w.serves l ≡ unused) × (x.serves l ≡ for_all)
    × ((v : Value) × (d.cells l ≡ made (Some v))))

-- a world that such a step opens follows
pub follows_opened : (spot : Spot) {w x : World} {d : Effect} → Opens w x d → FollowsAt spot w x
follows_opened spot {w} {x} {d} o =
    let q : x.spawned ≡ w.spawned = o.spawned in
    record {
      uses = λ l n. uses l n (o.uses l);
      functions = λ l f stage e. (stage, o.objects l ∙ e);
      given = λ l f end e. (end, o.objects l ∙ e, ends_stay end);
      flying = λ l f other e n. o.objects l ∙ e;
      spawned = omega arith;
      lasting = o.lasts;
    }
  where
    uses : (l : ℕ) → (w.serves l ≡ unused → ⊥) → Uses w x d l → x.serves l ≡ w.serves l
    uses l n (inl e) = e
    uses l n (inr e) = absurd (n e.0)

module _ (p : Program) (n : Names) (m : Start) (w x : World) (standing : List Thread)
    (s t : Store) (d e : Effect) (h : AreStores p n m w standing s t) (o : Opens w x d)
    (k : DoAlike w x d e) (f : FitsAll d s) (a : TouchesOpen (ground_of x) d)
    (b : TouchesOpen (ground_of x) e) where
  grown : Grows (ground_of w) (ground_of x)
  grown = grounds_grow (follows_opened [] o)

  same_use : (l : ℕ) → (w.serves l ≡ unused → ⊥) → x.serves l ≡ w.serves l
  same_use l n = (follows_opened [] o).uses l n

  not_touched : (c : Effect) → TouchesOpen (ground_of x) c → (l : ℕ)
      → (x.serves l ≡ for_all → ⊥) → c.cells l ≡ untouched
  not_touched c i l n = go (is_alone (c.cells l))
    where
      go : Alone (c.cells l) → c.cells l ≡ untouched
      go (alone q) = q
      go (touched q) = absurd (n (open_at x l (i l q)))

  -- elsewhere all is as before
  pub kept_real : (l : ℕ) → (x.serves l ≡ for_all → ⊥) → afterwards d s l ≡ s l
  kept_real l n = ap (λ c. left_at c (s l)) (not_touched d a l n)

  pub kept_model : (l : ℕ) → (x.serves l ≡ for_all → ⊥) → afterwards e t l ≡ t l
  kept_model l n = ap (λ c. left_at c (t l)) (not_touched e b l n)

  never_open : (l : ℕ) (u : Use) → w.serves l ≡ u → (u ≡ unused → ⊥) → (u ≡ for_all → ⊥)
      → x.serves l ≡ for_all → ⊥
  never_open l u q i j z = j (sym q ∙ sym (same_use l (used_not u q i)) ∙ z)

  part_shut : (l place : ℕ) → part_of l place ≡ for_all → ⊥
  part_shut l place q = cc

  prelude_shut : of_prelude ≡ for_all → ⊥
  prelude_shut q = cc

  unused_shut : unused ≡ for_all → ⊥
  unused_shut q = cc

  part_kept : (l place : ℕ) → HasParts w l → place < 4 → x.serves (l + place) ≡ for_all → ⊥
  part_kept l place q i =
      never_open (l + place) (part_of l place) (q place i) (part_used l place) (part_shut l place)

  own_kept : (l : ℕ) → w.serves l ≡ of_prelude → afterwards d s l ≡ s l
  own_kept l q = kept_real l (never_open l of_prelude q prelude_used prelude_shut)

  obj : (l : ℕ) (y : Object) → x.object l ≡ Some y → w.object l ≡ Some y
  obj l y q = sym (o.objects l) ∙ q

  there_still : (l : ℕ) → afterwards d s l ≡ None → x.serves l ≡ unused
  there_still l q = go (o.uses l)
    where
      none : (c : Cell) (y : Option Value) → Fits c y → left_at c y ≡ None → y ≡ None
      none untouched y i j = j
      none (found r v) None i j = refl
      none (found r None) (Some y) i j = j
      none (found r (Some v)) (Some y) i j = let z : Some v ≡ None = j in absurd cc
      none (made v) None i j = refl
      none (made v) (Some y) i j = absurd i

      go : Uses w x d l → x.serves l ≡ unused
      go (inl z) = z ∙ h.there l (none (d.cells l) (s l) (f l) q)
      go (inr z) =
          let y : Some z.2.0 ≡ None = sym (ap (λ c. left_at c (s l)) z.2.1) ∙ q in absurd cc

  objects_still : (l place : ℕ) (i : ℕ) → x.serves i ≡ part_of l place
      → (y : Object) × (x.object l ≡ Some y) × (place < 4) × (i ≡ l + place)
  objects_still l place i q = go (o.uses i)
    where
      go : Uses w x d i → (y : Object) × (x.object l ≡ Some y) × (place < 4) × (i ≡ l + place)
      go (inl z) =
          let g = h.are_objects l place i (sym z ∙ q) in (g.0, o.objects l ∙ g.1, g.2, g.3)
      go (inr z) = absurd (part_shut l place (sym q ∙ z.1))

  nothing_still : (l : ℕ) → x.serves l ≡ unused
      → (afterwards d s l ≡ None) × (afterwards e t l ≡ None)
  nothing_still l q = go (o.uses l)
    where
      shut : x.serves l ≡ for_all → ⊥
      shut z = unused_shut (sym q ∙ z)

      go : Uses w x d l → (afterwards d s l ≡ None) × (afterwards e t l ≡ None)
      go (inl z) = let g = h.nothing l (sym z ∙ q) in
          (kept_real l shut ∙ g.0, kept_model l shut ∙ g.1)
      go (inr z) = absurd (shut z.1)

  one_less : 1 < 4
  one_less = omega arith

  two_less : 2 < 4
  two_less = omega arith

  none_less : 0 < 4
  none_less = omega arith

  first_kept : (l : ℕ) (y : Object) → w.object l ≡ Some y → afterwards d s l ≡ s l
  first_kept l y q =
      let z : l + 0 ≡ l = omega arith in
      subst (λ i. afterwards d s i ≡ s i) z
      (kept_real (l + 0) (part_kept l 0 (h.parts l y q) none_less))

  three_less : 3 < 4
  three_less = omega arith

  fourth_kept : (l : ℕ) → IsOneOf l w.queue → afterwards d s (l + 3) ≡ s (l + 3)
  fourth_kept l i =
      let g = h.in_queue l i in
      kept_real (l + 3) (part_kept l 3 (h.parts l (object g.0 (given g.1)) g.2) three_less)

  few_more : x.unended ≤ 1 + x.spawned
  few_more =
      let a : x.unended ≡ w.unended = o.unended in let b : x.spawned ≡ w.spawned = o.spawned in
      let c : w.unended ≤ 1 + w.spawned = h.unended_few in omega arith

  pub stores_opened : PrivateStore p n m (ground_of x) (afterwards d s)
      → AreStores p n m x standing (afterwards d s) (afterwards e t)
  stores_opened ps = record {
    agree = agree_after p n m w standing s t h (follows_opened [] o) k;
    private_store = ps;
    nothing = nothing_still;
    there = there_still;
    parts = λ l y q place i.
        let g = h.parts l y (obj l y q) in
        same_use (l + place) (used_not (part_of l place) (g place i) (part_used l place))
        ∙ g place i;
    are_objects = objects_still;
    function = λ l y q.
        let z = obj l y q in let g = h.function l y z in
        (first_kept l y z ∙ g.0, value_grows g.1 grown);
    marked = λ l v end q.
        let z = obj l (object v (given end)) q in let g = h.marked l v end z in
        (kept_real (l + 1) (part_kept l 1 (h.parts l _ z) one_less) ∙ g.0, g.1);
    kept = λ l v end q.
        let z = obj l (object v (given (Some end))) q in let g = h.kept l v end z in
        (kept_real (l + 2) (part_kept l 2 (h.parts l _ z) two_less) ∙ g.0, value_grows g.1 grown);
    exceptions = λ l v x q. h.exceptions l v x (obj l _ q);
    flying = λ l v spot q.
        let z = obj l (object v (in_flight spot)) q in let g = h.flying l v spot z in (
          kept_real (l + 1) (part_kept l 1 (h.parts l _ z) one_less) ∙ g.0,
          λ place i. kept_model (l + place) (part_kept l place (h.parts l _ z) i) ∙ g.1 place i,
        );
    own = (
      same_use n.queue (used_not of_prelude h.own.0 prelude_used) ∙ h.own.0,
      same_use n.unended (used_not of_prelude h.own.1 prelude_used) ∙ h.own.1,
      same_use n.count (used_not of_prelude h.own.2 prelude_used) ∙ h.own.2,
      same_use m.started (used_not of_prelude h.own.3 prelude_used) ∙ h.own.3,
    );
    count = own_kept n.count h.own.2 ∙ h.count ∙ ap (λ c. Some (Small (pos c))) (sym o.spawned);
    few = subst (λ c. c ≤ 64) (sym o.spawned) h.few;
    standing_count = h.standing_count ∙ ap (λ c. 1 + c) (sym o.spawned);
    objects_given = λ u l i q.
        let g = h.objects_given u l i q in (g.0, g.1, o.objects l ∙ g.2);
    bounded = λ l y q. h.bounded l y (obj l y q);
    new_threads = λ u l f i q c.
        let g = h.new_threads u l f i q c in (g.0, o.objects l ∙ g.1);
    lasting = λ l q.
        let z = h.lasting l (sym (o.lasts l) ∙ q) in (
          same_use l (used_not of_prelude z.0 prelude_used) ∙ z.0,
          z.1,
          z.2,
          z.3,
          z.4,
        );
    unended = own_kept n.unended h.own.1 ∙ h.unended
        ∙ ap (λ c. Some (Small (pos c))) (sym o.unended);
    unended_few = few_more;
    queued = (
      h.queued.0,
      own_kept n.queue h.own.0 ∙ h.queued.1,
      subst (IsQueue n (afterwards d s) h.queued.0) (sym o.queue)
          (queue_kept n s (afterwards d s) h.queued.0 w.queue fourth_kept h.queued.2),
    );
    in_queue = λ l i.
        let g = h.in_queue l (subst (IsOneOf l) o.queue i) in (g.0, g.1, o.objects l ∙ g.2);
    started = own_kept m.started h.own.3 ∙ h.started;
  }

pub stores_after_open : StoresAfterOpen
stores_after_open p n m w x standing s t d e h o k f a b ps =
    stores_opened p n m w x standing s t d e h o k f a b ps

-- ---- a step of a term that leaves the prelude alone, in both machines

pub opened_opens : {p : Program} {n : Names} {m : Start} {w : World} {standing : List Thread}
    {s t : Store} (d : Effect) → AreStores p n m w standing s t → FitsAll d s
    → Opens w (opened w d) d
opened_opens {w = w} {s = s} d h f =
    record {
      objects = λ l. refl;
      spawned = refl;
      queue = refl;
      unended = refl;
      lasts = λ l. refl;
      uses = λ l. by_cell l (d.cells l) refl;
    }
  where
    by_cell : (l : ℕ) (c : Cell) → d.cells l ≡ c → Uses w (opened w d) d l
    by_cell l untouched q = inl (ap (λ c. use_after c (w.serves l)) q)
    by_cell l (found r v) q = inl (ap (λ c. use_after c (w.serves l)) q)
    by_cell l (made None) q = inl (ap (λ c. use_after c (w.serves l)) q)
    by_cell l (made (Some v)) q =
        inr (
          h.there l (none (s l) refl),
          ap (λ c. use_after c (w.serves l)) q,
          (v, q),
        )
      where
        none : (y : Option Value) → s l ≡ y → s l ≡ None
        none None z = z
        none (Some y) z =
            absurd (subst (Fits (made (Some v))) z (subst (λ c. Fits c (s l)) q (f l)))

pub alike_itself : {p : Program} {n : Names} {m : Start} {w x : World} {standing : List Thread}
    {s t : Store} {d : Effect} → AreStores p n m w standing s t → Opens w x d
    → TouchesOpen (ground_of x) d → DoAlike w x d d
alike_itself {w = w} {x = x} {d = d} h o a = record {
  same = λ l e. refl;
  newly_made = λ l e q. made_at l e q (o.uses l);
  nothing_else = λ l n. alone_at l n (is_alone (d.cells l));
  lasting = λ l q.
      shut_at l of_prelude (h.lasting l q).0 prelude_used (λ z. cc) (is_alone (d.cells l));
  output = refl;
  unended = λ l f q. (
    o.objects l ∙ q,
    shut_at (l + 2) (part_of l 2) (h.parts l _ q 2 (omega arith)) (part_used l 2) (λ z. cc)
        (is_alone (d.cells (l + 2))),
  );
}
  where
    made_at : (l : ℕ) → x.serves l ≡ for_all → w.serves l ≡ unused → Uses w x d l
        → (v : Option Value) × (d.cells l ≡ made v)
    made_at l e q (inl z) = let y : for_all ≡ unused = sym e ∙ z ∙ q in absurd cc
    made_at l e q (inr z) = (Some z.2.0, z.2.1)

    shut_at : (l : ℕ) (u : Use) → w.serves l ≡ u → (u ≡ unused → ⊥) → (u ≡ for_all → ⊥)
        → Alone (d.cells l) → d.cells l ≡ untouched
    shut_at l u e i j (alone q) = q
    shut_at l u e i j (touched q) =
        let y = open_at x l (a l q) in
        let z = (follows_opened [] o).uses l (used_not u e i) in absurd (j (sym e ∙ sym z ∙ y))

    alone_at : (l : ℕ) → (x.serves l ≡ for_all → ⊥) → Alone (d.cells l)
        → (d.cells l ≡ untouched) ⊎ ((v : Option Value) × (d.cells l ≡ made v) × HasNothing w l)
    alone_at l n (alone q) = inl q
    alone_at l n (touched q) = absurd (n (open_at x l (a l q)))

-- what such a step leaves, of both machines, in the world in which what it made is open
pub record BothStay (p : Program) (n : Names) (m : Start) (w x : World) (standing : List Thread)
    (s t : Store) (b : Term) (d : Effect) : Type 0 where
  pub term : Private p n m (ground_of x) b
  pub opens : Opens w x d
  pub touches : TouchesOpen (ground_of x) d
  pub alike : DoAlike w x d d
  pub fits : FitsAll d t
  pub stores : AreStores p n m x standing (afterwards d s) (afterwards d t)

pub both_stay : {p : Program} {n : Names} {m : Start} {w : World} {standing : List Thread}
    {s t : Store} {b : Term} {d : Effect} → AreStores p n m w standing s t → FitsAll d s
    → StaysPrivate p n m (ground_of w) b d (afterwards d s)
    → BothStay p n m w (opened w d) standing s t b d
both_stay {p} {n} {m} {w} {standing} {s} {t} {b} {d} h f z =
    record {
      term = private_grows z.term grows;
      opens = opens;
      touches = touches;
      alike = alike;
      fits = fit_both p n m w standing s t h (follows_opened [] opens) alike f;
      stores = stores_after_open p n m w x standing s t d d h opens alike f touches touches
          (λ l v q e. value_grows (z.store l v (back l q (opens.uses l)) e) grows);
    }
  where
    x : World
    x = opened w d

    opens : Opens w x d
    opens = opened_opens d h f

    forth : (l : ℕ) → Open (ground_of w) l ⊎ ((v : Value) × (d.cells l ≡ made (Some v)))
        → Uses w x d l → Open (ground_of x) l
    forth l (inl q) (inl e) = at_open x l (e ∙ open_at w l q)
    forth l (inl q) (inr e) = at_open x l e.1
    forth l (inr q) e = at_open x l (ap (λ c. use_after c (w.serves l)) q.1)

    grows : Grows z.ground (ground_of x)
    grows = record {
      stay_open = λ l q. forth l (z.newly_open l q) (opens.uses l);
      stay = λ l v q. sym (z.same_objects l) ∙ q;
    }

    touches : TouchesOpen (ground_of x) d
    touches l q = grows.stay_open l (z.touches l q)

    alike : DoAlike w x d d
    alike = alike_itself h opens touches

    back : (l : ℕ) → Open (ground_of x) l → Uses w x d l → Open z.ground l
    back l q (inl e) = z.grows.stay_open l (at_open w l (sym e ∙ open_at x l q))
    back l q (inr e) =
        z.touches l (λ y. let r : made (Some e.2.0) ≡ untouched = sym e.2.1 ∙ y in absurd cc)
