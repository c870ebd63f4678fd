-- Who is awake in the machine with threads is so in the machine, there or in a call of the prelude.
use Rattle.std.proofs.Common.{◌≡◌, ℕ, ◌+◌, Bool, true, false, ◌||◌, List, [], ◌∷◌, ◌++◌, length, refl, ap, sym, ◌∙◌, subst, ◌⊎◌, inl, inr, arith}
use Rattle.std.specs.List.{list_any}
use Rattle.fort_base.specs.declared.ids.Loc.{Loc}
use Rattle.fort_core.specs.declared.form.Mode.TheVariants as mode
use Rattle.fort_core.specs.declared.program.Program.{Program}
use Rattle.fort_core.specs.declared.term.Term.{Term, Call, Operator, Stepped, Atomic, out-Term}
use Rattle.fort_core.specs.declared.term.Term as term
use Rattle.fort_core.specs.declared.term.Term.TheVariants.{outs-Value, outs-Asleep, outs-Stepped, outs-Atomic, outs-Let, outs-Then, outs-If, outs-Operator, outs-ReadField}
use Rattle.fort_core.specs.declared.value.Value.{Value, out-Value}
use Rattle.fort_core.specs.declared.value.Value.TheVariants.{outs-Object}
use Rattle.fort_machine.specs.Attempts.{slept, Ready, Sleeps}
use Rattle.fort_machine.specs.Effects.{Store}
use Rattle.fort_machine.specs.Ends.{open_yet, standing_at, standing, Finished, is_still, throws_by, is_thrown}
use Rattle.fort_machine.specs.Ends as ends
use Rattle.fort_machine.specs.Frames.{Frame, in_stepped, on, plug, part_number, road, beside, passes, passed}
use Rattle.fort_machine.specs.Runs.{location}
use Rattle.fort_machine.proofs.Standing.{decide, not_finished, stepped_open, stepped_finished, or_false}
use Rattle.fort_machine.proofs.Places.{plug_open, ready_open, on_open}
use Rattle.fort_machine.proofs.Ready.{form_ready, form_whole}
use Rattle.fort_threads.specs.Awake.{HasEnded, MayGoOn, as_ever, by_itself}
use Rattle.fort_threads.specs.Known.{Known, IsBody, Outside}
use Rattle.fort_threads.specs.Known as known
use Rattle.fort_threads.specs.Threads.{Paths, Thread}
use Rattle.fort_threads_law_servers.specs.Prelude.{Names, object_of, number, waiting}
use Rattle.fort_threads_law_servers.specs.Calls.{getting, asking, spawning, mark_at, telling, comparing}
use Rattle.fort_threads_law_servers.specs.Roots.{Start}
use Rattle.fort_threads_law_private.specs.Private.{Private, AllPrivate}
use Rattle.fort_threads_law_private.proofs.Frames.{plug_private}
use Rattle.fort_threads_law_worlds.specs.Worlds.{Spot, World, ground_of}
use Rattle.fort_threads_law_worlds.specs.Known.{Own, AreSame}
use Rattle.fort_threads_law_worlds.specs.Stores.{AreStores}
use Rattle.fort_threads_law_matches.specs.Ways.{IsUnderWay}
use Rattle.fort_threads_law_matches.specs.Matches.{IsInOrder, Many, Pair, many_term, pair_term, Matches, same, sleeps, under_way, ahead, within, many, pair, IsBeside, as_it_is, marked, AllBeside, no_parts, next_part}
use Rattle.fort_threads_law_matches.specs.Sleepers.{IsNoFormOfAll, AwakeThere}
use Rattle.fort_threads_law_matches.specs.Laws.{AwakeMatches}
use Rattle.fort_threads_law_matches.proofs.Nodes.{many_frame, first_frame, second_frame, many_on, first_on, second_on, one_part, part_of_many, PartOfPair, first_part, second_part, part_of_pair}
use Rattle.fort_threads_law_matches.proofs.Own.{IsOwnForm, one_body, same_object, own_form, form_own, form_not_private, form_out, not_shape, stepped_not_form, many_not_form, pair_not_form, line_not_form, no_mark}
use Rattle.fort_threads_law_matches.proofs.Opened.{begins, many_number, many_beside, first_number, first_beside, second_number, second_beside}
use Rattle.fort_threads_law_matches.proofs.Placing.{strip, line_passes, less_true}
use Rattle.fort_threads_law_matches.proofs.Acts.{many_private, pair_private, marked_not_passed, marked_not_ready, not_ready}
use Rattle.fort_threads_law_matches.proofs.Sleeping.{sleeps_there, alike_there}
use Rattle.fort_threads_law_matches.proofs.Calling.{WakesIn, way_wakes, wakes_under}
use Rattle.fort_threads_law_matches.proofs.Waking.{MarkWakes, SomeWake, some_wakes, first_wakes, second_wakes, way_starts, value_wakes, beside_wakes, all_wake}

-- the object of a waiting form is one
location_one : (n : Names) (l k : ℕ) → object_of n l ≡ object_of n k → l ≡ k
location_one n l k e =
    let z = sym (outs-Object _ _) ∙ ap out-Value e ∙ outs-Object _ _ in
    let y : location l ≡ location k = cc in ap (λ (x : Loc). x.0) y

marks_one : (n : Names) (l k : ℕ) → mark_at n l ≡ mark_at n k → l ≡ k
marks_one n l k e =
    let z = sym (outs-ReadField _ _) ∙ ap out-Term e ∙ outs-ReadField _ _ in
    let y : term.Value (object_of n l) ≡ term.Value (object_of n k) = cc in
    let x = sym (outs-Value _) ∙ ap out-Term y ∙ outs-Value _ in
    let q : object_of n l ≡ object_of n k = cc in location_one n l k q

waiting_one : (n : Names) (l k : ℕ) → waiting n l ≡ waiting n k → l ≡ k
waiting_one n l k e =
    let z = sym (outs-If _ _ _) ∙ ap out-Term e ∙ outs-If _ _ _ in
    let y : Operator n.equal (mark_at n l ∷ number 0 ∷ [])
    ≡ Operator n.equal (mark_at n k ∷ number 0 ∷ []) = cc in
    let x = sym (outs-Operator _ _) ∙ ap out-Term y ∙ outs-Operator _ _ in
    let h : mark_at n l ≡ mark_at n k = cc in marks_one n l k h

atomic_one : (n : Names) (l k : ℕ)
    → Atomic mode.Atomic (waiting n l) ≡ Atomic mode.Atomic (waiting n k) → l ≡ k
atomic_one n l k e =
    let z = sym (outs-Atomic _ _) ∙ ap out-Term e ∙ outs-Atomic _ _ in
    let y : waiting n l ≡ waiting n k = cc in waiting_one n l k y

getting_one : (n : Names) (l k : ℕ) (a b : Term) → getting n l a ≡ getting n k b → l ≡ k
getting_one n l k a b e =
    let z = sym (outs-Then _ _) ∙ ap out-Term e ∙ outs-Then _ _ in
    let y : telling n l (comparing n (mark_at n l)) ≡ telling n k (comparing n (mark_at n k))
    = cc in
    let x = sym (outs-If _ _ _) ∙ ap out-Term y ∙ outs-If _ _ _ in
    let q : comparing n (mark_at n l) ≡ comparing n (mark_at n k) = cc in
    let r = sym (outs-Operator _ _) ∙ ap out-Term q ∙ outs-Operator _ _ in
    let h : mark_at n l ≡ mark_at n k = cc in marks_one n l k h

-- a form of its own that may go on: what it waits for has come
module _ {p : Program} {n : Names} {m : Start} {o : Own} {k : Known} (alike : AreSame p n m o k)
    (stand : List Thread) (v : Term) where
  abbrev Waits : ℕ → Type 0
  Waits l =
      (v ≡ Atomic mode.Atomic (waiting n l))
      ⊎ (v ≡ getting n l (Call n.wait (term.Value (object_of n l) ∷ [])))

  pub has_ended : (own : known.Own p k v) → MayGoOn stand own → (l : ℕ) → Waits l → HasEnded stand l
  has_ended (known.Own.spawning f h) may l (inl q) =
      let e = one_body p k.spawn (f ∷ []) v _ h (alike.spawns f) in
      let z = sym (outs-Let _ _ _) ∙ ap out-Term (sym e ∙ q) ∙ outs-Atomic _ _ in absurd cc
  has_ended (known.Own.spawning f h) may l (inr q) =
      let e = one_body p k.spawn (f ∷ []) v _ h (alike.spawns f) in
      let z = sym (outs-Let _ _ _) ∙ ap out-Term (sym e ∙ q) ∙ outs-Then _ _ in absurd cc
  has_ended (known.Own.waiting j h) may l (inl q) =
      let e = one_body p k.wait (object_of n j ∷ []) v _
      (subst (λ x. IsBody p k.wait (x ∷ []) v) (same_object alike j) h) (alike.waits j) in
      subst (HasEnded stand) (atomic_one n j l (sym e ∙ q)) may
  has_ended (known.Own.waiting j h) may l (inr q) =
      let e = one_body p k.wait (object_of n j ∷ []) v _
      (subst (λ x. IsBody p k.wait (x ∷ []) v) (same_object alike j) h) (alike.waits j) in
      let z = sym (outs-Atomic _ _) ∙ ap out-Term (sym e ∙ q) ∙ outs-Then _ _ in absurd cc
  has_ended (known.Own.getting j h) may l (inl q) =
      let e = one_body p k.val (object_of n j ∷ []) v _
      (subst (λ x. IsBody p k.val (x ∷ []) v) (same_object alike j) h) (alike.gets j) in
      let z = sym (outs-Then _ _) ∙ ap out-Term (sym e ∙ q) ∙ outs-Atomic _ _ in absurd cc
  has_ended (known.Own.getting j h) may l (inr q) =
      let e = one_body p k.val (object_of n j ∷ []) v _
      (subst (λ x. IsBody p k.val (x ∷ []) v) (same_object alike j) h) (alike.gets j) in
      subst (HasEnded stand) (getting_one n j l _ _ (sym e ∙ q)) may
  has_ended (known.Own.asking j h) may l (inl q) =
      let e = one_body p k.ready (object_of n j ∷ []) v _
      (subst (λ x. IsBody p k.ready (x ∷ []) v) (same_object alike j) h) (alike.asks j) in
      let z = sym (outs-Operator _ _) ∙ ap out-Term (sym e ∙ q) ∙ outs-Atomic _ _ in absurd cc
  has_ended (known.Own.asking j h) may l (inr q) =
      let e = one_body p k.ready (object_of n j ∷ []) v _
      (subst (λ x. IsBody p k.ready (x ∷ []) v) (same_object alike j) h) (alike.asks j) in
      let z = sym (outs-Operator _ _) ∙ ap out-Term (sym e ∙ q) ∙ outs-Then _ _ in absurd cc

-- ---- somebody is awake there, or in a call

of_wakes : {p : Program} {n : Names} {m : Start} {w : World} {s : Store} {u : Term}
    (path : List ℕ) → WakesIn p n m w s u → AwakeThere p n m w s u path
of_wakes path z =
    record {
      frames = z.frames;
      part = z.part;
      is_term = z.is_term;
      ready = z.ready;
      reached = z.reached;
      sleepless = z.sleepless;
      there = inr z.none;
    }

there_under : {p : Program} {n : Names} {m : Start} {w : World} {s : Store} {a : Term}
    {path : List ℕ} (f : Frame) → AwakeThere p n m w s a path → passes f a ≡ false
    → AwakeThere p n m w s (on f a) (part_number f ++ path)
there_under {p} {n} {m} {w} {s} {a} {path} f z e =
    record {
      frames = f ∷ z.frames;
      part = z.part;
      is_term = ap (on f) z.is_term;
      ready = z.ready;
      reached = ap (λ x. x || passed z.frames z.part) (ap (passes f) (sym z.is_term) ∙ e)
          ∙ z.reached;
      sleepless = z.sleepless;
      there = go z.there;
    }
  where
    go : (path ≡ road z.frames) ⊎ IsNoFormOfAll p n m w z.part
        → (part_number f ++ path ≡ part_number f ++ road z.frames) ⊎ IsNoFormOfAll p n m w z.part
    go (inl q) = inl (ap (λ x. part_number f ++ x) q)
    go (inr q) = inr q

-- parts, from the machine with threads on
thrown_there : {p : Program} {n : Names} {m : Start} {o : Own} {w : World} {here : Spot}
    {asked : Paths} {path : List ℕ} {u v : Term} → IsBeside p n m o w here asked path u v
    → is_thrown u ≡ true → is_thrown v ≡ true
thrown_there (as_it_is e h) t = ap is_thrown (sym e) ∙ t
thrown_there (marked a b oa e f h) t =
    let z : false ≡ true =
    sym (ap is_thrown e ∙ ap throws_by (ap standing_at (outs-Stepped a))) ∙ t in absurd cc

one_thrown : (u v : Term) → (is_thrown u ≡ true → is_thrown v ≡ true)
    → list_any is_thrown (u ∷ []) ≡ true → list_any is_thrown (v ∷ []) ≡ true
one_thrown u v f t = go (is_thrown u) refl t
  where
    go : (b : Bool) → is_thrown u ≡ b → (is_thrown u || false) ≡ true
        → (is_thrown v || false) ≡ true
    go true e t = ap (λ x. x || false) (f e)
    go false e t = let z : false ≡ true = ap (λ x. x || false) (sym e) ∙ t in absurd cc

or_true : (x : Bool) → (x || true) ≡ true
or_true true = refl
or_true false = refl

cons_thrown : (u v : Term) (us vs : List Term) → (is_thrown u ≡ true → is_thrown v ≡ true)
    → (list_any is_thrown us ≡ true → list_any is_thrown vs ≡ true)
    → list_any is_thrown (u ∷ us) ≡ true → list_any is_thrown (v ∷ vs) ≡ true
cons_thrown u v us vs f g t = go (is_thrown u) refl
  where
    go : (b : Bool) → is_thrown u ≡ b → (is_thrown v || list_any is_thrown vs) ≡ true
    go true e = ap (λ x. x || list_any is_thrown vs) (f e)
    go false e =
        ap (λ x. is_thrown v || x) (g (ap (λ x. x || list_any is_thrown us) (sym e) ∙ t))
        ∙ or_true (is_thrown v)

module _ (p : Program) (n : Names) (m : Start) (o : Own) (w : World) (here : Spot) (asked : Paths)
  where
    all_thrown_there : {path : List ℕ} {i : ℕ} {us vs : List Term}
        → AllBeside p n m o w here asked path i us vs → list_any is_thrown us ≡ true
        → list_any is_thrown vs ≡ true
    all_thrown_there no_parts t = t
    all_thrown_there (next_part {u = u} {v = v} {us = us} {vs = vs} h rest) t =
        cons_thrown u v us vs (thrown_there h) (all_thrown_there rest) t

    record SplitThere (path : List ℕ) (i : ℕ) (us before : List Term) (z : Term)
        (behind : List Term) : Type 0 where
      before' : List Term
      x : Term
      behind' : List Term
      are_all : us ≡ before' ++ x ∷ behind'
      same_length : length before' ≡ length before
      place : List ℕ
      part : IsBeside p n m o w here asked place x z
      thrown : list_any is_thrown (before' ++ behind') ≡ true
          → list_any is_thrown (before ++ behind) ≡ true

    split_there : {path : List ℕ} {us vs : List Term} (before : List Term) (z : Term)
        (behind : List Term) (i : ℕ) → AllBeside p n m o w here asked path i us vs
        → vs ≡ before ++ z ∷ behind → SplitThere path i us before z behind
    split_there [] z behind i no_parts e = absurd cc
    split_there {path} [] z behind i (next_part {u = u} {v = v} {us = us} {vs = vs} h rest) e =
        let a : v ≡ z = cc in let b : vs ≡ behind = cc in
        record {
          before' = [];
          x = u;
          behind' = us;
          are_all = refl;
          same_length = refl;
          place = path ++ i ∷ [];
          part = subst (λ y. IsBeside p n m o w here asked (path ++ i ∷ []) u y) a h;
          thrown = λ t. ap (list_any is_thrown) (sym b) ∙ all_thrown_there rest t;
        }
    split_there (t ∷ before) z behind i no_parts e = absurd cc
    split_there {path} (t ∷ before) z behind i
        (next_part {u = u} {v = v} {us = us} {vs = vs} h rest) e =
        let a : v ≡ t = cc in
        let s = split_there {path = path} before z behind (i + 1) rest (cc) in
        record {
          before' = u ∷ s.before';
          x = s.x;
          behind' = s.behind';
          are_all = ap (λ y. u ∷ y) s.are_all;
          same_length = let l : length s.before' ≡ length before = s.same_length in omega arith;
          place = s.place;
          part = s.part;
          thrown = λ y. cons_thrown u t (s.before' ++ s.behind') (before ++ behind)
              (λ x. ap is_thrown (sym a) ∙ thrown_there h x) s.thrown y;
        }

    -- round an open part of the term of the machine with threads
    data OpenedThere (s : Store) (path : List ℕ) (u : Term) (g : Frame) (z : Term) : Type 0 where
      the_same : u ≡ on g z → Private p n m (ground_of w) u → OpenedThere s path u g z
      in_order : IsInOrder g → (a : Term) → u ≡ on g a → Matches p n m o w here asked path a z
          → OpenedThere s path u g z
      in_node : (f : Frame) (x : Term) (q : List ℕ) → u ≡ on f x → part_number f ≡ part_number g
          → IsBeside p n m o w here asked q x z
          → (list_any is_thrown (beside f) ≡ true → list_any is_thrown (beside g) ≡ true)
          → OpenedThere s path u g z
      at_call : IsUnderWay p n m o w (path ∷ here) u (on g z) → OpenedThere s path u g z
      wakes : WakesIn p n m w s u → OpenedThere s path u g z

module _ (p : Program) (n : Names) (m : Start) (o : Own) (w : World) (here : Spot) (asked : Paths)
    (s : Store) where
  many_there : {path : List ℕ} {u z : Term} {g : Frame} (y : Many) (us before behind : List Term)
      → u ≡ many_term y us → g ≡ many_frame y before behind
      → SplitThere p n m o w here asked path 0 us before z behind
      → OpenedThere p n m o w here asked s path u g z
  many_there {path} {u} {z} {g} y us before behind e eg k =
      subst (λ x. OpenedThere p n m o w here asked s path u x z) (sym eg)
      (in_node (many_frame y k.before' k.behind') k.x k.place
      (e ∙ ap (many_term y) k.are_all ∙ many_on y k.before' k.behind' k.x)
      (many_number y k.before' k.behind' ∙ ap (λ j. (0 + j) ∷ []) k.same_length
      ∙ sym (many_number y before behind)) k.part
      (λ t. ap (list_any is_thrown) (many_beside y before behind)
      ∙ k.thrown (ap (list_any is_thrown) (sym (many_beside y k.before' k.behind')) ∙ t)))

  first_there : {path : List ℕ} {u z : Term} {g : Frame} (y : Pair) (a b d : Term)
      → u ≡ pair_term y a b → g ≡ first_frame y d
      → IsBeside p n m o w here asked (path ++ 0 ∷ []) a z
      → IsBeside p n m o w here asked (path ++ 1 ∷ []) b d
      → OpenedThere p n m o w here asked s path u g z
  first_there {path} {u} {z} {g} y a b d e eg h k =
      subst (λ x. OpenedThere p n m o w here asked s path u x z) (sym eg)
      (in_node (first_frame y b) a (path ++ 0 ∷ []) (e ∙ first_on y a b)
      (first_number y b ∙ sym (first_number y d)) h
      (λ t. ap (list_any is_thrown) (first_beside y d)
      ∙ one_thrown b d (thrown_there k)
      (ap (list_any is_thrown) (sym (first_beside y b)) ∙ t)))

  second_there : {path : List ℕ} {u z : Term} {g : Frame} (y : Pair) (a b c : Term)
      → u ≡ pair_term y a b → g ≡ second_frame y c
      → IsBeside p n m o w here asked (path ++ 0 ∷ []) a c
      → IsBeside p n m o w here asked (path ++ 1 ∷ []) b z
      → OpenedThere p n m o w here asked s path u g z
  second_there {path} {u} {z} {g} y a b c e eg h k =
      subst (λ x. OpenedThere p n m o w here asked s path u x z) (sym eg)
      (in_node (second_frame y a) b (path ++ 1 ∷ []) (e ∙ second_on y a b)
      (second_number y a ∙ sym (second_number y c)) k
      (λ t. ap (list_any is_thrown) (second_beside y c)
      ∙ one_thrown a c (thrown_there h)
      (ap (list_any is_thrown) (sym (second_beside y a)) ∙ t)))

  open_there : {path : List ℕ} {u v : Term} → Matches p n m o w here asked path u v → (g : Frame)
      (z : Term) → standing z ≡ open_yet → v ≡ on g z
      → OpenedThere p n m o w here asked s path u g z
  open_there (same e h) g z oz q = the_same (e ∙ q) h
  open_there {path} {u} {v} (sleeps marks body e f h hs used a) g z oz q =
      absurd (form_whole v mode.Atomic body (slept _ refl f) g z oz q)
  open_there {path} {u} {v} (under_way h) g z oz q =
      at_call (subst (λ x. IsUnderWay p n m o w (path ∷ here) u x) q h)
  open_there {path} {u} {v} (ahead x h e k) g z oz q =
      absurd (not_finished v (ap standing q ∙ on_open g z oz) (ends.Finished.value x e))
  open_there {path} {u} {v} (within f a b line rest oa may e r h) g z oz q = go (decide b)
    where
      go : (standing b ≡ open_yet) ⊎ Finished b → OpenedThere p n m o w here asked s path u g z
      go (inl ob) =
          let k = one_part f g b z line ob oz (sym r ∙ q) in
          in_order (subst IsInOrder k.0 line) a (e ∙ ap (λ x. on x a) k.0)
          (subst (Matches p n m o w here asked path a) k.1 h)
      go (inr fin) =
          wakes (subst (WakesIn p n m w s) (sym e)
          (wakes_under f (value_wakes h oa fin) (line_passes f a line)))
  open_there {path} {u} {v} (many y us vs off e r hs) g z oz q =
      let k = part_of_many y vs g z oz (sym r ∙ q) in
      many_there y us k.before k.behind e k.is_frame
      (split_there p n m o w here asked k.before z k.behind 0 hs k.are_parts)
  open_there {path} {u} {v} (pair y a b c d off e r h k) g z oz q =
      go (part_of_pair y c d g z oz (sym r ∙ q))
    where
      go : PartOfPair y c d g z → OpenedThere p n m o w here asked s path u g z
      go (first_part eg i) =
          first_there y a b d e eg
          (subst (IsBeside p n m o w here asked (path ++ 0 ∷ []) a) i h) k
      go (second_part eg i) =
          second_there y a b c e eg h
          (subst (IsBeside p n m o w here asked (path ++ 1 ∷ []) b) i k)

outside_less : {p : Program} {k : Known} {b : Term} (g : Frame) (fs : List Frame)
    → Outside p k (g ∷ fs) b → Outside p k fs b
outside_less g fs out gs hs f e x = out (g ∷ gs) hs f (ap (λ z. g ∷ z) e) x

-- who is awake: a part that is ready, or a form of its own that may go on
data Cause (p : Program) (k : Known) (stand : List Thread) (t : Store) (b : Term) : Type 0 where
  ever : (known.Own p k b → ⊥) → Ready b → (Sleeps t b → ⊥) → Cause p k stand t b
  own : (x : known.Own p k b) → MayGoOn stand x → Cause p k stand t b

module _ {p : Program} {n : Names} {m : Start} {o : Own} {k : Known} (alike : AreSame p n m o k)
    {w : World} {stand : List Thread} {s t : Store} (are : AreStores p n m w stand s t)
    {b : Term} (cause : Cause p k stand t b) where
  cause_open : standing b ≡ open_yet
  cause_open = go cause
    where
      go : Cause p k stand t b → standing b ≡ open_yet
      go (ever none r ns) = ready_open b r
      go (own x may) = form_out n b (own_form alike b x)

  -- in what is the same and leaves the prelude alone
  same_there : {u : Term} (fs : List Frame) → u ≡ plug fs b → Private p n m (ground_of w) u
      → passed fs b ≡ false → AwakeThere p n m w s u (road fs)
  same_there {u} fs e h np =
      go cause (plug_private fs b cause_open (subst (Private p n m (ground_of w)) e h)).0
    where
      go : Cause p k stand t b → Private p n m (ground_of w) b
          → AwakeThere p n m w s u (road fs)
      go (ever none r ns) pb =
          record {
            frames = fs;
            part = b;
            is_term = e;
            ready = r;
            reached = np;
            sleepless = λ z. ns (sleeps_there are b pb z);
            there = inl refl;
          }
      go (own x may) pb = absurd (form_not_private b (own_form alike b x) pb)

  module _ {here : Spot} {asked : Paths} where
    -- the part itself
    base : (path : List ℕ) (u v : Term) → Matches p n m o w here asked path u v → v ≡ b
        → AwakeThere p n m w s u []
    base path u v (same e h) q =
        same_there [] (e ∙ q) h refl
    base path u v (sleeps marks body e f h hs used a) q = go cause
      where
        go : Cause p k stand t b → AwakeThere p n m w s u []
        go (ever none r ns) =
            record {
              frames = [];
              part = u;
              is_term = refl;
              ready = form_ready u mode.Atomic body (slept marks refl e);
              reached = refl;
              sleepless = λ z. ns (subst (Sleeps t) q (alike_there are marks u v body e f z));
              there = inl refl;
            }
        go (own x may) =
            absurd (not_shape n b _ (ap out-Term (sym q ∙ f) ∙ outs-Asleep _ _) (λ z. z)
            (own_form alike b x))
    base path u v (under_way h) q = go cause
      where
        go : Cause p k stand t b → AwakeThere p n m w s u []
        go (ever none r ns) =
            of_wakes [] (way_starts (path ∷ here) u v h
            (λ i. none (form_own alike b (subst (IsOwnForm n) q i))))
        go (own x may) =
            of_wakes [] (way_wakes are (path ∷ here) u v h
            (λ l z. has_ended alike stand b x may l (to_b l z)))
          where
            to_b : (l : ℕ) → (v ≡ Atomic mode.Atomic (waiting n l))
                ⊎ (v ≡ getting n l (Call n.wait (term.Value (object_of n l) ∷ [])))
                → (b ≡ Atomic mode.Atomic (waiting n l))
                ⊎ (b ≡ getting n l (Call n.wait (term.Value (object_of n l) ∷ [])))
            to_b l (inl z) = inl (sym q ∙ z)
            to_b l (inr z) = inr (sym q ∙ z)
    base path u v (ahead x h e i) q =
        absurd (not_finished b cause_open (ends.Finished.value x (sym q ∙ e)))
    base path u v (within f a c line rest oa may e r h) q = go cause
      where
        go : Cause p k stand t b → AwakeThere p n m w s u []
        go (ever none rb ns) = at (rb.no_part f c (sym q ∙ r))
          where
            at : Finished c ⊎ (passes f c ≡ true) → AwakeThere p n m w s u []
            at (inl fin) =
                of_wakes [] (subst (WakesIn p n m w s) (sym e)
                (wakes_under f (value_wakes h oa fin) (line_passes f a line)))
            at (inr z) = let y : true ≡ false = sym z ∙ line_passes f c line in absurd cc
        go (own x may) =
            absurd (line_not_form p n m (ground_of w) f c line rest (λ l z. no_mark l h z)
            (subst (IsOwnForm n) (sym q ∙ r) (own_form alike b x)))
    base path u v (many y us vs off e r hs) q = go cause
      where
        go : Cause p k stand t b → AwakeThere p n m w s u []
        go (ever none rb ns) =
            at (all_wake hs (λ before behind c oc z.
            marked_not_ready b (many_frame y before behind) c
            (sym q ∙ r ∙ ap (many_term y) z ∙ many_on y before behind (Stepped c)) rb))
          where
            at : ((us ≡ vs) × AllPrivate p n m (ground_of w) us) ⊎ SomeWake p n m w s us
                → AwakeThere p n m w s u []
            at (inl z) =
                same_there [] (e ∙ ap (many_term y) z.0 ∙ sym r ∙ q)
                (subst (Private p n m (ground_of w)) (sym e) (many_private y us off z.1)) refl
            at (inr z) =
                of_wakes [] (subst (WakesIn p n m w s) (sym e) (some_wakes y us z))
        go (own x may) =
            absurd (many_not_form n y vs (subst (IsOwnForm n) (sym q ∙ r) (own_form alike b x)))
    base path u v (pair y a1 b1 c1 d1 off e r h i) q = go cause
      where
        go : Cause p k stand t b → AwakeThere p n m w s u []
        go (ever none rb ns) =
            at (beside_wakes h (λ c oc z. marked_not_ready b (first_frame y d1) c
            (sym q ∙ r ∙ ap (λ x. pair_term y x d1) z ∙ first_on y (Stepped c) d1) rb))
            (beside_wakes i (λ c oc z. marked_not_ready b (second_frame y c1) c
            (sym q ∙ r ∙ ap (pair_term y c1) z ∙ second_on y c1 (Stepped c)) rb))
          where
            at : ((a1 ≡ c1) × Private p n m (ground_of w) a1) ⊎ MarkWakes p n m w s a1
                → ((b1 ≡ d1) × Private p n m (ground_of w) b1) ⊎ MarkWakes p n m w s b1
                → AwakeThere p n m w s u []
            at (inr z) g = of_wakes [] (subst (WakesIn p n m w s) (sym e) (first_wakes y a1 b1 z))
            at (inl z) (inr g) =
                of_wakes [] (subst (WakesIn p n m w s) (sym e) (second_wakes y a1 b1 g))
            at (inl z) (inl g) =
                same_there [] (e ∙ (λ j. pair_term y (z.0 j) (g.0 j)) ∙ sym r ∙ q)
                (subst (Private p n m (ground_of w)) (sym e) (pair_private y a1 b1 off z.1 g.1))
                refl
        go (own x may) =
            absurd (pair_not_form n y c1 d1 (subst (IsOwnForm n) (sym q ∙ r) (own_form alike b x)))

  -- each part
  module _ (here : Spot) (asked : Paths) where
    abbrev Theres : List Frame → Type 0
    Theres fs =
        (path : List ℕ) (u v : Term) → Matches p n m o w here asked path u v → v ≡ plug fs b
        → passed fs b ≡ false → Outside p k fs b → AwakeThere p n m w s u (road fs)

    -- a part of a parallel node in which a step was taken
    marked_there : (gs : List Frame) (q : List ℕ) (a c : Term) → standing c ≡ open_yet
        → Matches p n m o w here asked q a c → standing a ≡ open_yet → plug gs b ≡ Stepped c
        → passed gs b ≡ false → Outside p k gs b → Theres (strip gs)
        → AwakeThere p n m w s (Stepped a) (road gs)
    marked_there [] q a c oc h oa e np out below = go cause
      where
        go : Cause p k stand t b → AwakeThere p n m w s (Stepped a) []
        go (ever none r ns) =
            absurd (not_ready b in_stepped c oc refl (e ∙ sym (stepped_open c oc)) r)
        go (own x may) =
            absurd (stepped_not_form n c
            (subst (IsOwnForm n) (e ∙ sym (stepped_open c oc)) (own_form alike b x)))
    marked_there (in_stepped ∷ gs) q a c oc h oa e np out below =
        let z = one_part in_stepped in_stepped c (plug gs b) tt oc (plug_open gs b cause_open)
        (stepped_open c oc ∙ sym e) in
        subst (λ x. AwakeThere p n m w s x (road gs)) (stepped_open a oa)
        (there_under in_stepped
        (below q a c h z.1 ((or_false (passes in_stepped (plug gs b)) (passed gs b) np).1)
        (outside_less in_stepped gs out)) refl)
    marked_there (g ∷ gs) q a c oc h oa e np out below =
        let z = one_part in_stepped g c (plug gs b) tt oc (plug_open gs b cause_open)
        (stepped_open c oc ∙ sym e) in
        let y : true ≡ false = ap (λ j. begins (j ∷ [])) z.0 in absurd cc

    part_there : (gs : List Frame) (q : List ℕ) (f g : Frame) (x : Term)
        → IsBeside p n m o w here asked q x (plug gs b)
        → (list_any is_thrown (beside f) ≡ true → list_any is_thrown (beside g) ≡ true)
        → passes g (plug gs b) ≡ false → passed gs b ≡ false → Outside p k gs b
        → Theres (strip gs) → AwakeThere p n m w s (on f x) (part_number f ++ road gs)
    part_there gs q f g x (as_it_is e h) th ng np out below =
        there_under f (same_there gs e h np)
        (less_true (list_any is_thrown (beside f)) (is_still x) (list_any is_thrown (beside g))
        (is_still (plug gs b)) th (λ z. ap is_still (sym e) ∙ z) ng)
    part_there gs q f g x (marked a c oa e fz h) th ng np out below =
        subst (λ z. AwakeThere p n m w s (on f z) (part_number f ++ road gs)) (sym e)
        (there_under f (marked_there gs q a c (go (decide c)) h oa
        (fz ∙ stepped_open c (go (decide c))) np out below) (marked_not_passed f a))
      where
        go : (standing c ≡ open_yet) ⊎ Finished c → standing c ≡ open_yet
        go (inl oc) = oc
        go (inr fin) =
            absurd (not_finished (plug gs b) (plug_open gs b cause_open)
            (subst Finished (sym (fz ∙ stepped_finished c fin)) fin))

    step : (g : Frame) (gs : List Frame) → Theres gs → Theres (strip gs) → Theres (g ∷ gs)
    step g gs whole below path u v h e np out =
        go (open_there p n m o w here asked s h g (plug gs b) (plug_open gs b cause_open) e)
      where
        parts : (passes g (plug gs b) ≡ false) × (passed gs b ≡ false)
        parts = or_false (passes g (plug gs b)) (passed gs b) np

        go : OpenedThere p n m o w here asked s path u g (plug gs b)
            → AwakeThere p n m w s u (road (g ∷ gs))
        go (the_same q h) = same_there (g ∷ gs) q h np
        go (in_order line a q i) =
            subst (λ z. AwakeThere p n m w s z (road (g ∷ gs))) (sym q)
            (there_under g (whole path a (plug gs b) i refl parts.1 (outside_less g gs out))
            (line_passes g a line))
        go (in_node f x q eu en part th) =
            subst (λ z. AwakeThere p n m w s z (road (g ∷ gs))) (sym eu)
            (subst (λ z. AwakeThere p n m w s (on f x) (z ++ road gs)) en
            (part_there gs q f g x part th parts.0 parts.1 (outside_less g gs out) below))
        go (at_call way) =
            of_wakes (road (g ∷ gs)) (way_starts (path ∷ here) u (on g (plug gs b)) way
            (λ i. out [] gs g refl (form_own alike (on g (plug gs b)) i)))
        go (wakes z) = of_wakes (road (g ∷ gs)) z

    first : Theres []
    first path u v h e np out = base path u v h e

    both : (fs : List Frame) → Theres fs × Theres (strip fs)
    both [] = (first, first)
    both (in_stepped ∷ gs) = let ih = both gs in (step in_stepped gs ih.0 ih.1, ih.0)
    both (f ∷ gs) = let ih = both gs in let z = step f gs ih.0 ih.1 in (z, z)

pub awake_matches : AwakeMatches
awake_matches p n m o k w here asked stand s t u v alike are h path
    (as_ever fs b e q np out none r ns) =
    subst (λ z. AwakeThere p n m w s u z) (sym q)
    ((both alike are (ever none r ns) here asked fs).0 [] u v h e np out)
awake_matches p n m o k w here asked stand s t u v alike are h path
    (by_itself fs b e q np out x may) =
    subst (λ z. AwakeThere p n m w s u z) (sym q)
    ((both alike are (own x may) here asked fs).0 [] u v h e np out)
