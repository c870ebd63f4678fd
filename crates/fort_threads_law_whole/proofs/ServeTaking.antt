-- Attempts of `take'` by a server.
use Rattle.std.proofs.Common.{◌≡◌, ℕ, suc, ◌+◌, ◌<◌, ◌≤◌, ◌==◌, true, false, List, [], ◌∷◌, ◌++◌, length, Option, Some, None, pos, refl, ap, sym, ◌∙◌, subst, arith, rules, inl, inr, ◌⊎◌}
use Rattle.std.proofs.Math.Path.{fun_ext}
use Rattle.fort_base.specs.declared.ty.Ty.TheVariants.{Named}
use Rattle.fort_core.specs.declared.form.Mode.TheVariants as mode
use Rattle.fort_core.specs.declared.pick.Pick.{Pick}
use Rattle.fort_core.specs.declared.program.Program.{Program}
use Rattle.fort_core.specs.declared.term.Term.{Term, Asleep, Throw, out-Term}
use Rattle.fort_core.specs.declared.term.Term as term
use Rattle.fort_core.specs.declared.term.Term.TheOpen.{Term-F}
use Rattle.fort_core.specs.declared.term.Term.TheVariants.{outs-Value, outs-Asleep, outs-Atomic, outs-Throw}
use Rattle.fort_core.specs.declared.value.Value.{Value, Small}
use Rattle.fort_machine.specs.Acts.{unit}
use Rattle.fort_machine.specs.Attempts.{Form, fresh, slept}
use Rattle.fort_machine.specs.Effects.{Store, Effect, afterwards}
use Rattle.fort_machine.specs.Ends.{throw_of}
use Rattle.fort_machine.specs.Marked.{Marks, In}
use Rattle.fort_machine.specs.Parts.{IsOneOf}
use Rattle.fort_machine.specs.Types.{has_type}
use Rattle.fort_threads.specs.Known.{Known}
use Rattle.fort_threads.specs.Objects.{NoneTwice}
use Rattle.fort_threads.specs.Threads.{Thread, going, thread}
use Rattle.fort_threads_law_servers.specs.Prelude.{Names, object_of, taking}
use Rattle.fort_threads_law_servers.specs.Stages.{Stage, trying, got, refused, runs, caught, keeps, has_kept, Attempted, Follows, Stands}
use Rattle.fort_threads_law_servers.specs.Stages as stages
use Rattle.fort_threads_law_servers.specs.Roots.{Start}
use Rattle.fort_threads_law_private.specs.Grounds.{Ground}
use Rattle.fort_threads_law_queue.specs.Attempts.{IsSilent, SetsOne, TakeEnds}
use Rattle.fort_threads_law_queue.specs.Attempts as ends
use Rattle.fort_threads_law_queue.proofs.Taken.{each_take_ends}
use Rattle.fort_threads_law_worlds.specs.Worlds.{unused, for_all, part_of, of_prelude, given, object, World}
use Rattle.fort_threads_law_worlds.specs.Known.{Own}
use Rattle.fort_threads_law_worlds.specs.Stores.{IsQueue, AreStores}
use Rattle.fort_threads_law_worlds.proofs.Following.{follows_self}
use Rattle.fort_threads_law_runs.specs.Premises.{IsThreaded}
use Rattle.fort_threads_law_trees.specs.Leaves.{Leaf, leaf, one_or_none, waiting, running, held, all_held, owes, owed_in, free_in, is_free}
use Rattle.fort_threads_law_trees.specs.Awake.{WatchesQueue}
use Rattle.fort_threads_law_whole.specs.Roots.{GoAlike, GoesOnAlike}
use Rattle.fort_threads_law_whole.specs.Servers.{IsKept, IsNew, ServesOne}
use Rattle.fort_threads_law_whole.proofs.Numbers.{is_one_at}
use Rattle.fort_threads_law_whole.proofs.ServeLists.{taken_once, still_once, owed_split, free_split}
use Rattle.fort_threads_law_whole.proofs.ServeFollows.{far, object_is_in}
use Rattle.fort_threads_law_whole.proofs.ServeKept.{no_event, goes_alike}
use Rattle.fort_threads_law_whole.proofs.ServeStores.{recounted, recounted_follows, stores_set}
use Rattle.fort_threads_law_whole.proofs.ServeQuiet.{Was, On, silently, serves_it, none_in, one_place}

-- ---- forms that are other ones

pub form_no_value : (y body : Term) (v : Value) → Form y mode.Atomic body → y ≡ term.Value v → ⊥
form_no_value y body v (fresh e) f =
    let z : Term-F.Atomic mode.Atomic body ≡ Term-F.Value v =
    sym (outs-Atomic mode.Atomic body) ∙ ap out-Term (sym e ∙ f) ∙ outs-Value v in absurd cc
form_no_value y body v (slept seen c e) f =
    let z : Term-F.Asleep seen body ≡ Term-F.Value v =
    sym (outs-Asleep seen body) ∙ ap out-Term (sym e ∙ f) ∙ outs-Value v in absurd cc

throw_no_value : (x v : Value) → throw_of x ≡ term.Value v → ⊥
throw_no_value x v e =
    let z : Term-F.Throw (term.Value x) ≡ Term-F.Value v =
    sym (outs-Throw (term.Value x)) ∙ ap out-Term e ∙ outs-Value v in absurd cc

throw_no_asleep : (x : Value) (seen : Marks) (body : Term) → throw_of x ≡ Asleep seen body → ⊥
throw_no_asleep x seen body e =
    let z : Term-F.Throw (term.Value x) ≡ Term-F.Asleep seen body =
    sym (outs-Throw (term.Value x)) ∙ ap out-Term e ∙ outs-Asleep seen body in absurd cc

value_no_asleep : (x : Value) (seen : Marks) (body : Term) → term.Value x ≡ Asleep seen body → ⊥
value_no_asleep x seen body e =
    let z : Term-F.Value x ≡ Term-F.Asleep seen body =
    sym (outs-Value x) ∙ ap out-Term e ∙ outs-Asleep seen body in absurd cc

same_value : (x v : Value) → term.Value x ≡ term.Value v → x ≡ v
same_value x v e =
    let z : Term-F.Value x ≡ Term-F.Value v = sym (outs-Value x) ∙ ap out-Term e ∙ outs-Value v in
    cc

same_marks : (a b : Marks) (x y : Term) → Asleep a x ≡ Asleep b y → a ≡ b
same_marks a b x y e =
    let z : Term-F.Asleep a x ≡ Term-F.Asleep b y =
    sym (outs-Asleep a x) ∙ ap out-Term e ∙ outs-Asleep b y in cc

pub differ : (a b : ℕ) → (a == b) ≡ false → b ≡ a → ⊥
differ a b e f =
    let c : (a == b) ≡ true = search (rules, sym f) in
    let z : true ≡ false = sym c ∙ e in absurd cc

-- ---- where one location is set

-- what was kept of other threads' ends stays
pub kept_stays : (p : Program) (n : Names) (m : Start) (o : Own) (w : World) (now : List Thread)
    (s q t : Store) → AreStores p n m w now s t → (stage : Stage) → ServesOne p n m o w now stage
    → ((l : ℕ) → IsOneOf l (held stage) → w.serves (l + 2) ≡ part_of l 2
    → q (l + 2) ≡ s (l + 2))
    → IsKept s stage → IsKept q stage
kept_stays p n m o w now s q t h (has_kept l end) serves same kept =
    let u = thread (Some l) (going serves.1 serves.2) in
    let g = h.objects_given u l (is_one_at serves.0 u now serves.3) refl in
    same l (inl refl) (h.parts l (object g.0 (given g.1)) g.2 2 (omega arith)) ∙ kept
kept_stays p n m o w now s q t h (stages.marks l end) serves same kept =
    let u = thread (Some l) (going serves.1 serves.2) in
    let g = h.objects_given u l (is_one_at serves.0 u now serves.3) refl in
    same l (inl refl) (h.parts l (object g.0 (given g.1)) g.2 2 (omega arith)) ∙ kept
kept_stays p n m o w now s q t h _ serves same kept = kept

module _ (p : Program) (n : Names) (m : Start) (o : Own) (k : Known) (g : Ground)
    (known : IsThreaded p n m o k g) (w : World)
    (first : ℕ) (stage : Stage) (xs ys : List Leaf) (path : List ℕ) (rest : ℕ) (now : List Thread)
    (s t : Store) (pick : Pick) (d : Effect) where
  abbrev pub W : Stage → Type 0
  W old = Was p n m o k g w first stage xs ys path rest now s t pick d old

  abbrev pub O : Stage → Type 0
  O next = On p n m o k g w first stage xs ys path rest now s t pick d next

  pub few_open : (old : Stage) → W old → w.unended ≤ 65
  few_open old all =
      let a : w.unended ≤ 1 + w.spawned = all.stores.unended_few in
      let b : w.spawned ≤ 64 = all.stores.few in omega arith

  behind_it : (v : Value) (ls : List ℕ) → IsQueue n s v ls → (l : ℕ) → v ≡ object_of n l
      → (x : Value) × (s (l + 3) ≡ Some x)
  behind_it v [] h l e =
      let z : [] ≡ l ∷ [] = sym (none_in v h) ∙ object_is_in n v l e in absurd cc
  behind_it v (j ∷ ls) h l e =
      let z : j ≡ l = one_place n v j l h.0 e in
      (h.1.0, ap (λ i. s (i + 3)) (sym z) ∙ h.1.1)

  take_ends : (old : Stage) (all : W old) (y : Term) → Attempted p s (taking n) y d
      → TakeEnds p n s all.stores.queued.0 w.unended y d
  take_ends old all y a =
      each_take_ends p n known.prelude known.counts s all.stores.queued.0 w.unended y d
      all.stores.queued.1 all.stores.unended (few_open old all)
      (behind_it all.stores.queued.0 w.queue all.stores.queued.2) a

  -- it sleeps
  sleeps_on : (form y : Term) → W (trying form) → (v : Value) (seen : Marks)
      → y ≡ Asleep seen (taking n) → In n.queue v seen → has_type p v (Named n.thread) ≡ false
      → IsSilent d s → O (trying y)
  sleeps_on form y all v seen e i typed silent =
      silently p n m o k g w first stage xs ys path rest now s t pick d (trying form) (trying y) all
      silent.prints_nothing (fun_ext silent.leaves_all) refl refl refl refl tt watches tt
      (λ number z asked h. absurd h)
    where
      watches : WatchesQueue p n (trying y)
      watches other body f =
          (v, subst (In n.queue v) (same_marks seen other (taking n) body (sym e ∙ f)) i, typed)

  -- it found none, and all have ended
  none_left : (form : Term) (x : Value) (all : W (trying form)) → w.unended ≡ 0
      → x ≡ all.stores.queued.0 → IsSilent d s → O (got x)
  none_left form x all zero e silent =
      no_event w silent.prints_nothing
      (subst (λ z. GoAlike p n m o g w first stage (xs ++ leaf path (got x) ∷ ys) rest now z t)
      (sym (fun_ext silent.leaves_all))
      (goes_alike p n m o g w w first stage xs ys path (trying form) (got x) rest now s s t all
      (follows_self far w) refl all.stores (λ z. z) (λ place j. refl) tt (inr (is_unit, zero)) tt
      (λ y i r h. h) (λ l i. i)
      (still_once w.queue xs ys (leaf path (trying form)) (leaf path (got x))
      (ap (λ ls. ls ++ []) (none_in x is_unit)) all.held_once)
      (λ l i. inl i) (λ l i. absurd i) (λ number v asked l i h. absurd h)
      (all.owed ∙ ap (λ z. owes stage + (length w.queue + z)) owed_same) (inl zero)))
    where
      empty : (ls : List ℕ) → w.queue ≡ ls → length ls ≡ 0
      empty ls c =
          let a : w.unended ≡ owes stage
          + (length w.queue + owed_in (xs ++ leaf path (trying form) ∷ ys)) = all.owed in
          let b : length w.queue ≡ length ls = ap length c in omega (arith, a, b, zero)

      none : (ls : List ℕ) → length ls ≡ 0 → IsQueue n s all.stores.queued.0 ls
          → all.stores.queued.0 ≡ unit
      none [] c h = h
      none (l ∷ ls) c h = let z : suc (length ls) ≡ 0 = c in absurd (omega (arith, z))

      is_unit : x ≡ unit
      is_unit = e ∙ none w.queue (empty w.queue refl) all.stores.queued.2

      owed_same : owed_in (xs ++ leaf path (trying form) ∷ ys)
          ≡ owed_in (xs ++ leaf path (got x) ∷ ys)
      owed_same =
          owed_split xs ys (leaf path (trying form))
          ∙ ap (λ z. z + (owed_in xs + owed_in ys))
          (sym (ap (λ ls. one_or_none (ls ++ [])) (none_in x is_unit)))
          ∙ sym (owed_split xs ys (leaf path (got x)))

  -- locations of the prelude
  pub mine : (old : Stage) → W old → (at : ℕ) → w.serves at ≡ of_prelude
      → (w.serves at ≡ for_all → ⊥) × ((w.serves at ≡ unused → ⊥)
      × ((l place : ℕ) → w.serves at ≡ part_of l place → ⊥))
  mine old all at e = (
    (λ f. let z : of_prelude ≡ for_all = sym e ∙ f in absurd cc),
    (
      (λ f. let z : of_prelude ≡ unused = sym e ∙ f in absurd cc),
      (λ l place f. let z : of_prelude ≡ part_of l place = sym e ∙ f in absurd cc),
    ),
  )

  -- it takes the first one
  module _ (form : Term) (x v : Value) (all : W (trying form)) (l : ℕ) (ls : List ℕ) (y : Value)
      (is_queue : w.queue ≡ l ∷ ls) (e : x ≡ object_of n l) (typed : has_type p x (Named n.thread) ≡ true)
      (behind : IsQueue n s y ls) (sets : SetsOne d s n.queue y) where
    h : AreStores p n m w now s t
    h = all.stores

    abbrev q : Store
    q = afterwards d s

    abbrev later : World
    later = recounted w ls w.unended

    is_mine : (w.serves n.queue ≡ for_all → ⊥) × ((w.serves n.queue ≡ unused → ⊥)
        × ((l place : ℕ) → w.serves n.queue ≡ part_of l place → ⊥))
    is_mine = mine (trying form) all n.queue h.own.0

    in_queue : (i : ℕ) → IsOneOf i ls → IsOneOf i w.queue
    in_queue i j = subst (IsOneOf i) (sym is_queue) (inr j)

    stores : AreStores p n m later now q t
    stores =
        stores_set p n m w now s q t h n.queue y sets.sets sets.leaves_others is_mine.0 is_mine.1.0
        (λ i place f. absurd (is_mine.1.1 i place f)) (λ i f end c r. is_mine.1.1 i 2 r) ls w.unended
        (differ n.queue n.count known.same.apart.0) (differ n.queue m.started known.same.apart.2)
        (sets.leaves_others n.unended (differ n.queue n.unended known.same.apart.1) ∙ h.unended)
        h.unended_few (y, sets.sets, behind) in_queue

    place_is : held (got x) ≡ l ∷ []
    place_is = ap (λ ms. ms ++ []) (object_is_in n x l e)

    is_new : IsNew now l
    is_new = all.queue_new l (subst (IsOneOf l) (sym is_queue) (inl refl))

    moved : (i : ℕ) → IsOneOf i w.queue → IsOneOf i ls ⊎ IsOneOf i (waiting (got x))
    moved i j = go (subst (IsOneOf i) is_queue j)
      where
        go : IsOneOf i (l ∷ ls) → IsOneOf i ls ⊎ IsOneOf i (waiting (got x))
        go (inl c) = inr (subst (IsOneOf i) (sym (object_is_in n x l e)) (inl c))
        go (inr c) = inl c

    owed_then : w.unended
        ≡ owes stage + (length ls + owed_in (xs ++ leaf path (got x) ∷ ys))
    owed_then =
        let a : w.unended ≡ owes stage
        + (length w.queue + owed_in (xs ++ leaf path (trying form) ∷ ys)) = all.owed in
        let b : length w.queue ≡ suc (length ls) = ap length is_queue in
        let c : owed_in (xs ++ leaf path (trying form) ∷ ys) ≡ 0 + (owed_in xs + owed_in ys) =
        owed_split xs ys (leaf path (trying form)) in
        let f : owed_in (xs ++ leaf path (got x) ∷ ys) ≡ 1 + (owed_in xs + owed_in ys) =
        owed_split xs ys (leaf path (got x))
        ∙ ap (λ z. one_or_none z + (owed_in xs + owed_in ys)) place_is in
        omega (arith, a, b, c, f)

    free_then : (w.unended ≡ 0)
        ⊎ (free_in (xs ++ leaf path (trying form) ∷ ys) + rest + w.spawned ≡ 64 + length w.queue)
        → (w.unended ≡ 0)
        ⊎ (free_in (xs ++ leaf path (got x) ∷ ys) + rest + w.spawned ≡ 64 + length ls)
    free_then (inl z) = inl z
    free_then (inr a) =
        let b : length w.queue ≡ suc (length ls) = ap length is_queue in
        let c : free_in (xs ++ leaf path (trying form) ∷ ys) ≡ 1 + (free_in xs + free_in ys) =
        free_split xs ys (leaf path (trying form)) in
        let f : free_in (xs ++ leaf path (got x) ∷ ys) ≡ 0 + (free_in xs + free_in ys) =
        free_split xs ys (leaf path (got x)) in
        inr (omega (arith, a, b, c, f))

    takes_it : O (got x)
    takes_it =
        no_event later sets.prints_nothing
        (goes_alike p n m o g w later first stage xs ys path (trying form) (got x) rest now s q t all
        (recounted_follows far w ls w.unended) refl stores (λ z. z)
        (λ place j.
        sets.leaves_others (first + place)
        (h.lasting (first + place) (all.first_lasts place j).0).1)
        tt (inl (l, e, is_new, typed)) tt
        (λ z i r c.
        kept_stays p n m o w now s q t h z.stage r
        (λ b a f. sets.leaves_others (b + 2)
        (λ u. is_mine.1.1 b 2 (ap w.serves (sym u) ∙ f))) c)
        in_queue
        (taken_once ls xs ys (leaf path (trying form)) (leaf path (got x)) l refl place_is
        (subst (λ z. NoneTwice (z ++ all_held (xs ++ leaf path (trying form) ∷ ys))) is_queue all.held_once))
        moved (λ i j. absurd j) (λ number z asked i j c. absurd c) owed_then (free_then all.free))

  taken : (form : Term) (x : Value) (all : W (trying form)) (l : ℕ) (y : Value)
      → all.stores.queued.0 ≡ object_of n l → s (l + 3) ≡ Some y → x ≡ all.stores.queued.0
      → has_type p all.stores.queued.0 (Named n.thread) ≡ true → SetsOne d s n.queue y → O (got x)
  taken form x all l y e there c typed sets = go w.queue refl all.stores.queued.2
    where
      go : (ls : List ℕ) → w.queue ≡ ls → IsQueue n s all.stores.queued.0 ls → O (got x)
      go [] r h =
          let z : [] ≡ l ∷ [] =
          sym (none_in all.stores.queued.0 h) ∙ object_is_in n all.stores.queued.0 l e in absurd cc
      go (j ∷ ls) r h =
          let z : j ≡ l = one_place n all.stores.queued.0 j l h.0 e in
          let b : Some h.1.0 ≡ Some y = sym h.1.1 ∙ ap (λ i. s (i + 3)) z ∙ there in
          let f : h.1.0 ≡ y = cc in
          takes_it form x x all j ls y r (c ∙ h.0)
          (ap (λ i. has_type p i (Named n.thread)) c ∙ typed)
          (subst (λ i. IsQueue n s i ls) f h.1.2) sets

  pub from_trying : (form : Term) (next : Stage) → W (trying form)
      → Follows p n s pick d (trying form) next → Stands n next → O next
  from_trying form (trying y) all a stands = go (take_ends (trying form) all y a)
    where
      go : TakeEnds p n s all.stores.queued.0 w.unended y d → O (trying y)
      go (ends.took l x e there c typed sets) = absurd (form_no_value y (taking n) _ stands c)
      go (ends.found_none typed zero c silent) = absurd (form_no_value y (taking n) _ stands c)
      go (ends.slept seen c i typed silent) =
          sleeps_on form y all all.stores.queued.0 seen c i typed silent
  from_trying form (got x) all a stands = go (take_ends (trying form) all (term.Value x) a)
    where
      go : TakeEnds p n s all.stores.queued.0 w.unended (term.Value x) d → O (got x)
      go (ends.took l y e there c typed sets) =
          taken form x all l y e there (same_value x _ c) typed sets
      go (ends.found_none typed zero c silent) =
          none_left form x all zero (same_value x _ c) silent
      go (ends.slept seen c i typed silent) = absurd (value_no_asleep x seen (taking n) c)
  from_trying form (refused x) all a stands = go (take_ends (trying form) all (throw_of x) a)
    where
      go : TakeEnds p n s all.stores.queued.0 w.unended (throw_of x) d → O (refused x)
      go (ends.took l y e there c typed sets) = absurd (throw_no_value x _ c)
      go (ends.found_none typed zero c silent) = absurd (throw_no_value x _ c)
      go (ends.slept seen c i typed silent) = absurd (throw_no_asleep x seen (taking n) c)
  from_trying form _ all a stands = absurd a
