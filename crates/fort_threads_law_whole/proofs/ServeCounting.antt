-- A server counts down, and keeps the end of its thread.
use Rattle.std.proofs.Common.{◌≡◌, ℕ, suc, zero, ◌+◌, ◌<◌, ◌≤◌, ◌==◌, Bool, true, false, List, [], ◌∷◌, ◌++◌, length, if◌then◌else◌, Option, Some, None, option_map, pos, refl, ap, sym, ◌∙◌, subst, arith, rules, inl, inr, ◌⊎◌}
use Rattle.fort_core.specs.declared.pick.Pick.{Pick}
use Rattle.fort_core.specs.declared.program.Program.{Program}
use Rattle.fort_core.specs.declared.term.Term.{Term}
use Rattle.fort_core.specs.declared.term.Term as term
use Rattle.fort_core.specs.declared.value.Value.{Value, Small}
use Rattle.fort_machine.specs.Acts.{unit}
use Rattle.fort_machine.specs.Cells.{untouched, found, left_at}
use Rattle.fort_machine.specs.Effects.{Store, Effect, writing, afterwards}
use Rattle.fort_machine.specs.Parts.{IsOneOf}
use Rattle.fort_threads.specs.Known.{Known}
use Rattle.fort_threads.specs.Objects.{objects, NoneTwice}
use Rattle.fort_threads.specs.Threads.{Thread, Paths, going, thread, end_at, is_at, end_of}
use Rattle.std.specs.List.{cons_option}
use Rattle.fort_threads_law_servers.specs.Prelude.{Names, fewer}
use Rattle.fort_threads_law_servers.specs.Stages.{End, end_term, kept_value, Stage, keeps, has_kept, counts, done, Attempted, Follows, Stands}
use Rattle.fort_threads_law_servers.specs.Roots.{Start}
use Rattle.fort_threads_law_private.specs.Grounds.{Ground}
use Rattle.fort_threads_law_queue.specs.Attempts.{SetsOne}
use Rattle.fort_threads_law_queue.proofs.Cells.{sets_one, set_if}
use Rattle.fort_threads_law_queue.proofs.Taken.{each_count_goes_down}
use Rattle.fort_threads_law_worlds.specs.Worlds.{unused, for_all, part_of, of_prelude, given, Object, object, World, HasParts}
use Rattle.fort_threads_law_worlds.specs.Known.{Own}
use Rattle.fort_threads_law_worlds.specs.Stores.{AreStores}
use Rattle.fort_threads_law_worlds.proofs.Following.{same_part, same_given}
use Rattle.fort_threads_law_runs.specs.Premises.{IsThreaded}
use Rattle.fort_threads_law_trees.specs.Leaves.{Leaf, leaf, held, owes, owed_in, free_in}
use Rattle.fort_threads_law_whole.specs.Lists.{IsAt}
use Rattle.fort_threads_law_whole.specs.Roots.{GoAlike, GoesOnAlike}
use Rattle.fort_threads_law_whole.specs.Servers.{IsKept, RunsOne, ServesOne}
use Rattle.fort_threads_law_whole.proofs.Numbers.{is_one_at, object_is_one}
use Rattle.fort_threads_law_whole.proofs.ServeLists.{still_once, held_alone, owed_split, free_split}
use Rattle.fort_threads_law_whole.proofs.ServeFollows.{far}
use Rattle.fort_threads_law_whole.proofs.ServeKept.{no_event, goes_alike}
use Rattle.fort_threads_law_whole.proofs.ServeStores.{recounted, recounted_follows, stores_set}
use Rattle.fort_threads_law_whole.proofs.ServeQuiet.{serves_it}
use Rattle.fort_threads_law_whole.proofs.ServeTaking.{W, O, mine, few_open, kept_stays, differ, form_no_value}

-- a write sets one location
pub write_sets : (s : Store) (l : ℕ) (v : Value) → SetsOne (writing l v) s l v
write_sets s l v = sets_one (writing l v) s l v refl (λ k. go (l == k) (s k))
  where
    go : (b : Bool) (o : Option Value)
        → left_at (if b then found None (Some v) else untouched) o ≡ set_if b v o
    go true o = refl
    go false o = refl

-- a thread that goes on has no end
same_place : (l : ℕ) → (l == l) ≡ true
same_place l = let e : l ≡ l = refl in search (rules, e)

other_place : (m l : ℕ) → (m ≡ l → ⊥) → (m == l) ≡ false
other_place m l h = search (rules, h)

pub no_end_yet : (us : List Thread) (l : ℕ) (v : Term) (asked : Paths) → NoneTwice (objects us)
    → IsOneOf (thread (Some l) (going v asked)) us → end_of us l ≡ None
no_end_yet [] l v asked once i = absurd i
no_end_yet (u ∷ us) l v asked once (inl e) =
    subst (λ (z : Thread). (if is_at l z.object then end_at z.phase else end_of us l) ≡ None) e
    (ap (λ b. if b then None else end_of us l) (same_place l))
no_end_yet (u ∷ us) l v asked once (inr i) =
    go u.object (no_end_yet us l v asked) once
    (object_is_one (thread (Some l) (going v asked)) us l i refl)
  where
    go : (o : Option ℕ)
        → (NoneTwice (objects us) → IsOneOf (thread (Some l) (going v asked)) us
        → end_of us l ≡ None)
        → NoneTwice (cons_option o (objects us)) → IsOneOf l (objects us)
        → (if is_at l o then end_at u.phase else end_of us l) ≡ None
    go None rest once j = rest once i
    go (Some m) rest once j =
        ap (λ b. if b then end_at u.phase else end_of us l)
        (other_place m l (λ e. once.0 (subst (λ k. IsOneOf k (objects us)) (sym e) j)))
        ∙ rest once.1 i

-- its object is given, and not marked
pub unmarked : (p : Program) (n : Names) (m : Start) (w : World) (now : List Thread) (s t : Store)
    → AreStores p n m w now s t → NoneTwice (objects now) → (l number : ℕ) (v : Term)
    (asked : Paths) → IsAt number (thread (Some l) (going v asked)) now
    → (f : Value) × (w.object l ≡ Some (object f (given None)))
unmarked p n m w now s t h once l number v asked at = go given_one.1 given_one.2
  where
    i : IsOneOf (thread (Some l) (going v asked)) now
    i = is_one_at number (thread (Some l) (going v asked)) now at

    given_one : (f : Value) × (end : Option End) × (w.object l ≡ Some (object f (given end)))
    given_one = h.objects_given (thread (Some l) (going v asked)) l i refl

    go : (end : Option End) → w.object l ≡ Some (object given_one.0 (given end))
        → (f : Value) × (w.object l ≡ Some (object f (given None)))
    go None e = (given_one.0, e)
    go (Some end) e =
        let z : None ≡ Some (end_term end) =
        sym (no_end_yet now l v asked once i) ∙ (h.marked l given_one.0 (Some end) e).1 in absurd cc

module _ (p : Program) (n : Names) (m : Start) (o : Own) (k : Known) (g : Ground)
    (known : IsThreaded p n m o k g) (w : World)
    (first : ℕ) (stage : Stage) (xs ys : List Leaf) (path : List ℕ) (rest : ℕ) (now : List Thread)
    (s t : Store) (pick : Pick) (d : Effect) where
  abbrev Before : Stage → Type 0
  Before old = W p n m o k g known w first stage xs ys path rest now s t pick d old

  abbrev Behind : Stage → Type 0
  Behind next = O p n m o k g known w first stage xs ys path rest now s t pick d next

  -- ---- it counts down
  module _ (form y : Term) (all : Before (counts form)) (j : ℕ) (is_j : w.unended ≡ suc j)
      (value : y ≡ term.Value unit) (sets : SetsOne d s n.unended (Small (pos j))) where
    h : AreStores p n m w now s t
    h = all.stores

    abbrev q : Store
    q = afterwards d s

    abbrev later : World
    later = recounted w w.queue j

    is_mine : (w.serves n.unended ≡ for_all → ⊥) × ((w.serves n.unended ≡ unused → ⊥)
        × ((l place : ℕ) → w.serves n.unended ≡ part_of l place → ⊥))
    is_mine =
        mine p n m o k g known w first stage xs ys path rest now s t pick d (counts form) all
        n.unended h.own.1

    other_way : n.queue ≡ n.unended → ⊥
    other_way e = differ n.queue n.unended known.same.apart.1 (sym e)

    stores : AreStores p n m later now q t
    stores =
        stores_set p n m w now s q t h n.unended (Small (pos j)) sets.sets sets.leaves_others
        is_mine.0 is_mine.1.0 (λ i place f. absurd (is_mine.1.1 i place f))
        (λ i f end c r. is_mine.1.1 i 2 r) w.queue j
        (λ e. differ n.count n.unended known.prelude.apart (sym e))
        (differ n.unended m.started known.same.apart.4) sets.sets
        (let a : w.unended ≤ 1 + w.spawned = h.unended_few in omega (arith, a, is_j))
        (h.queued.0, sets.leaves_others n.queue other_way ∙ h.queued.1, h.queued.2) (λ i c. c)

    owed_then : j ≡ owes stage + (length w.queue + owed_in (xs ++ leaf path (done y) ∷ ys))
    owed_then =
        let a : w.unended ≡ owes stage
        + (length w.queue + owed_in (xs ++ leaf path (counts form) ∷ ys)) = all.owed in
        let c : owed_in (xs ++ leaf path (counts form) ∷ ys) ≡ 1 + (owed_in xs + owed_in ys) =
        owed_split xs ys (leaf path (counts form)) in
        let f : owed_in (xs ++ leaf path (done y) ∷ ys) ≡ 0 + (owed_in xs + owed_in ys) =
        owed_split xs ys (leaf path (done y)) in
        omega (arith, a, is_j, c, f)

    free_then : (w.unended ≡ 0)
        ⊎ (free_in (xs ++ leaf path (counts form) ∷ ys) + rest + w.spawned ≡ 64 + length w.queue)
        → (j ≡ 0)
        ⊎ (free_in (xs ++ leaf path (done y) ∷ ys) + rest + w.spawned ≡ 64 + length w.queue)
    free_then (inl z) = absurd (omega (arith, z, is_j))
    free_then (inr a) =
        let c : free_in (xs ++ leaf path (counts form) ∷ ys) ≡ 0 + (free_in xs + free_in ys) =
        free_split xs ys (leaf path (counts form)) in
        let f : free_in (xs ++ leaf path (done y) ∷ ys) ≡ 0 + (free_in xs + free_in ys) =
        free_split xs ys (leaf path (done y)) in
        inr (omega (arith, a, c, f))

    counts_it : Behind (done y)
    counts_it =
        no_event later sets.prints_nothing
        (goes_alike p n m o g w later first stage xs ys path (counts form) (done y) rest now s q t
        all (recounted_follows far w w.queue j) refl stores
        (λ z. absurd (omega (arith, z, is_j)))
        (λ place c.
        sets.leaves_others (first + place)
        (h.lasting (first + place) (all.first_lasts place c).0).2)
        (unit, value) tt tt
        (λ z i r c.
        kept_stays p n m o w now s q t h z.stage r
        (λ b a f. sets.leaves_others (b + 2)
        (λ u. is_mine.1.1 b 2 (ap w.serves (sym u) ∙ f))) c)
        (λ i c. c)
        (still_once w.queue xs ys (leaf path (counts form)) (leaf path (done y)) refl all.held_once)
        (λ i c. inl c) (λ i c. absurd c) (λ number z asked i c f. absurd c) owed_then
        (free_then all.free))

  pub from_counts : (form : Term) (next : Stage) → Before (counts form)
      → Follows p n s pick d (counts form) next → Stands n next → Behind next
  from_counts form next all f stands = by w.unended refl
    where
      down : (j : ℕ) → w.unended ≡ suc j → (y : Term) → Attempted p s (fewer n) y d
          → (y ≡ term.Value unit) × SetsOne d s n.unended (Small (pos j))
      down j e y a =
          let b : w.unended ≤ 65 =
          few_open p n m o k g known w first stage xs ys path rest now s t pick d (counts form) all in
          each_count_goes_down p n known.prelude known.counts s j y d
          (all.stores.unended ∙ ap (λ i. Some (Small (pos i))) e) (omega (arith, b, e)) a

      go : (j : ℕ) → w.unended ≡ suc j → (next : Stage)
          → Follows p n s pick d (counts form) next → Stands n next → Behind next
      go j e (counts y) a stands =
          absurd (form_no_value y (fewer n) unit stands (down j e y a).0)
      go j e (done y) a stands =
          let r = down j e y a in counts_it form y all j e r.0 r.1
      go j e _ a stands = absurd a

      by : (i : ℕ) → w.unended ≡ i → Behind next
      by zero e =
          let a : w.unended ≡ owes stage
          + (length w.queue + owed_in (xs ++ leaf path (counts form) ∷ ys)) = all.owed in
          let c : owed_in (xs ++ leaf path (counts form) ∷ ys) ≡ 1 + (owed_in xs + owed_in ys) =
          owed_split xs ys (leaf path (counts form)) in
          absurd (omega (arith, a, c, e))
      by (suc j) e = go j e next f stands

  -- ---- it keeps its thread's end
  module _ (l : ℕ) (end : End) (all : Before (keeps l end))
      (is_write : d ≡ writing (l + 2) (kept_value end)) where
    kh : AreStores p n m w now s t
    kh = all.stores

    abbrev kq : Store
    kq = afterwards d s

    abbrev klater : World
    klater = recounted w w.queue w.unended

    runs_it : RunsOne p n m o w now l (keeps l end)
    runs_it = (serves_it p n m o k g w first stage xs ys path rest now s t pick d (keeps l end) all).0

    open_one : (f : Value) × (w.object l ≡ Some (object f (given None)))
    open_one =
        unmarked p n m w now s t kh all.objects_apart l runs_it.0 runs_it.1 runs_it.2 runs_it.3

    parts : HasParts w l
    parts = kh.parts l _ open_one.1

    is_part : w.serves (l + 2) ≡ part_of l 2
    is_part = parts 2 (omega arith)

    ksets : SetsOne d s (l + 2) (kept_value end)
    ksets =
        subst (λ e. SetsOne e s (l + 2) (kept_value end)) (sym is_write)
        (write_sets s (l + 2) (kept_value end))

    not_mine : (i : ℕ) → w.serves i ≡ of_prelude → i ≡ l + 2 → ⊥
    not_mine i e f =
        let z : of_prelude ≡ part_of l 2 = sym e ∙ ap w.serves f ∙ is_part in absurd cc

    kstores : AreStores p n m klater now kq t
    kstores =
        stores_set p n m w now s kq t kh (l + 2) (kept_value end) ksets.sets ksets.leaves_others
        (λ e. let z : part_of l 2 ≡ for_all = sym is_part ∙ e in absurd cc)
        (λ e. let z : part_of l 2 ≡ unused = sym is_part ∙ e in absurd cc)
        (λ i place e. sym (same_part (sym is_part ∙ e)).1)
        (λ i f other e r. has_none i f other e (same_part (sym is_part ∙ r)).0) w.queue w.unended
        (not_mine n.count kh.own.2) (not_mine m.started kh.own.3)
        (ksets.leaves_others n.unended (not_mine n.unended kh.own.1) ∙ kh.unended) kh.unended_few (
          kh.queued.0,
          ksets.leaves_others n.queue (not_mine n.queue kh.own.0) ∙ kh.queued.1,
          kh.queued.2,
        )
        (λ i c. c)
      where
        has_none : (i : ℕ) (f : Value) (other : End)
            → w.object i ≡ Some (object f (given (Some other))) → l ≡ i → ⊥
        has_none i f other e z =
            let y : None ≡ Some other = (same_given (ap w.object (sym z) ∙ open_one.1) e).1 in
            absurd cc

    alone : (y : Leaf) → IsOneOf y xs ⊎ IsOneOf y ys → IsOneOf l (held y.stage) → ⊥
    alone = (held_alone w.queue xs ys (leaf path (keeps l end)) l refl all.held_once).1

    keeps_it : Behind (has_kept l end)
    keeps_it =
        no_event klater ksets.prints_nothing
        (goes_alike p n m o g w klater first stage xs ys path (keeps l end) (has_kept l end) rest now
        s kq t all (recounted_follows far w w.queue w.unended) refl kstores (λ z. z)
        (λ place c.
        ksets.leaves_others (first + place)
        (not_mine (first + place) (kh.lasting (first + place) (all.first_lasts place c).0).0))
        tt runs_then ksets.sets
        (λ z i r c.
        kept_stays p n m o w now s kq t kh z.stage r
        (λ b a f. ksets.leaves_others (b + 2)
        (λ u. alone z i (subst (λ c. IsOneOf c (held z.stage)) (cut b u) a))) c)
        (λ i c. c)
        (still_once w.queue xs ys (leaf path (keeps l end)) (leaf path (has_kept l end)) refl
        all.held_once)
        (λ i c. inl c) (λ i c. c) (λ number z asked i c f. (c, f)) owed_then free_then)
      where
        cut : (b : ℕ) → b + 2 ≡ l + 2 → b ≡ l
        cut b u = omega (arith, u)

        runs_then : RunsOne p n m o klater now l (has_kept l end)
        runs_then = (runs_it.0, runs_it.1, runs_it.2, runs_it.3, runs_it.4, runs_it.5)

        owed_then : w.unended
            ≡ owes stage + (length w.queue + owed_in (xs ++ leaf path (has_kept l end) ∷ ys))
        owed_then =
            all.owed
            ∙ ap (λ i. owes stage + (length w.queue + i))
            (owed_split xs ys (leaf path (keeps l end))
            ∙ sym (owed_split xs ys (leaf path (has_kept l end))))

        frees : (w.unended ≡ 0)
            ⊎ (free_in (xs ++ leaf path (keeps l end) ∷ ys) + rest + w.spawned
            ≡ 64 + length w.queue)
            → (w.unended ≡ 0)
            ⊎ (free_in (xs ++ leaf path (has_kept l end) ∷ ys) + rest + w.spawned
            ≡ 64 + length w.queue)
        frees (inl z) = inl z
        frees (inr z) =
            inr (
            ap (λ i. i + rest + w.spawned)
            (free_split xs ys (leaf path (has_kept l end))
            ∙ sym (free_split xs ys (leaf path (keeps l end))))
            ∙ z
            )

        free_then : (w.unended ≡ 0)
            ⊎ (free_in (xs ++ leaf path (has_kept l end) ∷ ys) + rest + w.spawned
            ≡ 64 + length w.queue)
        free_then = frees all.free

  pub from_keeps : (l : ℕ) (end : End) (next : Stage) → Before (keeps l end)
      → Follows p n s pick d (keeps l end) next → Behind next
  from_keeps l end (has_kept i other) all f =
      subst (λ z. Behind (has_kept z other)) (sym f.0)
      (subst (λ z. Behind (has_kept l z)) (sym f.1) (keeps_it l end all f.2))
  from_keeps l end _ all f = absurd f
