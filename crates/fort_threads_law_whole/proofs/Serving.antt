-- Each pick of a server that is none of a thread.
use Rattle.std.proofs.Common.{◌≡◌, ℕ, suc, zero, ◌+◌, ◌<◌, ◌≤◌, ◌==◌, Bool, true, false, List, [], ◌∷◌, ◌++◌, length, if◌then◌else◌, Option, Some, None, refl, ap, sym, ◌∙◌, subst, arith, rules, inl, inr, ◌⊎◌}
use Rattle.std.proofs.Math.Path.{fun_ext}
use Rattle.std.specs.Prelude.{pos, slice_get}
use Rattle.fort_core.specs.declared.pick.Pick.{Pick}
use Rattle.fort_core.specs.declared.program.Program.{Program}
use Rattle.fort_core.specs.declared.term.Term.{Term, Apply}
use Rattle.fort_core.specs.declared.term.Term as term
use Rattle.fort_core.specs.declared.term.Term.TheVariants.{outs-Apply}
use Rattle.fort_core.specs.declared.value.Value.{Value, Small}
use Rattle.fort_machine.specs.Acts.{unit}
use Rattle.fort_machine.specs.Cells.{Cell, untouched, found, left_at, Fits}
use Rattle.fort_machine.specs.Effects.{Store, Effect, reading, writing, idle, FitsAll, afterwards}
use Rattle.fort_machine.specs.Ends.{Finished}
use Rattle.fort_machine.specs.Ends as ends
use Rattle.fort_machine.specs.Parts.{IsOneOf}
use Rattle.fort_threads.specs.Known.{Known}
use Rattle.fort_threads.specs.Machine.{Event, begins, begun, ended, rests, applied}
use Rattle.fort_threads.specs.Machine as machine
use Rattle.fort_threads.specs.Objects.{objects, NoneTwice}
use Rattle.fort_threads.specs.Threads.{Paths, Phase, new, going, over, Thread, thread}
use Rattle.fort_threads_law_servers.specs.Prelude.{Names}
use Rattle.fort_threads_law_servers.specs.Stages.{End, at_value, at_throw, end_term, kept_value, mark_of, Stage, called, asking, trying, got, refused, looking, sent, reads, runs, caught, lost, keeps, has_kept, marks, has_marked, counts, done, Follows, Stands}
use Rattle.fort_threads_law_servers.specs.Stages as stages
use Rattle.fort_threads_law_servers.specs.Roots.{Start}
use Rattle.fort_threads_law_private.specs.Grounds.{Ground}
use Rattle.fort_threads_law_private.specs.Private.{Private, PrivateValue, no_terms, one_more, no_values}
use Rattle.fort_threads_law_private.proofs.Values.{private_at, term_private, unit_private}
use Rattle.fort_threads_law_queue.specs.Attempts.{SetsOne}
use Rattle.fort_threads_law_worlds.specs.Worlds.{part_of, of_prelude, given, object, World, ground_of, HasParts}
use Rattle.fort_threads_law_worlds.specs.Known.{Own}
use Rattle.fort_threads_law_worlds.specs.Stores.{AreStores}
use Rattle.fort_threads_law_worlds.proofs.Following.{follows_self, same_part}
use Rattle.fort_threads_law_matches.specs.Matches.{same}
use Rattle.fort_threads_law_runs.specs.Premises.{IsThreaded}
use Rattle.fort_threads_law_trees.specs.Leaves.{Leaf, leaf, held, IsCalm}
use Rattle.fort_threads_law_whole.specs.Lists.{IsAt}
use Rattle.fort_threads_law_whole.specs.Picks.{IsOwnPick, ServersGoOn}
use Rattle.fort_threads_law_whole.specs.Roots.{AllCalm, GoAlike, GoesOnAlike}
use Rattle.fort_threads_law_whole.specs.Servers.{IsRunAs, IsKept, RunsOne, IsNew, ServesOne}
use Rattle.fort_threads_law_whole.proofs.Numbers.{Split, split, is_one_at, stands_at, same_objects}
use Rattle.fort_threads_law_whole.proofs.ServeLists.{serve_of, still_once, left_once, held_alone}
use Rattle.fort_threads_law_whole.proofs.ServeFollows.{far}
use Rattle.fort_threads_law_whole.proofs.ServePhases.{stores_phase, no_ends, ended_world, follows_end, stores_end}
use Rattle.fort_threads_law_whole.proofs.ServeThreads.{thread_goes_alike}
use Rattle.fort_threads_law_whole.proofs.ServeQuiet.{Was, On, serves_it, from_called, from_asking, from_got, from_looking, from_sent, from_runs, from_caught, from_has_kept, from_has_marked, from_leaves}
use Rattle.fort_threads_law_whole.proofs.ServeTaking.{from_trying, kept_stays}
use Rattle.fort_threads_law_whole.proofs.ServeCounting.{write_sets, unmarked, from_counts, from_keeps}

-- a read leaves the store, and reads what is there
pub read_same : (l : ℕ) (v : Value) (s : Store) → afterwards (reading l v) s ≡ s
read_same l v s = fun_ext (λ k. go (l == k) (s k))
  where
    go : (b : Bool) (o : Option Value)
        → left_at (if b then found (Some v) None else untouched) o ≡ o
    go true o = refl
    go false o = refl

pub read_is : (l : ℕ) (v : Value) (s : Store) (x : Value) → FitsAll (reading l v) s → s l ≡ Some x
    → x ≡ v
read_is l v s x fits there = go (l == l) (search rules) (subst (Fits (cell (l == l))) there (fits l))
  where
    cell : Bool → Cell
    cell b = if b then found (Some v) None else untouched

    go : (b : Bool) → b ≡ true → Fits (if b then found (Some v) None else untouched) (Some x)
        → x ≡ v
    go true e f = f
    go false e f = let z : false ≡ true = e in absurd cc

-- the application of a function
pub applied_private : {p : Program} {n : Names} {m : Start} {g : Ground} (f : Value)
    → PrivateValue p n m g f → Private p n m g (applied f)
applied_private f h =
    private_at (applied f) _ (outs-Apply (term.Value f) (term.Value unit)) tt
    (one_more (term_private h) (one_more (term_private unit_private) no_terms)) no_values

pub end_finished : (end : End) (v : Term) → v ≡ end_term end → Finished v
end_finished (at_value x) v e = ends.value x e
end_finished (at_throw x) v e = ends.throw x e

module _ (p : Program) (n : Names) (m : Start) (o : Own) (k : Known) (g : Ground)
    (known : IsThreaded p n m o k g) (w : World)
    (first : ℕ) (stage : Stage) (xs ys : List Leaf) (path : List ℕ) (rest : ℕ) (now : List Thread)
    (s t : Store) (pick : Pick) (d : Effect) (fits : FitsAll d s) where
  abbrev Before : Stage → Type 0
  Before old = Was p n m o k g w first stage xs ys path rest now s t pick d old

  abbrev Behind : Stage → Type 0
  Behind next = On p n m o k g w first stage xs ys path rest now s t pick d next

  -- ---- a thread begins
  module _ (l : ℕ) (fn f : Value) (number : ℕ) (all : Before (reads l)) (is_read : d ≡ reading l fn)
      (at : IsAt number (thread (Some l) (new f)) now)
      (parted : Split number (thread (Some l) (new f)) now) where
    abbrev front : List Thread
    front = parted.before

    abbrev back : List Thread
    back = parted.behind

    abbrev was_all : List Thread
    was_all = front ++ thread (Some l) (new f) ∷ back

    abbrev is_all : List Thread
    is_all = front ++ thread (Some l) (going (applied f) []) ∷ back

    made : (end : _) × (w.object l ≡ Some (object f (given end)))
    made =
        all.stores.new_threads (thread (Some l) (new f)) l f
        (is_one_at number (thread (Some l) (new f)) now at) refl refl

    there : (s l ≡ Some f) × PrivateValue p n m (ground_of w) f
    there = all.stores.function l (object f (given made.0)) made.1

    same_function : f ≡ fn
    same_function = read_is l fn s f (subst (λ e. FitsAll e s) is_read fits) there.0

    same_store : afterwards d s ≡ s
    same_store = ap (λ e. afterwards e s) is_read ∙ read_same l fn s

    all_there : GoAlike p n m o g w first stage (xs ++ leaf path (reads l) ∷ ys) rest was_all s t
    all_there =
        subst (λ z. GoAlike p n m o g w first stage (xs ++ leaf path (reads l) ∷ ys) rest z s t)
        parted.are_all all

    stores : AreStores p n m w is_all s t
    stores =
        stores_phase p n m w front back (Some l) (new f) (going (applied f) []) s t all_there.stores
        (λ c e. let z : going (applied f) [] ≡ new c = e in absurd cc)
        (λ i c e q. no_ends front back (Some l) (new f) (going (applied f) []) refl refl i)

    matches : IsRunAs p n m o w (length front) [] (applied f) (runs l (applied f))
    matches = same refl (applied_private f there.1)

    positive : (i : ℕ) → number ≡ i → 0 < number
    positive zero e =
        let z : Some (thread None all.phase) ≡ Some (thread (Some l) (new f)) =
        sym (ap (λ us. slice_get us 0) all.are_all)
        ∙ subst (λ i. IsAt i (thread (Some l) (new f)) now) e at in
        let c : thread None all.phase ≡ thread (Some l) (new f) = cc in
        let y : None ≡ Some l = ap (λ (u : Thread). u.object) c in absurd cc
    positive (suc i) e = omega (arith, e)

    runs_it : RunsOne p n m o w is_all l (runs l (applied f))
    runs_it = (
      length front,
      applied f,
      [],
      stands_at front back (thread (Some l) (going (applied f) [])),
      subst (λ i. 0 < i) (sym parted.is_number) (positive number refl),
      matches,
    )

    alike : GoAlike p n m o g w first stage (xs ++ leaf path (runs l (applied f)) ∷ ys) rest is_all
        s t
    alike =
        thread_goes_alike p n m o g w w first stage xs ys path (reads l) (runs l (applied f)) rest
        front back l (new f) (going (applied f) []) s s t all_there (follows_self far w) refl refl
        refl stores (λ place c. refl) tt runs_it tt (λ y i r c. c) refl (λ i c. only i c)
        (λ i c. absurd c)
        (still_once w.queue xs ys (leaf path (reads l)) (leaf path (runs l (applied f))) refl
        all.held_once)
        (λ c e. let z : new c ≡ going (applied f) [] = e in absurd cc)
        (λ v asked e. now_runs v asked e) refl refl
      where
        only : (i : ℕ) → IsOneOf i (l ∷ []) → i ≡ l
        only i (inl e) = e
        only i (inr e) = absurd e

        now_runs : (v : Term) (asked : Paths) → going v asked ≡ going (applied f) []
            → IsOneOf l (l ∷ [])
            × IsRunAs p n m o w (length front) asked v (runs l (applied f))
        now_runs v asked e =
            let a : v ≡ applied f = cc in let b : asked ≡ [] = cc in (
              inl refl,
              subst (λ c. IsRunAs p n m o w (length front) c v (runs l (applied f))) (sym b)
                  (subst (λ c. IsRunAs p n m o w (length front) [] c (runs l (applied f))) (sym a) matches),
            )

    begins_it : Behind (runs l (applied fn))
    begins_it =
        subst (λ c. Behind (runs l (applied c))) same_function (record {
          world = w;
          events = machine.begins (length front) ∷ [];
          later = is_all;
          effect = idle;
          goes = begun front back (Some l) f refl parted.are_all (rests refl refl refl);
          bounded = λ i c e. absurd cc;
          same_output = sym (ap (λ (e : Effect). e.output) is_read);
          alike = subst
              (λ z. GoAlike p n m o g w first stage (xs ++ leaf path (runs l (applied f)) ∷ ys) rest
              is_all z t)
              (sym same_store) alike;
        })

  from_reads : (l : ℕ) (next : Stage) → Before (reads l) → Follows p n s pick d (reads l) next
      → Behind next
  from_reads l (runs i y) all h =
      let c = (serves_it p n m o k g w first stage xs ys path rest now s t pick d (reads l) all).0 in
      subst (λ z. Behind (runs z y)) (sym h.1)
      (subst (λ z. Behind (runs l z)) (sym h.2)
      (begins_it l h.0 c.1 c.0 all h.3 c.2 (split c.0 (thread (Some l) (new c.1)) now c.2)))
  from_reads l _ all h = absurd h

  -- ---- a thread ends
  module _ (l : ℕ) (end : End) (all : Before (marks l end))
      (is_write : d ≡ writing (l + 1) (Small (pos (mark_of end))))
      (number : ℕ) (v : Term) (asked : Paths)
      (at : IsAt number (thread (Some l) (going v asked)) now)
      (runs_as : IsRunAs p n m o w number asked v (marks l end)) (kept : IsKept s (marks l end))
      (parted : Split number (thread (Some l) (going v asked)) now) where
    abbrev in_front : List Thread
    in_front = parted.before

    abbrev in_back : List Thread
    in_back = parted.behind

    abbrev stood_all : List Thread
    stood_all = in_front ++ thread (Some l) (going v asked) ∷ in_back

    abbrev stand_all : List Thread
    stand_all = in_front ++ thread (Some l) (over v) ∷ in_back

    abbrev q : Store
    q = afterwards d s

    all_stood : GoAlike p n m o g w first stage (xs ++ leaf path (marks l end) ∷ ys) rest stood_all s t
    all_stood =
        subst (λ z. GoAlike p n m o g w first stage (xs ++ leaf path (marks l end) ∷ ys) rest z s t)
        parted.are_all all

    open_one : (f : Value) × (w.object l ≡ Some (object f (given None)))
    open_one = unmarked p n m w now s t all.stores all.objects_apart l number v asked at

    parts : HasParts w l
    parts = all.stores.parts l _ open_one.1

    sets : SetsOne d s (l + 1) (Small (pos (mark_of end)))
    sets =
        subst (λ e. SetsOne e s (l + 1) (Small (pos (mark_of end)))) (sym is_write)
        (write_sets s (l + 1) (Small (pos (mark_of end))))

    abbrev later : World
    later = ended_world w l open_one.0 end

    once : NoneTwice (objects stand_all)
    once =
        subst NoneTwice
        (sym (same_objects in_front in_back (thread (Some l) (going v asked)) (thread (Some l) (over v))
        refl))
        all_stood.objects_apart

    end_stores : AreStores p n m later stand_all q t
    end_stores =
        stores_end p n m w in_front in_back l v asked open_one.0 end s q t all_stood.stores once open_one.1
        runs_as.0 runs_as.1 runs_as.2 kept sets.sets sets.leaves_others

    firsts : (place : ℕ) → place < 4 → q (first + place) ≡ s (first + place)
    firsts place c =
        sets.leaves_others (first + place) (λ e.
        let a : w.serves (first + place) ≡ of_prelude =
        (all.stores.lasting (first + place) (all.first_lasts place c).0).0 in
        let b : of_prelude ≡ part_of l 1 =
        sym a ∙ ap w.serves e ∙ parts 1 (omega arith) in absurd cc)

    others : (y : Leaf) → ServesOne p n m o w stood_all y.stage → IsKept s y.stage → IsKept q y.stage
    others y r c =
        kept_stays p n m o w stood_all s q t all_stood.stores y.stage r
        (λ b a e. sets.leaves_others (b + 2) (λ u.
        let z : 2 ≡ 1 = (same_part (sym e ∙ ap w.serves u ∙ parts 1 (omega arith))).1 in
        omega (arith, z))) c

    end_alike : GoAlike p n m o g later first stage (xs ++ leaf path (has_marked l end) ∷ ys) rest stand_all
        q t
    end_alike =
        thread_goes_alike p n m o g w later first stage xs ys path (marks l end) (has_marked l end)
        rest in_front in_back l (going v asked) (over v) s q t all_stood
        (follows_end p n m w in_front in_back l v asked open_one.0 end s q t all_stood.stores once
        open_one.1 runs_as.0 runs_as.1 runs_as.2 kept sets.sets sets.leaves_others far)
        refl refl refl end_stores firsts tt has_come tt (λ y i r c. others y r c) refl
        (λ i c. absurd c) (λ i c. only i c)
        (left_once w.queue xs ys (leaf path (marks l end)) (leaf path (has_marked l end)) l refl refl
        all.held_once)
        (λ c e. let z : new c ≡ over v = e in absurd cc)
        (λ u paths e. let z : going u paths ≡ over v = e in absurd cc) refl refl
      where
        only : (i : ℕ) → IsOneOf i (l ∷ []) → i ≡ l
        only i (inl e) = e
        only i (inr e) = absurd e

        same_here : (l == l) ≡ true
        same_here = search rules

        has_come : ServesOne p n m o later stand_all (has_marked l end)
        has_come = (
          open_one.0,
          ap (λ b. if b then Some (object open_one.0 (given (Some end))) else w.object l) same_here,
        )

    ends_it : Behind (has_marked l end)
    ends_it = record {
      world = later;
      events = machine.ends (length in_front) ∷ [];
      later = stand_all;
      effect = idle;
      goes = ended in_front in_back (Some l) asked refl parted.are_all (end_finished end v runs_as.0)
          (rests refl refl refl);
      bounded = λ i c e. absurd cc;
      same_output = sym sets.prints_nothing;
      alike = end_alike;
    }

  from_marks : (l : ℕ) (end : End) (next : Stage) → Before (marks l end)
      → Follows p n s pick d (marks l end) next → Behind next
  from_marks l end (has_marked i other) all h =
      let c = serves_it p n m o k g w first stage xs ys path rest now s t pick d (marks l end) all in
      let r = c.0 in
      subst (λ z. Behind (has_marked z other)) (sym h.0)
      (subst (λ z. Behind (has_marked l z)) (sym h.1)
      (ends_it l end all h.2 r.0 r.1 r.2 r.3 r.5 c.1
      (split r.0 (thread (Some l) (going r.1 r.2)) now r.3)))
  from_marks l end _ all h = absurd h

  -- ---- all of them
  pub serves_on : (old next : Stage) → Before old → Follows p n s pick d old next
      → Stands n next → IsCalm old → IsOwnPick p n old next → Behind next
  serves_on called next all f b c own =
      from_called p n m o k g w first stage xs ys path rest now s t pick d next all f
  serves_on asking next all f b c own =
      from_asking p n m o k g w first stage xs ys path rest now s t pick d next all f
  serves_on (trying form) next all f b c own =
      from_trying p n m o k g known w first stage xs ys path rest now s t pick d form next all f b
  serves_on (got v) next all f b c own =
      from_got p n m o k g w first stage xs ys path rest now s t pick d v next all f
  serves_on (refused v) next all f b c own = absurd c
  serves_on (looking v) next all f b c own =
      from_looking p n m o k g w first stage xs ys path rest now s t pick d v next all f
  serves_on (sent l) next all f b c own =
      from_sent p n m o k g w first stage xs ys path rest now s t pick d l next all f
  serves_on (reads l) next all f b c own = from_reads l next all f
  serves_on (runs l u) next all f b c own =
      from_runs p n m o k g w first stage xs ys path rest now s t pick d l u next all f own
  serves_on (caught l v) next all f b c own =
      from_caught p n m o k g w first stage xs ys path rest now s t pick d l v next all f
  serves_on (lost v) next all f b c own = absurd c
  serves_on (keeps l end) next all f b c own =
      from_keeps p n m o k g known w first stage xs ys path rest now s t pick d l end next all f
  serves_on (has_kept l end) next all f b c own =
      from_has_kept p n m o k g w first stage xs ys path rest now s t pick d l end next all f
  serves_on (marks l end) next all f b c own = from_marks l end next all f
  serves_on (has_marked l end) next all f b c own =
      from_has_marked p n m o k g w first stage xs ys path rest now s t pick d l end next all f
  serves_on stages.leaves next all f b c own =
      from_leaves p n m o k g w first stage xs ys path rest now s t pick d next all f
  serves_on (counts form) next all f b c own =
      from_counts p n m o k g known w first stage xs ys path rest now s t pick d form next all f b
  serves_on (done y) next all f b c own = no_more next f
    where
      no_more : (next : Stage) → Follows p n s pick d (done y) next → Behind next
      no_more _ h = absurd h

calm_of : (xs ys : List Leaf) (x : Leaf) → AllCalm (xs ++ x ∷ ys) → IsCalm x.stage
calm_of [] ys x h = h.0
calm_of (z ∷ xs) ys x h = calm_of xs ys x h.1

pub servers_go_on : ServersGoOn
servers_go_on p n m o k g known w first stage xs ys path old next rest now s t q d all f a b own
    fits =
    serves_on p n m o k g known w first stage xs ys path rest now s t q d fits old next all f b
    (calm_of xs ys (leaf path old) all.calm.1) own
