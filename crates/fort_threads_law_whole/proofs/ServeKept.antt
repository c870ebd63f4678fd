-- All goes on alike where one server goes on, and no thread does anything.
use Rattle.std.proofs.Common.{◌≡◌, ℕ, ◌+◌, ◌<◌, ◌≤◌, List, [], ◌∷◌, ◌++◌, length, Option, Some, refl, ap, sym, ◌∙◌, subst, arith, inl, inr, ◌⊎◌}
use Rattle.fort_core.specs.declared.program.Program.{Program}
use Rattle.fort_core.specs.declared.term.Term.{Term}
use Rattle.fort_core.specs.declared.value.Value.{Value}
use Rattle.fort_machine.specs.Cells.{untouched}
use Rattle.fort_machine.specs.Effects.{Store, Effect, idle, afterwards}
use Rattle.fort_machine.specs.Parts.{IsOneOf}
use Rattle.fort_threads.specs.Known.{Known}
use Rattle.fort_threads.specs.Machine.{rests}
use Rattle.fort_threads.specs.Objects.{NoneTwice}
use Rattle.fort_threads.specs.Threads.{Paths, Phase, new, going, Thread, thread}
use Rattle.fort_threads_law_servers.specs.Prelude.{Names}
use Rattle.fort_threads_law_servers.specs.Stages.{Stage}
use Rattle.fort_threads_law_servers.specs.Roots.{Start}
use Rattle.fort_threads_law_private.specs.Grounds.{Ground, Grows}
use Rattle.fort_threads_law_private.proofs.Growing.{grows_on}
use Rattle.fort_threads_law_worlds.specs.Worlds.{World, ground_of, FollowsAt}
use Rattle.fort_threads_law_worlds.specs.Known.{Own}
use Rattle.fort_threads_law_worlds.specs.Stores.{AreStores}
use Rattle.fort_threads_law_worlds.proofs.Following.{grounds_grow, follows_self}
use Rattle.fort_threads_law_trees.specs.Leaves.{Leaf, leaf, waiting, running, held, all_held, owes, is_free, owed_in, free_in, IsCalm}
use Rattle.fort_threads_law_whole.specs.Lists.{IsAt}
use Rattle.fort_threads_law_whole.specs.Roots.{GoAlike, GoesOnAlike}
use Rattle.fort_threads_law_whole.specs.Servers.{IsRunAs, IsKept, IsNew, ServesOne}
use Rattle.fort_threads_law_whole.proofs.ServeLists.{one_of_split, other_in, itself_in, calm_changed, serve_changed, still_once, owed_split, free_split}
use Rattle.fort_threads_law_whole.proofs.ServeFollows.{far, Stay, run_follows, serve_follows, first_follows}

-- no event, where all goes on alike
pub no_event : {p : Program} {n : Names} {m : Start} {o : Own} {k : Known} {g : Ground} {first : ℕ}
    {stage : Stage} {servers : List Leaf} {rest : ℕ} {now : List Thread} {s t : Store} {d : Effect}
    (w : World) → d.output ≡ [] → GoAlike p n m o g w first stage servers rest now (afterwards d s) t
    → GoesOnAlike p n m o k g first stage servers rest now s t d
no_event {now = now} w e h = record {
  world = w;
  events = [];
  later = now;
  effect = idle;
  goes = rests refl refl refl;
  bounded = λ l v q. absurd cc;
  same_output = sym e;
  alike = h;
}

module _ (p : Program) (n : Names) (m : Start) (o : Own) (g : Ground) (w x : World) (first : ℕ)
    (stage : Stage) (xs ys : List Leaf) (path : List ℕ) (old next : Stage) (rest : ℕ)
    (now : List Thread) (s q t : Store)
    (all : GoAlike p n m o g w first stage (xs ++ leaf path old ∷ ys) rest now s t)
    (fol : FollowsAt far w x) (same_spawned : x.spawned ≡ w.spawned)
    (stores : AreStores p n m x now q t) (none : w.unended ≡ 0 → x.unended ≡ 0)
    (firsts : (place : ℕ) → place < 4 → q (first + place) ≡ s (first + place))
    (calm : IsCalm next) (serves : ServesOne p n m o x now next) (kept : IsKept q next)
    (others : (y : Leaf) → IsOneOf y xs ⊎ IsOneOf y ys
    → ServesOne p n m o w now y.stage → IsKept s y.stage → IsKept q y.stage)
    (queue : (l : ℕ) → IsOneOf l x.queue → IsOneOf l w.queue)
    (once : NoneTwice (x.queue ++ all_held (xs ++ leaf path next ∷ ys)))
    (new_move : (l : ℕ) → IsOneOf l w.queue → IsOneOf l x.queue ⊎ IsOneOf l (waiting next))
    (wait_move : (l : ℕ) → IsOneOf l (waiting old) → IsOneOf l (waiting next))
    (run_move : (number : ℕ) (v : Term) (asked : Paths) (l : ℕ) → IsOneOf l (running old)
    → IsRunAs p n m o w number asked v old
    → IsOneOf l (running next) × IsRunAs p n m o x number asked v next)
    (owed : x.unended ≡ owes stage + (length x.queue + owed_in (xs ++ leaf path next ∷ ys)))
    (free : (x.unended ≡ 0)
    ⊎ (free_in (xs ++ leaf path next ∷ ys) + rest + x.spawned ≡ 64 + length x.queue)) where
  abbrev were : List Leaf
  were = xs ++ leaf path old ∷ ys

  abbrev are : List Leaf
  are = xs ++ leaf path next ∷ ys

  data Was (y : Leaf) : Type 0 where
    it : y ≡ leaf path old → Was y
    other : IsOneOf y xs ⊎ IsOneOf y ys → Was y

  was : (y : Leaf) → IsOneOf y were → Was y
  was y i = go (one_of_split xs ys (leaf path old) y i)
    where
      go : (y ≡ leaf path old) ⊎ (IsOneOf y xs ⊎ IsOneOf y ys) → Was y
      go (inl e) = it e
      go (inr j) = other j

  new_ones : (number l : ℕ) (f : Value) → IsAt number (thread (Some l) (new f)) now
      → IsOneOf l x.queue ⊎ ((y : Leaf) × IsOneOf y are × IsOneOf l (waiting y.stage))
  new_ones number l f at = go (all.new_ones number l f at)
    where
      moved : IsOneOf l x.queue ⊎ IsOneOf l (waiting next)
          → IsOneOf l x.queue ⊎ ((y : Leaf) × IsOneOf y are × IsOneOf l (waiting y.stage))
      moved (inl i) = inl i
      moved (inr i) = inr (leaf path next, itself_in xs ys (leaf path next), i)

      by : (y : Leaf) → Was y → IsOneOf l (waiting y.stage)
          → IsOneOf l x.queue ⊎ ((y : Leaf) × IsOneOf y are × IsOneOf l (waiting y.stage))
      by y (it e) i =
          inr (
            leaf path next,
            itself_in xs ys (leaf path next),
            wait_move l (subst (λ (z : Leaf). IsOneOf l (waiting z.stage)) e i),
          )
      by y (other j) i = inr (y, other_in xs ys (leaf path next) y j, i)

      go : IsOneOf l w.queue ⊎ ((y : Leaf) × IsOneOf y were × IsOneOf l (waiting y.stage))
          → IsOneOf l x.queue ⊎ ((y : Leaf) × IsOneOf y are × IsOneOf l (waiting y.stage))
      go (inl i) = moved (new_move l i)
      go (inr h) = by h.0 (was h.0 h.1) h.2

  going_ones : (number l : ℕ) (v : Term) (asked : Paths)
      → IsAt number (thread (Some l) (going v asked)) now
      → (y : Leaf) × IsOneOf y are × IsOneOf l (running y.stage)
      × IsRunAs p n m o x number asked v y.stage
  going_ones number l v asked at = go (all.going_ones number l v asked at)
    where
      by : (y : Leaf) → Was y → IsOneOf l (running y.stage)
          → IsRunAs p n m o w number asked v y.stage
          → (y : Leaf) × IsOneOf y are × IsOneOf l (running y.stage)
          × IsRunAs p n m o x number asked v y.stage
      by y (it e) i h =
          let r = run_move number v asked l
          (subst (λ (z : Leaf). IsOneOf l (running z.stage)) e i)
          (subst (λ (z : Leaf). IsRunAs p n m o w number asked v z.stage) e h) in
          (leaf path next, itself_in xs ys (leaf path next), r.0, r.1)
      by y (other j) i h =
          (y, other_in xs ys (leaf path next) y j, i, run_follows fol p n m o number asked v y.stage h)

      go : (y : Leaf) × IsOneOf y were × IsOneOf l (running y.stage)
          × IsRunAs p n m o w number asked v y.stage
          → (y : Leaf) × IsOneOf y are × IsOneOf l (running y.stage)
          × IsRunAs p n m o x number asked v y.stage
      go h = by h.0 (was h.0 h.1) h.2 h.3

  pub goes_alike : GoAlike p n m o g x first stage are rest now q t
  goes_alike = record {
    grown = grows_on all.grown (grounds_grow fol);
    stores = stores;
    phase = all.phase;
    others = all.others;
    are_all = all.are_all;
    is_first = first_follows fol p n m o s q first same_spawned firsts all.phase stage all.is_first;
    first_lasts = λ place j.
        let h = all.first_lasts place j in
        (fol.lasting (first + place) ∙ h.0, (h.1.0, firsts place j ∙ h.1.1));
    calm = (all.calm.0, calm_changed xs ys (leaf path old) (leaf path next) calm all.calm.1);
    serve = serve_changed p n m o w x now now s q xs ys (leaf path old) (leaf path next)
        (λ y i h. (
          serve_follows fol p n m o now now y.stage none (λ l j number phase at. at) h.0,
          others y i h.0 h.1,
        ))
        serves kept all.serve;
    queue_new = λ l i. all.queue_new l (queue l i);
    held_once = once;
    objects_apart = all.objects_apart;
    new_ones = new_ones;
    going_ones = going_ones;
    no_other_first = all.no_other_first;
    owed = owed;
    free = free;
  }

-- the same, where the server holds what it held, and nothing is written
pub quiet_alike : (p : Program) (n : Names) (m : Start) (o : Own) (g : Ground) (w : World)
    (first : ℕ) (stage : Stage) (xs ys : List Leaf) (path : List ℕ) (old next : Stage) (rest : ℕ)
    (now : List Thread) (s q t : Store)
    → GoAlike p n m o g w first stage (xs ++ leaf path old ∷ ys) rest now s t
    → q ≡ s → waiting next ≡ waiting old → running next ≡ running old → owes next ≡ owes old
    → is_free next ≡ is_free old → IsCalm next → ServesOne p n m o w now next → IsKept s next
    → ((number : ℕ) (v : Term) (asked : Paths) → IsRunAs p n m o w number asked v old
    → IsRunAs p n m o w number asked v next)
    → GoAlike p n m o g w first stage (xs ++ leaf path next ∷ ys) rest now q t
quiet_alike p n m o g w first stage xs ys path old next rest now s q t all same wait run owe free calm serves kept move =
    subst (λ y. GoAlike p n m o g w first stage (xs ++ leaf path next ∷ ys) rest now y t) (sym same)
    (goes_alike p n m o g w w first stage xs ys path old next rest now s s t all (follows_self far w) refl all.stores (λ e. e) (λ place j. refl) calm serves kept
    (λ y i r h. h) (λ l i. i)
    (still_once w.queue xs ys (leaf path old) (leaf path next) (λ i. wait i ++ run i) all.held_once)
    (λ l i. inl i) (λ l i. subst (IsOneOf l) (sym wait) i)
    (λ number v asked l i h. (subst (IsOneOf l) (sym run) i, move number v asked h))
    (all.owed ∙ ap (λ k. owes stage + (length w.queue + k)) owed_same) (free_same all.free))
  where
    owed_same : owed_in (xs ++ leaf path old ∷ ys) ≡ owed_in (xs ++ leaf path next ∷ ys)
    owed_same =
        owed_split xs ys (leaf path old) ∙ ap (λ k. k + (owed_in xs + owed_in ys)) (sym owe)
        ∙ sym (owed_split xs ys (leaf path next))

    frees : free_in (xs ++ leaf path next ∷ ys) ≡ free_in (xs ++ leaf path old ∷ ys)
    frees =
        free_split xs ys (leaf path next) ∙ ap (λ k. k + (free_in xs + free_in ys)) free
        ∙ sym (free_split xs ys (leaf path old))

    free_same : (w.unended ≡ 0)
        ⊎ (free_in (xs ++ leaf path old ∷ ys) + rest + w.spawned ≡ 64 + length w.queue)
        → (w.unended ≡ 0)
        ⊎ (free_in (xs ++ leaf path next ∷ ys) + rest + w.spawned ≡ 64 + length w.queue)
    free_same (inl e) = inl e
    free_same (inr e) = inr (ap (λ k. k + rest + w.spawned) frees ∙ e)
