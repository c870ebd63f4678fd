-- Other servers in their places: one is called, some that are done are left.
use Rattle.std.proofs.Common.{◌≡◌, ℕ, suc, ◌+◌, ◌<◌, arith, List, [], ◌∷◌, ◌++◌, length, Option, Some, refl, ap, sym, ◌∙◌, subst, append_assoc, append-nil, inl, inr, ◌⊎◌}
use Rattle.std.specs.List.{sum_by}
use Rattle.std.proofs.lemmas.List.Sums.{sum-map, sum_by-append}
use Rattle.fort_core.specs.declared.program.Program.{Program}
use Rattle.fort_core.specs.declared.term.Term.{Term}
use Rattle.fort_machine.specs.Effects.{Store}
use Rattle.fort_machine.specs.Parts.{IsOneOf}
use Rattle.fort_threads.specs.Objects.{NoneTwice}
use Rattle.fort_threads.specs.Threads.{Thread}
use Rattle.fort_threads_law_servers.specs.Prelude.{Names}
use Rattle.fort_threads_law_servers.specs.Stages.{Stage, called, done}
use Rattle.fort_threads_law_servers.specs.Roots.{Start}
use Rattle.fort_threads_law_private.specs.Grounds.{Ground}
use Rattle.fort_threads_law_worlds.specs.Worlds.{World}
use Rattle.fort_threads_law_worlds.specs.Known.{Own}
use Rattle.fort_threads_law_trees.specs.Changes.{AreDone}
use Rattle.fort_threads_law_trees.specs.Leaves.{Leaf, leaf, waiting, running, held, all_held, is_free, owes, free_in, owed_in, IsCalm}
use Rattle.fort_threads_law_trees.proofs.Leaving.{one_of, in_front, in_back}
use Rattle.fort_threads_law_whole.specs.Servers.{AllServeOne, ServesOne, IsKept}
use Rattle.fort_threads_law_whole.specs.Roots.{AllCalm, GoAlike}

pub held_append : (xs ys : List Leaf) → all_held (xs ++ ys) ≡ all_held xs ++ all_held ys
held_append [] ys = refl
held_append (x ∷ xs) ys =
    ap (λ ls. held x.stage ++ ls) (held_append xs ys)
    ∙ sym (append_assoc (held x.stage) (all_held xs) (all_held ys))

pub free_append : (xs ys : List Leaf) → free_in (xs ++ ys) ≡ free_in xs + free_in ys
free_append xs ys =
    let f = λ (x : Leaf). is_free x.stage in
    sum-map f (xs ++ ys) ∙ sum_by-append f xs ys
    ∙ ap (λ k. k + sum_by f ys) (sym (sum-map f xs))
    ∙ ap (λ k. free_in xs + k) (sym (sum-map f ys))

pub owed_append : (xs ys : List Leaf) → owed_in (xs ++ ys) ≡ owed_in xs + owed_in ys
owed_append xs ys =
    let f = λ (x : Leaf). owes x.stage in
    sum-map f (xs ++ ys) ∙ sum_by-append f xs ys
    ∙ ap (λ k. k + sum_by f ys) (sym (sum-map f xs))
    ∙ ap (λ k. owed_in xs + k) (sym (sum-map f ys))

pub calm_front : (xs ys : List Leaf) → AllCalm (xs ++ ys) → AllCalm xs × AllCalm ys
calm_front [] ys h = (tt, h)
calm_front (x ∷ xs) ys h = let i = calm_front xs ys h.1 in ((h.0, i.0), i.1)

pub calm_both : (xs ys : List Leaf) → AllCalm xs → AllCalm ys → AllCalm (xs ++ ys)
calm_both [] ys h k = k
calm_both (x ∷ xs) ys h k = (h.0, calm_both xs ys h.1 k)

module _ (p : Program) (n : Names) (m : Start) (o : Own) (w : World) (now : List Thread)
    (s : Store) where
  pub serve_front : (xs ys : List Leaf) → AllServeOne p n m o w now s (xs ++ ys)
      → AllServeOne p n m o w now s xs × AllServeOne p n m o w now s ys
  serve_front [] ys h = (tt, h)
  serve_front (x ∷ xs) ys h = let i = serve_front xs ys h.2 in ((h.0, h.1, i.0), i.1)

  pub serve_both : (xs ys : List Leaf) → AllServeOne p n m o w now s xs
      → AllServeOne p n m o w now s ys → AllServeOne p n m o w now s (xs ++ ys)
  serve_both [] ys h k = k
  serve_both (x ∷ xs) ys h k = (h.0, h.1, serve_both xs ys h.2 k)

-- of servers that hold the same, owe as much, and are as many that are free, each says the same
pub others_serve : {p : Program} {n : Names} {m : Start} {o : Own} {g : Ground} {w : World}
    {first : ℕ} {stage : Stage} {rest : ℕ} {now : List Thread} {s t : Store}
    (old next : List Leaf) (later : ℕ)
    → AllCalm next → AllServeOne p n m o w now s next → all_held next ≡ all_held old
    → owed_in next ≡ owed_in old → free_in next + later ≡ free_in old + rest
    → ((x : Leaf) (l : ℕ) → IsOneOf x old → IsOneOf l (held x.stage) → IsOneOf x next)
    → GoAlike p n m o g w first stage old rest now s t
    → GoAlike p n m o g w first stage next later now s t
others_serve {w = w} {stage = stage} {rest = rest} old next later calm serve helds owed free stays h =
    record {
      grown = h.grown;
      stores = h.stores;
      phase = h.phase;
      others = h.others;
      are_all = h.are_all;
      is_first = h.is_first;
      first_lasts = h.first_lasts;
      queue_new = h.queue_new;
      objects_apart = h.objects_apart;
      no_other_first = h.no_other_first;
      calm = (h.calm.0, calm);
      serve = serve;
      held_once = subst (λ ls. NoneTwice (w.queue ++ ls)) (sym helds) h.held_once;
      new_ones = λ i l f e. new_one (h.new_ones i l f e);
      going_ones = λ i l v asked e. let x = h.going_ones i l v asked e in
          (x.0, stays x.0 l x.1 (in_back l (waiting x.0.stage) (running x.0.stage) x.2), x.2, x.3);
      owed = h.owed ∙ ap (λ k. owes stage + (length w.queue + k)) (sym owed);
      free = as_many h.free;
    }
  where
    new_one : {l : ℕ} → IsOneOf l w.queue
        ⊎ ((x : Leaf) × IsOneOf x old × IsOneOf l (waiting x.stage))
        → IsOneOf l w.queue ⊎ ((x : Leaf) × IsOneOf x next × IsOneOf l (waiting x.stage))
    new_one (inl i) = inl i
    new_one {l = l} (inr x) =
        inr (x.0, stays x.0 l x.1 (in_front l (waiting x.0.stage) (running x.0.stage) x.2), x.2)

    as_many : (w.unended ≡ 0) ⊎ (free_in old + rest + w.spawned ≡ 64 + length w.queue)
        → (w.unended ≡ 0) ⊎ (free_in next + later + w.spawned ≡ 64 + length w.queue)
    as_many (inl e) = inl e
    as_many (inr e) = inr (ap (λ k. k + w.spawned) free ∙ e)

module _ {p : Program} {n : Names} {m : Start} {o : Own} {g : Ground} {w : World} {first : ℕ}
    {stage : Stage} {now : List Thread} {s t : Store} where
  -- a server is called
  pub one_called : (xs ys : List Leaf) (path : List ℕ) (rest : ℕ)
      → GoAlike p n m o g w first stage (xs ++ ys) (suc rest) now s t
      → GoAlike p n m o g w first stage (xs ++ leaf path called ∷ ys) rest now s t
  one_called xs ys path rest h =
      let c = calm_front xs ys h.calm.1 in
      let v = serve_front p n m o w now s xs ys h.serve in
      let a = free_append xs ys in
      let b = free_append xs (leaf path called ∷ ys) in
      let d = free_append (leaf path called ∷ []) ys in
      let o1 = owed_append xs ys in
      let o2 = owed_append xs (leaf path called ∷ ys) in
      let o3 = owed_append (leaf path called ∷ []) ys in
      others_serve (xs ++ ys) (xs ++ leaf path called ∷ ys) rest
      (calm_both xs (leaf path called ∷ ys) c.0 (tt, c.1))
      (serve_both p n m o w now s xs (leaf path called ∷ ys) v.0 (tt, tt, v.1))
      (held_append xs (leaf path called ∷ ys) ∙ sym (held_append xs ys))
      (let z : owed_in (xs ++ leaf path called ∷ ys) ≡ owed_in (xs ++ ys) =
      omega (arith, o1, o2, o3) in z)
      (let z : free_in (xs ++ leaf path called ∷ ys) + rest ≡ free_in (xs ++ ys) + suc rest =
      omega (arith, a, b, d) in z)
      (λ x l i j. stays x (one_of x xs ys i)) h
    where
      stays : (x : Leaf) → IsOneOf x xs ⊎ IsOneOf x ys → IsOneOf x (xs ++ leaf path called ∷ ys)
      stays x (inl i) = in_front x xs (leaf path called ∷ ys) i
      stays x (inr i) = in_back x xs (leaf path called ∷ ys) (inr i)

-- who is done holds nothing, owes nothing and isn't free
pub done_held : (xs : List Leaf) → AreDone xs → all_held xs ≡ []
done_held [] h = refl
done_held (x ∷ xs) h = ap (λ y. held y ++ all_held xs) h.0.1 ∙ done_held xs h.1

pub done_owed : (xs : List Leaf) → AreDone xs → owed_in xs ≡ 0
done_owed [] h = refl
done_owed (x ∷ xs) h =
    let a = owed_append (x ∷ []) xs in
    let b : owes x.stage ≡ 0 = ap owes h.0.1 in
    let c = done_owed xs h.1 in
    let r : owed_in (x ∷ xs) ≡ 0 = omega (arith, a, b, c) in r

pub done_free : (xs : List Leaf) → AreDone xs → free_in xs ≡ 0
done_free [] h = refl
done_free (x ∷ xs) h =
    let a = free_append (x ∷ []) xs in
    let b : is_free x.stage ≡ 0 = ap is_free h.0.1 in
    let c = done_free xs h.1 in
    let r : free_in (x ∷ xs) ≡ 0 = omega (arith, a, b, c) in r

pub done_none : (xs : List Leaf) → AreDone xs → (x : Leaf) (l : ℕ) → IsOneOf x xs
    → IsOneOf l (held x.stage) → ⊥
done_none (y ∷ ys) h x l (inl e) i =
    subst (λ z. IsOneOf l (held z)) (ap (λ (u : Leaf). u.stage) e ∙ h.0.1) i
done_none (y ∷ ys) h x l (inr j) i = done_none ys h.1 x l j i
done_none [] h x l j i = j

module _ {p : Program} {n : Names} {m : Start} {o : Own} {g : Ground} {w : World} {first : ℕ}
    {stage : Stage} {now : List Thread} {s t : Store} where
  -- some that are done are left
  pub some_left : (xs gone ys : List Leaf) (rest : ℕ) → AreDone gone
      → GoAlike p n m o g w first stage (xs ++ (gone ++ ys)) rest now s t
      → GoAlike p n m o g w first stage (xs ++ ys) rest now s t
  some_left xs gone ys rest are h =
      let c = calm_front xs (gone ++ ys) h.calm.1 in
      let c2 = calm_front gone ys c.1 in
      let v = serve_front p n m o w now s xs (gone ++ ys) h.serve in
      let v2 = serve_front p n m o w now s gone ys v.1 in
      let o1 = owed_append xs ys in
      let o2 = owed_append xs (gone ++ ys) in
      let o3 = owed_append gone ys in
      let o4 = done_owed gone are in
      let f1 = free_append xs ys in
      let f2 = free_append xs (gone ++ ys) in
      let f3 = free_append gone ys in
      let f4 = done_free gone are in
      others_serve (xs ++ (gone ++ ys)) (xs ++ ys) rest (calm_both xs ys c.0 c2.1)
      (serve_both p n m o w now s xs ys v.0 v2.1)
      (held_append xs ys ∙ ap (λ ls. all_held xs ++ ls)
      (sym (held_append gone ys ∙ ap (λ ls. ls ++ all_held ys) (done_held gone are)))
      ∙ sym (held_append xs (gone ++ ys)))
      (let z : owed_in (xs ++ ys) ≡ owed_in (xs ++ (gone ++ ys)) =
      omega (arith, o1, o2, o3, o4) in z)
      (let z : free_in (xs ++ ys) + rest ≡ free_in (xs ++ (gone ++ ys)) + rest =
      omega (arith, f1, f2, f3, f4) in z)
      (λ x l i j. stays x l (one_of x xs (gone ++ ys) i) j) h
    where
      stays : (x : Leaf) (l : ℕ) → IsOneOf x xs ⊎ IsOneOf x (gone ++ ys)
          → IsOneOf l (held x.stage) → IsOneOf x (xs ++ ys)
      stays x l (inl i) j = in_front x xs ys i
      stays x l (inr i) j = behind (one_of x gone ys i)
        where
          behind : IsOneOf x gone ⊎ IsOneOf x ys → IsOneOf x (xs ++ ys)
          behind (inl k) = absurd (done_none gone are x l k j)
          behind (inr k) = in_back x xs ys k
