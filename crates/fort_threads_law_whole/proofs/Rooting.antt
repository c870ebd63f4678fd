-- Each pick of the root, from where all goes on alike.
use Rattle.std.proofs.Common.{◌≡◌, ℕ, ◌+◌, Bool, true, false, List, [], ◌∷◌, ◌++◌, Option, Some, None, refl, ap, suc, sym, ◌∙◌, subst, inl, inr, ◌⊎◌}
use Rattle.fort_core.specs.declared.pick.Pick.{Pick}
use Rattle.fort_core.specs.declared.program.Program.{Program}
use Rattle.fort_core.specs.declared.term.Term.{Term, Throw}
use Rattle.fort_core.specs.declared.term.Term as term
use Rattle.fort_core.specs.declared.value.Value.{Value}
use Rattle.fort_machine.specs.Attempts.{goes}
use Rattle.fort_machine.specs.Effects.{Store, Effect, idle, paid, FitsAll, afterwards}
use Rattle.fort_machine.specs.Ends.{open_yet, standing, throw_of}
use Rattle.fort_machine.specs.Frames.{Frame, plug}
use Rattle.fort_machine.specs.Journals.{MakesWithinBounds}
use Rattle.fort_machine.specs.Parts.{IsOneOf}
use Rattle.fort_machine.specs.Proper.{Reached}
use Rattle.fort_machine.specs.Runs.{Runs}
use Rattle.fort_machine.specs.Threads.{under}
use Rattle.fort_machine.specs.Types.{has_type}
use Rattle.fort_machine.proofs.Runs.{plug_append}
use Rattle.fort_threads.specs.Known.{Known}
use Rattle.fort_threads.specs.Machine.{Goes, rests}
use Rattle.fort_threads.specs.Threads.{Thread}
use Rattle.fort_threads_law_servers.specs.Prelude.{Names, HasPrelude}
use Rattle.fort_threads_law_servers.specs.Stages.{Stage, runs, called, term_at, Stands, Follows}
use Rattle.fort_threads_law_servers.specs.Roots.{Start, Served, root_term, all}
use Rattle.fort_threads_law_servers.specs.Trees.{Tree, unread, undivided, server, halves, over, tree_term, AllServe, Grows, IsOver, are_values, first_threw, second_threw}
use Rattle.fort_threads_law_private.specs.Grounds.{Ground}
use Rattle.fort_threads_law_worlds.specs.Worlds.{World}
use Rattle.fort_threads_law_worlds.specs.Known.{Own}
use Rattle.fort_threads_law_runs.specs.Premises.{ThrowsFinely, IsThreaded}
use Rattle.fort_threads_law_runs.proofs.Bounded.{bounded_idle}
use Rattle.fort_threads_law_trees.specs.Changes.{Changes, quietly, calls, goes as goes_one, leaves_done}
use Rattle.fort_threads_law_trees.specs.Leaves.{Leaf, leaf, leaves, yet, IsCalm, AreCalm}
use Rattle.fort_threads_law_trees.proofs.Leaving.{one_of, in_back}
use Rattle.fort_threads_law_trees.proofs.Lifting.{Part, part_in, first_part, tree_part, leaf_part, run_part}
use Rattle.fort_threads_law_trees.proofs.Changing.{each_pick_changes, calm_throw, unmarked_throw, under_twice}
use Rattle.fort_threads_law_whole.specs.Roots.{AllCalm, GoAlike, GoesOnAlike}
use Rattle.fort_threads_law_whole.specs.Early.{IsBeginning}
use Rattle.fort_threads_law_whole.specs.Picks.{IsOwnPick, ServersGoOn, FirstGoesOn, IsThreadPick, ThreadsGoOn, FirstThreadGoesOn, ThreadsMayGo, FirstMayGo}
use Rattle.fort_threads_law_whole.proofs.Leaving.{calm_front, calm_both, one_called, some_left}

-- ---- a tree that a pick leads to is calm where its servers are

pub calm_grows : (p : Program) (n : Names) (s : Store) (pick : Pick) (d : Effect) (base : List ℕ)
    (before after : Tree) → AllServe p n before → AreCalm before → Grows p n s pick d before after
    → AllCalm (leaves base after) → AreCalm after
calm_grows p n s pick d base unread (undivided items) h c g k = tt
calm_grows p n s pick d base unread _ h c g k = absurd g
calm_grows p n s pick d base (undivided items) (over t) h c g k = (_, g.1)
calm_grows p n s pick d base (undivided items) (server stage) h c g k = k.0
calm_grows p n s pick d base (undivided items) (halves m a l b) h c g k =
    (subst AreCalm (sym g.4) tt, subst AreCalm (sym g.6) tt)
calm_grows p n s pick d base (undivided items) _ h c g k = absurd g
calm_grows p n s pick d base (server stage) (server next) h c g k = k.0
calm_grows p n s pick d base (server stage) _ h c g k = absurd g
calm_grows p n s pick d base (halves m a l b) (halves m' a' l' b') h c (inl g) k =
    let i = calm_front (leaves (base ++ 0 ∷ []) a') (leaves (base ++ 1 ∷ []) b') k in
    (calm_grows p n s g.0 d (base ++ 0 ∷ []) a a' h.0 c.0 g.2 i.0, subst AreCalm (sym g.5) c.1)
calm_grows p n s pick d base (halves m a l b) (halves m' a' l' b') h c (inr g) k =
    let i = calm_front (leaves (base ++ 0 ∷ []) a') (leaves (base ++ 1 ∷ []) b') k in
    (subst AreCalm (sym g.4) c.0, calm_grows p n s g.0 d (base ++ 1 ∷ []) b b' h.1 c.1 g.2 i.1)
calm_grows p n s pick d base (halves m a l b) (over t) h c g k = by_over g.0
  where
    by_over : IsOver (Rattle.fort_threads_law_servers.specs.Trees.with_step m (tree_term n a))
        (Rattle.fort_threads_law_servers.specs.Trees.with_step l (tree_term n b)) t
        → (v : Value) × (t ≡ term.Value v)
    by_over (are_values x y e f q) = (_, q)
    by_over (first_threw x y e q) =
        absurd (calm_throw p n a x h.0 c.0 (unmarked_throw m (tree_term n a) x e))
    by_over (second_threw x y e q) =
        absurd (calm_throw p n b x h.1 c.1 (unmarked_throw l (tree_term n b) x e))
calm_grows p n s pick d base (halves m a l b) _ h c g k = absurd g
calm_grows p n s pick d base (over t) _ h c g k = absurd g

-- each server of a tree has what there is to its stage
pub leaf_stands : (p : Program) (n : Names) (base : List ℕ) (tree : Tree) → AllServe p n tree
    → (x : Leaf) → IsOneOf x (leaves base tree) → Stands n x.stage
leaf_stands p n base unread h x i = absurd i
leaf_stands p n base (undivided items) h x i = absurd i
leaf_stands p n base (server stage) h x (inl e) =
    subst (Stands n) (ap (λ (y : Leaf). y.stage) (sym e)) h.0
leaf_stands p n base (server stage) h x (inr i) = absurd i
leaf_stands p n base (halves m a l b) h x i =
    go (leaf_stands p n (base ++ 0 ∷ []) a h.0 x) (leaf_stands p n (base ++ 1 ∷ []) b h.1 x)
    (one_of x (leaves (base ++ 0 ∷ []) a) (leaves (base ++ 1 ∷ []) b) i)
  where
    go : (IsOneOf x (leaves (base ++ 0 ∷ []) a) → Stands n x.stage)
        → (IsOneOf x (leaves (base ++ 1 ∷ []) b) → Stands n x.stage)
        → IsOneOf x (leaves (base ++ 0 ∷ []) a) ⊎ IsOneOf x (leaves (base ++ 1 ∷ []) b)
        → Stands n x.stage
    go one two (inl j) = one j
    go one two (inr j) = two j
leaf_stands p n base (over t) h x i = absurd i

-- ---- stages

pub runs_or_not : (stage : Stage)
    → ((l : ℕ) × (u : Term) × (stage ≡ runs l u)) ⊎ ((l : ℕ) (u : Term) → stage ≡ runs l u → ⊥)
runs_or_not (runs l u) = inl (l, u, refl)
runs_or_not _ = inr (λ l u e. cc)

-- what holds of throws in a whole holds in a part
part_finely : (n : Names) (m : Start) (o : Own) (t b : Term) (fs : List Frame) → t ≡ plug fs b
    → ThrowsFinely n m o t → ThrowsFinely n m o b
part_finely n m o t b fs e f gs a q z =
    f (fs ++ gs) a (e ∙ ap (plug fs) q ∙ sym (plug_append fs gs (Throw a))) z

-- the laws of single picks
pub record PickLaws : Type 0 where
  pub servers : ServersGoOn
  pub first : FirstGoesOn
  pub threads : ThreadsGoOn
  pub first_thread : FirstThreadGoesOn
  pub may : ThreadsMayGo
  pub first_may : FirstMayGo

module _ (laws : PickLaws) (p : Program) (n : Names) (m : Start) (o : Own) (k : Known) (g : Ground)
    (is : IsThreaded p n m o k g) (begins : IsBeginning p n m k g) where
  -- the thread that is run, as a part of the whole
  thread_part : (l : ℕ) (a b : Bool) (stage : Stage) (tree : Tree) (at : List ℕ) (i : ℕ) (u : Term)
      → Served p n (all l a stage b tree) → IsCalm stage → AreCalm tree
      → IsOneOf (leaf at (runs i u)) (leaves [] tree)
      → (fs : List Frame) × (root_term n m (all l a stage b tree) ≡ plug fs u)
  thread_part l a b stage tree at i u h c cs j =
      let r = leaf_part p n [] tree h.2 cs (leaf at (runs i u)) j in
      let x = part_in (root_term n m (all l a stage b tree)) (tree_term n tree) (term_at n (runs i u))
      (1 ∷ []) r.0 (tree_part p n m l a b stage tree h c cs) r.2 in
      let y = part_in (root_term n m (all l a stage b tree)) (term_at n (runs i u)) u (1 ∷ r.0) [] x
      (run_part n i u) in (y.frames, y.is_part)

  go_part : (l : ℕ) (a b : Bool) (stage : Stage) (tree : Tree) (i : ℕ) (u : Term)
      → Served p n (all l a stage b tree) → IsCalm stage → AreCalm tree → stage ≡ runs i u
      → (fs : List Frame) × (root_term n m (all l a stage b tree) ≡ plug fs u)
  go_part l a b stage tree i u h c cs e =
      let y = part_in (root_term n m (all l a stage b tree)) (term_at n stage) u (0 ∷ []) []
      (first_part p n m l a b stage tree h c cs)
      (subst (λ x. Part (term_at n x) [] u) (sym e) (run_part n i u)) in (y.frames, y.is_part)

  -- a pick while all goes on, as it stands in the root's run
  pub record AllPick (first : ℕ) (a b : Bool) (stage : Stage) (tree : Tree) (a' b' : Bool)
      (next : Stage) (grown : Tree) (s : Store) (pick : Pick) (d : Effect) : Type 0 where
    pub served : Served p n (all first a stage b tree)
    pub calm : AreCalm tree
    pub served_next : Served p n (all first a' next b' grown)
    pub run : Runs p false true s (pick ∷ []) (root_term n m (all first a stage b tree))
        (goes (root_term n m (all first a' next b' grown))) d
    pub fits : FitsAll d s
    pub bounded : MakesWithinBounds d
    pub reached : Reached p false s (root_term n m (all first a stage b tree))

  module _ (w : World) (first : ℕ) (a b : Bool) (stage : Stage) (tree : Tree) (a' b' : Bool)
      (now : List Thread) (s t : Store) where
    -- one server goes on
    module _ (grown : Tree) (q : Pick) (d : Effect)
        (h : GoAlike p n m o g w first stage (leaves [] tree) (yet tree) now s t)
        (is_pick : AllPick first a b stage tree a' b' stage grown s (under (1 ∷ []) q) d)
        (grows : Grows p n s q d tree grown)
        (xs ys : List Leaf) (path : List ℕ) (old next : Stage) (r : Pick)
        (e1 : leaves [] tree ≡ xs ++ leaf path old ∷ ys)
        (e2 : leaves [] grown ≡ xs ++ leaf path next ∷ ys)
        (ep : q ≡ under path r) (follows : Follows p n s r d old next) where
      before_it : GoAlike p n m o g w first stage (xs ++ leaf path old ∷ ys) (yet tree) now s t
      before_it = subst (λ ls. GoAlike p n m o g w first stage ls (yet tree) now s t) e1 h

      stands_there : IsOneOf (leaf path old) (leaves [] tree)
      stands_there =
          subst (λ ls. IsOneOf (leaf path old) ls) (sym e1)
          (in_back (leaf path old) xs (leaf path old ∷ ys) (inl refl))

      stands_later : IsOneOf (leaf path next) (leaves [] grown)
      stands_later =
          subst (λ ls. IsOneOf (leaf path next) ls) (sym e2)
          (in_back (leaf path next) xs (leaf path next ∷ ys) (inl refl))

      own_pick : ((l : ℕ) (u v : Term) → old ≡ runs l u → next ≡ runs l v → ⊥)
          → GoesOnAlike p n m o k g first stage (xs ++ leaf path next ∷ ys) (yet tree) now s t d
      own_pick no_run =
          laws.servers p n m o k g is w first stage xs ys path old next (yet tree) now s t r d
          before_it follows
          (leaf_stands p n [] tree is_pick.served.2 (leaf path old) stands_there)
          (leaf_stands p n [] grown is_pick.served_next.2 (leaf path next) stands_later)
          (record {
            no_run = no_run;
            exceptions = λ l v e.
                let f = thread_part first a b stage tree path l (throw_of v) is_pick.served h.calm.0
                is_pick.calm
                (subst (λ x. IsOneOf (leaf path x) (leaves [] tree)) e stands_there) in
                begins.exceptions false s (root_term n m (all first a stage b tree))
                is_pick.reached f.0 v f.1;
          }) is_pick.fits

      thread_pick : (l : ℕ) (u : Term) (i : ℕ) (v : Term) → old ≡ runs l u → next ≡ runs i v
          → GoesOnAlike p n m o k g first stage (xs ++ leaf path next ∷ ys) (yet tree) now s t d
      thread_pick l u i v e f =
          let row : (i ≡ l) × Runs p false false s (r ∷ []) u (goes v) d =
          subst (λ x. Follows p n s r d x (runs i v)) e (subst (Follows p n s r d old) f follows) in
          let there = subst (λ x. IsOneOf (leaf path x) (leaves [] tree)) e stands_there in
          let later = subst (λ x. IsOneOf (leaf path x) (leaves [] grown)) f stands_later in
          let c = thread_part first a b stage tree path l u is_pick.served h.calm.0 is_pick.calm there
          in
          let front = calm_front xs (leaf path old ∷ ys) (subst AllCalm e1 h.calm.1) in
          let calm_later = calm_grows p n s q d [] tree grown is_pick.served.2 is_pick.calm grows
          (subst AllCalm (sym e2)
          (calm_both xs (leaf path next ∷ ys) front.0 (subst IsCalm (sym f) tt, front.1.1))) in
          let c2 = thread_part first a' b' stage grown path i v is_pick.served_next h.calm.0
          calm_later later in
          let z = laws.threads p n m o k g is w first stage xs ys path l u v (yet tree) now s t r d
          (subst (λ x. GoAlike p n m o g w first stage (xs ++ leaf path x ∷ ys) (yet tree) now s t) e
          before_it)
          (record {
            run = row.1;
            bounded = is_pick.bounded;
            round = c.0;
            reached = subst (Reached p false s) c.1 is_pick.reached;
            finely = part_finely n m o (root_term n m (all first a' stage b' grown)) v c2.0 c2.1
                (is.throws false (afterwards d s) (root_term n m (all first a' stage b' grown))
                (Reached.by_run is_pick.reached is_pick.run refl));
            may_go = laws.may p n m o k g is w first a b stage tree now s t l u
                (root_term n m (all first a' stage b' grown)) path r d h is_pick.served is_pick.calm
                there
                (subst (λ x. Runs p false true s (x ∷ []) (root_term n m (all first a stage b tree))
                (goes (root_term n m (all first a' stage b' grown))) d)
                (ap (under (1 ∷ [])) ep ∙ under_twice (1 ∷ []) path r) is_pick.run);
          }) in
          subst (λ x. GoesOnAlike p n m o k g first stage (xs ++ leaf path x ∷ ys) (yet tree) now s t d)
          (ap (λ j. runs j v) (sym row.0) ∙ sym f) z

      pub one_goes : GoesOnAlike p n m o k g first stage (xs ++ leaf path next ∷ ys) (yet tree) now s t d
      one_goes = go (runs_or_not old) (runs_or_not next)
        where
          go : ((l : ℕ) × (u : Term) × (old ≡ runs l u)) ⊎ ((l : ℕ) (u : Term) → old ≡ runs l u → ⊥)
              → ((l : ℕ) × (u : Term) × (next ≡ runs l u))
              ⊎ ((l : ℕ) (u : Term) → next ≡ runs l u → ⊥)
              → GoesOnAlike p n m o k g first stage (xs ++ leaf path next ∷ ys) (yet tree) now s t d
          go (inl x) (inl y) = thread_pick x.0 x.1 y.0 y.1 x.2 y.2
          go (inr x) y = own_pick (λ l u v e f. x l u e)
          go (inl x) (inr y) = own_pick (λ l u v e f. y l v f)

    -- the servers' tree goes on
    pub tree_goes : (grown : Tree) (q : Pick) (d : Effect)
        → GoAlike p n m o g w first stage (leaves [] tree) (yet tree) now s t
        → AllPick first a b stage tree a' b' stage grown s (under (1 ∷ []) q) d
        → Grows p n s q d tree grown
        → GoesOnAlike p n m o k g first stage (leaves [] grown) (yet grown) now s t d
    tree_goes grown q d h x grows =
        by_change (each_pick_changes p n s q d tree grown x.served.2 x.calm grows)
      where
        silently : d ≡ paid 1
            → GoAlike p n m o g w first stage (leaves [] grown) (yet grown) now s t
            → GoesOnAlike p n m o k g first stage (leaves [] grown) (yet grown) now s t d
        silently e y =
            record {
              world = w;
              events = [];
              later = now;
              effect = idle;
              goes = rests refl refl refl;
              bounded = bounded_idle;
              same_output = ap (λ z. z.output) (sym e);
              alike = subst (λ z. GoAlike p n m o g w first stage (leaves [] grown) (yet grown) now
                  (afterwards z s) t) (sym e) y;
            }

        by_change : Changes p n s q d tree grown
            → GoesOnAlike p n m o k g first stage (leaves [] grown) (yet grown) now s t d
        by_change (quietly e f c) =
            silently c
            (subst (λ z. GoAlike p n m o g w first stage z (yet grown) now s t) (sym e)
            (subst (λ z. GoAlike p n m o g w first stage (leaves [] tree) z now s t) (sym f) h))
        by_change (calls xs ys path e f y c) =
            silently c
            (subst (λ z. GoAlike p n m o g w first stage z (yet grown) now s t) (sym f)
            (one_called xs ys path (yet grown)
            (subst (λ z. GoAlike p n m o g w first stage (xs ++ ys) z now s t) y
            (subst (λ z. GoAlike p n m o g w first stage z (yet tree) now s t) e h))))
        by_change (leaves_done xs gone ys e f are y c) =
            silently c
            (subst (λ z. GoAlike p n m o g w first stage z (yet grown) now s t) (sym f)
            (some_left xs gone ys (yet grown) are
            (subst (λ z. GoAlike p n m o g w first stage (xs ++ (gone ++ ys)) z now s t) (sym y)
            (subst (λ z. GoAlike p n m o g w first stage z (yet tree) now s t) e h))))
        by_change (goes_one xs ys path old next r e f y ep follows) =
            subst (λ z. GoesOnAlike p n m o k g first stage z (yet grown) now s t d) (sym f)
            (subst (λ z. GoesOnAlike p n m o k g first stage (xs ++ leaf path next ∷ ys) z now s t d)
            (sym y) (one_goes grown q d h x grows xs ys path old next r e f ep follows))

    -- `go'` goes on
    pub go_goes : (next : Stage) (q : Pick) (d : Effect)
        → GoAlike p n m o g w first stage (leaves [] tree) (yet tree) now s t
        → AllPick first a b stage tree a' b' next tree s (under (0 ∷ []) q) d
        → Follows p n s q d stage next
        → GoesOnAlike p n m o k g first next (leaves [] tree) (yet tree) now s t d
    go_goes next q d h x follows = go (runs_or_not stage) (runs_or_not next)
      where
        own_pick : ((l : ℕ) (u v : Term) → stage ≡ runs l u → next ≡ runs l v → ⊥)
            → GoesOnAlike p n m o k g first next (leaves [] tree) (yet tree) now s t d
        own_pick no_run =
            laws.first p n m o k g is w first stage next (leaves [] tree) (yet tree) now s t q d h
            follows x.served.0 x.served_next.0
            (record {
              no_run = no_run;
              exceptions = λ l v e.
                  let f = go_part first a b stage tree l (throw_of v) x.served h.calm.0 x.calm e in
                  begins.exceptions false s (root_term n m (all first a stage b tree)) x.reached
                  f.0 v f.1;
            }) x.fits

        thread_pick : (l : ℕ) (u : Term) (i : ℕ) (v : Term) → stage ≡ runs l u → next ≡ runs i v
            → GoesOnAlike p n m o k g first next (leaves [] tree) (yet tree) now s t d
        thread_pick l u i v e f =
            let row : (i ≡ l) × Runs p false false s (q ∷ []) u (goes v) d =
            subst (λ y. Follows p n s q d y (runs i v)) e
            (subst (Follows p n s q d stage) f follows) in
            let c = go_part first a b stage tree l u x.served h.calm.0 x.calm e in
            let c2 = go_part first a' b' next tree i v x.served_next (subst IsCalm (sym f) tt) x.calm f
            in
            let z = laws.first_thread p n m o k g is w first (leaves [] tree) l u v (yet tree) now s t
            q d
            (subst (λ y. GoAlike p n m o g w first y (leaves [] tree) (yet tree) now s t) e h)
            (record {
              run = row.1;
              bounded = x.bounded;
              round = c.0;
              reached = subst (Reached p false s) c.1 x.reached;
              finely = part_finely n m o (root_term n m (all first a' next b' tree)) v c2.0 c2.1
                  (is.throws false (afterwards d s) (root_term n m (all first a' next b' tree))
                  (Reached.by_run x.reached x.run refl));
              may_go = laws.first_may p n m o k g is w first a b tree now s t l u
                  (root_term n m (all first a' next b' tree)) q d
                  (subst (λ y. GoAlike p n m o g w first y (leaves [] tree) (yet tree) now s t) e h)
                  (subst (λ y. Served p n (all first a y b tree)) e x.served) x.calm
                  (subst (λ y. Runs p false true s (under (0 ∷ []) q ∷ [])
                  (root_term n m (all first a y b tree))
                  (goes (root_term n m (all first a' next b' tree))) d) e x.run);
            }) in
            subst (λ y. GoesOnAlike p n m o k g first y (leaves [] tree) (yet tree) now s t d)
            (ap (λ j. runs j v) (sym row.0) ∙ sym f) z

        go : ((l : ℕ) × (u : Term) × (stage ≡ runs l u))
            ⊎ ((l : ℕ) (u : Term) → stage ≡ runs l u → ⊥)
            → ((l : ℕ) × (u : Term) × (next ≡ runs l u))
            ⊎ ((l : ℕ) (u : Term) → next ≡ runs l u → ⊥)
            → GoesOnAlike p n m o k g first next (leaves [] tree) (yet tree) now s t d
        go (inl y) (inl z) = thread_pick y.0 y.1 z.0 z.1 y.2 z.2
        go (inr y) z = own_pick (λ l u v e f. y l u e)
        go (inl y) (inr z) = own_pick (λ l u v e f. z l v f)
