-- Who is awake in a part is awake in the whole term.
use Rattle.std.proofs.Common.{◌≡◌, ℕ, ◌+◌, ◌<◌, arith, Bool, true, false, ◌&&◌, ◌||◌, List, [], ◌∷◌, ◌++◌, refl, ap, sym, ◌∙◌, subst, append_assoc, append-nil, inl, inr, ◌⊎◌}
use Rattle.std.specs.List.{list_any}
use Rattle.fort_core.specs.declared.program.Program.{Program}
use Rattle.fort_core.specs.declared.term.Term.{Term, Also, Then}
use Rattle.fort_core.specs.declared.term.Term as term
use Rattle.fort_core.specs.declared.value.Value.{Value}
use Rattle.fort_machine.specs.Attempts.{Awake, Ready, Sleeps}
use Rattle.fort_machine.specs.Effects.{Store}
use Rattle.fort_machine.specs.Ends.{Standing, at_value, at_throw, open_yet, standing, throw_of, Finished, stepped, throws_by, is_thrown, is_still}
use Rattle.fort_machine.specs.Ends as ends
use Rattle.fort_machine.specs.Frames.{Frame, in_block, in_first_half, in_second_half, in_stepped, in_then, on, plug, part_number, road, passes, passed}
use Rattle.fort_machine.specs.Parts.{IsOneOf}
use Rattle.fort_machine.proofs.Resting.{is_throw}
use Rattle.fort_machine.proofs.Runs.{plug_append, road_append}
use Rattle.fort_machine.proofs.Standing.{decide, or_false, stepped_finished, stepped_stays_open}
use Rattle.fort_threads_law_servers.specs.Prelude.{Names, object_of, round}
use Rattle.fort_threads_law_servers.specs.Roots.{Start, Served, last, root_term, all}
use Rattle.fort_threads_law_servers.specs.Stages.{Stage, runs, term_at, Stands}
use Rattle.fort_threads_law_servers.specs.Trees.{Tree, unread, undivided, server, halves, over, with_step, tree_term, AllServe}
use Rattle.fort_threads_law_trees.specs.Leaves.{Leaf, leaf, leaves, IsCalm, AreCalm}
use Rattle.fort_threads_law_trees.specs.Laws.{ThreadsAreAwake}
use Rattle.fort_threads_law_trees.proofs.Changing.{calm_throw, unmarked_throw, stage_throws_not}
use Rattle.fort_threads_law_trees.proofs.Leaving.{one_of}

-- ---- frames behind frames

or_assoc : (x y z : Bool) → (x || (y || z)) ≡ ((x || y) || z)
or_assoc true y z = refl
or_assoc false y z = refl

passed_append : (fs gs : List Frame) (b : Term)
    → passed (fs ++ gs) b ≡ (passed fs (plug gs b) || passed gs b)
passed_append [] gs b = refl
passed_append (f ∷ fs) gs b =
    (λ i. passes f (plug_append fs gs b i) || passed_append fs gs b i)
    ∙ or_assoc (passes f (plug fs (plug gs b))) (passed fs (plug gs b)) (passed gs b)

-- A part of a term, at frames by which nobody is passed over.
pub record Part (whole : Term) (path : List ℕ) (t : Term) : Type 0 where
  pub frames : List Frame
  pub is_part : whole ≡ plug frames t
  pub is_road : road frames ≡ path
  pub reached : passed frames t ≡ false

pub part_in : (a b t : Term) (p q : List ℕ) → Part a p b → Part b q t → Part a (p ++ q) t
part_in a b t p q x y =
    record {
      frames = x.frames ++ y.frames;
      is_part = x.is_part ∙ ap (plug x.frames) y.is_part ∙ sym (plug_append x.frames y.frames t);
      is_road = road_append x.frames y.frames ∙ (λ i. x.is_road i ++ y.is_road i);
      reached = passed_append x.frames y.frames t
          ∙ (λ i. (ap (passed x.frames) (sym y.is_part) ∙ x.reached) i || y.reached i);
    }

pub awake_in : (s : Store) (a t : Term) (p q : List ℕ) → Part a p t → Awake s t q
    → Awake s a (p ++ q)
awake_in s a t p q x w =
    record {
      frames = x.frames ++ w.frames;
      part = w.part;
      is_term = x.is_part ∙ ap (plug x.frames) w.is_term ∙ sym (plug_append x.frames w.frames w.part);
      is_path = (λ i. (sym x.is_road) i ++ w.is_path i) ∙ sym (road_append x.frames w.frames);
      ready = w.ready;
      reached = passed_append x.frames w.frames w.part
          ∙ (λ i. (ap (passed x.frames) (sym w.is_term) ∙ x.reached) i || w.reached i);
      sleepless = w.sleepless;
    }

-- ---- what is no throw

pub not_thrown : (t : Term) → ((v : Value) → t ≡ throw_of v → ⊥) → is_thrown t ≡ false
not_thrown t n = go (standing t) refl
  where
    go : (z : Standing) → standing t ≡ z → throws_by (standing t) ≡ false
    go (at_value v) e = ap throws_by e
    go (at_throw v) e = absurd (n v (is_throw t v e))
    go open_yet e = ap throws_by e

pub with_step_thrown : (m : Bool) (t : Term) → ((v : Value) → t ≡ throw_of v → ⊥)
    → is_thrown (with_step m t) ≡ false
with_step_thrown m t n = not_thrown (with_step m t) (λ v e. n v (unmarked_throw m t v e))

marks_of : Bool → List Frame
marks_of true = in_stepped ∷ []
marks_of false = []

pub marked_part : (m : Bool) (t : Term) → Part (with_step m t) [] t
marked_part true t = record { frames = in_stepped ∷ []; is_part = refl; is_road = refl; reached = refl }
marked_part false t = record { frames = []; is_part = refl; is_road = refl; reached = refl }

-- a part beside one that is no throw isn't passed over
beside_one : (x : Term) (t : Term) → is_thrown x ≡ false
    → (list_any is_thrown (x ∷ []) && is_still t) ≡ false
beside_one x t e = ap (λ b. (b || false) && is_still t) e

-- ---- the parts of the root's term

module _ (p : Program) (n : Names) (m : Start) (l : ℕ) (a b : Bool) (stage : Stage) (tree : Tree)
    (served : Served p n (all l a stage b tree)) (calm : IsCalm stage) (calms : AreCalm tree) where
  abbrev root : Term
  root = root_term n m (all l a stage b tree)

  pub first_part : Part root (0 ∷ []) (term_at n stage)
  first_part =
      part_in root (with_step a (term_at n stage)) (term_at n stage) (0 ∷ []) []
      (record {
        frames = in_then (last n (term.Value (object_of n l)))
            ∷ in_block [] (with_step b (tree_term n tree) ∷ []) ∷ [];
        is_part = refl;
        is_road = refl;
        reached = ap (λ x. x || false)
            (beside_one (with_step b (tree_term n tree)) (with_step a (term_at n stage))
            (with_step_thrown b (tree_term n tree)
            (λ v e. calm_throw p n tree v served.2 calms e)));
      })
      (marked_part a (term_at n stage))

  pub tree_part : Part root (1 ∷ []) (tree_term n tree)
  tree_part =
      part_in root (with_step b (tree_term n tree)) (tree_term n tree) (1 ∷ []) []
      (record {
        frames = in_then (last n (term.Value (object_of n l)))
            ∷ in_block (with_step a (term_at n stage) ∷ []) [] ∷ [];
        is_part = refl;
        is_road = refl;
        reached = ap (λ x. x || false)
            (beside_one (with_step a (term_at n stage)) (with_step b (tree_term n tree))
            (with_step_thrown a (term_at n stage)
            (λ v e. stage_throws_not n stage v served.0 calm e)));
      })
      (marked_part b (tree_term n tree))

-- ---- the parts of a tree

pub first_half_part : (p : Program) (n : Names) (m k : Bool) (a b : Tree) → AllServe p n b
    → AreCalm b → Part (tree_term n (halves m a k b)) (0 ∷ []) (tree_term n a)
first_half_part p n m k a b h c =
    part_in (tree_term n (halves m a k b)) (with_step m (tree_term n a)) (tree_term n a) (0 ∷ []) []
    (record {
      frames = in_first_half (with_step k (tree_term n b)) ∷ [];
      is_part = refl;
      is_road = refl;
      reached = ap (λ z. z || false)
          (beside_one (with_step k (tree_term n b)) (with_step m (tree_term n a))
          (with_step_thrown k (tree_term n b) (λ v e. calm_throw p n b v h c e)));
    })
    (marked_part m (tree_term n a))

pub second_half_part : (p : Program) (n : Names) (m k : Bool) (a b : Tree) → AllServe p n a
    → AreCalm a → Part (tree_term n (halves m a k b)) (1 ∷ []) (tree_term n b)
second_half_part p n m k a b h c =
    part_in (tree_term n (halves m a k b)) (with_step k (tree_term n b)) (tree_term n b) (1 ∷ []) []
    (record {
      frames = in_second_half (with_step m (tree_term n a)) ∷ [];
      is_part = refl;
      is_road = refl;
      reached = ap (λ z. z || false)
          (beside_one (with_step m (tree_term n a)) (with_step k (tree_term n b))
          (with_step_thrown m (tree_term n a) (λ v e. calm_throw p n a v h c e)));
    })
    (marked_part k (tree_term n b))

abbrev LeafPart : Names → Leaf → List ℕ → Tree → Type 0
LeafPart n x at t = (q : List ℕ) × (x.path ≡ at ++ q) × Part (tree_term n t) q (term_at n x.stage)

pub leaf_part : (p : Program) (n : Names) (base : List ℕ) (tree : Tree) → AllServe p n tree
    → AreCalm tree → (x : Leaf) → IsOneOf x (leaves base tree)
    → LeafPart n x base tree
leaf_part p n base unread h c x i = absurd i
leaf_part p n base (undivided items) h c x i = absurd i
leaf_part p n base (over t) h c x i = absurd i
leaf_part p n base (server stage) h c x (inr i) = absurd i
leaf_part p n base (server stage) h c x (inl e) = (
  [],
  ap (λ y. y.path) e ∙ sym (append-nil base),
  record {
    frames = [];
    is_part = ap (λ y. term_at n y.stage) (sym e);
    is_road = refl;
    reached = refl;
  },
)
leaf_part p n base (halves m a k b) h c x i =
    go (leaf_part p n (base ++ 0 ∷ []) a h.0 c.0 x) (leaf_part p n (base ++ 1 ∷ []) b h.1 c.1 x)
    (one_of x (leaves (base ++ 0 ∷ []) a) (leaves (base ++ 1 ∷ []) b) i)
  where
    go : (IsOneOf x (leaves (base ++ 0 ∷ []) a) → LeafPart n x (base ++ 0 ∷ []) a)
        → (IsOneOf x (leaves (base ++ 1 ∷ []) b) → LeafPart n x (base ++ 1 ∷ []) b)
        → IsOneOf x (leaves (base ++ 0 ∷ []) a) ⊎ IsOneOf x (leaves (base ++ 1 ∷ []) b)
        → LeafPart n x base (halves m a k b)
    go one two (inl j) =
        let r = one j in (
          0 ∷ r.0,
          r.1 ∙ append_assoc base (0 ∷ []) r.0,
          part_in (tree_term n (halves m a k b)) (tree_term n a) (term_at n x.stage) (0 ∷ []) r.0
              (first_half_part p n m k a b h.1 c.1) r.2,
        )
    go one two (inr j) =
        let r = two j in (
          1 ∷ r.0,
          r.1 ∙ append_assoc base (1 ∷ []) r.0,
          part_in (tree_term n (halves m a k b)) (tree_term n b) (term_at n x.stage) (1 ∷ []) r.0
              (second_half_part p n m k a b h.0 c.0) r.2,
        )

-- the thread that a server runs
pub run_part : (n : Names) (k : ℕ) (t : Term) → Part (term_at n (runs k t)) [] t
run_part n k t = record { frames = round n k; is_part = refl; is_road = refl; reached = refl }

pub threads_are_awake : ThreadsAreAwake
threads_are_awake p n m l a b stage tree s h c cs = (one, two)
  where
    one : (k : ℕ) (t : Term) (path : List ℕ) → stage ≡ runs k t → Awake s t path
        → Awake s (root_term n m (all l a stage b tree)) (0 ∷ path)
    one k t path e w =
        awake_in s (root_term n m (all l a stage b tree)) t (0 ∷ []) path
        (part_in (root_term n m (all l a stage b tree)) (term_at n stage) t (0 ∷ []) [] (first_part p n m l a b stage tree h c cs)
        (subst (λ x. Part (term_at n x) [] t) (sym e) (run_part n k t))) w

    two : (k : ℕ) (t : Term) (at path : List ℕ) → IsOneOf (leaf at (runs k t)) (leaves [] tree)
        → Awake s t path → Awake s (root_term n m (all l a stage b tree)) (1 ∷ (at ++ path))
    two k t at path i w =
        let r = leaf_part p n [] tree h.2 cs (leaf at (runs k t)) i in
        subst (λ q. Awake s (root_term n m (all l a stage b tree)) (1 ∷ (q ++ path))) (sym r.1)
        (awake_in s (root_term n m (all l a stage b tree)) t (1 ∷ r.0) path
        (subst (λ q. Part (root_term n m (all l a stage b tree)) q t) (append-nil (1 ∷ r.0))
        (part_in (root_term n m (all l a stage b tree)) (term_at n (runs k t)) t (1 ∷ r.0) []
        (part_in (root_term n m (all l a stage b tree)) (tree_term n tree) (term_at n (runs k t)) (1 ∷ []) r.0
        (tree_part p n m l a b stage tree h c cs) r.2) (run_part n k t))) w)
