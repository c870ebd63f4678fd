-- Servers that are free, and servers that have taken a thread, are awake.
use Rattle.std.proofs.Common.{◌≡◌, ℕ, zero, suc, ◌+◌, ◌<◌, arith, Bool, true, false, ◌&&◌, ◌||◌, List, [], ◌∷◌, ◌++◌, map, Some, refl, ap, sym, ◌∙◌, subst, append_assoc, append-nil, inl, inr, ◌⊎◌, true≢false, pos}
use Rattle.std.specs.List.{sum_by}
use Rattle.std.proofs.lemmas.List.Sums.{sum-map, sum_by-append}
use Rattle.std.specs.List.{list_any}
use Rattle.fort_base.specs.declared.ty.Ty.TheVariants.{Any, Named}
use Rattle.fort_core.specs.declared.form.Mode.TheVariants as mode
use Rattle.fort_core.specs.declared.form.Order.TheVariants as order
use Rattle.fort_core.specs.declared.form.Span.{Span}
use Rattle.fort_core.specs.declared.form.Span.TheVariants as span
use Rattle.fort_core.specs.declared.program.Program.{Program}
use Rattle.fort_core.specs.declared.term.Term.{Term, Call, Operator, Apply, ReadField, Asleep, out-Term}
use Rattle.fort_core.specs.declared.term.Term as term
use Rattle.fort_core.specs.declared.term.Term.TheOpen.{Term-F}
use Rattle.fort_core.specs.declared.term.Term.TheVariants.{Variable, outs-Asleep, outs-Call, outs-Operator, outs-For, outs-Let, outs-Typecase, outs-ReadField}
use Rattle.fort_core.specs.declared.value.Value.{Value, Small}
use Rattle.fort_core.specs.declared.value.Closure.{Closure}
use Rattle.fort_machine.specs.Acts.{Act, stuck, becomes, asks, calls, unit}
use Rattle.fort_machine.specs.Attempts.{Awake, Ready, Sleeps, Form, fresh, slept}
use Rattle.fort_machine.specs.Effects.{Store}
use Rattle.fort_machine.specs.Ends.{throw_of, is_still}
use Rattle.fort_machine.specs.Forms.{act_at, act, reading_at}
use Rattle.fort_machine.specs.Frames.{Frame, in_function, in_let, in_source, on, plug, road, passed}
use Rattle.fort_machine.specs.Marked.{Marks, In}
use Rattle.fort_machine.specs.Parts.{IsOneOf}
use Rattle.fort_machine.specs.Types.{has_type}
use Rattle.fort_machine.proofs.Ready.{acts_ready, form_ready}
use Rattle.fort_machine.proofs.Standing.{value_not_throw}
use Rattle.fort_threads_law_servers.specs.Prelude.{Names, HasPrelude, number, object_of, choosing, taking, going, round}
use Rattle.fort_threads_law_servers.specs.Roots.{Start, Served, root_term, all}
use Rattle.fort_threads_law_servers.specs.Stages.{Stage, called, asking, trying, got, looking, sent, reads, runs, term_at, Stands}
use Rattle.fort_threads_law_servers.specs.Trees.{Tree, unread, undivided, server, halves, over, with_step, tree_term, loop, range, count_of, AllServe}
use Rattle.fort_threads_law_servers.proofs.Grown.{by_count, loop_act}
use Rattle.fort_threads_law_servers.proofs.Operands.{operator_two}
use Rattle.fort_threads_law_servers.proofs.Server.{after_value, calls_none, calls_one, let_value, typecase_value}
use Rattle.fort_threads_law_servers.proofs.Turns.{ready_by, ready_call}
use Rattle.fort_threads_law_trees.specs.Awake.{WatchesQueue, AllWatch}
use Rattle.fort_threads_law_trees.specs.Leaves.{Leaf, leaf, leaves, yet, waiting, is_free, free_in, IsCalm, AreCalm}
use Rattle.fort_threads_law_trees.specs.Laws.{FreeServersAreAwake, TakersAreAwake}
use Rattle.fort_threads_law_trees.proofs.Changing.{calm_throw}
use Rattle.fort_threads_law_trees.proofs.Leaving.{one_of, behind, parts_apart}
use Rattle.fort_threads_law_trees.proofs.Lifting.{Part, part_in, awake_in, not_thrown, with_step_thrown, marked_part, first_half_part, second_half_part, tree_part, leaf_part}

abbrev Shape : Type 0
Shape = Term-F Term Value Closure

-- what is another form doesn't sleep
wakeful : (s : Store) (t : Term) (y : Shape) → out-Term t ≡ y
    → ((marks : Marks) (body : Term) → y ≡ Term-F.Asleep marks body → ⊥) → Sleeps s t → ⊥
wakeful s t y e n w =
    n w.marks w.body (sym e ∙ ap out-Term w.is_asleep ∙ outs-Asleep w.marks w.body)

-- a ready part that doesn't sleep is awake
here : (s : Store) (t b : Term) (q : List ℕ) → Part t q b → Ready b → (Sleeps s b → ⊥)
    → Awake s t q
here s t b q x r w =
    record {
      frames = x.frames;
      part = b;
      is_term = x.is_part;
      is_path = sym x.is_road;
      ready = r;
      reached = x.reached;
      sleepless = w;
    }

-- ---- what isn't divided

undivided_ready : (p : Program) (n : Names) (items : Span) → Ready (loop n items (term.Value range))
undivided_ready p n items =
    acts_ready p (loop n items (term.Value range))
    (λ e. not_stuck (count_of items) (sym (loop_act p n items) ∙ e))
  where
    not_stuck : (c : ℕ) → by_count n items c ≡ stuck → ⊥
    not_stuck zero e = cc
    not_stuck (suc zero) e = cc
    not_stuck (suc (suc c)) e = cc

-- ---- who is awake in a tree

record Found (s : Store) (n : Names) (base : List ℕ) (tree : Tree) : Type 0 where
  path : List ℕ
  awake : Awake s (tree_term n tree) path
  apart : (x : Leaf) (k : ℕ) (t : Term) (q : List ℕ) → IsOneOf x (leaves base tree)
      → x.stage ≡ runs k t → base ++ path ≡ x.path ++ q → ⊥

free_append : (xs ys : List Leaf) → free_in (xs ++ ys) ≡ free_in xs + free_in ys
free_append xs ys =
    let free = λ (x : Leaf). is_free x.stage in
    sum-map free (xs ++ ys) ∙ sum_by-append free xs ys
    ∙ ap (λ k. k + sum_by free ys) (sym (sum-map free xs))
    ∙ ap (λ k. free_in xs + k) (sym (sum-map free ys))

watch_front : (p : Program) (n : Names) (xs ys : List Leaf) → AllWatch p n (xs ++ ys)
    → AllWatch p n xs × AllWatch p n ys
watch_front p n [] ys h = (tt, h)
watch_front p n (x ∷ xs) ys h = let i = watch_front p n xs ys h.1 in ((h.0, i.0), i.1)

-- what serves, behind its `let`
abbrev let_of : Names → Frame
let_of n = in_let ((0, Any) ∷ []) (choosing n (Variable 0))

stage_found : (p : Program) (n : Names) (s : Store) (v : Value) (stage : Stage) → Stands n stage
    → WatchesQueue p n stage → s n.queue ≡ Some v → has_type p v (Named n.thread) ≡ true
    → 0 < is_free stage → Awake s (term_at n stage) []
stage_found p n s v called h w q y f =
    here s (term_at n called) (Call n.serve []) []
    (record { frames = []; is_part = refl; is_road = refl; reached = refl })
    (ready_call p (Call n.serve []) n.serve [] (calls_none p n.serve))
    (wakeful s (Call n.serve []) _ (outs-Call n.serve []) (λ marks body e. cc))
stage_found p n s v asking h w q y f =
    here s (term_at n asking) (Call n.take []) []
    (record { frames = let_of n ∷ []; is_part = refl; is_road = refl; reached = refl })
    (ready_call p (Call n.take []) n.take [] (calls_none p n.take))
    (wakeful s (Call n.take []) _ (outs-Call n.take []) (λ marks body e. cc))
stage_found p n s v (trying form) h w q y f =
    here s (term_at n (trying form)) form []
    (record { frames = let_of n ∷ []; is_part = refl; is_road = refl; reached = refl })
    (form_ready form mode.Atomic (taking n) h)
    (λ sleeps. let i = w sleeps.marks sleeps.body sleeps.is_asleep in
    let r : Some v ≡ Some i.0 = sym q ∙ sleeps.unchanged n.queue i.0 i.1 in
    let z : v ≡ i.0 = cc in
    true≢false (sym y ∙ ap (λ x. has_type p x (Named n.thread)) z ∙ i.2))
stage_found p n s v _ h w q y f = absurd (omega (arith, f))

find : (p : Program) (n : Names) (s : Store) (v : Value) (base : List ℕ) (tree : Tree)
    → AllServe p n tree → AreCalm tree → AllWatch p n (leaves base tree) → s n.queue ≡ Some v
    → has_type p v (Named n.thread) ≡ true → 0 < free_in (leaves base tree) + yet tree
    → Found s n base tree
find p n s v base unread h c w q y f =
    let o = Operator n.hash (number 0 ∷ number 64 ∷ []) in
    record {
      path = [];
      awake = here s (tree_term n unread) o []
          (record {
            frames = in_source order.Parallel span.Whole 2 (Call n.serve []) ∷ [];
            is_part = refl;
            is_road = refl;
            reached = refl;
          })
          (ready_call p o n.hash _ (operator_two p n.hash (Small (pos 0)) (Small (pos 64))))
          (wakeful s o _ (outs-Operator _ _) (λ marks body e. cc));
      apart = λ x k t r i e g. i;
    }
find p n s v base (undivided items) h c w q y f =
    record {
      path = [];
      awake = here s (tree_term n (undivided items)) (loop n items (term.Value range)) []
          (record { frames = []; is_part = refl; is_road = refl; reached = refl })
          (undivided_ready p n items)
          (wakeful s (loop n items (term.Value range)) _ (outs-For _ _ _ _ _) (λ marks body e. cc));
      apart = λ x k t r i e g. i;
    }
find p n s v base (over t) h c w q y f = absurd (omega (arith, f))
find p n s v base (server stage) h c w q y f =
    let g : 0 < is_free stage = omega (arith, f) in
    record {
      path = [];
      awake = stage_found p n s v stage h.0 w.0 q y g;
      apart = λ x k t r i e z. none x k t i e g;
    }
  where
    none : (x : Leaf) (k : ℕ) (t : Term) → IsOneOf x (leaf base stage ∷ []) → x.stage ≡ runs k t
        → 0 < is_free stage → ⊥
    none x k t (inl i) e g =
        let z : is_free stage ≡ 0 = ap is_free (ap (λ u. u.stage) (sym i) ∙ e)
        in omega (arith, g, z)
    none x k t (inr i) e g = i
find p n s v base (halves m a k b) h c w q y f =
    go (free_in (leaves (base ++ 0 ∷ []) a) + yet a) refl
    (λ g. find p n s v (base ++ 0 ∷ []) a h.0 c.0 (watch_front p n _ _ w).0 q y g)
    (λ g. find p n s v (base ++ 1 ∷ []) b h.1 c.1 (watch_front p n _ _ w).1 q y g)
  where
    from_first : Found s n (base ++ 0 ∷ []) a → Found s n base (halves m a k b)
    from_first one =
        record {
          path = 0 ∷ one.path;
          awake = awake_in s (tree_term n (halves m a k b)) (tree_term n a) (0 ∷ []) one.path
              (first_half_part p n m k a b h.1 c.1) one.awake;
          apart = λ x l t z i e g. no_first one x l t z
              (one_of x (leaves (base ++ 0 ∷ []) a) (leaves (base ++ 1 ∷ []) b) i) e g;
        }
      where
        no_first : (own : Found s n (base ++ 0 ∷ []) a) → (x : Leaf) (l : ℕ) (t : Term) (z : List ℕ)
            → IsOneOf x (leaves (base ++ 0 ∷ []) a) ⊎ IsOneOf x (leaves (base ++ 1 ∷ []) b)
            → x.stage ≡ runs l t → base ++ 0 ∷ own.path ≡ x.path ++ z → ⊥
        no_first own x l t z (inl i) e g =
            own.apart x l t z i e (append_assoc base (0 ∷ []) own.path ∙ g)
        no_first own x l t z (inr i) e g =
            let o = behind (base ++ 1 ∷ []) b x i in
            let u : 0 ≡ 1 =
            parts_apart base (base ++ 0 ∷ own.path) x.path 0 1 own.path o.rest [] z
            (sym (append_assoc base (0 ∷ []) own.path)) o.is (append-nil (base ++ 0 ∷ own.path) ∙ g)
            in omega (arith, u)

    from_second : Found s n (base ++ 1 ∷ []) b → Found s n base (halves m a k b)
    from_second one =
        record {
          path = 1 ∷ one.path;
          awake = awake_in s (tree_term n (halves m a k b)) (tree_term n b) (1 ∷ []) one.path
              (second_half_part p n m k a b h.0 c.0) one.awake;
          apart = λ x l t z i e g. no_second one x l t z
              (one_of x (leaves (base ++ 0 ∷ []) a) (leaves (base ++ 1 ∷ []) b) i) e g;
        }
      where
        no_second : (own : Found s n (base ++ 1 ∷ []) b) → (x : Leaf) (l : ℕ) (t : Term) (z : List ℕ)
            → IsOneOf x (leaves (base ++ 0 ∷ []) a) ⊎ IsOneOf x (leaves (base ++ 1 ∷ []) b)
            → x.stage ≡ runs l t → base ++ 1 ∷ own.path ≡ x.path ++ z → ⊥
        no_second own x l t z (inr i) e g =
            own.apart x l t z i e (append_assoc base (1 ∷ []) own.path ∙ g)
        no_second own x l t z (inl i) e g =
            let o = behind (base ++ 0 ∷ []) a x i in
            let u : 1 ≡ 0 =
            parts_apart base (base ++ 1 ∷ own.path) x.path 1 0 own.path o.rest [] z
            (sym (append_assoc base (1 ∷ []) own.path)) o.is (append-nil (base ++ 1 ∷ own.path) ∙ g)
            in omega (arith, u)

    go : (c : ℕ) → free_in (leaves (base ++ 0 ∷ []) a) + yet a ≡ c
        → (0 < free_in (leaves (base ++ 0 ∷ []) a) + yet a → Found s n (base ++ 0 ∷ []) a)
        → (0 < free_in (leaves (base ++ 1 ∷ []) b) + yet b → Found s n (base ++ 1 ∷ []) b)
        → Found s n base (halves m a k b)
    go (suc c) e one two = from_first (one (let z : 0 < free_in (leaves (base ++ 0 ∷ []) a) + yet a = omega (arith, e) in z))
    go zero e one two =
        let g = free_append (leaves (base ++ 0 ∷ []) a) (leaves (base ++ 1 ∷ []) b) in
        from_second (two (let z : 0 < free_in (leaves (base ++ 1 ∷ []) b) + yet b =
        omega (arith, e, f, g) in z))

pub free_servers_are_awake : FreeServersAreAwake
free_servers_are_awake p n m l a b stage tree s v has h c cs w q y f =
    let r = find p n s v [] tree h.2 cs w q y f in (
      r.path,
      awake_in s (root_term n m (all l a stage b tree)) (tree_term n tree) (1 ∷ []) r.path
          (tree_part p n m l a b stage tree h c cs) r.awake,
      λ at z k t i e. r.apart (leaf at (runs k t)) k t z i refl e,
    )

-- ---- servers that have taken a thread

taker_awake : (p : Program) (n : Names) (has : HasPrelude p n) (s : Store) (taker : Stage) (k : ℕ)
    → IsOneOf k (waiting taker) → (q : List ℕ) × Awake s (term_at n taker) q
taker_awake p n has s (got v) k i = (
  [],
  here s (term_at n (got v)) (term_at n (got v)) []
      (record { frames = []; is_part = refl; is_road = refl; reached = refl })
      (ready_by p (term_at n (got v)) _ (let_value p 0 Any v (choosing n (Variable 0))) tt)
      (wakeful s (term_at n (got v)) _ (outs-Let _ _ _) (λ marks body e. cc)),
)
taker_awake p n has s (looking v) k i = (
  [],
  here s (term_at n (looking v)) (term_at n (looking v)) []
      (record { frames = []; is_part = refl; is_road = refl; reached = refl })
      (ready_by p (term_at n (looking v)) _
      (typecase_value p v 1 (Call n.go (Variable 1 ∷ [])) (Named n.thread) (term.Value unit)) tt)
      (wakeful s (term_at n (looking v)) _ (outs-Typecase _ _ _ _) (λ marks body e. cc)),
)
taker_awake p n has s (sent l) k i = (
  [],
  here s (term_at n (sent l)) (term_at n (sent l)) []
      (record { frames = []; is_part = refl; is_road = refl; reached = refl })
      (ready_call p (term_at n (sent l)) n.go _ (calls_one p n.go (object_of n l)))
      (wakeful s (term_at n (sent l)) _ (outs-Call _ _) (λ marks body e. cc)),
)
taker_awake p n has s (reads l) k i =
    let r = ReadField (term.Value (object_of n l)) n.body in (
      0 ∷ [],
      here s (term_at n (reads l)) r (0 ∷ [])
          (record {
            frames = round n l ++ in_function (term.Value unit) ∷ [];
            is_part = refl;
            is_road = refl;
            reached = ap (λ x. ((x || false) && is_still (ReadField (term.Value (object_of n l)) n.body)) || false)
                (not_thrown (term.Value unit) (λ v e. value_not_throw unit v e));
          })
          (ready_by p r (asks l (λ v. term.Value v))
          (ap (act_at p) (outs-ReadField _ _) ∙ after_value (object_of n l) _
          ∙ ap reading_at (has.has_body l)) tt)
          (wakeful s r _ (outs-ReadField _ _) (λ marks body e. cc)),
    )
taker_awake p n has s _ k i = absurd i

pub takers_are_awake : TakersAreAwake
takers_are_awake p n m l a b stage tree s has h c cs at taker k i j =
    let w = taker_awake p n has s taker k j in
    let r = leaf_part p n [] tree h.2 cs (leaf at taker) i in (
      w.0,
      subst (λ q. Awake s (root_term n m (all l a stage b tree)) (1 ∷ (q ++ w.0))) (sym r.1)
          (awake_in s (root_term n m (all l a stage b tree)) (term_at n taker) (1 ∷ r.0) w.0
          (part_in (root_term n m (all l a stage b tree)) (tree_term n tree) (term_at n taker)
          (1 ∷ []) r.0 (tree_part p n m l a b stage tree h c cs) r.2) w.1),
    )
