-- The pick of a thread by the root's machine may go.
use Rattle.std.proofs.Common.{◌≡◌, ℕ, ◌+◌, ◌<◌, ◌≤◌, Bool, true, false, List, [], ◌∷◌, ◌++◌, length, Option, Some, None, zero, suc, refl, ap, sym, ◌∙◌, subst, arith, append-nil, ◌⊎◌, inl, inr}
use Rattle.std.specs.List.{cons_option}
use Rattle.fort_core.specs.declared.program.Program.{Program}
use Rattle.fort_core.specs.declared.term.Term.{Term}
use Rattle.fort_machine.specs.Attempts.{Awake, Sleeps}
use Rattle.fort_machine.specs.Effects.{Store}
use Rattle.fort_machine.specs.Frames.{road}
use Rattle.fort_machine.specs.Parts.{IsOneOf}
use Rattle.fort_threads.specs.Awake.{Stirs}
use Rattle.fort_threads.specs.Known.{Known}
use Rattle.fort_threads.specs.Objects.{objects, NoneTwice}
use Rattle.fort_threads.specs.Threads.{Paths, Phase, going, Thread, thread}
use Rattle.fort_threads_law_servers.specs.Prelude.{Names}
use Rattle.fort_threads_law_servers.specs.Roots.{Start, Served, root_term, all}
use Rattle.fort_threads_law_servers.specs.Stages.{Stage, runs, term_at}
use Rattle.fort_threads_law_servers.specs.Trees.{Tree, tree_term}
use Rattle.fort_threads_law_trees.specs.Leaves.{Leaf, leaf, leaves, waiting, running, IsCalm, AreCalm}
use Rattle.fort_threads_law_trees.proofs.Leaving.{cut, leaves_stand_apart}
use Rattle.fort_threads_law_trees.proofs.Lifting.{Part, part_in, first_part, tree_part, leaf_part, run_part, threads_are_awake}
use Rattle.fort_threads_law_whole.specs.Lists.{IsAt}
use Rattle.fort_threads_law_whole.specs.Picks.{ThreadsMayGo, FirstMayGo}
use Rattle.fort_threads_law_whole.proofs.MayStir.{NoOther, spawned_stirs, first_stirs}
use Rattle.fort_threads_law_whole.proofs.MayTry.{Tried, tried}
use Rattle.fort_threads_law_whole.proofs.Numbers.{stands_at, has_number, object_is_one}

-- What `MayGo` says of a form at a path of a thread's term.
abbrev GoesAt : Program → Known → List Thread → List Thread → Store → Store → Term → List ℕ → Term
    → Type 0
GoesAt p k beside now s t u path a =
    (Sleeps s a → ⊥)
    ⊎ (((x : List ℕ) → Awake s u x → x ≡ path)
    × ((x : Thread) → IsOneOf x beside → Stirs p k t now x.phase → ⊥))

-- ---- the threads beside one

pub one_of_all : (x u : Thread) (before behind : List Thread) → IsOneOf x (before ++ behind)
    → IsOneOf x (before ++ u ∷ behind)
one_of_all x u [] behind i = inr i
one_of_all x u (y ∷ before) behind (inl e) = inl e
one_of_all x u (y ∷ before) behind (inr i) = inr (one_of_all x u before behind i)

-- a thread beside one with an object hasn't this object
pub other_object : (x : Thread) (l : ℕ) (phase : Phase) (before behind : List Thread)
    → NoneTwice (objects (before ++ thread (Some l) phase ∷ behind))
    → IsOneOf x (before ++ behind) → x.object ≡ Some l → ⊥
other_object x l phase [] behind apart i e = apart.0 (object_is_one x behind l i e)
other_object x l phase (y ∷ before) behind apart (inl q) e =
    let z : y.object ≡ Some l = ap (λ (u : Thread). u.object) (sym q) ∙ e in
    let both : NoneTwice (l ∷ objects (before ++ thread (Some l) phase ∷ behind)) =
    subst (λ o. NoneTwice (cons_option o (objects (before ++ thread (Some l) phase ∷ behind)))) z
    apart in
    both.0 (object_is_one (thread (Some l) phase) (before ++ thread (Some l) phase ∷ behind) l
    (stands before) refl)
  where
    stands : (us : List Thread)
        → IsOneOf (thread (Some l) phase) (us ++ thread (Some l) phase ∷ behind)
    stands [] = inl refl
    stands (u ∷ us) = inr (stands us)
other_object x l phase (y ∷ before) behind apart (inr i) e =
    other_object x l phase before behind (go y.object apart) i e
  where
    go : (o : Option ℕ)
        → NoneTwice (cons_option o (objects (before ++ thread (Some l) phase ∷ behind)))
        → NoneTwice (objects (before ++ thread (Some l) phase ∷ behind))
    go None h = h
    go (Some m) h = h.1

-- where a thread that has an object stands behind thread 0, two stand
pub two_stand : (l : ℕ) (one other : Phase) (before behind others : List Thread)
    → before ++ thread (Some l) one ∷ behind ≡ thread None other ∷ others
    → 1 < length (before ++ thread (Some l) one ∷ behind)
two_stand l one other [] behind others e =
    let z : thread (Some l) one ≡ thread None other = cc in
    let q : Some l ≡ None = ap (λ (u : Thread). u.object) z in absurd cc
two_stand l one other (x ∷ before) behind others e =
    let h = some before in omega (arith, h)
  where
    some : (us : List Thread) → 0 < length (us ++ thread (Some l) one ∷ behind)
    some [] = omega arith
    some (u ∷ us) = omega arith

-- no other thread without an object stands beside one without
pub one_without : (x : Thread) (phase : Phase) (before behind : List Thread)
    → ((number : ℕ) (other : Phase)
    → IsAt number (thread None other) (before ++ thread None phase ∷ behind) → number ≡ 0)
    → IsOneOf x (before ++ behind) → x.object ≡ None → ⊥
one_without x phase (y ∷ before) behind first i e =
    let z : suc (length before) ≡ 0 =
    first (length (y ∷ before)) phase (stands_at (y ∷ before) behind (thread None phase)) in
    omega (arith, z)
one_without x phase [] behind first i e =
    let h = has_number x behind i in
    let at : IsAt (suc h.0) (thread None x.phase) (thread None phase ∷ behind) =
    subst (λ o. IsAt h.0 (thread o x.phase) behind) e h.1 in
    let z : suc h.0 ≡ 0 = first (suc h.0) x.phase at in
    omega (arith, z)

-- paths that are one begin alike
one_head : (i j : ℕ) (x y : List ℕ) → i ∷ x ≡ j ∷ y → i ≡ j
one_head i j x y e = cc

-- ---- the thread that a server runs

-- nobody is awake but at this path of this server
no_other_server : (s : Store) (whole : Term) (tree : Tree) (l : ℕ) (u : Term) (at path : List ℕ)
    → IsOneOf (leaf at (runs l u)) (leaves [] tree)
    → ((x : List ℕ) → Awake s whole x → x ≡ 1 ∷ (at ++ path)) → NoOther s whole tree (λ j. j ≡ l)
no_other_server s whole tree l u at path i alone =
    record {
      apart = λ other stage j k h mine rest w. go other stage j k h mine rest (alone _ w);
      none_free = λ x w no. no at path l u i (let z = alone (1 ∷ x) w in cc);
    }
  where
    go : (other : List ℕ) (stage : Stage) (j : ℕ) → IsOneOf (leaf other stage) (leaves [] tree)
        → IsOneOf j (waiting stage) ⊎ IsOneOf j (running stage) → (j ≡ l → ⊥) → (rest : List ℕ)
        → 1 ∷ (other ++ rest) ≡ 1 ∷ (at ++ path) → ⊥
    go other stage j k h mine rest e = both (subst Holds is_stage h)
      where
        Holds : Stage → Type 0
        Holds x = IsOneOf j (waiting x) ⊎ IsOneOf j (running x)

        is_stage : stage ≡ runs l u
        is_stage =
            ap (λ (y : Leaf). y.stage)
            (leaves_stand_apart tree (leaf other stage) (leaf at (runs l u)) rest path k i cc)

        both : IsOneOf j (waiting (runs l u)) ⊎ IsOneOf j (running (runs l u)) → ⊥
        both (inl x) = absurd x
        both (inr (inl e)) = mine e
        both (inr (inr x)) = absurd x

-- where the thread that a server runs stands in the root's term
server_part : (p : Program) (n : Names) (m : Start) (first : ℕ) (a b : Bool) (stage : Stage)
    (tree : Tree) → Served p n (all first a stage b tree) → IsCalm stage → AreCalm tree
    → (l : ℕ) (u : Term) (at : List ℕ) → IsOneOf (leaf at (runs l u)) (leaves [] tree)
    → Part (root_term n m (all first a stage b tree)) (1 ∷ at) u
server_part p n m first a b stage tree served calm calms l u at i =
    let whole = root_term n m (all first a stage b tree) in
    let r = leaf_part p n [] tree served.2 calms (leaf at (runs l u)) i in
    subst (λ q. Part whole (1 ∷ q) u) (append-nil r.0 ∙ sym r.1)
    (part_in whole (term_at n (runs l u)) u (1 ∷ r.0) []
    (part_in whole (tree_term n tree) (term_at n (runs l u)) (1 ∷ []) r.0
    (tree_part p n m first a b stage tree served calm calms) r.2) (run_part n l u))

pub threads_may_go : ThreadsMayGo
threads_may_go p n m o k g is w first a b stage tree now s t l u later at q d alike served calms i
    run before behind v asked e fs c mode body within eu form eq =
    go
    (tried p s (root_term n m (all first a stage b tree)) u (1 ∷ at)
    (server_part p n m first a b stage tree served alike.calm.0 calms l u at i) fs c body mode q
    within _ d eu form eq run)
  where
    whole : Term
    whole = root_term n m (all first a stage b tree)

    me : Thread
    me = thread (Some l) (going v asked)

    spawned : 0 < w.spawned
    spawned =
        let h = alike.stores.standing_count in
        let two =
        two_stand l (going v asked) alike.phase before behind alike.others (sym e ∙ alike.are_all)
        in
        let same = ap length e in
        omega (arith, h, two, same)

    zero_or_not : ((x : List ℕ) → Awake s whole x → x ≡ 1 ∷ (at ++ road fs)) → (x : Thread)
        → IsOneOf x (before ++ behind) → Stirs p k t now x.phase → ⊥
    zero_or_not alone x j st = by_object x.object refl
      where
        number : (z : ℕ) × IsAt z x now
        number = has_number x now (subst (IsOneOf x) (sym e) (one_of_all x me before behind j))

        by_object : (r : Option ℕ) → x.object ≡ r → ⊥
        by_object (Some y) h =
            spawned_stirs p n m o k g is w first a b stage tree now s t alike served calms
            (λ z. z ≡ l) (no_other_server s whole tree l u at (road fs) i alone) number.0 y x.phase
            (subst (λ r. IsAt number.0 (thread r x.phase) now) h number.1)
            (λ z. other_object x l (going v asked) before behind
            (subst (λ us. NoneTwice (objects us)) e alike.objects_apart) j (h ∙ ap Some z)) st
        by_object None h =
            let zero_at : IsAt number.0 (thread None x.phase) now =
            subst (λ r. IsAt number.0 (thread r x.phase) now) h number.1 in
            let is_zero = alike.no_other_first number.0 x.phase zero_at in
            let at_zero : IsAt 0 (thread None x.phase) (thread None alike.phase ∷ alike.others) =
            subst (IsAt 0 (thread None x.phase)) alike.are_all
            (subst (λ z. IsAt z (thread None x.phase) now) is_zero zero_at) in
            let same : thread None alike.phase ≡ thread None x.phase =
            let z : Some (thread None alike.phase) ≡ Some (thread None x.phase) = at_zero in cc in
            first_stirs p n m o k g is w first a b stage tree now s t alike served calms spawned
            (λ rest aw. let z = one_head 0 1 rest (at ++ road fs) (alone (0 ∷ rest) aw) in
            omega (arith, z)) alike.phase alike.is_first
            (subst (Stirs p k t now) (ap (λ (z : Thread). z.phase) (sym same)) st)

    own : ((x : List ℕ) → Awake s whole x → x ≡ 1 ∷ (at ++ road fs)) → (path : List ℕ)
        → Awake s u path → path ≡ road fs
    own alone path aw =
        let lifted =
        threads_are_awake p n m first a b stage tree s served alike.calm.0 calms in
        let z = alone (1 ∷ (at ++ path)) (lifted.1 l u at path i aw) in
        cut at path (road fs) cc

    go : Tried s whole (1 ∷ (at ++ road fs)) c
        → GoesAt p k (before ++ behind) now s t u (road fs) c
    go (inl h) = inl h
    go (inr alone) = inr (own alone, zero_or_not alone)

-- ---- the thread that `go'` runs

-- nobody is awake in the servers
no_server : (s : Store) (whole : Term) (tree : Tree) (path : List ℕ)
    → ((x : List ℕ) → Awake s whole x → x ≡ 0 ∷ path) → NoOther s whole tree (λ j. ⊥)
no_server s whole tree path alone =
    record {
      apart = λ other stage j k h mine rest w. none (other ++ rest) w;
      none_free = λ x w no. none x w;
    }
  where
    none : (x : List ℕ) → Awake s whole (1 ∷ x) → ⊥
    none x w = let z = one_head 1 0 x path (alone (1 ∷ x) w) in omega (arith, z)

pub first_may_go : FirstMayGo
first_may_go p n m o k g is w first a b tree now s t l u later q d alike served calms run before
    behind v asked e fs c mode body within eu form eq =
    go
    (tried p s (root_term n m (all first a (runs l u) b tree)) u (0 ∷ [])
    (part_in (root_term n m (all first a (runs l u) b tree)) (term_at n (runs l u)) u (0 ∷ []) []
    (first_part p n m first a b (runs l u) tree served alike.calm.0 calms) (run_part n l u)) fs c
    body mode q within _ d eu form eq run)
  where
    whole : Term
    whole = root_term n m (all first a (runs l u) b tree)

    me : Thread
    me = thread None (going v asked)

    beside : ((x : List ℕ) → Awake s whole x → x ≡ 0 ∷ road fs) → (x : Thread)
        → IsOneOf x (before ++ behind) → Stirs p k t now x.phase → ⊥
    beside alone x j st = by_object x.object refl
      where
        number : (z : ℕ) × IsAt z x now
        number = has_number x now (subst (IsOneOf x) (sym e) (one_of_all x me before behind j))

        by_object : (r : Option ℕ) → x.object ≡ r → ⊥
        by_object (Some y) h =
            spawned_stirs p n m o k g is w first a b (runs l u) tree now s t alike served calms
            (λ z. ⊥) (no_server s whole tree (road fs) alone) number.0 y x.phase
            (subst (λ r. IsAt number.0 (thread r x.phase) now) h number.1) (λ z. z) st
        by_object None h =
            one_without x (going v asked) before behind
            (λ z other y. alike.no_other_first z other
            (subst (IsAt z (thread None other)) (sym e) y)) j h

    own : ((x : List ℕ) → Awake s whole x → x ≡ 0 ∷ road fs) → (path : List ℕ)
        → Awake s u path → path ≡ road fs
    own alone path aw =
        let lifted =
        threads_are_awake p n m first a b (runs l u) tree s served alike.calm.0 calms in
        let z = alone (0 ∷ path) (lifted.0 l u path refl aw) in cc

    go : Tried s whole (0 ∷ road fs) c → GoesAt p k (before ++ behind) now s t u (road fs) c
    go (inl h) = inl h
    go (inr alone) = inr (own alone, beside alone)
