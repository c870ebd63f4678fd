-- What a pick of a tree is to its servers.
use Rattle.std.proofs.Common.{◌≡◌, ℕ, suc, append-nil, ◌+◌, List, [], ◌∷◌, ◌++◌, refl, ap, sym, ◌∙◌, subst, arith, append_assoc, inl, inr, ◌⊎◌, Bool, true, false}
use Rattle.fort_base.specs.declared.ids.Loc.{Loc}
use Rattle.fort_core.specs.declared.form.Span.TheVariants as span
use Rattle.fort_core.specs.declared.path.Path.{Path}
use Rattle.fort_core.specs.declared.pick.Pick.{Pick, Step, Attempt, out-Pick, roll-Pick, roll-out-Pick}
use Rattle.fort_core.specs.declared.pick.Pick.TheVariants.{outs-Step, outs-Attempt}
use Rattle.fort_core.specs.declared.pick.Pick.TheOpen.{Pick-F}
use Rattle.fort_core.specs.declared.program.Program.{Program}
use Rattle.fort_core.specs.declared.term.Term.{Term, out-Term}
use Rattle.fort_core.specs.declared.term.Term as term
use Rattle.fort_core.specs.declared.term.Term.TheOpen.{Term-F}
use Rattle.fort_core.specs.declared.term.Term.TheVariants.{outs-Value, outs-Throw, outs-Stepped, outs-Call, outs-Let, outs-Then, outs-Typecase, outs-For, outs-ForHalves, outs-Atomic, outs-Asleep}
use Rattle.fort_core.specs.declared.value.Value.{Value}
use Rattle.fort_core.specs.declared.value.Closure.{Closure}
use Rattle.fort_machine.specs.Attempts.{Form, fresh, slept}
use Rattle.fort_machine.specs.Effects.{Store, Effect, paid}
use Rattle.fort_machine.specs.Ends.{open_yet, standing, stepped, throw_of, Finished}
use Rattle.fort_machine.specs.Ends as ends
use Rattle.fort_machine.specs.Threads.{under, under_at, below_path}
use Rattle.fort_machine.proofs.Standing.{decide, stepped_open, stepped_finished, standing-Value, standing-throw}
use Rattle.fort_machine.proofs.Runs.{under-Step, under-Attempt}
use Rattle.fort_threads_law_servers.specs.Prelude.{Names}
use Rattle.fort_threads_law_servers.specs.Stages.{Stage, at_value, at_throw, called, asking, trying, got, refused, looking, sent, reads, runs, caught, lost, keeps, has_kept, marks, has_marked, counts, done, Follows, Stands, term_at}
use Rattle.fort_threads_law_servers.specs.Stages as stages
use Rattle.fort_threads_law_servers.specs.Trees.{Tree, unread, undivided, server, halves, over, with_step, tree_term, count_of, AllServe, IsOver, are_values, first_threw, second_threw, Grows}
use Rattle.fort_threads_law_trees.specs.Leaves.{Leaf, leaf, leaves, yet, IsCalm, AreCalm}
use Rattle.fort_threads_law_trees.specs.Changes.{AreDone, Changes}
use Rattle.fort_threads_law_trees.specs.Changes as changes
use Rattle.fort_threads_law_trees.specs.Laws.{EachPickChanges}

-- a pick under two paths
pub under_twice : (xs ys : List ℕ) (pick : Pick) → under xs (under ys pick) ≡ under (xs ++ ys) pick
under_twice xs ys pick = go (out-Pick pick)
  where
    go : (x : Pick-F Pick) → under xs (under_at ys x) ≡ under_at (xs ++ ys) x
    go (Pick-F.Step q loc) =
        under-Step xs (ys ++ q.0) loc
        ∙ ap (λ r. Step (record { 0 = r }) loc) (sym (append_assoc xs ys q.0))
    go (Pick-F.Attempt q within) =
        under-Attempt xs (ys ++ q.0) within
        ∙ ap (λ r. Attempt (record { 0 = r }) within) (sym (append_assoc xs ys q.0))

under_none : (pick : Pick) → under [] pick ≡ pick
under_none pick =
    sym (roll-out-Pick (under [] pick)) ∙ ap roll-Pick (go (out-Pick pick)) ∙ roll-out-Pick pick
  where
    go : (y : Pick-F Pick) → out-Pick (under_at [] y) ≡ y
    go (Pick-F.Step q loc) = outs-Step q loc
    go (Pick-F.Attempt q within) = outs-Attempt q within

-- the same from a path on
data ChangesAt (p : Program) (n : Names) (s : Store) (pick : Pick) (d : Effect) (base : List ℕ)
    (before after : Tree) : Type 0 where
  quietly : leaves base after ≡ leaves base before → yet after ≡ yet before → d ≡ paid 1
      → ChangesAt p n s pick d base before after
  calls : (xs ys : List Leaf) (path : List ℕ) → leaves base before ≡ xs ++ ys
      → leaves base after ≡ xs ++ leaf path called ∷ ys → yet before ≡ suc (yet after) → d ≡ paid 1
      → ChangesAt p n s pick d base before after
  goes : (xs ys : List Leaf) (rest : List ℕ) (stage next : Stage) (q : Pick)
      → leaves base before ≡ xs ++ leaf (base ++ rest) stage ∷ ys
      → leaves base after ≡ xs ++ leaf (base ++ rest) next ∷ ys → yet after ≡ yet before
      → pick ≡ under rest q → Follows p n s q d stage next
      → ChangesAt p n s pick d base before after
  leaves_done : (xs gone ys : List Leaf) → leaves base before ≡ xs ++ (gone ++ ys)
      → leaves base after ≡ xs ++ ys → AreDone gone → yet after ≡ yet before → d ≡ paid 1
      → ChangesAt p n s pick d base before after

done_append : (xs ys : List Leaf) → AreDone xs → AreDone ys → AreDone (xs ++ ys)
done_append [] ys h k = k
done_append (x ∷ xs) ys h k = (h.0, done_append xs ys h.1 k)

-- ---- what is at a value, with its mark or without, is over or done

pub unmarked_value : (m : Bool) (t : Term) (v : Value) → with_step m t ≡ term.Value v
    → t ≡ term.Value v
unmarked_value false t v e = e
unmarked_value true t v e = go (decide t)
  where
    go : (standing t ≡ open_yet) ⊎ Finished t → t ≡ term.Value v
    go (inl o) =
        let z : Term-F.Stepped t ≡ Term-F.Value v =
        sym (outs-Stepped t) ∙ ap out-Term (sym (stepped_open t o) ∙ e) ∙ outs-Value v in absurd cc
    go (inr f) = sym (stepped_finished t f) ∙ e

pub unmarked_throw : (m : Bool) (t : Term) (v : Value) → with_step m t ≡ throw_of v → t ≡ throw_of v
unmarked_throw false t v e = e
unmarked_throw true t v e = go (decide t)
  where
    go : (standing t ≡ open_yet) ⊎ Finished t → t ≡ throw_of v
    go (inl o) =
        let z : Term-F.Stepped t ≡ Term-F.Throw (term.Value v) =
        sym (outs-Stepped t) ∙ ap out-Term (sym (stepped_open t o) ∙ e) ∙ outs-Throw (term.Value v)
        in absurd cc
    go (inr f) = sym (stepped_finished t f) ∙ e

abbrev TermShape : Type 0
TermShape = Term-F Term Value Closure

-- a form that is another one than a value
no_value : (t : Term) (y : TermShape) (v : Value) → out-Term t ≡ y → t ≡ term.Value v
    → y ≡ Term-F.Value v
no_value t y v q e = sym q ∙ ap out-Term e ∙ outs-Value v

pub value_done : (n : Names) (stage : Stage) (v : Value) → Stands n stage
    → term_at n stage ≡ term.Value v → (t : Term) × (stage ≡ done t)
value_done n called v h e = let z = no_value _ _ v (outs-Call _ _) e in absurd cc
value_done n asking v h e = let z = no_value _ _ v (outs-Let _ _ _) e in absurd cc
value_done n (trying form) v h e = let z = no_value _ _ v (outs-Let _ _ _) e in absurd cc
value_done n (got x) v h e = let z = no_value _ _ v (outs-Let _ _ _) e in absurd cc
value_done n (refused x) v h e = let z = no_value _ _ v (outs-Let _ _ _) e in absurd cc
value_done n (looking x) v h e = let z = no_value _ _ v (outs-Typecase _ _ _ _) e in absurd cc
value_done n (sent l) v h e = let z = no_value _ _ v (outs-Call _ _) e in absurd cc
value_done n (reads l) v h e = let z = no_value _ _ v (outs-Then _ _) e in absurd cc
value_done n (runs l t) v h e = let z = no_value _ _ v (outs-Then _ _) e in absurd cc
value_done n (caught l x) v h e = let z = no_value _ _ v (outs-Then _ _) e in absurd cc
value_done n (lost x) v h e = let z = no_value _ _ v (outs-Then _ _) e in absurd cc
value_done n (keeps l (at_value x)) v h e = let z = no_value _ _ v (outs-Then _ _) e in absurd cc
value_done n (keeps l (at_throw x)) v h e = let z = no_value _ _ v (outs-Then _ _) e in absurd cc
value_done n (has_kept l (at_value x)) v h e = let z = no_value _ _ v (outs-Then _ _) e in absurd cc
value_done n (has_kept l (at_throw x)) v h e = let z = no_value _ _ v (outs-Then _ _) e in absurd cc
value_done n (marks l (at_value x)) v h e = let z = no_value _ _ v (outs-Then _ _) e in absurd cc
value_done n (marks l (at_throw x)) v h e = let z = no_value _ _ v (outs-Then _ _) e in absurd cc
value_done n (has_marked l (at_value x)) v h e =
    let z = no_value _ _ v (outs-Then _ _) e in absurd cc
value_done n (has_marked l (at_throw x)) v h e =
    let z = no_value _ _ v (outs-Then _ _) e in absurd cc
value_done n stages.leaves v h e = let z = no_value _ _ v (outs-Then _ _) e in absurd cc
value_done n (counts form) v (fresh q) e =
    let z = no_value _ _ v (ap out-Term q ∙ outs-Atomic _ _) e in absurd cc
value_done n (counts form) v (slept ms r q) e =
    let z = no_value _ _ v (ap out-Term q ∙ outs-Asleep _ _) e in absurd cc
value_done n (done t) v h e = (t, refl)

-- a tree whose term is a value has none to call, and servers that are done
pub record Emptied (base : List ℕ) (tree : Tree) : Type 0 where
  pub none_yet : yet tree ≡ 0
  pub are_done : AreDone (leaves base tree)

pub emptied : (p : Program) (n : Names) (base : List ℕ) (tree : Tree) (v : Value) → AllServe p n tree
    → tree_term n tree ≡ term.Value v → Emptied base tree
emptied p n base unread v h e = let z = no_value _ _ v (outs-For _ _ _ _ _) e in absurd cc
emptied p n base (undivided items) v h e =
    let z = no_value _ _ v (outs-For _ _ _ _ _) e in absurd cc
emptied p n base (server stage) v h e =
    record { none_yet = refl; are_done = (value_done n stage v h.0 e, tt) }
emptied p n base (halves m a k b) v h e =
    let z = no_value _ _ v (outs-ForHalves _ _) e in absurd cc
emptied p n base (over t) v h e = record { none_yet = refl; are_done = tt }

-- a calm server is no throw
no_throw : (t : Term) (y : TermShape) (v : Value) → out-Term t ≡ y → t ≡ throw_of v
    → y ≡ Term-F.Throw (term.Value v)
no_throw t y v q r = sym q ∙ ap out-Term r ∙ outs-Throw (term.Value v)

pub stage_throws_not : (n : Names) (stage : Stage) (v : Value) → Stands n stage → IsCalm stage
    → term_at n stage ≡ throw_of v → ⊥
stage_throws_not n called v h c e = let z = no_throw _ _ v (outs-Call _ _) e in cc
stage_throws_not n asking v h c e = let z = no_throw _ _ v (outs-Let _ _ _) e in cc
stage_throws_not n (trying form) v h c e = let z = no_throw _ _ v (outs-Let _ _ _) e in cc
stage_throws_not n (got x) v h c e = let z = no_throw _ _ v (outs-Let _ _ _) e in cc
stage_throws_not n (refused x) v h c e = c
stage_throws_not n (looking x) v h c e = let z = no_throw _ _ v (outs-Typecase _ _ _ _) e in cc
stage_throws_not n (sent l) v h c e = let z = no_throw _ _ v (outs-Call _ _) e in cc
stage_throws_not n (reads l) v h c e = let z = no_throw _ _ v (outs-Then _ _) e in cc
stage_throws_not n (runs l t) v h c e = let z = no_throw _ _ v (outs-Then _ _) e in cc
stage_throws_not n (caught l x) v h c e = let z = no_throw _ _ v (outs-Then _ _) e in cc
stage_throws_not n (lost x) v h c e = c
stage_throws_not n (keeps l (at_value x)) v h c e = let z = no_throw _ _ v (outs-Then _ _) e in cc
stage_throws_not n (keeps l (at_throw x)) v h c e = let z = no_throw _ _ v (outs-Then _ _) e in cc
stage_throws_not n (has_kept l (at_value x)) v h c e = let z = no_throw _ _ v (outs-Then _ _) e in cc
stage_throws_not n (has_kept l (at_throw x)) v h c e = let z = no_throw _ _ v (outs-Then _ _) e in cc
stage_throws_not n (marks l (at_value x)) v h c e = let z = no_throw _ _ v (outs-Then _ _) e in cc
stage_throws_not n (marks l (at_throw x)) v h c e = let z = no_throw _ _ v (outs-Then _ _) e in cc
stage_throws_not n (has_marked l (at_value x)) v h c e = let z = no_throw _ _ v (outs-Then _ _) e in cc
stage_throws_not n (has_marked l (at_throw x)) v h c e = let z = no_throw _ _ v (outs-Then _ _) e in cc
stage_throws_not n stages.leaves v h c e = let z = no_throw _ _ v (outs-Then _ _) e in cc
stage_throws_not n (counts form) v (fresh q) c e =
    let z = no_throw _ _ v (ap out-Term q ∙ outs-Atomic _ _) e in cc
stage_throws_not n (counts form) v (slept ms r q) c e =
    let z = no_throw _ _ v (ap out-Term q ∙ outs-Asleep _ _) e in cc
stage_throws_not n (done t) v h c e =
    let z = no_throw _ _ v (outs-Value c.0) (sym c.1 ∙ e) in cc

-- a calm tree is no throw
pub calm_throw : (p : Program) (n : Names) (tree : Tree) (v : Value) → AllServe p n tree
    → AreCalm tree → tree_term n tree ≡ throw_of v → ⊥
calm_throw p n unread v h c e =
    let z = no_throw _ _ v (outs-For _ _ _ _ _) e in absurd cc
calm_throw p n (undivided items) v h c e =
    let z = no_throw _ _ v (outs-For _ _ _ _ _) e in absurd cc
calm_throw p n (server stage) v h c e = stage_throws_not n stage v h.0 c e
calm_throw p n (halves m a k b) v h c e =
    let z : Term-F.ForHalves _ _ ≡ Term-F.Throw (term.Value v) =
    sym (outs-ForHalves _ _) ∙ ap out-Term e ∙ outs-Throw (term.Value v) in absurd cc
calm_throw p n (over t) v h c e =
    let z : Term-F.Value c.0 ≡ Term-F.Throw (term.Value v) =
    sym (outs-Value c.0) ∙ ap out-Term (sym c.1 ∙ e) ∙ outs-Throw (term.Value v) in absurd cc

-- ---- each pick

module _ (p : Program) (n : Names) (s : Store) (d : Effect) where
  abbrev At : Pick → List ℕ → Tree → Tree → Type 0
  At pick base before after = ChangesAt p n s pick d base before after

  in_first : (pick q : Pick) (base : List ℕ) (m k : Bool) (a b c : Tree)
      → pick ≡ under (0 ∷ []) q → At q (base ++ 0 ∷ []) a c
      → (m' k' : Bool) → At pick base (halves m a k b) (halves m' c k' b)
  in_first pick q base m k a b c e (quietly x y w) m' k' =
      quietly (ap (λ ls. ls ++ leaves (base ++ 1 ∷ []) b) x) (ap (λ i. i + yet b) y) w
  in_first pick q base m k a b c e (calls xs ys path x y z w) m' k' =
      calls xs (ys ++ leaves (base ++ 1 ∷ []) b) path
      (ap (λ ls. ls ++ leaves (base ++ 1 ∷ []) b) x ∙ append_assoc xs ys _)
      (ap (λ ls. ls ++ leaves (base ++ 1 ∷ []) b) y ∙ append_assoc xs (leaf path called ∷ ys) _)
      (let u : yet a + yet b ≡ suc (yet c + yet b) = omega (arith, z) in u) w
  in_first pick q base m k a b c e (goes xs ys rest stage next r x y z w f) m' k' =
      goes xs (ys ++ leaves (base ++ 1 ∷ []) b) (0 ∷ rest) stage next r
      (ap (λ ls. ls ++ leaves (base ++ 1 ∷ []) b) x
      ∙ append_assoc xs (leaf ((base ++ 0 ∷ []) ++ rest) stage ∷ ys) _
      ∙ ap (λ path. xs ++ leaf path stage ∷ (ys ++ leaves (base ++ 1 ∷ []) b))
      (append_assoc base (0 ∷ []) rest))
      (ap (λ ls. ls ++ leaves (base ++ 1 ∷ []) b) y
      ∙ append_assoc xs (leaf ((base ++ 0 ∷ []) ++ rest) next ∷ ys) _
      ∙ ap (λ path. xs ++ leaf path next ∷ (ys ++ leaves (base ++ 1 ∷ []) b))
      (append_assoc base (0 ∷ []) rest))
      (ap (λ i. i + yet b) z) (e ∙ ap (under (0 ∷ [])) w ∙ under_twice (0 ∷ []) rest r) f
  in_first pick q base m k a b c e (leaves_done xs gone ys x y h z w) m' k' =
      leaves_done xs gone (ys ++ leaves (base ++ 1 ∷ []) b)
      (ap (λ ls. ls ++ leaves (base ++ 1 ∷ []) b) x ∙ append_assoc xs (gone ++ ys) _
      ∙ ap (λ ls. xs ++ ls) (append_assoc gone ys _))
      (ap (λ ls. ls ++ leaves (base ++ 1 ∷ []) b) y ∙ append_assoc xs ys _) h
      (ap (λ i. i + yet b) z) w

  in_second : (pick q : Pick) (base : List ℕ) (m k : Bool) (a b c : Tree)
      → pick ≡ under (1 ∷ []) q → At q (base ++ 1 ∷ []) b c
      → (m' k' : Bool) → At pick base (halves m a k b) (halves m' a k' c)
  in_second pick q base m k a b c e (quietly x y w) m' k' =
      quietly (ap (λ ls. leaves (base ++ 0 ∷ []) a ++ ls) x) (ap (λ i. yet a + i) y) w
  in_second pick q base m k a b c e (calls xs ys path x y z w) m' k' =
      calls (leaves (base ++ 0 ∷ []) a ++ xs) ys path
      (ap (λ ls. leaves (base ++ 0 ∷ []) a ++ ls) x ∙ sym (append_assoc _ xs ys))
      (ap (λ ls. leaves (base ++ 0 ∷ []) a ++ ls) y ∙ sym (append_assoc _ xs (leaf path called ∷ ys)))
      (let u : yet a + yet b ≡ suc (yet a + yet c) = omega (arith, z) in u) w
  in_second pick q base m k a b c e (goes xs ys rest stage next r x y z w f) m' k' =
      goes (leaves (base ++ 0 ∷ []) a ++ xs) ys (1 ∷ rest) stage next r
      (ap (λ ls. leaves (base ++ 0 ∷ []) a ++ ls) x
      ∙ sym (append_assoc _ xs (leaf ((base ++ 1 ∷ []) ++ rest) stage ∷ ys))
      ∙ ap (λ path. (leaves (base ++ 0 ∷ []) a ++ xs) ++ leaf path stage ∷ ys)
      (append_assoc base (1 ∷ []) rest))
      (ap (λ ls. leaves (base ++ 0 ∷ []) a ++ ls) y
      ∙ sym (append_assoc _ xs (leaf ((base ++ 1 ∷ []) ++ rest) next ∷ ys))
      ∙ ap (λ path. (leaves (base ++ 0 ∷ []) a ++ xs) ++ leaf path next ∷ ys)
      (append_assoc base (1 ∷ []) rest))
      (ap (λ i. yet a + i) z) (e ∙ ap (under (1 ∷ [])) w ∙ under_twice (1 ∷ []) rest r) f
  in_second pick q base m k a b c e (leaves_done xs gone ys x y h z w) m' k' =
      leaves_done (leaves (base ++ 0 ∷ []) a ++ xs) gone ys
      (ap (λ ls. leaves (base ++ 0 ∷ []) a ++ ls) x ∙ sym (append_assoc _ xs (gone ++ ys)))
      (ap (λ ls. leaves (base ++ 0 ∷ []) a ++ ls) y ∙ sym (append_assoc _ xs ys)) h
      (ap (λ i. yet a + i) z) w

  -- both halves are over
  ends_both : (pick : Pick) (base : List ℕ) (m k : Bool) (a b : Tree) (t : Term)
      → AllServe p n (halves m a k b) → AreCalm (halves m a k b)
      → IsOver (with_step m (tree_term n a)) (with_step k (tree_term n b)) t → d ≡ paid 1
      → At pick base (halves m a k b) (over t)
  ends_both pick base m k a b t h c (are_values x y q r w) e =
      let i = emptied p n (base ++ 0 ∷ []) a x h.0 (unmarked_value m (tree_term n a) x q) in
      let j = emptied p n (base ++ 1 ∷ []) b y h.1 (unmarked_value k (tree_term n b) y r) in
      leaves_done [] (leaves base (halves m a k b)) []
      (sym (append-nil (leaves base (halves m a k b)))) refl
      (done_append _ _ i.are_done j.are_done)
      (let u : 0 ≡ yet a + yet b = omega (arith, i.none_yet, j.none_yet) in u) e
  ends_both pick base m k a b t h c (first_threw x y q w) e =
      absurd (calm_throw p n a x h.0 c.0 (unmarked_throw m (tree_term n a) x q))
  ends_both pick base m k a b t h c (second_threw x y q w) e =
      absurd (calm_throw p n b x h.1 c.1 (unmarked_throw k (tree_term n b) x q))

  changes_at : (pick : Pick) (base : List ℕ) (before after : Tree) → AllServe p n before
      → AreCalm before → Grows p n s pick d before after → At pick base before after
  changes_at pick base unread (undivided items) h c g =
      quietly refl (ap count_of g.0) g.1
  changes_at pick base (undivided items) (over t) h c g = quietly refl (sym g.0) g.2
  changes_at pick base (undivided items) (server stage) h c g =
      calls [] [] base refl (ap (λ x. leaf base x ∷ []) g.1) g.0 g.2
  changes_at pick base (undivided items) (halves m a k b) h c g =
      quietly
      (λ i. leaves (base ++ 0 ∷ []) (g.4 i) ++ leaves (base ++ 1 ∷ []) (g.6 i))
      ((λ i. yet (g.4 i) + yet (g.6 i)) ∙ g.2) g.7
  changes_at pick base (server stage) (server next) h c g =
      goes [] [] [] stage next pick (ap (λ x. leaf x stage ∷ []) (sym (append-nil base)))
      (ap (λ x. leaf x next ∷ []) (sym (append-nil base))) refl (sym (under_none pick)) g
  changes_at pick base (halves m a k b) (halves m2 a2 k2 b2) h c (inl (q, e, g, x, y, z)) =
      subst (λ v. At pick base (halves m a k b) (halves m2 a2 k2 v)) (sym z)
      (in_first pick q base m k a b a2 e (changes_at q (base ++ 0 ∷ []) a a2 h.0 c.0 g) m2 k2)
  changes_at pick base (halves m a k b) (halves m2 a2 k2 b2) h c (inr (q, e, g, x, y, z)) =
      subst (λ v. At pick base (halves m a k b) (halves m2 v k2 b2)) (sym y)
      (in_second pick q base m k a b b2 e (changes_at q (base ++ 1 ∷ []) b b2 h.1 c.1 g) m2 k2)
  changes_at pick base (halves m a k b) (over t) h c g = ends_both pick base m k a b t h c g.0 g.1
  changes_at pick base _ _ h c g = absurd g

pub each_pick_changes : EachPickChanges
each_pick_changes p n s pick d before after h c g =
    go (changes_at p n s d pick [] before after h c g)
  where
    go : ChangesAt p n s pick d [] before after → Changes p n s pick d before after
    go (quietly x y w) = changes.quietly x y w
    go (calls xs ys path x y z w) = changes.calls xs ys path x y z w
    go (goes xs ys rest stage next q x y z w f) = changes.goes xs ys rest stage next q x y z w f
    go (leaves_done xs gone ys x y k z w) = changes.leaves_done xs gone ys x y k z w
