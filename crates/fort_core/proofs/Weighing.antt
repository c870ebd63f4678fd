-- What is in a term, a value and a function, form by form, and what falls as they are let go.
use Rattle.std.proofs.Common.{◌≡◌, ℕ, ◌+◌, ◌*◌, ◌<◌, ◌≤◌, List, [], ◌∷◌, ◌++◌, map, IsPermutation, sum_by, Option, Some, None, MatchOption, refl, arith, sym, ap, subst, ◌∙◌}
use Rattle.std.proofs.lemmas.List.Sums.{sum_by-cons}
use Rattle.std.proofs.lemmas.List.Sorted.{sum_by-IsPermutation}
use Rattle.std.proofs.lemmas.Nat.{mul-le}
use Rattle.fort_base.specs.declared.ids.Loc.{Loc}
use Rattle.fort_base.specs.declared.ids.SetId.{SetId}
use Rattle.fort_base.specs.declared.ty.Ty.{Ty}
use Rattle.fort_core.specs.declared.release.Left.{Left}
use Rattle.fort_core.specs.declared.release.Shed.{Shed}
use Rattle.fort_core.specs.declared.term.Term.{Term, fold-roll-Term}
use Rattle.fort_core.specs.declared.term.Term as term
use Rattle.fort_core.specs.declared.term.Term.TheOpen.{Term-F, Value-F}
use Rattle.fort_core.specs.declared.term.Term.TheVariants as a_term
use Rattle.fort_core.specs.declared.value.Closure.{Closure, fold_out-Closure}
use Rattle.fort_core.specs.declared.value.Value.{Value, fold-roll-Value}
use Rattle.fort_core.specs.declared.value.Value as value
use Rattle.fort_core.specs.declared.value.Value.TheVariants as a_value
use Rattle.fort_core.specs.Weights.{each, term_weight_at, value_weight_at, closure_weight_at, weight, value_weight, closure_weight, waits, term_work, Sheds}

pub each-map : {X Y : Type 0} (f : Y → ℕ) (g : X → Y) (xs : List X)
    → each f (map g xs) ≡ each (λ x. f (g x)) xs
each-map f g [] = refl
each-map f g (x ∷ xs) = ap (λ n. f (g x) + 1 + n) (each-map f g xs)

pub each-last : {X : Type 0} (f : X → ℕ) (xs : List X) (x : X)
    → each f (xs ++ x ∷ []) ≡ each f xs + (f x + 1)
each-last f [] x = omega arith
each-last f (y ∷ xs) x =
    let e : each f ((y ∷ xs) ++ x ∷ []) ≡ f y + 1 + each f (xs ++ x ∷ []) = refl in
    let h : each f (y ∷ xs) ≡ f y + 1 + each f xs = refl in
    omega (arith, each-last f xs x)

each-sum_by : {X : Type 0} (f : X → ℕ) (xs : List X) → each f xs ≡ sum_by (λ x. f x + 1) xs
each-sum_by f [] = refl
each-sum_by f (x ∷ xs) =
    let e : each f (x ∷ xs) ≡ f x + 1 + each f xs = refl in
    omega (arith, each-sum_by f xs, sum_by-cons (λ x. f x + 1) x xs)

pub each-permutation : {X : Type 0} (f : X → ℕ) (xs ys : List X) → IsPermutation xs ys
    → each f ys ≡ each f xs
each-permutation f xs ys e =
    each-sum_by f ys ∙ sum_by-IsPermutation (λ x. f x + 1) xs ys e ∙ sym (each-sum_by f xs)

roll : (form : Term-F Term Value Closure)
    → weight (term.roll-Term form)
    ≡ term_weight_at
    (term.map-Term Term Value Closure ℕ ℕ ℕ weight value_weight closure_weight form)
roll form = fold-roll-Term ℕ ℕ ℕ term_weight_at value_weight_at closure_weight_at form

pub weight-Group : (ts : List Term) → weight (term.Group ts) ≡ each weight ts
weight-Group ts =
    ap weight (sym (a_term.rolls-Group ts)) ∙ roll (Term-F.Group ts) ∙ each-map (λ n. n) weight ts

pub weight-Call : (set : SetId) (ts : List Term) → weight (term.Call set ts) ≡ each weight ts
weight-Call set ts =
    ap weight (sym (a_term.rolls-Call set ts)) ∙ roll (Term-F.Call set ts)
    ∙ each-map (λ n. n) weight ts

pub weight-Operator : (set : SetId) (ts : List Term)
    → weight (term.Operator set ts) ≡ each weight ts
weight-Operator set ts =
    ap weight (sym (a_term.rolls-Operator set ts)) ∙ roll (Term-F.Operator set ts)
    ∙ each-map (λ n. n) weight ts

pub weight-Typecase : (x : ℕ) (a : Term) (cs : List (Term × Ty)) (b : Term)
    → weight (term.Typecase x a cs b) ≡ weight a + 1 + (weight b + 1) + each (λ
    (c : Term × Ty). weight c.0) cs
weight-Typecase x a cs b =
    ap weight (sym (a_term.rolls-Typecase x a cs b)) ∙ roll (Term-F.Typecase x a cs b)
    ∙ ap (λ n. weight a + 1 + (weight b + 1) + n) (each-map (λ (c : ℕ × Ty). c.0) (λ
    (c : Term × Ty). (weight c.0, c.1)) cs)

pub weight-Also : (ts : List Term) → weight (term.Also ts) ≡ each weight ts
weight-Also ts =
    ap weight (sym (a_term.rolls-Also ts)) ∙ roll (Term-F.Also ts) ∙ each-map (λ n. n) weight ts

pub weight-Try-None : (a : Term) (x : ℕ) (cs : List (Term × Ty))
    → weight (term.Try a x cs None) ≡ weight a + 1 + each (λ (c : Term × Ty). weight c.0) cs
weight-Try-None a x cs =
    ap weight (sym (a_term.rolls-Try a x cs None)) ∙ roll (Term-F.Try a x cs None)
    ∙ ap (λ n. weight a + 1 + n) (each-map (λ (c : ℕ × Ty). c.0) (λ
    (c : Term × Ty). (weight c.0, c.1)) cs)

pub weight-Try-Some : (a : Term) (x : ℕ) (cs : List (Term × Ty)) (b : Term)
    → weight (term.Try a x cs (Some b)) ≡ weight a + 1 + (weight b + 1) + each (λ
    (c : Term × Ty). weight c.0) cs
weight-Try-Some a x cs b =
    ap weight (sym (a_term.rolls-Try a x cs (Some b))) ∙ roll (Term-F.Try a x cs (Some b))
    ∙ ap (λ n. weight a + 1 + (weight b + 1) + n) (each-map (λ (c : ℕ × Ty). c.0) (λ
    (c : Term × Ty). (weight c.0, c.1)) cs)

pub weight-Asleep : (marks : List (Loc × Value)) (a : Term)
    → weight (term.Asleep marks a) ≡ weight a + 1 + each (λ
    (m : Loc × Value). value_weight m.1) marks
weight-Asleep marks a =
    ap weight (sym (a_term.rolls-Asleep marks a)) ∙ roll (Term-F.Asleep marks a)
    ∙ ap (λ n. weight a + 1 + n) (each-map (λ (m : Loc × ℕ). m.1) (λ
    (m : Loc × Value). (m.0, value_weight m.1)) marks)

pub weight-Tuple : (vs : List Value) → value_weight (value.Tuple vs) ≡ each value_weight vs
weight-Tuple vs =
    ap value_weight (sym (a_value.rolls-Tuple vs))
    ∙ fold-roll-Value ℕ ℕ ℕ term_weight_at value_weight_at closure_weight_at (Value-F.Tuple vs)
    ∙ each-map (λ n. n) value_weight vs

weight-Closure : (c : Closure)
    → closure_weight c ≡ weight c.body + 1 + each (λ (h : ℕ × Value). value_weight h.1) c.held
weight-Closure c =
    fold_out-Closure ℕ ℕ ℕ term_weight_at value_weight_at closure_weight_at c
    ∙ ap (λ n. weight c.body + 1 + n) (each-map (λ (h : ℕ × ℕ). h.1) (λ
    (h : ℕ × Value). (h.0, value_weight h.1)) c.held)

-- what goes by a call is taken from the form in hand
pub popped : (spent before after waiting : ℕ) → before ≡ after + (spent + 1)
    → (spent + 1 ≤ before)
    × ((after + waiting ≤ before + waiting)
    × ((after + waiting) * (after + waiting) + after
    < (before + waiting) * (before + waiting) + before))
popped spent before after waiting e =
    let k : (after + waiting) * (after + waiting) ≤ (before + waiting) * (before + waiting) =
    mul-le (after + waiting) (after + waiting) (before + waiting) (before + waiting)
    (omega arith) (omega arith) in
    (omega arith, (omega arith, omega (arith, k)))

lifts_left : (o : Option Left) (n h k : ℕ) → h ≤ k
    → MatchOption o (Unit {0}) (λ l. (weight l.hand + waits l.waiting ≤ n)
    × (term_work l.hand l.waiting < n * n + h))
    → MatchOption o (Unit {0}) (λ l. (weight l.hand + waits l.waiting ≤ n)
    × (term_work l.hand l.waiting < n * n + k))
lifts_left None n h k le s = tt
lifts_left (Some l) n h k le s = (s.0, omega (arith, s.1))

-- more may stand in the form in hand than in what goes first
pub lifts : (n m h k : ℕ) (shed : Shed) → n ≡ m → h ≤ k → Sheds n h shed → Sheds m k shed
lifts n m h k shed e le s =
    let t : Sheds n k shed = (omega (arith, s.0), lifts_left shed.left n h k le s.1) in
    subst (λ i. Sheds i k shed) e t

pub lifts-last : (parts others : List Term) (last : Term) (shed : Shed)
    → parts ≡ others ++ last ∷ []
    → Sheds (weight last + 1 + weight (term.Group others)) (weight last + 1) shed
    → Sheds (each weight parts) (each weight parts) shed
lifts-last parts others last shed e s =
    let all : each weight parts ≡ each weight others + (weight last + 1) =
    ap (each weight) e ∙ each-last weight others last in
    lifts _ _ _ _ shed (omega (arith, weight-Group others, all)) (omega (arith, all)) s

pub lifts-only : (parts others : List Term) (last : Term) (shed : Shed)
    → parts ≡ others ++ last ∷ [] → others ≡ [] → Sheds (weight last + 1 + 0) (weight last + 1) shed
    → Sheds (each weight parts) (each weight parts) shed
lifts-only parts others last shed e none s =
    let all : each weight parts ≡ each weight others + (weight last + 1) =
    ap (each weight) e ∙ each-last weight others last in
    let zero : each weight others ≡ 0 = ap (each weight) none in
    lifts _ _ _ _ shed (omega (arith, all, zero)) (omega (arith, all)) s

pub lifts-many : (parts front made others : List Term) (last waiting : Term) (shed : Shed)
    → parts ≡ front ++ last ∷ [] → made ≡ front ++ waiting ∷ [] → IsPermutation made others
    → Sheds (weight last + 1 + weight (term.Group others)) (weight last + 1) shed
    → Sheds (each weight parts + (weight waiting + 1)) (each weight parts) shed
lifts-many parts front made others last waiting shed e f p s =
    let all : each weight parts ≡ each weight front + (weight last + 1) =
    ap (each weight) e ∙ each-last weight front last in
    let rest : each weight others ≡ each weight front + (weight waiting + 1) =
    each-permutation weight made others p ∙ ap (each weight) f ∙ each-last weight front waiting
    in
    lifts _ _ _ _ shed (omega (arith, weight-Group others, all, rest)) (omega (arith, all)) s

clauses_last : (cs left : List (Term × Ty)) (c : Term) (ty : Ty) → cs ≡ left ++ (c, ty) ∷ []
    → each (λ (c : Term × Ty). weight c.0) cs ≡ each (λ
    (c : Term × Ty). weight c.0) left + (weight c + 1)
clauses_last cs left c ty e =
    ap (each (λ (c : Term × Ty). weight c.0)) e ∙ each-last (λ
    (c : Term × Ty). weight c.0) left (c, ty)

pub typecase_popped : (x : ℕ) (a b c : Term) (cs left : List (Term × Ty)) (ty : Ty)
    → cs ≡ left ++ (c, ty) ∷ []
    → weight (term.Typecase x a cs b) ≡ weight (term.Typecase x a left b) + (weight c + 1)
typecase_popped x a b c cs left ty e =
    omega (arith, weight-Typecase x a cs b, weight-Typecase x a left b, clauses_last cs left c ty e)

pub try_popped : (a : Term) (x : ℕ) (c : Term) (cs left : List (Term × Ty)) (last : Option Term)
    (ty : Ty) → cs ≡ left ++ (c, ty) ∷ []
    → weight (term.Try a x cs last) ≡ weight (term.Try a x left last) + (weight c + 1)
try_popped a x c cs left None ty e =
    omega (arith, weight-Try-None a x cs, weight-Try-None a x left, clauses_last cs left c ty e)
try_popped a x c cs left (Some b) ty e =
    omega (arith, weight-Try-Some a x cs b, weight-Try-Some a x left b, clauses_last cs left c ty e)

pub asleep_popped : (a : Term) (v : Value) (marks left : List (Loc × Value)) (loc : Loc)
    → marks ≡ left ++ (loc, v) ∷ []
    → weight (term.Asleep marks a) ≡ weight (term.Asleep left a) + (value_weight v + 1)
asleep_popped a v marks left loc e =
    let all =
    ap (each (λ (m : Loc × Value). value_weight m.1)) e ∙ each-last (λ
    (m : Loc × Value). value_weight m.1) left (loc, v) in
    omega (arith, weight-Asleep marks a, weight-Asleep left a, all)

-- an item is lighter than its list
pub item_falls : {X : Type 0} (f : X → ℕ) (xs left all : List X) (x : X) (t : ℕ)
    → xs ≡ left ++ x ∷ [] → each f xs ≤ each f all → 2 * each f all ≡ t → 2 * f x + 1 < t
item_falls f xs left all x t e le m =
    let k : each f xs ≡ each f left + (f x + 1) = ap (each f) e ∙ each-last f left x in
    omega arith

pub left_lighter : {X : Type 0} (f : X → ℕ) (xs left all : List X) (x : X) → xs ≡ left ++ x ∷ []
    → each f xs ≤ each f all → each f left ≤ each f all
left_lighter f xs left all x e le =
    let k : each f xs ≡ each f left + (f x + 1) = ap (each f) e ∙ each-last f left x in
    omega arith

pub held_falls : (c : Closure) (t : ℕ) → 2 * closure_weight c ≡ t
    → 2 * each (λ (h : ℕ × Value). value_weight h.1) c.held < t
held_falls c t m = omega (arith, weight-Closure c)

pub tuple_falls : (v : Value) (vs : List Value) (t : ℕ) → v ≡ value.Tuple vs
    → 2 * value_weight v + 1 ≡ t → 2 * each value_weight vs < t
tuple_falls v vs t e m =
    let k : value_weight v ≡ each value_weight vs = ap value_weight e ∙ weight-Tuple vs in
    omega arith
