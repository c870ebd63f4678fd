-- Groupings in the order of their places: the one that is found at a place is the first there.
use Rattle.std.proofs.Common.{◌≡◌, ℕ, zero, suc, ◌+◌, ◌<◌, ◌≤◌, length, ◌⊎◌, inl, inr, Bool, true, false, cond, List, [], ◌∷◌, Some, None, refl, sym, ap, ◌∙◌, subst, arith}
use Rattle.std.specs.Prelude.{◌&&◌, IsTrue, nat_eq, slice_get}
use Rattle.std.proofs.lemmas.Bool.{eq-eqb, eqb-true, ne_eqb}
use Rattle.std.proofs.lemmas.Bool.Decides.{nat_tests}
use Rattle.std.proofs.lemmas.Option.{slice_get_within}
use Rattle.fort_base.specs.Places.{IsBefore, is_before}
use Rattle.fort_base.specs.declared.refusal.Place.{Place}
use Rattle.fort_tree.specs.declared.grouped.FlatGrouping.{FlatGrouping}
use Rattle.fort_form_walk.specs.Groupings.{InOrder, grouping_at, same_place}

never : (b : Bool) → (b && false) ≡ false
never true = refl
never false = refl

both : (a b : Bool) → (a && b) ≡ true → (a ≡ true) × (b ≡ true)
both true true e = (refl, refl)
both true false e = absurd cc
both false b e = absurd cc

-- a place before another one isn't the same
apart : (p q : Place) → IsBefore p q → same_place p q ≡ false
apart p q (inl lt) =
    ap (λ b. b && nat_eq p.column q.column) (ne_eqb p.line q.line (λ e. omega arith))
apart p q (inr r) =
    let lt = r.1
    in ap (λ b. nat_eq p.line q.line && b) (ne_eqb p.column q.column (λ e. omega arith))
    ∙ never (nat_eq p.line q.line)

the_same : (p : Place) → same_place p p ≡ true
the_same p =
    ap (λ b. b && nat_eq p.column p.column) (eq-eqb p.line p.line refl)
    ∙ eq-eqb p.column p.column refl

abbrev place_at : ℕ → ℕ → Place
place_at line column = record { line = line; column = column }

-- a place that is the same by the test is the same
alike : (p q : Place) → same_place p q ≡ true → p ≡ q
alike p q e =
    let r = both (nat_eq p.line q.line) (nat_eq p.column q.column) e in
    ap (λ n. place_at n p.column) (eqb-true p.line q.line r.0)
    ∙ ap (place_at q.line) (eqb-true p.column q.column r.1)

-- before is passed on
passed_on : (p q r : Place) → IsBefore p q → IsBefore q r → IsBefore p r
passed_on p q r (inl a) (inl b) = inl (omega arith)
passed_on p q r (inl a) (inr b) = inl (let e = b.0 in omega arith)
passed_on p q r (inr a) (inl b) = inl (let e = a.0 in omega arith)
passed_on p q r (inr a) (inr b) = inr (a.0 ∙ b.0, let d = a.1 in let e = b.1 in omega arith)

-- what the test says
stands : (p q : Place) → IsTrue (is_before p q) → IsBefore p q
stands p q e = grind (arith, nat_tests)

behind : (g : FlatGrouping) (groups : List FlatGrouping) → InOrder (g ∷ groups) → InOrder groups
behind g groups order n h next e f = order (suc n) h next e f

-- the first grouping stands before all others
goes_first : (g : FlatGrouping) (groups : List FlatGrouping) (i : ℕ) (h : FlatGrouping)
    → InOrder (g ∷ groups) → slice_get groups i ≡ Some h → IsBefore g.place h.place
goes_first g [] i h order e = absurd cc
goes_first g (x ∷ groups) zero h order e = stands g.place h.place (order zero g h refl e)
goes_first g (x ∷ groups) (suc i) h order e =
    passed_on g.place x.place h.place (stands g.place x.place (order zero g x refl refl))
    (goes_first x groups i h (behind g (x ∷ groups) order) e)

-- a grouping in order is the one that is found at its place
pub found : (groups : List FlatGrouping) (i : ℕ) (h : FlatGrouping) → InOrder groups
    → slice_get groups i ≡ Some h → grouping_at groups h.place ≡ Some h.grouped
found [] i h order e = absurd cc
found (g ∷ groups) zero h order e =
    let same : g ≡ h = cc in
    subst (λ (x : FlatGrouping). cond (same_place g.place x.place) (Some g.grouped)
    (grouping_at groups x.place) ≡ Some x.grouped) same
    (ap (λ b. cond b (Some g.grouped) (grouping_at groups g.place)) (the_same g.place))
found (g ∷ groups) (suc i) h order e =
    ap (λ b. cond b (Some g.grouped) (grouping_at groups h.place))
    (apart g.place h.place (goes_first g groups i h order e))
    ∙ found groups i h (behind g groups order) e

-- ---- going through all

-- no grouping so far stands at the place
pub record NoneBefore (groups : List FlatGrouping) (place : Place) (n : ℕ) : Type 0 where
  pub none : (i : ℕ) (g : FlatGrouping) → i < n → slice_get groups i ≡ Some g
      → same_place g.place place ≡ false

pub first_there : (groups : List FlatGrouping) (place : Place) (n : ℕ) (g : FlatGrouping)
    → NoneBefore groups place n → slice_get groups n ≡ Some g → same_place g.place place ≡ true
    → grouping_at groups place ≡ Some g.grouped
first_there [] place n g before e here = absurd cc
first_there (x ∷ groups) place zero g before e here =
    let same : x ≡ g = cc in
    ap (λ (y : FlatGrouping). cond (same_place y.place place) (Some y.grouped)
    (grouping_at groups place)) same
    ∙ ap (λ b. cond b (Some g.grouped) (grouping_at groups place)) here
first_there (x ∷ groups) place (suc n) g before e here =
    ap (λ b. cond b (Some x.grouped) (grouping_at groups place))
    (before.none zero x (omega arith) refl)
    ∙ first_there groups place n g
    (record { none = λ i h lt f. before.none (suc i) h (omega arith) f }) e here

pub none_there : (groups : List FlatGrouping) (place : Place) (n : ℕ) → NoneBefore groups place n
    → length groups ≤ n → grouping_at groups place ≡ None
none_there [] place n before le = refl
none_there (x ∷ groups) place n before le =
    ap (λ b. cond b (Some x.grouped) (grouping_at groups place))
    (before.none zero x (omega arith) refl)
    ∙ none_there groups place (length groups)
    (record { none = λ i h lt f. before.none (suc i) h (omega arith) f }) (omega arith)

up : (i n : ℕ) → (i < n) ⊎ (i ≡ n) → (suc i < suc n) ⊎ (suc i ≡ suc n)
up i n (inl a) = inl (omega arith)
up i n (inr e) = inr (ap suc e)

within : (i n : ℕ) → i < n + 1 → (i < n) ⊎ (i ≡ n)
within zero zero lt = inr refl
within zero (suc n) lt = inl (omega arith)
within (suc i) zero lt = absurd (omega arith)
within (suc i) (suc n) lt = up i n (within i n (omega arith))

none_at : (groups : List FlatGrouping) (place : Place) (n : ℕ) (g : FlatGrouping)
    → NoneBefore groups place n → slice_get groups n ≡ Some g → same_place g.place place ≡ false
    → (i : ℕ) (h : FlatGrouping) → (i < n) ⊎ (i ≡ n) → slice_get groups i ≡ Some h
    → same_place h.place place ≡ false
none_at groups place n g before e other i h (inl a) f = before.none i h a f
none_at groups place n g before e other i h (inr q) f =
    let same : Some g ≡ Some h = sym e ∙ ap (slice_get groups) (sym q) ∙ f in
    let it : g ≡ h = cc in
    subst (λ (x : FlatGrouping). same_place x.place place ≡ false) it other

-- one grouping more that doesn't stand there
pub one_later : (groups : List FlatGrouping) (place : Place) (n : ℕ) (g : FlatGrouping)
    → NoneBefore groups place n → slice_get groups n ≡ Some g → same_place g.place place ≡ false
    → NoneBefore groups place (n + 1)
one_later groups place n g before e other =
    record { none = λ i h lt f. none_at groups place n g before e other i h (within i n lt) f }

pub none_yet : (groups : List FlatGrouping) (place : Place) → NoneBefore groups place 0
none_yet groups place = record { none = λ i h lt f. absurd (omega arith) }

-- what is found at a place is found at the same place
pub found_same : (groups : List FlatGrouping) (g : FlatGrouping) (place : Place)
    → grouping_at groups g.place ≡ Some g.grouped → same_place g.place place ≡ true
    → grouping_at groups place ≡ Some g.grouped
found_same groups g place e same = ap (grouping_at groups) (sym (alike g.place place same)) ∙ e

-- ---- whether groupings stand in order

-- each of the first n groupings stands before the next one, where there is one
pub record SoFar (groups : List FlatGrouping) (n : ℕ) : Type 0 where
  pub so_far : (i : ℕ) (g next : FlatGrouping) → i < n → slice_get groups i ≡ Some g
      → slice_get groups (suc i) ≡ Some next → IsTrue (is_before g.place next.place)

pub none_asked : (groups : List FlatGrouping) → SoFar groups 0
none_asked groups = record { so_far = λ i g next lt e f. absurd (omega arith) }

further : (groups : List FlatGrouping) (n : ℕ) → SoFar groups n
    → ((g next : FlatGrouping) → slice_get groups n ≡ Some g → slice_get groups (suc n) ≡ Some next
    → IsTrue (is_before g.place next.place))
    → (i : ℕ) (h k : FlatGrouping) → (i < n) ⊎ (i ≡ n) → slice_get groups i ≡ Some h
    → slice_get groups (suc i) ≡ Some k → IsTrue (is_before h.place k.place)
further groups n s b i h k (inl a) p q = s.so_far i h k a p q
further groups n s b i h k (inr same) p q =
    b h k (subst (λ m. slice_get groups m ≡ Some h) same p)
    (subst (λ m. slice_get groups (suc m) ≡ Some k) same q)

-- one grouping more
pub one_further : (groups : List FlatGrouping) (n : ℕ) → SoFar groups n
    → ((g next : FlatGrouping) → slice_get groups n ≡ Some g → slice_get groups (suc n) ≡ Some next
    → IsTrue (is_before g.place next.place))
    → SoFar groups (n + 1)
one_further groups n s b =
    record { so_far = λ i h k lt p q. further groups n s b i h k (within i n lt) p q }

-- where all of them do, the groupings are in order
pub all_in_order : (groups : List FlatGrouping) (n : ℕ) → SoFar groups n → length groups ≤ n
    → InOrder groups
all_in_order groups n s le i g next e f =
    let short = slice_get_within groups i g e in s.so_far i g next (omega arith) e f

-- a grouping that was looked up is the one that stands there
pub it_is_behind : (groups : List FlatGrouping) (i : ℕ) (place : Place) (it next : FlatGrouping)
    → slice_get groups i ≡ Some it → IsTrue (is_before place it.place)
    → slice_get groups i ≡ Some next → IsTrue (is_before place next.place)
it_is_behind groups i place it next e b f =
    let two : Some it ≡ Some next = sym e ∙ f in
    let same : it ≡ next = cc in
    subst (λ (x : FlatGrouping). IsTrue (is_before place x.place)) same b

pub none_is_behind : (groups : List FlatGrouping) (i : ℕ) (place : Place) (next : FlatGrouping)
    → length groups ≤ i → slice_get groups i ≡ Some next → IsTrue (is_before place next.place)
none_is_behind groups i place next le f =
    let short = slice_get_within groups i next f in absurd (omega arith)

pub it_goes_before : (groups : List FlatGrouping) (i : ℕ) (it g next : FlatGrouping)
    → slice_get groups i ≡ Some it
    → ((n : FlatGrouping) → slice_get groups (i + 1) ≡ Some n → IsTrue (is_before it.place n.place))
    → slice_get groups i ≡ Some g → slice_get groups (suc i) ≡ Some next
    → IsTrue (is_before g.place next.place)
it_goes_before groups i it g next e h p q =
    let two : Some it ≡ Some g = sym e ∙ p in
    let same : it ≡ g = cc in
    let plus : suc i ≡ i + 1 = omega arith in
    subst (λ (x : FlatGrouping). IsTrue (is_before x.place next.place)) same
    (h next (subst (λ m. slice_get groups m ≡ Some next) plus q))
