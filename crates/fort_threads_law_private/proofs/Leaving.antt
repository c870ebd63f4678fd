-- What each step leaves that leaves the prelude's own names alone: the term, the store, and what
-- was touched.
use Rattle.std.proofs.Common.{◌≡◌, ℕ, ◌+◌, ◌-◌, ◌<◌, ◌≤◌, ◌==◌, Bool, true, false, ◌&&◌, ◌||◌, List, [], ◌∷◌, length, Option, Some, None, refl, ap, sym, ◌∙◌, subst, if◌then◌else◌, arith, rules, ◌⊎◌, inl, inr}
use Rattle.std.specs.Prelude.{nat_le, nat_lt}
use Rattle.std.proofs.lemmas.Bool.{ltb-true, leb-true, lt-ltb, le-leb}
use Rattle.fort_base.specs.declared.ids.TypeId.{TypeId}
use Rattle.fort_core.specs.declared.program.Program.{Program}
use Rattle.fort_core.specs.declared.term.Term.{Term}
use Rattle.fort_core.specs.declared.term.Term as term
use Rattle.fort_core.specs.declared.value.Value.{Value}
use Rattle.fort_machine.specs.Cells.{Cell, untouched, found, made}
use Rattle.fort_machine.specs.Effects.{Store, Effect, printed, paid, reading, writing, making, only_at, made_from, FitsAll, afterwards}
use Rattle.fort_machine.specs.Ends.{throw_of}
use Rattle.fort_machine.specs.Acts.{Act, stuck, turns, enters, asks, sets, makes, calls, unit, single}
use Rattle.fort_machine.specs.Acts as acts
use Rattle.fort_machine.specs.Plain.{put, put_from}
use Rattle.fort_machine.specs.Steps.{Does, steps, or_unit}
use Rattle.fort_machine.proofs.Plain.{reads_plainly, writes_plainly, makes_plainly}
use Rattle.fort_threads_law_servers.specs.Prelude.{Names}
use Rattle.fort_threads_law_servers.specs.Roots.{Start}
use Rattle.fort_threads_law_private.specs.Grounds.{Ground, Open, AreOpen, Grows}
use Rattle.fort_threads_law_private.specs.Private.{Private, PrivateValue, AllPrivateValues, no_values, one_more_value}
use Rattle.fort_threads_law_private.specs.Fine.{Fine, PrivateStore, TouchesOpen, StaysPrivate}
use Rattle.fort_threads_law_private.specs.Laws.{StepsPrivately}
use Rattle.fort_threads_law_private.proofs.Growing.{grows_itself, value_grows}
use Rattle.fort_threads_law_private.proofs.Values.{term_private, thrown_private, unit_private}
use Rattle.fort_threads_law_private.proofs.Stepping.{acts_private}

-- ---- a ground with a row of locations that were made

abbrev in_row : ℕ → ℕ → ℕ → Bool
in_row l count k = nat_le l k && nat_lt k (l + count)

abbrev pub with_row : Ground → ℕ → ℕ → Ground
with_row g l count =
    record { is_open = λ k. g.is_open k || in_row l count k; function = g.function }

row_here : (l count k : ℕ) → l ≤ k → k < l + count → in_row l count k ≡ true
row_here l count k a b =
    ap (λ z. z && nat_lt k (l + count)) (le-leb l k a) ∙ lt-ltb k (l + count) b

row_bounds : (l count k : ℕ) → in_row l count k ≡ true → (l ≤ k) × (k < l + count)
row_bounds l count k e = go (nat_le l k) refl e
  where
    go : (b : Bool) → nat_le l k ≡ b → (b && nat_lt k (l + count)) ≡ true
        → (l ≤ k) × (k < l + count)
    go true q r = (leb-true l k q, ltb-true k (l + count) r)
    go false q r = absurd cc

or_true : (b : Bool) → (b || true) ≡ true
or_true true = refl
or_true false = refl

pub row_grows : (g : Ground) (l count : ℕ) → Grows g (with_row g l count)
row_grows g l count =
    record { stay_open = λ k o. ap (λ z. z || in_row l count k) o; stay = λ k f e. e }

row_open : (g : Ground) (l count k : ℕ) → l ≤ k → k < l + count → Open (with_row g l count) k
row_open g l count k a b =
    ap (λ z. g.is_open k || z) (row_here l count k a b) ∙ or_true (g.is_open k)

pub row_is_open : (g : Ground) (l count : ℕ) → AreOpen (with_row g l count) l count
row_is_open g l count i h =
    row_open g l count (l + i) (omega arith) (omega (arith, h))

row_or_old : (g : Ground) (l count k : ℕ) → Open (with_row g l count) k
    → Open g k ⊎ ((l ≤ k) × (k < l + count))
row_or_old g l count k o = go (g.is_open k) refl o
  where
    go : (b : Bool) → g.is_open k ≡ b → (b || in_row l count k) ≡ true
        → Open g k ⊎ ((l ≤ k) × (k < l + count))
    go true e q = inl e
    go false e q = inr (row_bounds l count k q)

-- ---- what is touched

same_number : (k l : ℕ) → (k == l) ≡ true → k ≡ l
same_number k l e = search (rules, e)

other_number : (k l : ℕ) → (k == l) ≡ false → k ≡ l → ⊥
other_number k l e = search (rules, e)

touches_one : (g : Ground) (l : ℕ) (c : Cell) → Open g l → (k : ℕ)
    → (only_at l c k ≡ untouched → ⊥) → Open g k
touches_one g l c o k h = go (l == k) refl
  where
    go : (b : Bool) → (l == k) ≡ b → Open g k
    go true e = subst (Open g) (same_number l k e) o
    go false e = absurd (h (ap (λ b. if b then c else untouched) e))

touches_row : (l : ℕ) (vs : List Value) (k : ℕ)
    → (made_from l vs k ≡ untouched) ⊎ ((l ≤ k) × (k < l + length vs))
touches_row l [] k = inl refl
touches_row l (v ∷ vs) k = go (l == k) refl (touches_row (l + 1) vs k)
  where
    go : (b : Bool) → (l == k) ≡ b
        → (made_from (l + 1) vs k ≡ untouched) ⊎ ((l + 1 ≤ k) × (k < (l + 1) + length vs))
        → (made_from l (v ∷ vs) k ≡ untouched) ⊎ ((l ≤ k) × (k < l + length (v ∷ vs)))
    go true e h =
        let q = same_number l k e in inr (omega (arith, q), omega (arith, q))
    go false e (inl q) = inl (ap (λ b. if b then made (Some v) else made_from (l + 1) vs k) e ∙ q)
    go false e (inr q) = let a = q.0 in let b = q.1 in inr (omega (arith, a), omega (arith, b))

row_made : (l : ℕ) (vs : List Value) (k : ℕ) → l ≤ k → k < l + length vs
    → (v : Value) × (made_from l vs k ≡ made (Some v))
row_made l [] k a b = absurd (omega (arith, a, b))
row_made l (v ∷ vs) k a b = go (l == k) refl (row_made (l + 1) vs k)
  where
    go : (c : Bool) → (l == k) ≡ c
        → (l + 1 ≤ k → k < (l + 1) + length vs
        → (w : Value) × (made_from (l + 1) vs k ≡ made (Some w)))
        → (w : Value) × (made_from l (v ∷ vs) k ≡ made (Some w))
    go true e h = (v, ap (λ c. if c then made (Some v) else made_from (l + 1) vs k) e)
    go false e h =
        let q = other_number l k e in
        let i = h (omega (arith, a, q)) (omega (arith, b)) in
        (i.0, ap (λ c. if c then made (Some v) else made_from (l + 1) vs k) e ∙ i.1)

-- ---- stores

put_private : (p : Program) (n : Names) (m : Start) (g : Ground) (l : ℕ) (v : Value) (s : Store)
    → PrivateValue p n m g v → PrivateStore p n m g s → PrivateStore p n m g (put l v s)
put_private p n m g l v s h hs k w o e = go (l == k) e
  where
    go : (b : Bool) → (if b then Some v else s k) ≡ Some w → PrivateValue p n m g w
    go true e = let z : v ≡ w = cc in subst (PrivateValue p n m g) z h
    go false e = hs k w o e

made_or_old : (p : Program) (n : Names) (m : Start) (g : Ground) (l : ℕ) (vs : List Value)
    (s : Store) → AllPrivateValues p n m g vs → (k : ℕ) (w : Value) → put_from l vs s k ≡ Some w
    → PrivateValue p n m g w ⊎ (s k ≡ Some w)
made_or_old p n m g l [] s h k w e = inr e
made_or_old p n m g l (v ∷ vs) s (one_more_value h hs) k w e =
    go (l == k) e (made_or_old p n m g (l + 1) vs s hs k w)
  where
    go : (b : Bool) → (if b then Some v else put_from (l + 1) vs s k) ≡ Some w
        → (put_from (l + 1) vs s k ≡ Some w → PrivateValue p n m g w ⊎ (s k ≡ Some w))
        → PrivateValue p n m g w ⊎ (s k ≡ Some w)
    go true e f = let z : v ≡ w = cc in inl (subst (PrivateValue p n m g) z h)
    go false e f = f e

or_unit_private : {p : Program} {n : Names} {m : Start} {g : Ground} {vs : List Value}
    → AllPrivateValues p n m g vs → AllPrivateValues p n m g (or_unit vs)
or_unit_private no_values = one_more_value unit_private no_values
or_unit_private (one_more_value h hs) = one_more_value h hs

row_store : (p : Program) (n : Names) (m : Start) (g : Ground) (l : ℕ) (vs : List Value) (s : Store)
    → AllPrivateValues p n m g vs → PrivateStore p n m g s
    → ((i : ℕ) → i < length vs → s (l + i) ≡ None)
    → PrivateStore p n m (with_row g l (length vs)) (put_from l vs s)
row_store p n m g l vs s h hs fresh k w o e =
    value_grows (go (made_or_old p n m g l vs s h k w e)) (row_grows g l (length vs))
  where
    old : s k ≡ Some w → Open g k ⊎ ((l ≤ k) × (k < l + length vs)) → PrivateValue p n m g w
    old q (inl r) = hs k w r q
    old q (inr r) =
        let a = r.0 in let b = r.1 in
        let x : k - l < length vs = omega (arith, a, b) in
        let y : l + (k - l) ≡ k = omega (arith, a) in
        let z : None ≡ Some w = sym (fresh (k - l) x) ∙ ap s y ∙ q in absurd cc

    go : PrivateValue p n m g w ⊎ (s k ≡ Some w) → PrivateValue p n m g w
    go (inl q) = q
    go (inr q) = old q (row_or_old g l (length vs) k o)

-- ---- steps

module _ (p : Program) (n : Names) (m : Start) (g : Ground)
    (singles : (id : TypeId) (v : Value) → single p id ≡ Some v → PrivateValue p n m g v)
    (s : Store) (hs : PrivateStore p n m g s) where
  stays : (b c : Term) (d e : Effect) → b ≡ c → d ≡ e → StaysPrivate p n m g c e (afterwards e s)
      → StaysPrivate p n m g b d (afterwards d s)
  stays b c d e q r k =
      subst (λ x. StaysPrivate p n m g x d (afterwards d s)) (sym q)
      (subst (λ x. StaysPrivate p n m g c x (afterwards x s)) (sym r) k)

  on_it : (b : Term) (d : Effect) → Private p n m g b → PrivateStore p n m g (afterwards d s)
      → TouchesOpen g d → StaysPrivate p n m g b d (afterwards d s)
  on_it b d a h t = record {
    ground = g;
    grows = grows_itself g;
    newly_open = λ l o. inl o;
    same_objects = λ l. refl;
    term = a;
    store = h;
    touches = t;
  }

  on_more : (l : ℕ) (vs : List Value) (cost : ℕ) (b : Term)
      → Private p n m (with_row g l (length vs)) b → AllPrivateValues p n m g vs
      → FitsAll (making l vs cost) s
      → StaysPrivate p n m g b (making l vs cost) (afterwards (making l vs cost) s)
  on_more l vs cost b a h f = record {
    ground = with_row g l (length vs);
    grows = row_grows g l (length vs);
    newly_open = λ k o. newly k (row_or_old g l (length vs) k o);
    same_objects = λ k. refl;
    term = a;
    store = let q = makes_plainly l vs cost s in
        subst (PrivateStore p n m (with_row g l (length vs))) (sym q.1)
        (row_store p n m g l vs s h hs (q.0.0 f));
    touches = λ k t. touched k t (touches_row l vs k);
  }
    where
      newly : (k : ℕ) → Open g k ⊎ ((l ≤ k) × (k < l + length vs))
          → Open g k ⊎ ((v : Value) × (made_from l vs k ≡ made (Some v)))
      newly k (inl o) = inl o
      newly k (inr r) = inr (row_made l vs k r.0 r.1)

      touched : (k : ℕ) → (made_from l vs k ≡ untouched → ⊥)
          → (made_from l vs k ≡ untouched) ⊎ ((l ≤ k) × (k < l + length vs))
          → Open (with_row g l (length vs)) k
      touched k t (inl e) = absurd (t e)
      touched k t (inr r) = row_open g l (length vs) k r.0 r.1

  pub does_private : (inner : Bool) (loc : ℕ) (x : Act) (b : Term) (d : Effect) → Fine p n m g x
      → Does p inner loc x b d → FitsAll d s → StaysPrivate p n m g b d (afterwards d s)
  does_private inner loc stuck b d h k f = absurd k
  does_private inner loc (turns next output cost) b d h k f =
      stays b next d (printed output cost) k.1 k.2
      (on_it next (printed output cost) h hs (λ l t. absurd (t refl)))
  does_private inner loc (enters body next) b d h k f =
      stays b next d (paid 1) k.2 k.3 (on_it next (paid 1) h hs (λ l t. absurd (t refl)))
  does_private inner loc (asks l next) b d h k f =
      let r = reads_plainly l k.0 s in
      let e = r.0.0 (subst (λ x. FitsAll x s) k.3 f) in
      stays b (next k.0) d (reading l k.0) k.2 k.3
      (on_it (next k.0) (reading l k.0) (h.1 k.0 (hs l k.0 h.0 e))
      (subst (PrivateStore p n m g) (sym r.1) hs)
      (touches_one g l (found (Some k.0) None) h.0))
  does_private inner loc (sets l v) b d h k f =
      stays b (term.Value unit) d (writing l v) k.1 k.2
      (on_it (term.Value unit) (writing l v) (term_private unit_private)
      (subst (PrivateStore p n m g) (sym (writes_plainly l v s).1)
      (put_private p n m g l v s h.1 hs)) (touches_one g l (found None (Some v)) h.0))
  does_private inner loc (makes vs next cost) b d h k f =
      stays b (next loc) d (making loc (or_unit vs) cost) k.0 k.1
      (on_more loc (or_unit vs) cost (next loc)
      (h.1 loc (with_row g loc (length (or_unit vs))) (row_grows g loc (length (or_unit vs)))
      (row_is_open g loc (length (or_unit vs)))) (or_unit_private h.0)
      (subst (λ x. FitsAll x s) k.1 f))
  does_private inner loc (calls set vs) b d h k f = absurd k
  does_private inner loc acts.ends b d h k f =
      stays b (throw_of k.0) d (paid 1) k.4 k.5
      (on_it (throw_of k.0) (paid 1)
      (thrown_private (singles p.built_in.abort_outside k.0 k.3)) hs (λ l t. absurd (t refl)))

pub steps_privately : StepsPrivately
steps_privately p n m k first g written apart grown inner loc s a b d h hs not_known
    (steps x acts does) f =
    does_private p n m g (λ id v e. value_grows (apart.singles id v e) grown) s hs inner loc x b d
    (acts_private p n m k first g written apart grown a h not_known x acts) does f

-- what was there before and is touched was open before
pub finds_open : {p : Program} {n : Names} {m : Start} {g : Ground} {b : Term} {d : Effect}
    {later : Store} → StaysPrivate p n m g b d later → (l : ℕ) (r w : Option Value)
    → d.cells l ≡ found r w → Open g l
finds_open {g = g} {d = d} q l r w e =
    go (q.newly_open l (q.touches l (λ u. let z : untouched ≡ found r w = sym u ∙ e in cc)))
  where
    go : Open g l ⊎ ((v : Value) × (d.cells l ≡ made (Some v))) → Open g l
    go (inl o) = o
    go (inr i) = let z : made (Some i.0) ≡ found r w = sym i.1 ∙ e in absurd cc
