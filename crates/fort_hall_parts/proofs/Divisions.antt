-- The parts into which a part is divided.
use Rattle.std.proofs.Common.{◌≡◌, ℕ, zero, suc, ◌+◌, ◌<◌, ◌≤◌, Bool, true, false, List, [], ◌∷◌, ◌++◌, length, Option, Some, None, Result, Ok, Err, IfOk, IfSome, IfNone, refl, ap, sym, ◌∙◌, subst, arith, rules, ◌⊎◌, inl, inr}
use Rattle.std.specs.Prelude.{nat_lt, slice_get, slice_index}
use Rattle.std.proofs.Common.{get_or}
use Rattle.std.proofs.Math.ListN.{get_or-append}
use Rattle.std.proofs.lemmas.List.{get_or_push, length_push}
use Rattle.std.specs.List.{Contains}
use Rattle.std.specs.List.Sorted.{IsStrictlyIncreasing}
use Rattle.std.proofs.lemmas.List.Elements.{Contains-push, Contains-push_cases, Contains-append_left, Contains-get_or}
use Rattle.fort_base.specs.declared.refusal.Memory.{Memory}
use Rattle.fort_core.specs.declared.term.Term.{Term}
use Rattle.fort_machine.specs.Frames.{road}
use Rattle.fort_frames_moves.specs.declared.across.Next.{Next}
use Rattle.fort_hall_parts.specs.Parts.{IsPartAt, IsDivided, IsNarrow, IsNode, IsPlain, IsGoing, GoesNowhere, IsNoNode, HasNoPlain, AreOpen}
use Rattle.fort_hall_parts.specs.declared.divide.Division.{Division}
use Rattle.fort_hall_parts.specs.declared.node.InOrder.{InOrder}
use Rattle.fort_hall_parts.specs.declared.node.ParallelForm.{ParallelForm}
use Rattle.fort_hall_parts.proofs.Finds.{at_path, no_frames, no_numbers, part_here}
use Rattle.fort_hall_parts.proofs.Forms.{still_both}
use Rattle.fort_hall_parts.proofs.Ways.{below_through, below_into, no_node_nowhere, plain_first, part_through, part_into}

-- a path with a number behind it has a first number
pub record First (path : List ℕ) (n : ℕ) : Type 0 where
  pub first : ℕ
  pub rest : List ℕ
  pub is_path : path ++ n ∷ [] ≡ first ∷ rest

first_of : (path : List ℕ) (n : ℕ) → First path n
first_of [] n = record { first = n; rest = []; is_path = refl }
first_of (m ∷ ms) n = record { first = m; rest = ms ++ n ∷ []; is_path = refl }

-- the whole of a way is seen
pub narrow_here : (t : Term) (depth : ℕ) → depth ≡ 0 → IsNarrow t depth
narrow_here t depth e = record {
  one = λ path n m a b k l lt gt.
      let f = first_of path n in
      let empty : k.frames ≡ [] = no_frames k.frames (omega (arith, lt, e)) in
      absurd (no_numbers f.first f.rest (sym (ap road empty) ∙ k.is_path ∙ f.is_path));
}

-- the same term
pub divided_same : (t t' : Term) (d : Division) → t ≡ t' → IsDivided t d → IsDivided t' d
divided_same t t' d e k = subst (λ x. IsDivided x d) e k

pub narrow_same : (t t' : Term) (depth : ℕ) → t ≡ t' → IsNarrow t depth → IsNarrow t' depth
narrow_same t t' depth e k = subst (λ x. IsNarrow x depth) e k

-- in a form that goes from left to right
lower : (t : Term) (form : InOrder) (path : List ℕ) (n : ℕ) (a : Term) → IsGoing t form
    → (k : IsPartAt t (path ++ n ∷ []) a)
    → (l : IsPartAt form.part (path ++ n ∷ []) a) × (length l.frames < length k.frames)
lower t form path n a g k =
    let f = first_of path n in
    let k' = at_path f.is_path k in
    let l = below_through t form f.first f.rest a g k'.0 in
    let l' = at_path (sym f.is_path) l.0 in
    let shorter = l.1 in
    let as_long = k'.1 in
    let still_long = l'.1 in
    (l'.0, omega (arith, shorter, as_long, still_long))

higher : (t : Term) (form : InOrder) (path : List ℕ) (n : ℕ) (a : Term) → IsGoing t form
    → IsPartAt form.part (path ++ n ∷ []) a → IsPartAt t (path ++ n ∷ []) a
higher t form path n a g k =
    let f = first_of path n in
    subst (λ p. IsPartAt t p a) (sym f.is_path)
    (part_through t form f.first f.rest a g (subst (λ p. IsPartAt form.part p a) f.is_path k))

pub narrow_through : (t : Term) (form : InOrder) (depth less : ℕ) → IsGoing t form
    → less + 1 ≡ depth → IsNarrow form.part less → IsNarrow t depth
narrow_through t form depth less g e h = record {
  one = λ path n m a b k l lt gt.
      let k' = lower t form path n a g k in
      let l' = lower t form path m b g l in
      let shorter = k'.1 in
      let shorter_too = l'.1 in
      h.one path n m a b k'.0 l'.0 (omega (arith, shorter, lt, e))
      (omega (arith, shorter_too, gt, e));
}

pub divided_through : (t : Term) (form : InOrder) (d : Division) → IsGoing t form
    → IsDivided form.part d → IsDivided t d
divided_through t form d g k = record {
  each = λ n c. ((k.each n c).0, higher t form d.path.0 n (k.each n c).0 g (k.each n c).1);
  all = λ n part j. k.all n part (lower t form d.path.0 n part g j).0;
  many = k.many;
  rises = k.rises;
}

-- neither this nor a parallel form
pub narrow_nowhere : (t : Term) (depth : ℕ) → GoesNowhere t → IsNoNode t → IsNarrow t depth
narrow_nowhere t depth g p = record {
  one = λ path n m a b k l lt gt.
      let f = first_of path n in
      absurd ((no_node_nowhere t f.first g p).none f.rest a (at_path f.is_path k).0);
}

-- the number of a part is that of one that may go on
first_open : (t : Term) (node : ParallelForm) (numbers : List ℕ) (i : ℕ) (path : List ℕ) (a : Term)
    → IsNode t node → AreOpen node.parts (length node.parts) numbers → IsPartAt t (i ∷ path) a
    → Contains numbers i
first_open t node numbers i path a d o k =
    let h = plain_first t node i path a d k in
    subst (Contains numbers) h.2 (o.all h.0 h.1 h.1.next.within)

pub divided_here : (t : Term) (node : ParallelForm) (numbers : List ℕ) (d : Division)
    → IsNode t node → AreOpen node.parts (length node.parts) numbers → 2 ≤ length numbers
    → d.path.0 ≡ [] → d.numbers ≡ numbers → IsDivided t d
divided_here t node numbers d k o many p q = record {
  each = λ n c.
      let h = o.each n (subst (λ xs. Contains xs n) q c) in (
        h.0.part,
        subst (λ ns. IsPartAt t (ns ++ n ∷ []) h.0.part) (sym p)
            (part_into t node h.0 n [] h.0.part k h.1 h.2
            (part_here h.0.part [] refl (still_both h.0.part h.1.next.is_open h.1.unmarked))),
      );
  all = λ n part j. subst (λ xs. Contains xs n) (sym q)
      (first_open t node numbers n [] part k o
      (subst (λ ns. IsPartAt t (ns ++ n ∷ []) part) p j));
  many = subst (λ xs. 2 ≤ length xs) (sym q) many;
  rises = subst IsStrictlyIncreasing (sym q) o.rises;
}

-- a parallel form of which no part may go on
no_numbers_there : (numbers : List ℕ) → slice_get numbers 0 ≡ None → numbers ≡ []
no_numbers_there [] e = refl
no_numbers_there (n ∷ ns) e = absurd cc

nothing_in : (numbers : List ℕ) (i : ℕ) → numbers ≡ [] → Contains numbers i → ⊥
nothing_in numbers i e c = let lt = c.1 in let z = ap length e in omega (arith, lt, z)

pub narrow_none : (t : Term) (node : ParallelForm) (numbers : List ℕ) (depth : ℕ) → IsNode t node
    → AreOpen node.parts (length node.parts) numbers → slice_get numbers 0 ≡ None
    → IsNarrow t depth
narrow_none t node numbers depth d o e = record {
  one = λ path n m a b k l lt gt.
      let f = first_of path n in
      absurd (nothing_in numbers f.first (no_numbers_there numbers e)
      (first_open t node numbers f.first f.rest a d o (at_path f.is_path k).0));
}

-- one of which a part alone may go on
contains_first : (numbers : List ℕ) (i : ℕ) → slice_get numbers 0 ≡ Some i → Contains numbers i
contains_first [] i e = absurd cc
contains_first (n ∷ ns) i e = let same : n ≡ i = cc in (0, omega arith, same)

lone_there : (node : ParallelForm) (numbers : List ℕ) (i : ℕ)
    → AreOpen node.parts (length node.parts) numbers → slice_get numbers 0 ≡ Some i
    → HasNoPlain node.parts i → ⊥
lone_there node numbers i o e none =
    let h = o.each i (contains_first numbers i e) in none.none h.0 h.1 h.2

pub narrow_gone : (t : Term) (node : ParallelForm) (numbers : List ℕ) (i depth : ℕ)
    → AreOpen node.parts (length node.parts) numbers → slice_get numbers 0 ≡ Some i
    → HasNoPlain node.parts i → IsNarrow t depth
narrow_gone t node numbers i depth o e none = absurd (lone_there node numbers i o e none)

lone_at : (n j k : ℕ) → k < 1 → get_or (n ∷ []) k j ≡ j → n ≡ j
lone_at n j zero lt e = e
lone_at n j (suc k) lt e = absurd (omega (arith, lt))

lone_same : (numbers : List ℕ) (i j : ℕ) → length numbers < 2 → slice_get numbers 0 ≡ Some i
    → Contains numbers j → j ≡ i
lone_same [] i j lt e c = absurd cc
lone_same (n ∷ []) i j lt e c = let same : n ≡ i = cc in sym (lone_at n j c.0 c.1 c.2) ∙ same
lone_same (n ∷ m ∷ ns) i j lt e c = absurd (omega (arith, lt))

into_same : (t : Term) (node : ParallelForm) (numbers : List ℕ) (next : Next) (i depth less : ℕ)
    → IsNode t node → AreOpen node.parts (length node.parts) numbers → length numbers < 2
    → slice_get numbers 0 ≡ Some i → IsPlain node.parts next → next.«at» ≡ i → less + 1 ≡ depth
    → IsNarrow next.part less → (path : List ℕ) (n m : ℕ) (a b : Term)
    → (k : IsPartAt t (path ++ n ∷ []) a) → (l : IsPartAt t (path ++ m ∷ []) b)
    → length k.frames ≤ depth → length l.frames ≤ depth → n ≡ m
into_same t node numbers next i depth less d o lone e p q s h [] n m a b k l lt gt =
    lone_same numbers i n lone e (first_open t node numbers n [] a d o k)
    ∙ sym (lone_same numbers i m lone e (first_open t node numbers m [] b d o l))
into_same t node numbers next i depth less d o lone e p q s h (j ∷ path) n m a b k l lt gt =
    let same = lone_same numbers i j lone e
    (first_open t node numbers j (path ++ n ∷ []) a d o k) in
    let k' = below_into t node next j (path ++ n ∷ []) a d p (q ∙ sym same) k in
    let l' = below_into t node next j (path ++ m ∷ []) b d p (q ∙ sym same) l in
    let shorter = k'.1 in
    let shorter_too = l'.1 in
    h.one path n m a b k'.0 l'.0 (omega (arith, shorter, lt, s)) (omega (arith, shorter_too, gt, s))

pub narrow_into : (t : Term) (node : ParallelForm) (numbers : List ℕ) (next : Next)
    (i depth less : ℕ) → IsNode t node → AreOpen node.parts (length node.parts) numbers
    → length numbers < 2 → slice_get numbers 0 ≡ Some i → IsPlain node.parts next → next.«at» ≡ i
    → less + 1 ≡ depth → IsNarrow next.part less → IsNarrow t depth
narrow_into t node numbers next i depth less d o lone e p q s h = record {
  one = into_same t node numbers next i depth less d o lone e p q s h;
}

pub divided_into : (t : Term) (node : ParallelForm) (next : Next) (i : ℕ) (inner outer : Division)
    → IsNode t node → IsPlain node.parts next → next.«at» ≡ i → IsDivided next.part inner
    → outer.path.0 ≡ i ∷ inner.path.0 → outer.numbers ≡ inner.numbers → IsDivided t outer
divided_into t node next i inner outer d p q k e s = record {
  each = λ n c.
      let h = k.each n (subst (λ xs. Contains xs n) s c) in (
        h.0,
        subst (λ ns. IsPartAt t (ns ++ n ∷ []) h.0) (sym e)
            (part_into t node next i (inner.path.0 ++ n ∷ []) h.0 d p q h.1),
      );
  all = λ n part j. subst (λ xs. Contains xs n) (sym s)
      (k.all n part
      (below_into t node next i (inner.path.0 ++ n ∷ []) part d p q
      (subst (λ ns. IsPartAt t (ns ++ n ∷ []) part) e j)).0);
  many = subst (λ xs. 2 ≤ length xs) (sym s) k.many;
  rises = subst IsStrictlyIncreasing (sym s) k.rises;
}

-- the numbers, one after the other
pub none_open : (ts : List Term) → AreOpen ts 0 []
none_open ts = record {
  each = λ i c. absurd (nothing_in [] i refl c);
  all = λ n p lt. absurd (omega (arith, lt));
  rises = λ k lt. absurd (omega (arith, lt));
  below = λ i c. absurd (nothing_in [] i refl c);
}

below_both : (a b c d : ℕ) → a < b → c ≡ a → d ≡ b → c < d
below_both a b c d lt e q = omega (arith, lt, e, q)

rises_push : (xs : List ℕ) (y : ℕ) → IsStrictlyIncreasing xs → ((i : ℕ) → Contains xs i → i < y)
    → IsStrictlyIncreasing (xs ++ y ∷ [])
rises_push xs y r below k lt = go (nat_lt (k + 1) (length xs)) refl
  where
    go : (b : Bool) → nat_lt (k + 1) (length xs) ≡ b
        → slice_index (xs ++ y ∷ []) k < slice_index (xs ++ y ∷ []) (k + 1)
    go true e =
        let inside : k + 1 < length xs = search (rules, e) in
        let rising = r k inside in
        let before = get_or-append xs (y ∷ []) 0 k (omega (arith, inside)) in
        let behind = get_or-append xs (y ∷ []) 0 (k + 1) inside in
        below_both (slice_index xs k) (slice_index xs (k + 1)) (slice_index (xs ++ y ∷ []) k)
        (slice_index (xs ++ y ∷ []) (k + 1)) rising before behind
    go false e =
        let outside : length xs ≤ k + 1 = search (rules, e) in
        let long = length_push xs y in
        let last : length xs ≡ k + 1 = omega (arith, outside, lt, long) in
        let lower = below (get_or xs k 0) (Contains-get_or xs k 0 (omega (arith, last))) in
        let before = get_or-append xs (y ∷ []) 0 k (omega (arith, last)) in
        let behind = get_or_push xs y 0 (k + 1) last in
        below_both (slice_index xs k) y (slice_index (xs ++ y ∷ []) k)
        (slice_index (xs ++ y ∷ []) (k + 1)) lower before behind

one_open : (ts : List Term) (i : ℕ) (numbers : List ℕ) (n : Next) → AreOpen ts i numbers
    → IsPlain ts n → n.«at» ≡ i → AreOpen ts (i + 1) (numbers ++ i ∷ [])
one_open ts i numbers n o p e = record {
  each = λ j c. each j (Contains-push_cases numbers i j c);
  all = λ m q lt. all m q lt (nat_lt m.«at» i) refl;
  rises = rises_push numbers i o.rises o.below;
  below = λ j c. below j (Contains-push_cases numbers i j c);
}
  where
    each : (j : ℕ) → Contains numbers j ⊎ (i ≡ j) → (m : Next) × IsPlain ts m × (m.«at» ≡ j)
    each j (inl c) = o.each j c
    each j (inr q) = (n, p, e ∙ q)

    below : (j : ℕ) → Contains numbers j ⊎ (i ≡ j) → j < i + 1
    below j (inl c) = let lt = o.below j c in omega (arith, lt)
    below j (inr q) = omega (arith, q)

    all : (m : Next) → IsPlain ts m → m.«at» < i + 1 → (b : Bool) → nat_lt m.«at» i ≡ b
        → Contains (numbers ++ i ∷ []) m.«at»
    all m q lt true z =
        let less : m.«at» < i = search (rules, z) in
        Contains-append_left numbers (i ∷ []) m.«at» (o.all m q less)
    all m q lt false z =
        let more : i ≤ m.«at» = search (rules, z) in
        let same : i ≡ m.«at» = omega (arith, more, lt) in
        subst (Contains (numbers ++ i ∷ [])) same (Contains-push numbers i)

pub one_more_open : (ts : List Term) (i number : ℕ) (numbers more : List ℕ) (n : Next)
    → AreOpen ts i numbers → IsPlain ts n → n.«at» ≡ i → number ≡ i
    → more ≡ numbers ++ number ∷ [] → AreOpen ts (i + 1) more
one_more_open ts i number numbers more n o p e q s =
    subst (AreOpen ts (i + 1)) (sym (s ∙ ap (λ k. numbers ++ k ∷ []) q)) (one_open ts i numbers n o p e)

pub no_more_open : (ts : List Term) (i : ℕ) (numbers : List ℕ) → AreOpen ts i numbers
    → HasNoPlain ts i → AreOpen ts (i + 1) numbers
no_more_open ts i numbers o none = record {
  each = o.each;
  all = λ m q lt. all m q lt (nat_lt m.«at» i) refl;
  rises = o.rises;
  below = λ j c. let lt = o.below j c in omega (arith, lt);
}
  where
    all : (m : Next) → IsPlain ts m → m.«at» < i + 1 → (b : Bool) → nat_lt m.«at» i ≡ b
        → Contains numbers m.«at»
    all m q lt true z =
        let less : m.«at» < i = search (rules, z) in o.all m q less
    all m q lt false z =
        let more : i ≤ m.«at» = search (rules, z) in
        let same : m.«at» ≡ i = omega (arith, more, lt) in
        absurd (none.none m q same)

pub open_end : (ts : List Term) (i : ℕ) (numbers : List ℕ) → AreOpen ts i numbers → length ts ≤ i
    → AreOpen ts (length ts) numbers
open_end ts i numbers o h = record {
  each = o.each;
  all = λ m q lt. o.all m q (omega (arith, lt, h));
  rises = o.rises;
  below = λ j c.
      let e = o.each j c in
      let lt = e.1.next.within in
      let same = e.2 in
      omega (arith, lt, same);
}

-- the same of what a call answers
pub divided_through_all : (r : Result (Option Division) Memory) (t : Term) (form : InOrder)
    → IsGoing t form → IfOk r (λ found. IfSome found (IsDivided form.part))
    → IfOk r (λ found. IfSome found (IsDivided t))
divided_through_all (Ok None) t form g h = tt
divided_through_all (Ok (Some d)) t form g h = divided_through t form d g h
divided_through_all (Err m) t form g h = tt

pub narrow_through_all : (r : Result (Option Division) Memory) (t : Term) (form : InOrder)
    (depth less : ℕ) → IsGoing t form → less + 1 ≡ depth
    → IfOk r (λ found. IfNone found (IsNarrow form.part less))
    → IfOk r (λ found. IfNone found (IsNarrow t depth))
narrow_through_all (Ok None) t form depth less g e h = narrow_through t form depth less g e h
narrow_through_all (Ok (Some d)) t form depth less g e h = tt
narrow_through_all (Err m) t form depth less g e h = tt
