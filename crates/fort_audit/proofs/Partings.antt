-- Where two texts part.
use Rattle.std.proofs.Common.{◌≡◌, ◌≢◌, ℕ, zero, suc, ◌<◌, ◌≤◌, List, [], ◌∷◌, ◌++◌, length, take, get_or, refl, ap, sym, ◌∙◌, subst, arith, inl, inr}
use Rattle.std.specs.Prelude.{◌⊎◌}
use Rattle.fort_audit.specs.Audits.{PartsAt, Differ, FirstEnds, SecondEnds}

-- ---- a byte in front of both

behind_one : (x y : ℕ) (one two : List ℕ) (n : ℕ) → x ≡ y → PartsAt one two n
    → PartsAt (x ∷ one) (y ∷ two) (suc n)
behind_one x y one two n e (Differ front rest others a b p q ne l) =
    Differ (y ∷ front) rest others a b (λ i. e i ∷ p i) (ap (λ t. y ∷ t) q) ne (ap suc l)
behind_one x y one two n e (FirstEnds rest b p l) = FirstEnds rest b (λ i. sym e i ∷ p i) (ap suc l)
behind_one x y one two n e (SecondEnds rest a p l) = SecondEnds rest a (λ i. e i ∷ p i) (ap suc l)

-- They part at once, or behind a byte that they share.
abbrev InFront : (x y : ℕ) (one two : List ℕ) (n : ℕ) → Type 0
InFront x y one two n = ((x ≢ y) × (n ≡ 0)) ⊎ ((x ≡ y) × (m : ℕ) × (n ≡ suc m) × PartsAt one two m)

in_front : (x y : ℕ) (one two : List ℕ) (n : ℕ) → PartsAt (x ∷ one) (y ∷ two) n
    → InFront x y one two n
in_front x y one two n (Differ [] rest others a b p q ne l) =
    let e : x ≡ a = cc in
    let f : y ≡ b = cc in inl (λ s. ne (sym e ∙ s ∙ f), l)
in_front x y one two n (Differ (f ∷ front) rest others a b p q ne l) =
    let e : x ≡ y = cc in
    let g : one ≡ front ++ a ∷ rest = cc in
    let h : two ≡ front ++ b ∷ others = cc
    in inr (e, length front, l, Differ front rest others a b g h ne refl)
in_front x y one two n (FirstEnds rest b p l) =
    let e : x ≡ y = cc in
    let g : two ≡ one ++ b ∷ rest = cc in inr (e, length one, l, FirstEnds rest b g refl)
in_front x y one two n (SecondEnds rest a p l) =
    let e : x ≡ y = cc in
    let g : one ≡ two ++ a ∷ rest = cc in inr (e, length two, l, SecondEnds rest a g refl)

-- ---- texts that part

at_none : (one two : List ℕ) (n : ℕ) → PartsAt one two n → one ≡ [] → n ≡ 0
at_none one two n (Differ [] rest others a b p q ne l) e =
    let z : [] ≡ a ∷ rest = sym e ∙ p in absurd cc
at_none one two n (Differ (f ∷ front) rest others a b p q ne l) e =
    let z : [] ≡ f ∷ (front ++ a ∷ rest) = sym e ∙ p in absurd cc
at_none one two n (FirstEnds rest b p l) e = l ∙ ap length e
at_none one two n (SecondEnds rest a p l) e = ends two (sym e ∙ p)
  where
    ends : (two : List ℕ) → [] ≡ two ++ a ∷ rest → n ≡ 0
    ends [] q = absurd cc
    ends (c ∷ two) q = absurd cc

turned : (one two : List ℕ) (n : ℕ) → PartsAt one two n → PartsAt two one n
turned one two n (Differ front rest others a b p q ne l) =
    Differ front others rest b a q p (λ e. ne (sym e)) l
turned one two n (FirstEnds rest b p l) = SecondEnds rest b p l
turned one two n (SecondEnds rest a p l) = FirstEnds rest a p l

pub one_parting : (one two : List ℕ) (n m : ℕ) → PartsAt one two n → PartsAt one two m → n ≡ m
one_parting [] two n m p q = at_none [] two n p refl ∙ sym (at_none [] two m q refl)
one_parting (x ∷ one) [] n m p q =
    at_none [] (x ∷ one) n (turned (x ∷ one) [] n p) refl
    ∙ sym (at_none [] (x ∷ one) m (turned (x ∷ one) [] m q) refl)
one_parting (x ∷ one) (y ∷ two) n m p q =
    both (in_front x y one two n p) (in_front x y one two m q) (λ k h. one_parting one two k h)
  where
    both : InFront x y one two n → InFront x y one two m
        → ((k h : ℕ) → PartsAt one two k → PartsAt one two h → k ≡ h) → n ≡ m
    both (inl k) (inl h) same = k.1 ∙ sym h.1
    both (inl k) (inr h) same = absurd (k.0 h.0)
    both (inr k) (inl h) same = absurd (h.0 k.0)
    both (inr k) (inr h) same = k.2 ∙ ap suc (same k.1 h.1 k.3 h.3) ∙ sym h.2

not_itself : (one : List ℕ) (n : ℕ) → PartsAt one one n → ⊥
not_itself [] n (Differ [] rest others a b p q ne l) = absurd cc
not_itself [] n (Differ (f ∷ front) rest others a b p q ne l) = absurd cc
not_itself [] n (FirstEnds rest b p l) = absurd cc
not_itself [] n (SecondEnds rest a p l) = absurd cc
not_itself (x ∷ one) n p = go (in_front x x one one n p) (λ m. not_itself one m)
  where
    go : InFront x x one one n → ((m : ℕ) → PartsAt one one m → ⊥) → ⊥
    go (inl k) none = k.0 refl
    go (inr k) none = none k.1 k.3

pub parted_differ : (one two : List ℕ) (n : ℕ) → PartsAt one two n → one ≡ two → ⊥
parted_differ one two n p e = not_itself two n (subst (λ t. PartsAt t two n) e p)

-- ---- what the loop has seen

same_rest : (x y : ℕ) (xs ys : List ℕ) → x ∷ xs ≡ y ∷ ys → (x ≡ y) × (xs ≡ ys)
same_rest x y xs ys e = (cc, cc)

pub differ_there : (one two : List ℕ) (n d e : ℕ) → n < length one → n < length two
    → take n one ≡ take n two → (get_or one n d ≡ get_or two n e → ⊥) → PartsAt one two n
differ_there [] two n d e l m s ne = absurd (omega (arith, l))
differ_there (x ∷ one) [] n d e l m s ne = absurd (omega (arith, m))
differ_there (x ∷ one) (y ∷ two) zero d e l m s ne = Differ [] one two x y refl refl ne refl
differ_there (x ∷ one) (y ∷ two) (suc n) d e l m s ne =
    let k = same_rest x y (take n one) (take n two) s in
    behind_one x y one two n k.0
    (differ_there one two n d e (omega (arith, l)) (omega (arith, m)) k.1 ne)

-- No byte of both stands at the shorter length.
none_further : (one two : List ℕ) (n : ℕ) → (n ≡ length one) ⊎ (n ≡ length two) → n < length one
    → n < length two → ⊥
none_further one two n (inl e) l m = omega (arith, e, l)
none_further one two n (inr e) l m = omega (arith, e, m)

-- One of them ends there.
ends_there : (one two : List ℕ) (n : ℕ) → n ≤ length one → n ≤ length two
    → (n < length one → n < length two → ⊥) → take n one ≡ take n two
    → (length one ≡ length two → ⊥) → PartsAt one two n
ends_there [] [] n l m none s ne = absurd (ne refl)
ends_there [] (y ∷ two) zero l m none s ne = FirstEnds two y refl refl
ends_there [] (y ∷ two) (suc n) l m none s ne = absurd (omega (arith, l))
ends_there (x ∷ one) [] zero l m none s ne = SecondEnds one x refl refl
ends_there (x ∷ one) [] (suc n) l m none s ne = absurd (omega (arith, m))
ends_there (x ∷ one) (y ∷ two) zero l m none s ne = absurd (none (omega arith) (omega arith))
ends_there (x ∷ one) (y ∷ two) (suc n) l m none s ne =
    let k = same_rest x y (take n one) (take n two) s in
    behind_one x y one two n k.0
    (ends_there one two n (omega (arith, l)) (omega (arith, m))
    (λ a b. none (omega (arith, a)) (omega (arith, b))) k.1 (λ e. ne (ap suc e)))

-- ---- at the length of the shorter

pub ends_at : (one two : List ℕ) (n k : ℕ) → n ≤ k → k ≤ n → (n ≤ length one) × (n ≤ length two)
    → (n ≡ length one) ⊎ (n ≡ length two) → take k one ≡ take k two
    → (length one ≡ length two → ⊥) → PartsAt one two n
ends_at one two n k l m w s t ne =
    let e : k ≡ n = omega (arith, l, m) in
    ends_there one two n w.0 w.1 (none_further one two n s)
    (subst (λ x. take x one ≡ take x two) e t) ne
