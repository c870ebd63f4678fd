-- Lists of numbers that grow at the end.
use Rattle.std.proofs.Common.{◌≡◌, ◌<◌, ◌+◌, ◌⊎◌, inl, inr, ℕ, Bool, List, [], ◌∷◌, ◌++◌, get_or, Some, sym, ap, ◌∙◌, subst, arith}
use Rattle.std.specs.List.{slice_get, Contains}
use Rattle.std.proofs.lemmas.Option.{slice_get_within, slice_get-get_or, get_or_from_slice_get}
use Rattle.std.proofs.lemmas.List.Elements.{Contains-push, Contains-push_cases, Contains-append_left}
use Rattle.std.proofs.lemmas.List.Quantifiers.{all_pairs_push}
use Rattle.fort_base.specs.declared.ids.TypeId.{TypeId}
use Rattle.fort_meet.specs.Rows.{IsRising, IsPassed, Lists, IsHighest}

near : (j n : ℕ) → j < n + 1 → (j < n) ⊎ (j ≡ n)
near j n b = grind arith

pub same_number : (a b : TypeId) → a.0 ≡ b.0 → a ≡ b
same_number a b p = ap (λ (n : ℕ). let z : TypeId = record { 0 = n } in z) p

pub contains_at : (xs : List TypeId) (k : ℕ) (x : TypeId) → slice_get xs k ≡ Some x → Contains xs x
contains_at xs k x e = (k, slice_get_within xs k x e, get_or_from_slice_get xs k x x e)

pub at_contained : (xs : List TypeId) (x : TypeId) → Contains xs x
    → (k : ℕ) × (slice_get xs k ≡ Some x)
at_contained xs x w = (w.0, slice_get-get_or xs w.0 x w.1 ∙ ap (λ (z : TypeId). Some z) w.2)

in_none : (m : TypeId) → Contains [] m → ⊥
in_none m w = let l = w.1 in omega arith

rising_none : IsRising []
rising_none i j d l k = absurd (omega arith)

rising_push : (xs : List TypeId) (y : TypeId) → IsRising xs
    → ((m : TypeId) → Contains xs m → m.0 < y.0) → IsRising (xs ++ y ∷ [])
rising_push xs y r b = all_pairs_push (λ (u v : TypeId). u.0 < v.0) xs y r
    (λ k d l. b (get_or xs k d) (contains_at xs k (get_or xs k d) (slice_get-get_or xs k d l)))

-- ---- the numbers below a bound that have a property

pub lists_none : (P : ℕ → Type 0) → Lists P 0 []
lists_none P =
    record {
      inside = λ m c. absurd (in_none m c);
      only = λ m c. absurd (in_none m c);
      each = λ m l p. absurd (omega arith);
      rising = rising_none;
    }

pub lists_more : (P : ℕ → Type 0) (to : ℕ) (list new : List TypeId) (x : TypeId) → x.0 ≡ to
    → new ≡ list ++ x ∷ [] → P to → Lists P to list → Lists P (to + 1) new
lists_more P to list new x n q p s = subst (Lists P (to + 1)) (sym q) (record {
  inside = λ m c. elim (Contains-push_cases list x m c) as (λ _. m.0 < to + 1) [
    | inl d ↦ (let l = s.inside m d in omega arith)
    | inr e ↦ (let f : x.0 ≡ m.0 = ap (λ (z : TypeId). z.0) e in omega arith)
  ];
  only = λ m c. elim (Contains-push_cases list x m c) as (λ _. P m.0) [
    | inl d ↦ s.only m d
    | inr e ↦ subst P (sym n ∙ ap (λ (z : TypeId). z.0) e) p
  ];
  each = λ m l c. elim (near m.0 to l) as (λ _. Contains (list ++ x ∷ []) m) [
    | inl b ↦ Contains-append_left list (x ∷ []) m (s.each m b c)
    | inr e ↦ subst (Contains (list ++ x ∷ [])) (same_number x m (n ∙ sym e)) (Contains-push list x)
  ];
  rising = rising_push list x s.rising (λ m c. let l = s.inside m c in omega arith);
})

pub lists_same : (P : ℕ → Type 0) (to : ℕ) (list : List TypeId) → (P to → ⊥) → Lists P to list
    → Lists P (to + 1) list
lists_same P to list n s = record {
  inside = λ m c. let l = s.inside m c in omega arith;
  only = s.only;
  each = λ m l c. elim (near m.0 to l) as (λ _. Contains list m) [
    | inl b ↦ s.each m b c
    | inr e ↦ absurd (n (subst P e c))
  ];
  rising = s.rising;
}

-- ---- the highest ones

pub highest_none : (rows : List (List Bool)) (common : List TypeId) → IsHighest rows common 0 []
highest_none rows common =
    record {
      among = λ m c. absurd (in_none m c);
      only = λ m c. absurd (in_none m c);
      each = λ k m l e p. absurd (omega arith);
      rising = λ r. rising_none;
    }

pub highest_same : (rows : List (List Bool)) (common : List TypeId) (to : ℕ) (list : List TypeId)
    (x : TypeId) → slice_get common to ≡ Some x → IsPassed rows common x
    → IsHighest rows common to list → IsHighest rows common (to + 1) list
highest_same rows common to list x e p s = record {
  among = λ m c. let w = s.among m c in (w.0, let l = w.1 in omega arith, w.2);
  only = s.only;
  each = λ k m l f q. elim (near k to l) as (λ _. Contains list m) [
    | inl b ↦ s.each k m b f q
    | inr g ↦ absurd (q (let h : x ≡ m = cc in subst (IsPassed rows common) h p))
  ];
  rising = s.rising;
}

pub highest_more : (rows : List (List Bool)) (common : List TypeId) (to : ℕ)
    (list new : List TypeId) (x : TypeId) → slice_get common to ≡ Some x
    → (IsPassed rows common x → ⊥)
    → new ≡ list ++ x ∷ [] → IsHighest rows common to list → IsHighest rows common (to + 1) new
highest_more rows common to list new x e n q s =
    subst (IsHighest rows common (to + 1)) (sym q) (record {
      among = λ m c. elim (Contains-push_cases list x m c) as (λ _.
          (k : ℕ) × (k < to + 1) × (slice_get common k ≡ Some m)) [
            | inl d ↦ (let w = s.among m d in (w.0, let l = w.1 in omega arith, w.2))
            | inr f ↦ (to, omega arith, e ∙ ap (λ (z : TypeId). Some z) f)
          ];
      only = λ m c. elim (Contains-push_cases list x m c) as (λ _. IsPassed rows common m → ⊥) [
        | inl d ↦ s.only m d
        | inr f ↦ subst (λ z. IsPassed rows common z → ⊥) f n
      ];
      each = λ k m l f p. elim (near k to l) as (λ _. Contains (list ++ x ∷ []) m) [
        | inl b ↦ Contains-append_left list (x ∷ []) m (s.each k m b f p)
        | inr g ↦ (let h : x ≡ m = cc in subst (Contains (list ++ x ∷ [])) h (Contains-push list x))
      ];
      rising = λ r. rising_push list x (s.rising r) (λ m c. let w = s.among m c in
          let f : get_or common w.0 x ≡ m = get_or_from_slice_get common w.0 m x w.2
          in let g : get_or common to x ≡ x = get_or_from_slice_get common to x x e in
          let l = slice_get_within common to x e in let k = w.1 in
          let o : (get_or common w.0 x).0 < (get_or common to x).0 = r w.0 to x (omega arith) l in
          let f0 = ap (λ (z : TypeId). z.0) f in let g0 = ap (λ (z : TypeId). z.0) g in omega arith);
    })
