-- Two lists place by place, for each hierarchy whose rows a table has.
use Rattle.std.proofs.Common.{◌≡◌, ◌<◌, ◌≤◌, ◌+◌, ◌⊎◌, inl, inr, ℕ, List, length, Some, ap, subst, arith}
use Rattle.std.specs.List.{slice_get}
use Rattle.std.proofs.lemmas.Option.{slice_get_within}
use Rattle.fort_base.specs.declared.table.TypeTable.{TypeTable}
use Rattle.fort_base.specs.declared.ty.Ty.{Ty}
use Rattle.fort_types.specs.Hierarchy.{DeclaredTypes}
use Rattle.fort_types.specs.Table.{HasRows}
use Rattle.fort_types_sets.specs.Applicable.{Along, Somewhere}

pub near : (j n : ℕ) → j < n + 1 → (j < n) ⊎ (j ≡ n)
near j n b = grind arith

-- no place before a bound is related
pub record NoneTo (table : TypeTable) (R : DeclaredTypes → Ty → Ty → Type 0) (xs ys : List Ty)
    (to : ℕ) : Type 0 where
  pub none : (h : DeclaredTypes) → HasRows h table → (k : ℕ) (x y : Ty) → k < to
      → slice_get xs k ≡ Some x → slice_get ys k ≡ Some y → R h x y → ⊥

pub none_at_first : (table : TypeTable) (R : DeclaredTypes → Ty → Ty → Type 0) (xs ys : List Ty)
    → NoneTo table R xs ys 0
none_at_first table R xs ys = record { none = λ h t k x y l. absurd (omega arith) }

pub none_more : (table : TypeTable) (R : DeclaredTypes → Ty → Ty → Type 0) (xs ys : List Ty)
    (x y : Ty) (i : ℕ) → slice_get xs i ≡ Some x → slice_get ys i ≡ Some y
    → ((h : DeclaredTypes) → HasRows h table → R h x y → ⊥) → NoneTo table R xs ys i
    → NoneTo table R xs ys (i + 1)
none_more table R xs ys x y i e f n a = record {
  none = λ h t k u v l g m w. elim (near k i l) as (λ _. ⊥) [
    | inl b ↦ a.none h t k u v b g m w
    | inr q ↦
        (let c : slice_get xs k ≡ slice_get xs i = ap (slice_get xs) q
        in let d : slice_get ys k ≡ slice_get ys i = ap (slice_get ys) q in let p : u ≡ x = cc
        in let o : v ≡ y = cc in
        n h t (subst (λ (z : Ty). R h z y) p (subst (λ (z : Ty). R h u z) o w)))
  ];
}

pub none_somewhere : (table : TypeTable) (R : DeclaredTypes → Ty → Ty → Type 0) (xs ys : List Ty)
    (to : ℕ) (h : DeclaredTypes) → HasRows h table → length xs ≤ to
    → NoneTo table R xs ys to → Somewhere (R h) xs ys → ⊥
none_somewhere table R xs ys to h t l a w =
    a.none h t w.0 w.1 w.2 (let i = slice_get_within xs w.0 w.1 w.3 in omega arith) w.3 w.4 w.5

-- each place before a bound is related
pub record EachTo (table : TypeTable) (R : DeclaredTypes → Ty → Ty → Type 0) (xs ys : List Ty)
    (to : ℕ) : Type 0 where
  pub each : (h : DeclaredTypes) → HasRows h table → (k : ℕ) (x y : Ty) → k < to
      → slice_get xs k ≡ Some x → slice_get ys k ≡ Some y → R h x y

pub each_at_first : (table : TypeTable) (R : DeclaredTypes → Ty → Ty → Type 0) (xs ys : List Ty)
    → EachTo table R xs ys 0
each_at_first table R xs ys = record { each = λ h t k x y l. absurd (omega arith) }

pub each_more : (table : TypeTable) (R : DeclaredTypes → Ty → Ty → Type 0) (xs ys : List Ty)
    (x y : Ty) (i : ℕ) → slice_get xs i ≡ Some x → slice_get ys i ≡ Some y
    → ((h : DeclaredTypes) → HasRows h table → R h x y) → EachTo table R xs ys i
    → EachTo table R xs ys (i + 1)
each_more table R xs ys x y i e f n a = record {
  each = λ h t k u v l g m. elim (near k i l) as (λ _. R h u v) [
    | inl b ↦ a.each h t k u v b g m
    | inr q ↦
        (let c : slice_get xs k ≡ slice_get xs i = ap (slice_get xs) q
        in let d : slice_get ys k ≡ slice_get ys i = ap (slice_get ys) q in let p : x ≡ u = cc
        in let o : y ≡ v = cc in
        subst (λ (z : Ty). R h z v) p (subst (λ (z : Ty). R h x z) o (n h t)))
  ];
}

pub each_along : (table : TypeTable) (R : DeclaredTypes → Ty → Ty → Type 0) (xs ys : List Ty)
    (to : ℕ) (h : DeclaredTypes) → HasRows h table → length xs ≡ length ys → length xs ≤ to
    → EachTo table R xs ys to → Along (R h) xs ys
each_along table R xs ys to h t n l a =
    (n, λ k x y e f. a.each h t k x y (let i = slice_get_within xs k x e in omega arith) e f)
