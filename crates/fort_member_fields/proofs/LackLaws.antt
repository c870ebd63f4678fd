-- 452: what the code's searches say of the types.
use Rattle.std.proofs.Common.{◌≡◌, ◌≢◌, ◌<◌, ◌≤◌, ◌+◌, ◌⊎◌, inl, inr, ◌↔◌, ℕ, Bool, true, false, not, IsTrue, List, length, Some, refl, subst, arith}
use Rattle.std.specs.List.{slice_get}
use Rattle.std.proofs.lemmas.Option.{slice_get_within}
use Rattle.fort_base.specs.declared.table.TypeTable.{TypeTable}
use Rattle.fort_types.specs.declared.hierarchy.DeclaredType.{DeclaredType}
use Rattle.fort_types.specs.declared.hierarchy.TypeKind.TheVariants as a_kind
use Rattle.fort_types.specs.Hierarchy.{DeclaredTypes}
use Rattle.fort_types.specs.Table.{is_set, HasRows}
use Rattle.fort_hier.proofs.ByRows.{path_of, set_of}
use Rattle.fort_types_sets.specs.declared.field.Field.{Field}
use Rattle.fort_member_fields.specs.Rules.{IsMissing, IsWider, LacksField}
use Rattle.fort_member_fields.specs.Walks.{SomeIn, Lacks, LacksOf, fields_of}
use Rattle.fort_member_fields.proofs.Items.{get_of, of_get}
use Rattle.fort_member_fields.proofs.InheritLaws.{declares_of, of_declares, none_named, none_declared}

-- None of the first types is a trait above whose field is lacking.
abbrev pub LacksNoneTo : DeclaredTypes → TypeTable → Bool → List (List Field) → ℕ → ℕ → Type 0
LacksNoneTo h table must own a to = (k : ℕ) (d : DeclaredType) → k < to → slice_get h k ≡ Some d
    → LacksOf h table.below must own a d k → ⊥

near : (j n : ℕ) → j < n + 1 → (j < n) ⊎ (j ≡ n)
near j n b = grind arith

one_declared : (h : DeclaredTypes) (a : ℕ) (d e : DeclaredType) → slice_get h a ≡ Some d
    → slice_get h a ≡ Some e → d ≡ e
one_declared h a d e p q = cc

pub lacks_none : (h : DeclaredTypes) (table : TypeTable) (must : Bool) (own : List (List Field))
    (a : ℕ) → LacksNoneTo h table must own a 0
lacks_none h table must own a k d l e w = omega arith

pub lacks_more : (h : DeclaredTypes) (table : TypeTable) (must : Bool) (own : List (List Field))
    (a i : ℕ) (d : DeclaredType) → slice_get h i ≡ Some d
    → (LacksOf h table.below must own a d i → ⊥)
    → LacksNoneTo h table must own a i → LacksNoneTo h table must own a (i + 1)
lacks_more h table must own a i d e n t k x l p w = elim (near k i l) as (λ _. ⊥) [
  | inl m ↦ t k x m p w
  | inr q ↦
      n (subst (λ
      (z : DeclaredType). LacksOf h table.below must own a z i)
      (one_declared h i x d (subst (λ z. slice_get h z ≡ Some x) q p) e)
      (subst (λ z. LacksOf h table.below must own a x z) q w))
]

-- what must be there: an object's or leaf's fields
abbrev MustIs : Bool → DeclaredType → Type 0
MustIs must d = IsTrue must ↔ (d.kind ≢ a_kind.Trait)

pub must_is : (r : Bool) (d : DeclaredType) → IsTrue r ↔ (d.kind ≡ a_kind.Trait) → MustIs (not r) d
must_is true d w = (λ e. let f : false ≡ true = e in absurd cc, λ n. absurd (n (w.0 refl)))
must_is false d w = (λ _. λ k. let f : false ≡ true = w.1 k in cc, λ _. refl)

-- one that is a trait above
pub lacks_told : (h : DeclaredTypes) (rows : List (List Bool)) (must : Bool)
    (own : List (List Field)) (a : ℕ) (d : DeclaredType) (t : ℕ) (r : Bool) → d.kind ≡ a_kind.Trait
    → IsTrue (is_set rows a t)
    → IsTrue r ↔ SomeIn (Lacks h must (fields_of own a)) (fields_of own t) → IsTrue r
    ↔ LacksOf h rows must own a d t
lacks_told h rows must own a d t r k s w = (λ e. (k, s, w.0 e), λ v. w.1 v.2)

pub lacks_found : (h : DeclaredTypes) (table : TypeTable) (must : Bool) (own : List (List Field))
    (a : ℕ) (da : DeclaredType) (t : ℕ) (d : DeclaredType) → HasRows h table
    → slice_get h a ≡ Some da
    → IsTrue must ↔ (da.kind ≢ a_kind.Trait) → slice_get h t ≡ Some d
    → LacksOf h table.below must own a d t → IsTrue true ↔ LacksField h own a
lacks_found h table must own a da t d r ea m e (k, s, (i, f, p, w)) = (
  λ _. (
    t,
    f,
    (d, e, k),
    path_of h table.below a t r.below s,
    declares_of own t f (of_get (fields_of own t) i f p),
    elim w as (λ _. IsMissing h own a f ⊎ IsWider h own a f) [
      | inl v ↦ inl ((da, ea, m.0 v.0), none_declared own a f.name v.1)
      | inr v ↦
          inr (v.1, declares_of own a v.1 (of_get (fields_of own a) v.0 v.1 v.2), v.3.0, v.3.1)
    ],
  ),
  λ _. refl,
)

pub lacks_all : (h : DeclaredTypes) (table : TypeTable) (must : Bool) (own : List (List Field))
    (a : ℕ) (da : DeclaredType) (i : ℕ) → HasRows h table → slice_get h a ≡ Some da
    → IsTrue must ↔ (da.kind ≢ a_kind.Trait) → length h ≤ i → LacksNoneTo h table must own a i
    → IsTrue false ↔ LacksField h own a
lacks_all h table must own a da i r ea m l n =
    (λ e. let q : false ≡ true = e in absurd cc, λ w. absurd (never w))
  where
    never : LacksField h own a → ⊥
    never (t, f, (d, e, k), p, x, w) = let y = get_of (fields_of own t) f (of_declares own t f x) in
        n t d (let j = slice_get_within h t d e in omega arith) e (
          k,
          set_of h table.below a t r.below (slice_get_within h a da ea) p,
          (
            y.0,
            f,
            y.1,
            elim w as (λ _. Lacks h must (fields_of own a) f) [
              | inl v ↦
                  inl (
                    m.1 (subst (λ
                        (z : DeclaredType). z.kind ≢ a_kind.Trait) (one_declared h a v.0.0 da v.0.1 ea)
                        v.0.2),
                    none_named own a f.name v.1,
                  )
              | inr v ↦
                  (let z = get_of (fields_of own a) v.0 (of_declares own a v.0 v.1)
                  in inr (z.0, v.0, z.1, (v.2, v.3)))
            ],
          ),
        )
