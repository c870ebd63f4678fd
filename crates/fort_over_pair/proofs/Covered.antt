-- Walks over the declarations of a set and over the choices, for each hierarchy whose rows a table
-- has.
use Rattle.std.proofs.Common.{◌≡◌, ◌<◌, ◌≤◌, ◌+◌, inl, inr, ℕ, Bool, true, false, List, length, Some, ap, subst, arith}
use Rattle.std.specs.List.{slice_get}
use Rattle.std.proofs.lemmas.Option.{slice_get_within}
use Rattle.fort_base.specs.declared.table.TypeTable.{TypeTable}
use Rattle.fort_base.specs.declared.ty.Ty.{Ty}
use Rattle.fort_types.specs.Hierarchy.{DeclaredTypes}
use Rattle.fort_types.specs.Table.{HasRows}
use Rattle.fort_types_sets.specs.declared.member.Member.{Member}
use Rattle.fort_types_sets.specs.Pairs.{AreCovered}
use Rattle.fort_over_pair.specs.Judges.{Covers, CoversAll}
use Rattle.fort_over_pair.proofs.Places.{near}
use Rattle.fort_over_pair.proofs.Members.{contains_at, at_contained}

-- no declaration before that place covers the types
pub record NoneCovers (table : TypeTable) (members : List Member) (p q : Member) (types : List Ty)
    (to : ℕ) : Type 0 where
  pub none : (h : DeclaredTypes) → HasRows h table → (k : ℕ) (r : Member) → k < to
      → slice_get members k ≡ Some r → Covers h r p q types → ⊥

pub none_covers : (table : TypeTable) (members : List Member) (p q : Member) (types : List Ty)
    → NoneCovers table members p q types 0
none_covers table members p q types = record { none = λ h t k r l. absurd (omega arith) }

pub none_covers_more : (table : TypeTable) (members : List Member) (p q : Member) (types : List Ty)
    (r : Member) (i : ℕ) → slice_get members i ≡ Some r
    → ((h : DeclaredTypes) → HasRows h table → Covers h r p q types → ⊥)
    → NoneCovers table members p q types i → NoneCovers table members p q types (i + 1)
none_covers_more table members p q types r i e n a = record {
  none = λ h t k s l f w. elim (near k i l) as (λ _. ⊥) [
    | inl b ↦ a.none h t k s b f w
    | inr g ↦
        (let c : slice_get members k ≡ slice_get members i = ap (slice_get members) g
        in let d : s ≡ r = cc in n h t (subst (λ (z : Member). Covers h z p q types) d w))
  ];
}

pub none_covers_all : (table : TypeTable) (members : List Member) (p q : Member) (types : List Ty)
    (to : ℕ) (h : DeclaredTypes) → HasRows h table → length members ≤ to
    → NoneCovers table members p q types to → AreCovered h members p q types → ⊥
none_covers_all table members p q types to h t l a w =
    a.none h t w.0 w.1 (let i = slice_get_within members w.0 w.1 w.2
    in omega arith) w.2 (w.3, w.4, w.5)

-- each choice before that place is covered
pub record CoveredTo (table : TypeTable) (members : List Member) (p q : Member)
    (choices : List (List Ty)) (to : ℕ) : Type 0 where
  pub each : (h : DeclaredTypes) → HasRows h table → (k : ℕ) (types : List Ty) → k < to
      → slice_get choices k ≡ Some types → AreCovered h members p q types

pub covered_none : (table : TypeTable) (members : List Member) (p q : Member)
    (choices : List (List Ty)) → CoveredTo table members p q choices 0
covered_none table members p q choices = record { each = λ h t k types l. absurd (omega arith) }

pub covered_more : (table : TypeTable) (members : List Member) (p q : Member)
    (choices : List (List Ty)) (types : List Ty) (i : ℕ) → slice_get choices i ≡ Some types
    → ((h : DeclaredTypes) → HasRows h table → AreCovered h members p q types)
    → CoveredTo table members p q choices i → CoveredTo table members p q choices (i + 1)
covered_more table members p q choices types i e n a = record {
  each = λ h t k us l f. elim (near k i l) as (λ _. AreCovered h members p q us) [
    | inl b ↦ a.each h t k us b f
    | inr g ↦
        (let c : slice_get choices k ≡ slice_get choices i = ap (slice_get choices) g
        in let d : types ≡ us = cc in subst (AreCovered h members p q) d (n h t))
  ];
}

pub covered_all : (table : TypeTable) (members : List Member) (p q : Member)
    (choices : List (List Ty)) (to : ℕ) (h : DeclaredTypes) → HasRows h table → length choices ≤ to
    → CoveredTo table members p q choices to → CoversAll h members p q choices true
covered_all table members p q choices to h t l a = record {
  all = λ e types w. let v = at_contained choices types w
      in a.each h t v.0 types (let i = slice_get_within choices v.0 types v.1 in omega arith) v.1;
  some = λ e. absurd cc;
}

pub not_covered : (h : DeclaredTypes) (members : List Member) (p q : Member)
    (choices : List (List Ty)) (types : List Ty) (i : ℕ) → slice_get choices i ≡ Some types
    → (AreCovered h members p q types → ⊥) → CoversAll h members p q choices false
not_covered h members p q choices types i e n =
    record { all = λ f. absurd cc; some = λ f. (types, contains_at choices i types e, n) }

pub covers_moved : (h : DeclaredTypes) (members shown : List Member) (p q : Member)
    (choices listed : List (List Ty)) (good : Bool) → shown ≡ members → listed ≡ choices
    → CoversAll h shown p q listed good → CoversAll h members p q choices good
covers_moved h members shown p q choices listed good e f w =
    subst (λ z. CoversAll h members p q z good) f (subst (λ z. CoversAll h z p q listed good) e w)
