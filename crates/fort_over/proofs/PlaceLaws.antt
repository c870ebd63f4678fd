-- The earliest uncovered object of what is walked: of the objects below an owner, of a declaration,
-- of a set, of all sets.
use Rattle.std.proofs.Common.{◌≡◌, ◌<◌, ◌+◌, ◌⊎◌, inl, inr, ℕ, true, false, Option, Some, None, length, refl, sym, ap, ◌∙◌, subst, arith}
use Rattle.std.specs.List.{slice_get}
use Rattle.std.specs.Prelude.{get_or}
use Rattle.std.proofs.lemmas.Option.{slice_get_within}
use Rattle.fort_base.specs.declared.ids.TypeId.{TypeId}
use Rattle.fort_base.specs.declared.refusal.Place.{Place}
use Rattle.fort_base.specs.declared.table.TypeTable.{TypeTable}
use Rattle.fort_base.specs.Places.{IsBefore, IsFirst, Keeps as KeepsPlace, KeepsAny}
use Rattle.fort_types.specs.Hierarchy.{DeclaredTypes, Leaf}
use Rattle.fort_types.specs.Table.{HasRows}
use Rattle.fort_hier.proofs.First.{first_none, first_same, first_more, not_before}
use Rattle.fort_types_sets.specs.declared.member.Member.{Member}
use Rattle.fort_types_sets.specs.declared.member.MemberKind.TheVariants as a_kind
use Rattle.fort_types_sets.specs.declared.member.MemberSet.{MemberSet}
use Rattle.fort_types_sets.specs.declared.member.Members.{Members}
use Rattle.fort_types_sets.specs.Coverage.{IsObjectBelow, IsCovered}
use Rattle.fort_types_sets.specs.Rules.{StandsAt}
use Rattle.fort_over.specs.Standing.{standing}
use Rattle.fort_over.specs.Walks.{UncoveredAt, UncoveredOf, UncoveredIn, UncoveredBy, PlacesAmong, AreOf, AreCoveredFor, IsObjectOf, ObjectsFirst, DeclarationFirst, SetFirst, SetsFirst}

near : (j n : ℕ) → j < n + 1 → (j < n) ⊎ (j ≡ n)
near j n b = grind arith

before_through : (a b c : Place) → IsBefore a b → IsBefore b c → IsBefore a c
before_through a b c p q = grind arith

-- the same breaks by another name
pub first_turn : (F G : Place → Type 0) (best : Option Place)
    → ((place : Place) → G place → F place) → ((place : Place) → F place → G place) → IsFirst F best
    → IsFirst G best
first_turn F G None a b f = λ place w. f place (a place w)
first_turn F G (Some best) a b f =
    record {
      breaks = b best f.breaks;
      none_before = λ other w c. f.none_before other (a other w) c;
    }

-- what is kept of those so far and the last is the earliest of all of them
first_part : (Q : ℕ → Place → Type 0) (to : ℕ) (best next kept : Option Place) → IsFirst (Q to) next
    → KeepsAny best next kept → IsFirst (PlacesAmong Q to) best
    → IsFirst (PlacesAmong Q (to + 1)) kept
first_part Q to best None kept g k f =
    subst (IsFirst (PlacesAmong Q (to + 1))) (sym k) (first_same Q to best g f)
first_part Q to None (Some next) kept g k f =
    subst (IsFirst (PlacesAmong Q (to + 1))) (sym k) (record {
      breaks = (to, omega arith, g.breaks);
      none_before = λ other w b. elim (near w.0 to w.1) as (λ _. ⊥) [
        | inl l ↦ f other (w.0, l, w.2)
        | inr e ↦ g.none_before other (subst (λ z. Q z other) e w.2) b
      ];
    })
first_part Q to (Some best) (Some next) kept g (inl k) f =
    subst (IsFirst (PlacesAmong Q (to + 1))) (sym k.1) (record {
      breaks = (f.breaks.0, let l = f.breaks.1 in omega arith, f.breaks.2);
      none_before = λ other w b. elim (near w.0 to w.1) as (λ _. ⊥) [
        | inl l ↦ f.none_before other (w.0, l, w.2) b
        | inr e ↦
            g.none_before other (subst (λ z. Q z other) e w.2) (before_through other best next b k.0)
      ];
    })
first_part Q to (Some best) (Some next) kept g (inr k) f =
    subst (IsFirst (PlacesAmong Q (to + 1))) (sym k.1) (record {
      breaks = (to, omega arith, g.breaks);
      none_before = λ other w b. elim (near w.0 to w.1) as (λ _. ⊥) [
        | inl l ↦ not_before other best next (f.none_before other (w.0, l, w.2)) k.0 b
        | inr e ↦ g.none_before other (subst (λ z. Q z other) e w.2) b
      ];
    })

-- nothing is kept only where there was nothing
kept_none : (best next kept : Option Place) → KeepsAny best next kept → kept ≡ None
    → (best ≡ None) × (next ≡ None)
kept_none best None kept k e = (sym k ∙ e, refl)
kept_none None (Some next) kept k e = absurd cc
kept_none (Some best) (Some next) kept (inl k) e = absurd (let f = k.1 in cc)
kept_none (Some best) (Some next) kept (inr k) e = absurd (let f = k.1 in cc)

place_kept : (best kept : Option Place) (place : Place) → KeepsPlace best place kept → kept ≡ None
    → ⊥
place_kept None kept place k e = cc
place_kept (Some best) kept place (inl k) e = let f = k.1 in cc
place_kept (Some best) kept place (inr k) e = let f = k.1 in cc

-- ---- the objects below an owner

same_type : (a b : TypeId) → a.0 ≡ b.0 → a ≡ b
same_type a b p = ap (λ (n : ℕ). let z : TypeId = record { 0 = n } in z) p

module _ (table : TypeTable) (m : Members) (s : MemberSet) (d : Member) (at : ℕ) (t : TypeId) where
  pub objects_none : ObjectsFirst table m s d at t 0 None
  objects_none =
      record {
        told = λ h a. first_none (UncoveredAt h m s d at t);
        covered = λ h a e o l b. absurd (omega arith);
      }

  -- a type that is no object below the owner
  pub objects_other : (o : TypeId) (best : Option Place) → IsObjectOf table m o t false
      → ObjectsFirst table m s d at t o.0 best → ObjectsFirst table m s d at t (o.0 + 1) best
  objects_other o best n f = record {
    told = λ h a. first_same (UncoveredAt h m s d at t) o.0 best (λ place w. other h a w.0 w.1 w.2)
        (f.told h a);
    covered = λ h a e u l b. elim (near u.0 o.0 l) as (λ _. IsCovered h s d at u) [
      | inl k ↦ f.covered h a e u k b
      | inr k ↦ absurd (other h a u k b)
    ];
  }
    where
      other : (h : DeclaredTypes) → AreOf h table m → (u : TypeId) → u.0 ≡ o.0 → IsObjectBelow h u t
          → ⊥
      other h a u e b =
          let f : false ≡ true =
          (n.told h a).1 (subst (λ z. IsObjectBelow h z t) (same_type u o e) b) in absurd cc

  -- an object that the declaration is covered for
  pub objects_covered : (o : TypeId) (best : Option Place)
      → ((h : DeclaredTypes) → HasRows h table → IsCovered h s d at o)
      → ObjectsFirst table m s d at t o.0 best
      → ObjectsFirst table m s d at t (o.0 + 1) best
  objects_covered o best n f = record {
    told = λ h a. first_same (UncoveredAt h m s d at t) o.0 best (λ place w. w.3 (it h a w.0 w.1))
        (f.told h a);
    covered = λ h a e u l b. elim (near u.0 o.0 l) as (λ _. IsCovered h s d at u) [
      | inl k ↦ f.covered h a e u k b
      | inr k ↦ it h a u k
    ];
  }
    where
      it : (h : DeclaredTypes) → AreOf h table m → (u : TypeId) → u.0 ≡ o.0 → IsCovered h s d at u
      it h a u e = subst (λ z. IsCovered h s d at z) (same_type o u (sym e)) (n h a.0)

  -- one that it isn't covered for
  pub objects_more : (o : TypeId) (best kept : Option Place) (place : Place)
      → IsObjectOf table m o t true
      → ((h : DeclaredTypes) → HasRows h table → IsCovered h s d at o → ⊥)
      → place ≡ standing (get_or m.places o.0 None) → KeepsPlace best place kept
      → ObjectsFirst table m s d at t o.0 best → ObjectsFirst table m s d at t (o.0 + 1) kept
  objects_more o best kept place i n p k f = record {
    told = λ h a. first_more (UncoveredAt h m s d at t) o.0 best kept place (
      o,
      refl,
      (i.told h a).0 refl,
      n h a.0,
      p,
    ) (λ other w. w.4 ∙ sym p) k (f.told h a);
    covered = λ h a e u l b. absurd (place_kept best kept place k e);
  }

  -- an abstract declaration, by its owner
  pub declaration_owned : (best : Option Place) → d.kind ≡ a_kind.Abstract → d.owner ≡ Some (at, t)
      → ObjectsFirst table m s d at t (length table.below) best → DeclarationFirst table m s d best
  declaration_owned best k e f = record {
    told = λ h a. first_turn (PlacesAmong (UncoveredAt h m s d at t) (length table.below))
        (UncoveredOf h m s d) best
        (λ place w. of_owner h a place w) (λ place w. (at, t, (k, e), (w.0, w.2))) (f.told h a);
    covered =
        λ h a n u v o w b. subst (λ z. IsCovered h s d z o) (same_position u v w.1)
        (f.covered h a n o (inside h a o b.0)
        (subst (λ z. IsObjectBelow h o z) (sym (same_owner u v w.1)) b));
  }
    where
      same_position : (u : ℕ) (v : TypeId) → d.owner ≡ Some (u, v) → at ≡ u
      same_position u v g =
          let a : ℕ × TypeId = (at, t) in let b : ℕ
          × TypeId = (u, v) in let f : a ≡ b = cc in ap (λ (z : ℕ × TypeId). z.0) f

      same_owner : (u : ℕ) (v : TypeId) → d.owner ≡ Some (u, v) → t ≡ v
      same_owner u v g =
          let a : ℕ × TypeId = (at, t) in let b : ℕ
          × TypeId = (u, v) in let f : a ≡ b = cc in ap (λ (z : ℕ × TypeId). z.1) f

      inside : (h : DeclaredTypes) → AreOf h table m → (o : TypeId) → Leaf h o.0
          → o.0 < length table.below
      inside h a o l =
          let n = a.0.below.high in let b = slice_get_within h o.0 l.0 l.1 in omega arith

      of_owner : (h : DeclaredTypes) → AreOf h table m → (place : Place) → UncoveredOf h m s d place
          → PlacesAmong (UncoveredAt h m s d at t) (length table.below) place
      of_owner h a place (u, v, w, (number, (o, e, b, n, p))) = (
        number,
        (let l = inside h a o b.0 in omega arith),
        (
          o,
          e,
          subst (λ z. IsObjectBelow h o z) (sym (same_owner u v w.1)) b,
          subst (λ z. IsCovered h s d z o → ⊥) (sym (same_position u v w.1)) n,
          p,
        ),
      )

-- ---- a declaration, a set, all sets

pub declaration_other : (table : TypeTable) (m : Members) (s : MemberSet) (d : Member)
    → (d.kind ≡ a_kind.Abstract → ⊥) → DeclarationFirst table m s d None
declaration_other table m s d n =
    record { told = λ h a place w. n w.2.0; covered = λ h a e u v o w b. absurd (n w.0) }

pub declaration_free : (table : TypeTable) (m : Members) (s : MemberSet) (d : Member)
    → d.owner ≡ None → DeclarationFirst table m s d None
declaration_free table m s d n =
    record {
      told = λ h a place w. owned w.0 w.1 w.2.1;
      covered = λ h a e u v o w b. absurd (owned u v w.1);
    }
  where
    owned : (u : ℕ) (v : TypeId) → d.owner ≡ Some (u, v) → ⊥
    owned u v e = cc

pub set_none : (table : TypeTable) (m : Members) (s : MemberSet) → SetFirst table m s 0 None
set_none table m s =
    record {
      told = λ h a. first_none (UncoveredIn h m s);
      covered = λ h a e i d l. absurd (omega arith);
    }

pub set_more : (table : TypeTable) (m : Members) (s : MemberSet) (i : ℕ) (d : Member)
    (best next kept : Option Place) → StandsAt s i d → DeclarationFirst table m s d next
    → KeepsAny best next kept
    → SetFirst table m s i best → SetFirst table m s (i + 1) kept
set_more table m s i d best next kept is g k f = record {
  told = λ h a. first_part (UncoveredIn h m s) i best next kept
      (first_turn (UncoveredOf h m s d) (UncoveredIn h m s i) next
      (λ place w. let e : w.0 ≡ d = same_member w.0 w.1
      in subst (λ z. UncoveredOf h m s z place) e w.2) (λ place w. (d, is, w)) (g.told h a))
      k (f.told h a);
  covered = λ h a e j x l b. let n = kept_none best next kept k e
      in elim (near j i l) as (λ _. AreCoveredFor h s x) [
        | inl c ↦ f.covered h a n.0 j x c b
        | inr c ↦
            (let same : x ≡ d = same_member x (ap (slice_get s.members) (sym c) ∙ b)
            in subst (λ z. AreCoveredFor h s z) (sym same) (g.covered h a n.1))
      ];
}
  where
    same_member : (x : Member) → StandsAt s i x → x ≡ d
    same_member x e = cc

pub sets_none : (table : TypeTable) (m : Members) → SetsFirst table m 0 None
sets_none table m =
    record {
      told = λ h a. first_none (UncoveredBy h m);
      covered = λ h a e n i s d l. absurd (omega arith);
    }

pub sets_more : (table : TypeTable) (m : Members) (n : ℕ) (s : MemberSet)
    (best next kept : Option Place) → slice_get m.sets n ≡ Some s
    → SetFirst table m s (length s.members) next
    → KeepsAny best next kept → SetsFirst table m n best → SetsFirst table m (n + 1) kept
sets_more table m n s best next kept is g k f = record {
  told = λ h a. first_part (UncoveredBy h m) n best next kept
      (first_turn (PlacesAmong (UncoveredIn h m s) (length s.members)) (UncoveredBy h m n) next
      (λ place w. of_set h place w) (λ place w. (s, is, (w.0, w.2))) (g.told h a))
      k (f.told h a);
  covered = λ h a e j i x d l b c. let o = kept_none best next kept k e
      in elim (near j n l) as (λ _. AreCoveredFor h x d) [
        | inl y ↦ f.covered h a o.0 j i x d y b c
        | inr y ↦ (let same : x ≡ s = same_set x (ap (slice_get m.sets) (sym y) ∙ b) in
            subst (λ z. AreCoveredFor h z d) (sym same)
            (g.covered h a o.1 i d
            (slice_get_within s.members i d (subst (λ z. StandsAt z i d) same c))
            (subst (λ z. StandsAt z i d) same c)))
      ];
}
  where
    same_set : (x : MemberSet) → slice_get m.sets n ≡ Some x → x ≡ s
    same_set x e = cc

    of_set : (h : DeclaredTypes) (place : Place) → UncoveredBy h m n place
        → PlacesAmong (UncoveredIn h m s) (length s.members) place
    of_set h place (x, e, (i, w)) = let same : x ≡ s = same_set x e in (
      i,
      slice_get_within s.members i w.0 (subst (λ z. StandsAt z i w.0) same w.1),
      subst (λ z. UncoveredIn h m z i place) same w,
    )
