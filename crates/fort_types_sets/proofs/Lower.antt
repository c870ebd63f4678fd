-- Of two declarations of a set that are applicable to types, some declaration is applicable to them
-- and more specific than both.
use Rattle.std.proofs.Common.{◌≡◌, ◌≢◌, ◌<◌, ◌⊎◌, inl, inr, ℕ, true, List, length, Some, refl, sym, ap, ◌∙◌, subst, arith}
use Rattle.std.specs.List.{slice_get}
use Rattle.fort_base.specs.declared.ids.TypeId.{TypeId}
use Rattle.fort_base.specs.declared.table.TypeTable.{TypeTable}
use Rattle.fort_base.specs.declared.ty.Ty.{Ty, out-Ty}
use Rattle.fort_base.specs.declared.ty.Ty.TheOpen.{Ty-F}
use Rattle.fort_types.specs.Hierarchy.{DeclaredTypes, Path, Sound}
use Rattle.fort_types.specs.Types.{Below, Apart, shape_of, IsNumbered, no_name, name, in_parts, in_sides, in_element}
use Rattle.fort_types.specs.Layers.{AllBelow}
use Rattle.fort_types.specs.Table.{HasRows}
use Rattle.fort_types.proofs.Paths.{start_inside}
use Rattle.fort_types.proofs.Orders.{partner, itself, through}
use Rattle.fort_types.proofs.BelowTwo.{below_named, never_below_two}
use Rattle.fort_types_sets.specs.declared.member.Member.{Member}
use Rattle.fort_types_sets.specs.declared.member.MemberSet.{MemberSet}
use Rattle.fort_types_sets.specs.Applicable.{Somewhere, IsApplicable, IsMoreSpecific}
use Rattle.fort_types_sets.specs.Meets.{ArrowsClash}
use Rattle.fort_types_sets.specs.Pairs.{AreStrangers, NeverMeet, apart, strangers, ChoicesCovered, Passes, aside, ordered, reversed, met}
use Rattle.fort_types_sets.specs.Rules.{StandsAt, IsWellMade, KeepsRules}
use Rattle.fort_types_sets.specs.Best.{AreSolid}
use Rattle.fort_types_sets.proofs.Under.{UnderAll, under_all, cover}

pub all_through : (h : DeclaredTypes) (xs ys zs : List Ty) → AllBelow h xs ys → AllBelow h ys zs
    → AllBelow h xs zs
all_through h xs ys zs p q = (
  p.0 ∙ q.0,
  λ k x z u v. let w = partner xs ys k x u p.0
      in through h x w.0 z (p.1 k x w.0 u w.1) (q.1 k w.0 z w.1 v),
)

pub all_itself : (h : DeclaredTypes) (xs : List Ty) → AllBelow h xs xs
all_itself h xs = (refl, λ k x y u v. let e : x ≡ y = cc in subst (λ z. Below h x z) e (itself h x))

-- one of two numbers is the smaller one, or they are one
pub sides : (i j : ℕ) → (i < j) ⊎ ((i ≡ j) ⊎ (j < i))
sides i j = grind arith

named_inside : (n : ℕ) {t : Ty} (i : TypeId) → IsNumbered n t → out-Ty t ≡ Ty-F.Named i → i.0 < n
named_inside n i (no_name a b c d) e = absurd (a (ap shape_of e))
named_inside n i (name {i = j} f l) e =
    let same : j ≡ i = cc in subst (λ (z : TypeId). z.0 < n) same l
named_inside n i (in_parts f q) e = absurd cc
named_inside n i (in_sides f p q) e = absurd cc
named_inside n i (in_element f q) e = absurd cc

module _ (h : DeclaredTypes) (table : TypeTable) (sound : Sound h) (rows : HasRows h table)
    (s : MemberSet) (made : IsWellMade h s) (keeps : KeepsRules h s) (types : List Ty)
    (solid : AreSolid types) where
  -- a declaration of the set that is applicable
  pub record Fit : Type 0 where
    pub at : ℕ
    pub member : Member
    pub is : StandsAt s at member
    pub applicable : IsApplicable h member types

  pub record Lower (p q : Member) : Type 0 where
    pub fit : Fit
    pub left : IsMoreSpecific h fit.member p
    pub right : IsMoreSpecific h fit.member q

  apart_never : (p q : Member) → IsApplicable h p types → IsApplicable h q types
      → Somewhere (Apart h) p.parameters q.parameters → ⊥
  apart_never p q f g w = let v = partner p.parameters types w.0 w.1 w.3 (sym f.0) in
      never_below_two h sound w.5 v.0 (solid w.0 v.0 v.1) (f.1 w.0 v.0 w.1 v.1 w.3)
      (g.1 w.0 v.0 w.2 v.1 w.4)

  strangers_never : (i j : ℕ) (p q : Member) → StandsAt s i p → StandsAt s j q
      → IsApplicable h p types → IsApplicable h q types
      → s.dotted ≡ true → AreStrangers h p.parameters q.parameters → ⊥
  strangers_never i j p q a b f g d n =
      let x = made.receivers d i p a in let y = made.receivers d j q b in
      let v = partner p.parameters types 0 x.1.0 x.1.1 (sym f.0) in
      let k = below_named h v.0 x.1.0 x.0 (solid 0 v.0 v.1) (f.1 0 v.0 x.1.0 v.1 x.1.1) x.1.2 in
      let l = below_named h v.0 y.1.0 y.0 (solid 0 v.0 v.1) (g.1 0 v.0 y.1.0 v.1 y.1.1) y.1.2 in
      let e : l.0 ≡ k.0 = cc in
      let inside =
      start_inside h k.0.0 x.0.0 k.2
      (named_inside (length h) x.0 (made.parameters i 0 p x.1.0 a x.1.1) x.1.2) in
      n x.1.0 y.1.0 x.0 y.0 x.1.1 y.1.1 x.1.2 y.1.2 k.0.0 (
        inside,
        k.2,
        subst (λ
            (z : TypeId). Path h z.0 y.0.0) e l.2,
      )

  never_met : (i j : ℕ) (p q : Member) → StandsAt s i p → StandsAt s j q → IsApplicable h p types
      → IsApplicable h q types → NeverMeet h s p q → ⊥
  never_met i j p q a b f g (apart w) = apart_never p q f g w
  never_met i j p q a b f g (strangers d n) = strangers_never i j p q a b f g d n

  met_lower : (p q : Member) → IsApplicable h p types → IsApplicable h q types
      → (Somewhere (ArrowsClash h) p.parameters q.parameters → ⊥)
      → ChoicesCovered h s.members p q → Lower p q
  met_lower p q f g c k =
      let all : UnderAll h table sound rows types p.parameters q.parameters =
      under_all h table sound rows types p.parameters q.parameters f.0 g.0
      (λ i v x y a b d. cover h table sound rows v x y (solid i v a) (λ w. c (i, x, y, b, d, w))
      (f.1 i v x a b) (g.1 i v y a d)) in
      let r = k all.meets (all.long, all.is) in
      record {
        fit = record {
          at = r.0;
          member = r.1;
          is = r.2;
          applicable =
              all_through h types all.meets r.1.parameters (f.0 ∙ all.long, all.below) r.5;
        };
        left = r.3;
        right = r.4;
      }

  passing : (i j : ℕ) (p q : Member) → StandsAt s i p → StandsAt s j q → IsApplicable h p types
      → IsApplicable h q types → Passes h s p q → Lower p q
  passing i j p q a b f g (aside u w) = absurd (never_met i j p q a b f g w)
  passing i j p q a b f g (ordered u l r) =
      record {
        fit = record { at = i; member = p; is = a; applicable = f };
        left = all_itself h p.parameters;
        right = l;
      }
  passing i j p q a b f g (reversed u l r) =
      record {
        fit = record { at = j; member = q; is = b; applicable = g };
        left = l;
        right = all_itself h q.parameters;
      }
  passing i j p q a b f g (met o c n t k) = met_lower p q f g c k

  pub lower_of : (i j : ℕ) (p q : Member) → StandsAt s i p → StandsAt s j q → IsApplicable h p types
      → IsApplicable h q types → Lower p q
  lower_of i j p q a b f g = elim (sides i j) as (λ _. Lower p q) [
    | inl l ↦ passing i j p q a b f g (keeps.pairs i j p q a b l)
    | inr (inl e) ↦
        (let r : Some p ≡ Some q = sym a ∙ ap (slice_get s.members) e ∙ b in let t : p ≡ q = cc in
        record {
          fit = record { at = i; member = p; is = a; applicable = f };
          left = all_itself h p.parameters;
          right = subst (λ (z : Member). IsMoreSpecific h p z) t (all_itself h p.parameters);
        })
    | inr (inr m) ↦
        (let l = passing j i q p b a g f (keeps.pairs j i q p b a m)
        in record { fit = l.fit; left = l.right; right = l.left })
  ]

  unequal : (p q : Member) → Passes h s p q → p.parameters ≢ q.parameters
  unequal p q (aside u w) = u
  unequal p q (ordered u l r) = u
  unequal p q (reversed u l r) = u
  unequal p q (met o c n t k) = o.unequal

  -- two declarations with the same parameters are one
  pub one_place : (i j : ℕ) (p q : Member) → StandsAt s i p → StandsAt s j q
      → p.parameters ≡ q.parameters → i ≡ j
  one_place i j p q a b e = elim (sides i j) as (λ _. i ≡ j) [
    | inl l ↦ absurd (unequal p q (keeps.pairs i j p q a b l) e)
    | inr (inl f) ↦ f
    | inr (inr m) ↦ absurd (unequal q p (keeps.pairs j i q p b a m) (sym e))
  ]
