-- Of two declarations of a set that may run in one call, the more specific one's result is below
-- the other's.
use Rattle.std.proofs.Common.{◌≡◌, ◌<◌, ◌⊎◌, inl, inr, ℕ, length, Some, sym, ap, ◌∙◌, subst, arith}
use Rattle.std.specs.List.{slice_get, AllByRecursion}
use Rattle.fort_base.specs.declared.ids.TypeId.{TypeId}
use Rattle.fort_base.specs.declared.ty.Ty.{Ty, out-Ty}
use Rattle.fort_base.specs.declared.ty.Ty.TheOpen.{Ty-F}
use Rattle.fort_types.specs.Hierarchy.{DeclaredTypes, Sound, Path, stop}
use Rattle.fort_types.specs.Types.{Below, Solid, IsNumbered, no_name, name, in_parts, in_sides, in_element, shape_of}
use Rattle.fort_types.proofs.Antisymmetry.{same, same_lists}
use Rattle.fort_types.proofs.BelowTwo.{never_below_two, below_named}
use Rattle.fort_types.proofs.Orders.{itself}
use Rattle.fort_types_sets.specs.declared.member.Member.{Member}
use Rattle.fort_types_sets.specs.declared.member.MemberSet.{MemberSet}
use Rattle.fort_types_sets.specs.Applicable.{IsMoreSpecific}
use Rattle.fort_types_sets.specs.Pairs.{Passes, aside, ordered, reversed, met, NeverMeet, apart, strangers, AreStrangers}
use Rattle.fort_types_sets.specs.Rules.{StandsAt, HasNamed, IsWellMade, KeepsRules}
use Rattle.fort_member.proofs.Numbered.{all_item}

pub name_within : (n : ℕ) {t : Ty} → IsNumbered n t → (i : TypeId) → out-Ty t ≡ Ty-F.Named i
    → i.0 < n
name_within n (no_name a b c d) i e = absurd (a (ap shape_of e))
name_within n (name {i = j} f l) i e =
    let same : j ≡ i = cc in subst (λ (z : TypeId). z.0 < n) same l
name_within n (in_parts f q) i e = absurd cc
name_within n (in_sides f p q) i e = absurd cc
name_within n (in_element f q) i e = absurd cc

one_name : (x : Ty) (i j : TypeId) → out-Ty x ≡ Ty-F.Named i → out-Ty x ≡ Ty-F.Named j → i ≡ j
one_name x i j e f = let s : Ty-F.Named i ≡ Ty-F.Named j = sym e ∙ f in cc

module _ (h : DeclaredTypes) (sound : Sound h) (s : MemberSet) (made : IsWellMade h s)
    (keeps : KeepsRules h s)
    (solid : (i : ℕ) (d : Member) → StandsAt s i d → AllByRecursion Solid d.parameters) where
  -- the receiver of a dotted method that is more specific than another is below the other's
  strangers_ordered : (n : ℕ) (p q : Member) → StandsAt s n p → (i j : TypeId) → HasNamed p 0 i
      → HasNamed q 0 j → IsMoreSpecific h p q → AreStrangers h p.parameters q.parameters → ⊥
  strangers_ordered n p q st i j (x, e, f) (y, u, v) more none =
      let w = below_named h x y j (all_item Solid p.parameters 0 x (solid n p st) e)
      (more.1 0 x y e u) v in
      let again : w.0 ≡ i = one_name x w.0 i w.1 f in
      let path : Path h i.0 j.0 = subst (λ (z : TypeId). Path h z.0 j.0) again w.2 in
      none x y i j e u f v i.0 (
        name_within (length h) (made.parameters n 0 p x st e) i f,
        stop,
        path,
      )

  -- two that never meet aren't ordered
  never_ordered : (i j : ℕ) (p q : Member) → StandsAt s i p → StandsAt s j q → IsMoreSpecific h p q
      → NeverMeet h s p q → ⊥
  never_ordered i j p q st tu more (apart (k, x, y, e, f, a)) =
      never_below_two h sound a x (all_item Solid p.parameters k x (solid i p st) e) (itself h x)
      (more.1 k x y e f)
  never_ordered i j p q st tu more (strangers dotted none) =
      let a = made.receivers dotted i p st in
      let b = made.receivers dotted j q tu in
      strangers_ordered i p q st a.0 b.0 a.1 b.1 more none

  same_parameters : (p q : Member) → IsMoreSpecific h p q → IsMoreSpecific h q p
      → p.parameters ≡ q.parameters
  same_parameters p q a b =
      same_lists p.parameters q.parameters a.0
      (λ k x y u v. same h sound x y (a.1 k x y u v) (b.1 k y x v u))

  -- of two that pass
  first_below : (i j : ℕ) (p q : Member) → StandsAt s i p → StandsAt s j q → Passes h s p q
      → IsMoreSpecific h p q → Below h p.result q.result
  first_below i j p q st tu (aside n never) more = absurd (never_ordered i j p q st tu more never)
  first_below i j p q st tu (ordered n o b) more = b
  first_below i j p q st tu (reversed n o b) more = absurd (n (same_parameters p q more o))
  first_below i j p q st tu (met u c d e f) more = absurd (u.not_first more)

  turned : (p q : Member) → NeverMeet h s p q → IsMoreSpecific h q p → (i j : ℕ) → StandsAt s i p
      → StandsAt s j q → ⊥
  turned p q (apart (k, x, y, e, f, a)) more i j st tu =
      never_below_two h sound a y (all_item Solid q.parameters k y (solid j q tu) f)
      (more.1 k y x f e) (itself h y)
  turned p q (strangers dotted none) more i j st tu =
      let a = made.receivers dotted i p st in
      let b = made.receivers dotted j q tu in
      strangers_ordered j q p tu b.0 a.0 b.1 a.1 more
      (λ x y k l e f u v n w. none y x l k f e v u n (w.0, w.2, w.1))

  second_below : (i j : ℕ) (p q : Member) → StandsAt s i p → StandsAt s j q → Passes h s p q
      → IsMoreSpecific h q p → Below h q.result p.result
  second_below i j p q st tu (aside n never) more = absurd (turned p q never more i j st tu)
  second_below i j p q st tu (ordered n o b) more = absurd (n (same_parameters p q o more))
  second_below i j p q st tu (reversed n o b) more = b
  second_below i j p q st tu (met u c d e f) more = absurd (u.not_second more)

  order : (i j : ℕ) → (i ≡ j) ⊎ ((i < j) ⊎ (j < i))
  order i j = grind arith

  one_result : (i j : ℕ) (p q : Member) → StandsAt s i p → StandsAt s j q → i ≡ j
      → Below h p.result q.result
  one_result i j p q st tu e =
      let w : Some p ≡ Some q = sym st ∙ ap (slice_get s.members) e ∙ tu in let v : p ≡ q = cc
      in subst (λ (z : Member). Below h p.result z.result) v (itself h p.result)

  pub results_below : (i j : ℕ) (p q : Member) → StandsAt s i p → StandsAt s j q
      → IsMoreSpecific h p q → Below h p.result q.result
  results_below i j p q st tu more = elim (order i j) as (λ _. Below h p.result q.result) [
    | inl e ↦ one_result i j p q st tu e
    | inr l ↦ elim l as (λ _. Below h p.result q.result) [
      | inl k ↦ first_below i j p q st tu (keeps.pairs i j p q st tu k) more
      | inr k ↦ second_below j i q p tu st (keeps.pairs j i q p tu st k) more
    ]
  ]
