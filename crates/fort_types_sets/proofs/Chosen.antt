-- Exactly one declaration is most specific, and for types of values it isn't abstract.
use Rattle.std.proofs.Common.{◌≡◌, ◌≢◌, ◌<◌, ◌⊎◌, inl, inr, ℕ, zero, suc, List, [], ◌∷◌, length, slice_set, Option, Some, None, refl, sym, ap, ◌∙◌, subst, arith}
use Rattle.std.specs.List.{slice_get}
use Rattle.std.proofs.lemmas.Option.{slice_get_within}
use Rattle.fort_base.specs.declared.ids.TypeId.{TypeId}
use Rattle.fort_base.specs.declared.table.TypeTable.{TypeTable}
use Rattle.fort_base.specs.declared.ty.Ty.{Ty, out-Ty, out-roll-Ty}
use Rattle.fort_base.specs.declared.ty.Ty.TheOpen.{Ty-F}
use Rattle.fort_base.specs.declared.ty.Ty.TheVariants as a_type
use Rattle.fort_base.specs.declared.ty.Ty.TheVariants.{rolls-Named}
use Rattle.fort_types.specs.Hierarchy.{DeclaredTypes, stop, Sound}
use Rattle.fort_types.specs.Types.{Below, named}
use Rattle.fort_types.specs.Layers.{AllBelow}
use Rattle.fort_types.specs.Table.{HasRows}
use Rattle.fort_types.proofs.Orders.{partner}
use Rattle.fort_types.proofs.Antisymmetry.{same, same_lists}
use Rattle.fort_types.proofs.BelowTwo.{below_named}
use Rattle.fort_types_sets.specs.declared.member.Member.{Member}
use Rattle.fort_types_sets.specs.declared.member.MemberKind.TheVariants as a_kind
use Rattle.fort_types_sets.specs.declared.member.MemberSet.{MemberSet}
use Rattle.fort_types_sets.specs.Applicable.{IsApplicable, IsMoreSpecific}
use Rattle.fort_types_sets.specs.Rules.{StandsAt, IsWellMade, KeepsRules}
use Rattle.fort_types_sets.specs.Best.{IsMostSpecific, AreSolid, AreOfValues}
use Rattle.fort_types_sets.proofs.Decided.{decide_all}
use Rattle.fort_types_sets.proofs.Lower.{all_through, Fit, Lower, lower_of, one_place}

out_named : (o : TypeId) → out-Ty (a_type.Named o) ≡ Ty-F.Named o
out_named o = ap out-Ty (sym (rolls-Named o)) ∙ out-roll-Ty (Ty-F.Named o)

-- lists with one element put in
length_put : (xs : List Ty) (at : ℕ) (y : Ty) → length (slice_set xs at y) ≡ length xs
length_put [] at y = refl
length_put (x ∷ xs) zero y = refl
length_put (x ∷ xs) (suc at) y = let e = length_put xs at y in omega arith

put_here : (xs : List Ty) (at : ℕ) (y : Ty) → at < length xs
    → slice_get (slice_set xs at y) at ≡ Some y
put_here [] at y l = absurd (omega arith)
put_here (x ∷ xs) zero y l = refl
put_here (x ∷ xs) (suc at) y l = put_here xs at y (omega arith)

put_aside : (xs : List Ty) (at k : ℕ) (y : Ty) → k ≢ at
    → slice_get (slice_set xs at y) k ≡ slice_get xs k
put_aside [] at k y n = refl
put_aside (x ∷ xs) zero zero y n = absurd (n refl)
put_aside (x ∷ xs) zero (suc k) y n = refl
put_aside (x ∷ xs) (suc at) zero y n = refl
put_aside (x ∷ xs) (suc at) (suc k) y n = put_aside xs at k y (λ e. n (ap suc e))

near : (j n : ℕ) → j < suc n → (j < n) ⊎ (j ≡ n)
near j n b = grind arith

same_or : (m n : ℕ) → (m ≡ n) ⊎ (m ≢ n)
same_or m n = grind arith

module _ (h : DeclaredTypes) (table : TypeTable) (sound : Sound h) (rows : HasRows h table)
    (s : MemberSet) (made : IsWellMade h s) (keeps : KeepsRules h s) (types : List Ty)
    (solid : AreSolid types) where
  abbrev Fits : Type 0
  Fits = Fit h table sound rows s made keeps types solid

  -- one that is more specific than each applicable one of the first `n`
  record Least (n : ℕ) : Type 0 where
    fit : Fits
    under : (j : ℕ) (d : Member) → j < n → StandsAt s j d → IsApplicable h d types
        → IsMoreSpecific h fit.member d

  at_that : (j n : ℕ) (d : Member) (o : Option Member) → slice_get s.members n ≡ o → StandsAt s j d
      → j ≡ n → o ≡ Some d
  at_that j n d o a b e = sym a ∙ sym (ap (slice_get s.members) e) ∙ b

  grow : (n : ℕ) → Least n → (o : Option Member) → slice_get s.members n ≡ o → Least (suc n)
  grow n l None a = record {
    fit = l.fit;
    under = λ j d b g f. elim (near j n b) as (λ _. IsMoreSpecific h l.fit.member d) [
      | inl c ↦ l.under j d c g f
      | inr c ↦ absurd (let x : None ≡ Some d = at_that j n d None a g c in cc)
    ];
  }
  grow n l (Some q) a =
      elim (decide_all h table sound rows types q.parameters) as (λ _. Least (suc n)) [
        | inl f ↦ (let low : Lower h table sound rows s made keeps types solid l.fit.member q =
            lower_of h table sound rows s made keeps types solid l.fit.at n l.fit.member q l.fit.is a
            l.fit.applicable f in
            record {
              fit = low.fit;
              under = λ j d b g f. elim (near j n b) as (λ _. IsMoreSpecific h low.fit.member d) [
                | inl c ↦
                    all_through h low.fit.member.parameters l.fit.member.parameters d.parameters low.left
                    (l.under j d c g f)
                | inr c ↦
                    (let x : Some q ≡ Some d = at_that j n d (Some q) a g c in let y : q ≡ d = cc in
                    subst (λ (z : Member). IsMoreSpecific h low.fit.member z) y low.right)
              ];
            })
        | inr never ↦ record {
          fit = l.fit;
          under = λ j d b g f. elim (near j n b) as (λ _. IsMoreSpecific h l.fit.member d) [
            | inl c ↦ l.under j d c g f
            | inr c ↦ absurd
                (let x : Some q ≡ Some d = at_that j n d (Some q) a g c in let y : d ≡ q = cc in
                never (subst (λ (z : Member). IsApplicable h z types) y f))
          ];
        }
      ]

  least_of : Fits → (n : ℕ) → Least n
  least_of f zero = record { fit = f; under = λ j d b g a. absurd (omega arith) }
  least_of f (suc n) = grow n (least_of f n) (slice_get s.members n) refl

  some_best : Fits → (i : ℕ) × IsMostSpecific h s types i
  some_best f = let l = least_of f (length s.members) in (
    l.fit.at,
    record {
      chosen = l.fit.member;
      is = l.fit.is;
      applicable = l.fit.applicable;
      least = λ j d g a. l.under j d (slice_get_within s.members j d g) g a;
    },
  )

  same_parameters : (p q : Member) → IsMoreSpecific h p q → IsMoreSpecific h q p
      → p.parameters ≡ q.parameters
  same_parameters p q a b =
      same_lists p.parameters q.parameters a.0
      (λ k x y u v. same h sound x y (a.1 k x y u v) (b.1 k y x v u))

  one_best : (i j : ℕ) → IsMostSpecific h s types i → IsMostSpecific h s types j → i ≡ j
  one_best i j a b =
      one_place h table sound rows s made keeps types solid i j a.chosen b.chosen a.is b.is
      (same_parameters a.chosen b.chosen (a.least j b.chosen b.is b.applicable)
      (b.least i a.chosen a.is a.applicable))

  pub exactly_one : (i : ℕ) (d : Member) → StandsAt s i d → IsApplicable h d types
      → (k : ℕ) × IsMostSpecific h s types k × ((j : ℕ) → IsMostSpecific h s types j → j ≡ k)
  exactly_one i d e f =
      let b = some_best (record { at = i; member = d; is = e; applicable = f })
      in (b.0, b.1, λ j c. one_best j b.0 c b.1)

  -- what is below the parameters, with an object at a position, is below them with the object's
  -- type there
  with_object : (xs : List Ty) (at : ℕ) (v : Ty) (o : TypeId) → AllBelow h types xs
      → slice_get types at ≡ Some v → out-Ty v ≡ Ty-F.Named o
      → AllBelow h types (slice_set xs at (a_type.Named o))
  with_object xs at v o f g e = (f.0 ∙ sym (length_put xs at (a_type.Named o)), places)
    where
      places : (n : ℕ) (u y : Ty) → slice_get types n ≡ Some u
          → slice_get (slice_set xs at (a_type.Named o)) n ≡ Some y → Below h u y
      places n u y p q = elim (same_or n at) as (λ _. Below h u y) [
        | inl c ↦
            (let a : slice_get types n ≡ Some v = ap (slice_get types) c ∙ g in let x : v ≡ u = cc in
            let l = slice_get_within types n u p in let m = f.0 in
            let b : slice_get (slice_set xs at (a_type.Named o)) n ≡ Some (a_type.Named o) =
            ap (slice_get (slice_set xs at (a_type.Named o))) c
            ∙ put_here xs at (a_type.Named o) (omega arith) in
            let z : a_type.Named o ≡ y = cc in
            subst (λ t. Below h t y) x (subst (λ t. Below h v t) z (named e (out_named o) stop)))
        | inr c ↦ f.1 n u y p (sym (put_aside xs at n (a_type.Named o) c) ∙ q)
      ]

  pub never_abstract : AreOfValues h types → (i : ℕ) (best : IsMostSpecific h s types i)
      → best.chosen.kind ≢ a_kind.Abstract
  never_abstract values i best e =
      let own = made.owned i best.chosen best.is e in
      let has = made.owners i own.0 best.chosen own.1 best.is own.2 in
      let v = partner best.chosen.parameters types own.0 has.0 has.1 (sym best.applicable.0) in
      let k = below_named h v.0 has.0 own.1 (solid own.0 v.0 v.1)
      (best.applicable.1 own.0 v.0 has.0 v.1 has.1) has.2 in
      let r = keeps.covered i own.0 best.chosen own.1 k.0 best.is (e, own.2)
      (values own.0 v.0 k.0 v.1 k.1, k.2) in
      let fits = with_object best.chosen.parameters own.0 v.0 k.0 best.applicable v.1 k.1 in
      let less =
      best.least r.0 r.1 r.2
      (all_through h types (slice_set best.chosen.parameters own.0 (a_type.Named k.0))
      r.1.parameters fits r.6) in
      let one = same_parameters best.chosen r.1 less r.4 in
      let here : i ≡ r.0 =
      one_place h table sound rows s made keeps types solid i r.0 best.chosen r.1 best.is r.2
      one in
      let x : Some best.chosen ≡ Some r.1 = sym best.is ∙ ap (slice_get s.members) here ∙ r.2 in
      let twin : best.chosen ≡ r.1 = some_same x in
      r.3 (ap (λ (m : Member). m.kind) (sym twin) ∙ e)
    where
      some_same : {p q : Member} → Some p ≡ Some q → p ≡ q
      some_same w = cc
