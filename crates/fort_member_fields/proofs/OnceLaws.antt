-- Where 451 is broken nowhere, each type has one field of a name.
use Rattle.std.proofs.Common.{◌≡◌, ◌≢◌, ◌<◌, ◌≤◌, ◌+◌, ◌-◌, ◌⊎◌, inl, inr, ℕ, zero, suc, List, [], ◌∷◌, ◌++◌, length, get_or, Some, sym, subst, arith}
use Rattle.std.specs.List.{slice_get, Contains}
use Rattle.std.proofs.lemmas.Option.{slice_get_within, slice_get-get_or}
use Rattle.fort_base.specs.declared.refusal.Place.{Place}
use Rattle.fort_types.specs.Hierarchy.{DeclaredTypes}
use Rattle.fort_types_sets.specs.declared.field.Field.{Field}
use Rattle.fort_member_fields.specs.Inherited.{Has, declared, inherited, EachOnce, AreAllFields}
use Rattle.fort_member_fields.specs.Gathering.{HasGathered, HasAll}
use Rattle.fort_member_fields.specs.Rules.{GetsTwo, IsDuplicate}
use Rattle.fort_member_fields.specs.Walks.{fields_of}
use Rattle.fort_member_fields.proofs.Items.{get_of, of_get, one}
use Rattle.fort_member_fields.proofs.DuplicateLaws.{twice_at, twice}

same_or : (a b : ℕ) → (a ≡ b) ⊎ (a ≡ b → ⊥)
same_or a b = grind arith

-- an item of two lists is one of the first, at its place, or one of the second
in_parts : {X : Type 0} (xs ys : List X) (k : ℕ) (x : X) → slice_get (xs ++ ys) k ≡ Some x
    → (slice_get xs k ≡ Some x) ⊎ Contains ys x
in_parts [] ys k x e = inr (of_get ys k x e)
in_parts (z ∷ xs) ys zero x e = inl e
in_parts (z ∷ xs) ys (suc k) x e = in_parts xs ys k x e

module _ (h : DeclaredTypes) (own : List (List Field)) (places : List Place)
    (fewer : length places ≤ length h)
    (high : (a : ℕ) (f : Field) → Has h own a f → length h - length places ≤ a)
    (none : (place : Place) → IsDuplicate h own places place → ⊥) where
  -- no type with a field gets one from two others
  none_two : (a : ℕ) (f : Field) → Has h own a f → GetsTwo h own a → ⊥
  none_two a f v w =
      none (get_or places (a - (length h - length places)) (record { line = 0; column = 0 })) (inr (
        a - (length h - length places),
        slice_get-get_or places (a - (length h - length places)) (record { line = 0; column = 0 })
            (let i = inside in let l = high a f v in omega arith),
        subst (GetsTwo h own) number w,
      ))
    where
      inside : a < length h
      inside = slice_get_within h a w.0.0 w.0.1

      number : a ≡ length h - length places + (a - (length h - length places))
      number = let i = inside in let l = high a f v in omega arith

  -- a type has one type for each name
  one_type : (a : ℕ) (f g : Field) → Has h own a f → Has h own a g → f.name ≡ g.name → f.ty ≢ g.ty
      → ⊥
  one_type a f g (declared w) (declared v) e n =
      let i = get_of w.0 f w.2
      in let j = get_of w.0 g (subst (λ z. Contains z g) (one own a w.0 v.0 w.1 v.1) v.2) in
      let r = twice w.0 i.0 j.0 f g i.1 j.1 e n in none r.0 (inl (a, w.0, w.1, r.1))
  one_type a f g (declared w) (inherited t m x v) e n = m f w e
  one_type a f g (inherited t m x v) (declared w) e n = m g w (sym e)
  one_type a f g (inherited {b = b} t m x v) (inherited {b = c} u k y w) e n =
      elim (same_or b c) as (λ _. ⊥) [
        | inl q ↦ one_type b f g v (subst (λ z. Has h own z g) (sym q) w) e n
        | inr q ↦ none_two a f (inherited t m x v) (t, b, c, f, g, x, y, q, v, w, e, n, m)
      ]

  once : (a : ℕ) (fs : List Field) → a < length own → HasGathered h own a fs → EachOnce fs
  once a fs l t i j f g p q e = elim (in_parts ds rest i f (parted i f p)) as (λ _. i ≡ j) [
    | inl x ↦ (elim (in_parts ds rest j g (parted j g q)) as (λ _. i ≡ j) [
      | inl y ↦ (elim (same_or i j) as (λ _. i ≡ j) [
        | inl s ↦ s
        | inr n ↦
            (let r = twice_at ds i j f g x y e n in absurd (none r.0 (inl (a, ds, here, r.1))))
      ])
      | inr y ↦ absurd ((t.first ds here).2 g y f (ds, here, of_get ds i f x) e)
    ])
    | inr x ↦ (elim (in_parts ds rest j g (parted j g q)) as (λ _. i ≡ j) [
      | inl y ↦ absurd ((t.first ds here).2 f x g (ds, here, of_get ds j g y) (sym e))
      | inr y ↦ (elim (same_or i j) as (λ _. i ≡ j) [
        | inl s ↦ s
        | inr n ↦
            absurd (one_type a f g (t.has f (of_get fs i f p)) (t.has g (of_get fs j g q)) e
            (λ s. n (t.differ i j f g p q e s ((t.first ds here).2 f x))))
      ])
    ])
  ]
    where
      ds : List Field
      ds = fields_of own a

      here : slice_get own a ≡ Some ds
      here = slice_get-get_or own a [] l

      rest : List Field
      rest = (t.first ds here).0

      parted : (k : ℕ) (x : Field) → slice_get fs k ≡ Some x → slice_get (ds ++ rest) k ≡ Some x
      parted k x r = subst (λ z. slice_get z k ≡ Some x) (t.first ds here).1 r

  pub all_are : (all : List (List Field)) → length own ≡ length h → HasAll h own all
      → AreAllFields h own all
  all_are all long t = record {
    number = t.number;
    each = λ a fs p. let g = t.each a fs p in record {
      first = λ ds q. let r = g.first ds q in (r.0, r.1);
      has = g.has;
      all = g.all;
      once = once a fs (let l = slice_get_within all a fs p in let n = t.number in omega arith) g;
      listed = g.listed;
    };
  }
