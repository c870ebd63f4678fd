-- 451: what the code's searches say of the types.
use Rattle.std.proofs.Common.{◌≡◌, ◌≢◌, ◌<◌, ◌≤◌, ◌+◌, ◌-◌, ◌⊎◌, inl, inr, ◌↔◌, ℕ, zero, suc, Bool, true, false, IsTrue, List, [], length, Option, Some, None, refl, sym, ap, ◌∙◌, subst, arith}
use Rattle.std.specs.List.{slice_get, Contains}
use Rattle.std.proofs.lemmas.Option.{slice_get_within, slice_get-get_or}
use Rattle.fort_base.specs.declared.ids.NameId.{NameId}
use Rattle.fort_base.specs.declared.refusal.Place.{Place}
use Rattle.fort_types.specs.declared.hierarchy.DeclaredType.{DeclaredType}
use Rattle.fort_types.specs.declared.hierarchy.TypeKind.TheVariants as a_kind
use Rattle.fort_types.specs.Hierarchy.{DeclaredTypes}
use Rattle.fort_base.specs.Places.{IsBefore, IsEarliest, IsFirst, Keeps, KeepsAny}
use Rattle.fort_hier.proofs.First.{Among, not_before, first_same, first_more, first_all, same_place}
use Rattle.fort_types_sets.specs.declared.field.Field.{Field}
use Rattle.fort_member_fields.specs.Inherited.{DeclaresNone, Has, inherited}
use Rattle.fort_member_fields.specs.Gathering.{HasAll}
use Rattle.fort_member_fields.specs.Rules.{IsRepeated, DeclaresTwice, GetsTwo, IsDuplicate}
use Rattle.fort_member_fields.specs.Walks.{HasFieldNamed, Differ, DifferAt, SomeDiffer, fields_of}
use Rattle.fort_member_fields.proofs.Items.{get_of, of_get}
use Rattle.fort_member_fields.proofs.InheritLaws.{declares_of, none_named, none_declared}
use Rattle.fort_member_fields.proofs.RepeatLaws.{TwiceAt}

-- ---- the earliest of several

near : (j n : ℕ) → j < n + 1 → (j < n) ⊎ (j ≡ n)
near j n b = grind arith

through : (a b c : Place) → IsBefore a b → IsBefore b c → IsBefore a c
through a b c p q = grind arith

-- the earliest of one more, and of those so far
pub first_least : (Q : ℕ → Place → Type 0) (to : ℕ) (best kept : Option Place) (place : Place)
    → IsEarliest (Q to) place → Keeps best place kept
    → IsFirst (Among Q to) best → IsFirst (Among Q (to + 1)) kept
first_least Q to None kept place e k f = subst (IsFirst (Among Q (to + 1))) (sym k) (record {
  breaks = (to, omega arith, e.breaks);
  none_before = λ other w b. elim (near w.0 to w.1) as (λ _. ⊥) [
    | inl l ↦ f other (w.0, l, w.2)
    | inr q ↦ e.none_before other (subst (λ z. Q z other) q w.2) b
  ];
})
first_least Q to (Some best) kept place e k f = elim k as (λ _. IsFirst (Among Q (to + 1)) kept) [
  | inl w ↦ subst (IsFirst (Among Q (to + 1))) (sym w.1) (record {
    breaks = (f.breaks.0, let l = f.breaks.1 in omega arith, f.breaks.2);
    none_before = λ other v b. elim (near v.0 to v.1) as (λ _. ⊥) [
      | inl l ↦ f.none_before other (v.0, l, v.2) b
      | inr q ↦ e.none_before other (subst (λ z. Q z other) q v.2) (through other best place b w.0)
    ];
  })
  | inr w ↦ subst (IsFirst (Among Q (to + 1))) (sym w.1) (record {
    breaks = (to, omega arith, e.breaks);
    none_before = λ other v b. elim (near v.0 to v.1) as (λ _. ⊥) [
      | inl l ↦ not_before other best place (f.none_before other (v.0, l, v.2)) w.0 b
      | inr q ↦ e.none_before other (subst (λ z. Q z other) q v.2) b
    ];
  })
]

-- the same property by another name
pub first_as : (P Q : Place → Type 0) (best : Option Place) → ((place : Place) → P place → Q place)
    → ((place : Place) → Q place → P place) → IsFirst P best → IsFirst Q best
first_as P Q None a b f = λ place w. f place (b place w)
first_as P Q (Some best) a b f =
    record {
      breaks = a best f.breaks;
      none_before = λ other w c. f.none_before other (b other w) c;
    }

one_list : (own : List (List Field)) (i : ℕ) (x y : List Field) → slice_get own i ≡ Some x
    → slice_get own i ≡ Some y → y ≡ x
one_list own i x y p q = cc

pub twice_step : (own : List (List Field)) (i : ℕ) (x : List Field) (best r kept : Option Place)
    → slice_get own i ≡ Some x → IsFirst (IsRepeated x) r → KeepsAny best r kept
    → IsFirst (Among (TwiceAt own) i) best → IsFirst (Among (TwiceAt own) (i + 1)) kept
twice_step own i x best None kept e f k g =
    subst (IsFirst (Among (TwiceAt own) (i + 1))) (sym k)
    (first_as (Among (TwiceAt own) i) (Among (TwiceAt own) (i + 1)) best
    (λ place w. (w.0, let l = w.1 in omega arith, w.2))
    (λ place w. elim (near w.0 i w.1) as (λ _. Among (TwiceAt own) i place) [
      | inl l ↦ (w.0, l, w.2)
      | inr q ↦
          (let v = subst (λ z. TwiceAt own z place) q w.2
          in absurd (f place (subst (λ z. IsRepeated z place) (one_list own i x v.0 e v.1) v.2)))
    ]) g)
twice_step own i x best (Some place) kept e f k g =
    first_least (TwiceAt own) i best kept place (record {
      breaks = (x, e, f.breaks);
      none_before =
          λ other v b. f.none_before other
          (subst (λ z. IsRepeated z other) (one_list own i x v.0 e v.1) v.2) b;
    }) k g

pub twice_all : (own : List (List Field)) (i : ℕ) (best : Option Place) → length own ≤ i
    → IsFirst (Among (TwiceAt own) i) best → IsFirst (DeclaresTwice own) best
twice_all own i best l f = first_all (TwiceAt own) (DeclaresTwice own) i best
    (λ place w. (w.0, let m = slice_get_within own w.0 w.1 w.2 in omega arith, (w.1, w.2, w.3)))
    (λ place w. (w.0, w.2.0, w.2.1, w.2.2)) f

-- ---- both ways of breaking 451, one after the other

-- The first is that a type declares two; behind it stand the types' names, one after another.
abbrev pub DuplicateAt : DeclaredTypes → List (List Field) → List Place → ℕ → Place → Type 0
DuplicateAt h own places zero place = DeclaresTwice own place
DuplicateAt h own places (suc k) place = (slice_get places k ≡ Some place)
    × GetsTwo h own (length h - length places + k)

pub duplicate_first : (h : DeclaredTypes) (own : List (List Field)) (places : List Place)
    (best : Option Place) → IsFirst (DeclaresTwice own) best
    → IsFirst (Among (DuplicateAt h own places) 1) best
duplicate_first h own places best f =
    first_as (DeclaresTwice own) (Among (DuplicateAt h own places) 1) best
    (λ place w. (0, omega arith, w)) (λ place w. back w.0 place w.1 w.2) f
  where
    back : (k : ℕ) (place : Place) → k < 1 → DuplicateAt h own places k place
        → DeclaresTwice own place
    back zero place l w = w
    back (suc k) place l w = absurd (omega arith)

-- a type that gets no two, and one that does
pub duplicate_same : (h : DeclaredTypes) (own : List (List Field)) (places : List Place) (i : ℕ)
    (best : Option Place) → (GetsTwo h own (length h - length places + i) → ⊥)
    → IsFirst (Among (DuplicateAt h own places) (1 + i)) best
    → IsFirst (Among (DuplicateAt h own places) (1 + (i + 1))) best
duplicate_same h own places i best n f =
    let e : 1 + i ≡ suc i = omega arith in let g : suc i + 1 ≡ 1 + (i + 1) = omega arith
    in subst (λ z. IsFirst (Among (DuplicateAt h own places) z) best) g
    (first_same (DuplicateAt h own places) (suc i) best (λ place w. n w.1)
    (subst (λ z. IsFirst (Among (DuplicateAt h own places) z) best) e f))

pub duplicate_more : (h : DeclaredTypes) (own : List (List Field)) (places : List Place) (i : ℕ)
    (best kept : Option Place) (place : Place) → slice_get places i ≡ Some place
    → GetsTwo h own (length h - length places + i) → Keeps best place kept
    → IsFirst (Among (DuplicateAt h own places) (1 + i)) best
    → IsFirst (Among (DuplicateAt h own places) (1 + (i + 1))) kept
duplicate_more h own places i best kept place e w k f =
    let g : 1 + i ≡ suc i = omega arith in let r : suc i + 1 ≡ 1 + (i + 1) = omega arith
    in subst (λ z. IsFirst (Among (DuplicateAt h own places) z) kept) r
    (first_more (DuplicateAt h own places) (suc i) best kept place (e, w)
    (λ other v. same_place places i place other e v.0) k
    (subst (λ z. IsFirst (Among (DuplicateAt h own places) z) best) g f))

pub duplicate_all : (h : DeclaredTypes) (own : List (List Field)) (places : List Place) (i : ℕ)
    (best : Option Place) → length places ≤ i
    → IsFirst (Among (DuplicateAt h own places) (1 + i)) best
    → IsFirst (IsDuplicate h own places) best
duplicate_all h own places i best l f =
    first_as (Among (DuplicateAt h own places) (1 + i)) (IsDuplicate h own places) best
    (λ place w. there w.0 place w.2) back f
  where
    there : (k : ℕ) (place : Place) → DuplicateAt h own places k place
        → IsDuplicate h own places place
    there zero place w = inl w
    there (suc k) place w = inr (k, w.0, w.1)

    back : (place : Place) → IsDuplicate h own places place
        → Among (DuplicateAt h own places) (1 + i) place
    back place w = elim w as (λ _. Among (DuplicateAt h own places) (1 + i) place) [
      | inl v ↦ (0, omega arith, v)
      | inr v ↦ (suc v.0, let m = slice_get_within places v.0 place v.1 in omega arith, (v.1, v.2))
    ]

-- ---- one trait

one_declared : (h : DeclaredTypes) (a : ℕ) (d e : DeclaredType) → slice_get h a ≡ Some d
    → slice_get h a ≡ Some e → d ≡ e
one_declared h a d e p q = cc

pub kind_at : (h : DeclaredTypes) (a : ℕ) (d e : DeclaredType) → slice_get h a ≡ Some d
    → slice_get h a ≡ Some e → d.kind ≡ a_kind.Trait → e.kind ≡ a_kind.Trait
kind_at h a d e p q k =
    subst (λ (z : DeclaredType). z.kind ≡ a_kind.Trait) (one_declared h a d e p q) k

apart_or_not : (i j : ℕ) → (i < j) ⊎ ((j < i) ⊎ (i ≡ j))
apart_or_not i j = grind arith

list_of : (h : DeclaredTypes) (own all : List (List Field)) → HasAll h own all → (b : ℕ)
    → b < length h → slice_get all b ≡ Some (fields_of all b)
list_of h own all t b l = let n = t.number in slice_get-get_or all b [] (omega arith)

-- two fields of one name at two places
pub twice_at : (fs : List Field) (i j : ℕ) (f g : Field) → slice_get fs i ≡ Some f
    → slice_get fs j ≡ Some g → f.name ≡ g.name → (i ≡ j → ⊥)
    → (place : Place) × IsRepeated fs place
twice_at fs i j f g p q e n =
    elim (apart_or_not i j) as (λ _. (place : Place) × IsRepeated fs place) [
      | inl l ↦ (g.place, (i, j, f, g, l, p, q, e, refl))
      | inr m ↦ (elim m as (λ _. (place : Place) × IsRepeated fs place) [
        | inl l ↦ (f.place, (j, i, g, f, l, q, p, sym e, refl))
        | inr k ↦ absurd (n k)
      ])
    ]

-- two fields of one name and different types stand at two places
pub twice : (fs : List Field) (i j : ℕ) (f g : Field) → slice_get fs i ≡ Some f
    → slice_get fs j ≡ Some g → f.name ≡ g.name → f.ty ≢ g.ty
    → (place : Place) × IsRepeated fs place
twice fs i j f g p q e n =
    twice_at fs i j f g p q e
    (λ k. n (ap (λ (z : Field). z.ty) (same f g (subst (λ z. slice_get fs z ≡ Some f) k p) q)))
  where
    same : (x y : Field) → slice_get fs j ≡ Some x → slice_get fs j ≡ Some y → x ≡ y
    same x y r s = cc

-- two types that are not one
pub differ_told : (own : List Field) (all : List (List Field)) (b c : ℕ) (r : Bool) → b ≢ c
    → IsTrue r ↔ Differ own (fields_of all b) (fields_of all c) → IsTrue r ↔ DifferAt own all b c
differ_told own all b c r n w = (λ e. (n, w.0 e), λ v. w.1 v.1)

-- where each name stands once, a trait gets no two
pub gets_none : (h : DeclaredTypes) (own all : List (List Field)) (a : ℕ) → HasAll h own all
    → a < length h → IsFirst (IsRepeated (fields_of all a)) None → IsTrue false ↔ GetsTwo h own a
gets_none h own all a t l n = (λ e. let q : false ≡ true = e in absurd cc, λ w. absurd (never w))
  where
    never : GetsTwo h own a → ⊥
    never (trait, b, c, f, g, eb, ec, unlike, hf, hg, e, m, none) =
        let has = t.each a (fields_of all a) (list_of h own all t a l) in
        let x = has.all f (inherited trait none eb hf) in
        let y = has.all g
        (inherited trait (subst (λ (z : NameId). DeclaresNone own a z) e none) ec hg) in
        let i = get_of (fields_of all a) x.0 x.1 in let j = get_of (fields_of all a) y.0 y.1 in
        let r = twice (fields_of all a) i.0 j.0 x.0 y.0 i.1 j.1 (x.2 ∙ e
        ∙ sym y.2) (λ q. m (sym x.3 ∙ q ∙ y.3)) in
        n r.0 r.1

pub no_trait : (h : DeclaredTypes) (own : List (List Field)) (a : ℕ) (d : DeclaredType)
    → slice_get h a ≡ Some d → (d.kind ≡ a_kind.Trait → ⊥) → IsTrue false ↔ GetsTwo h own a
no_trait h own a d e n = (λ q. let f : false ≡ true = q in absurd cc, λ w. absurd (never w))
  where
    never : GetsTwo h own a → ⊥
    never w = n (ap (λ (z : DeclaredType). z.kind) (one_declared h a d w.0.0 e w.0.1) ∙ w.0.2)

-- what the search through the types that a trait extends says
pub gets_told : (h : DeclaredTypes) (own all : List (List Field)) (a : ℕ) (d : DeclaredType)
    (r : Bool) → HasAll h own all → slice_get h a ≡ Some d → d.kind ≡ a_kind.Trait
    → IsTrue r ↔ SomeDiffer (fields_of own a) all d.extends → IsTrue r ↔ GetsTwo h own a
gets_told h own all a d r t e k w = (λ v. there (w.0 v), λ v. w.1 (back v))
  where
    has_it : (b : ℕ) (f : Field) (i : ℕ) → slice_get (fields_of all b) i ≡ Some f
        → (b < length h) × Has h own b f
    has_it b f i p =
        let x = declares_of all b f (of_get (fields_of all b) i f p) in let n = t.number
        in let l = slice_get_within all b x.0 x.1 in
        (omega arith, (t.each b x.0 x.1).has f x.2)

    there : SomeDiffer (fields_of own a) all d.extends → GetsTwo h own a
    there (kb, b, pb, (kc, c, pc, (unlike, (kf, f, pf, (none, (kg, g, pg, (q, m))))))) =
        let x = has_it b f kf pf in let y = has_it c g kg pg in (
          (d, e, k),
          b,
          c,
          f,
          g,
          (d, e, of_get d.extends kb b pb, x.0),
          (d, e, of_get d.extends kc c pc, y.0),
          unlike,
          x.1,
          y.1,
          sym q,
          λ z. m (sym z),
          none_declared own a f.name none,
        )

    back : GetsTwo h own a → SomeDiffer (fields_of own a) all d.extends
    back (trait, b, c, f, g, eb, ec, unlike, hf, hg, q, m, none) =
        let x = (t.each b (fields_of all b) (list_of h own all t b eb.3)).all f hf
        in let y = (t.each c (fields_of all c) (list_of h own all t c ec.3)).all g hg in
        let i = get_of (fields_of all b) x.0 x.1 in let j = get_of (fields_of all c) y.0 y.1 in
        let ib = get_of d.extends b (subst (λ
        (z : DeclaredType). Contains z.extends b) (one_declared h a eb.0 d eb.1 e) eb.2) in
        let ic = get_of d.extends c (subst (λ
        (z : DeclaredType). Contains z.extends c) (one_declared h a ec.0 d ec.1 e) ec.2)
        in (
          ib.0,
          b,
          ib.1,
          (
            ic.0,
            c,
            ic.1,
            (
              unlike,
              (
                i.0,
                x.0,
                i.1,
                (
                  λ n. none_named own a f.name none (subst (λ
                      (z : NameId). HasFieldNamed (fields_of own a) z) x.2 n),
                  (j.0, y.0, j.1, (y.2 ∙ sym q ∙ sym x.2, λ z. m (sym x.3 ∙ sym z ∙ y.3))),
                ),
              ),
            ),
          ),
        )
