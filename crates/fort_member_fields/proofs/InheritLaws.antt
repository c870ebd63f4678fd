-- The fields that a trait has, of those that the types which it extends have.
use Rattle.std.proofs.Common.{◌≡◌, ◌<◌, ◌≤◌, ◌+◌, ◌⊎◌, inl, inr, ℕ, zero, suc, List, [], ◌∷◌, ◌++◌, length, get_or, Some, refl, sym, ap, ◌∙◌, subst, arith}
use Rattle.std.specs.List.{slice_get, slice_set, Contains, flat_map}
use Rattle.std.proofs.lemmas.Option.{slice_get_within, slice_get-get_or, get_or_from_slice_get}
use Rattle.std.proofs.lemmas.List.Elements.{Contains-append_left, Contains-append_right, Contains-append_cases}
use Rattle.fort_base.specs.declared.ids.NameId.{NameId}
use Rattle.fort_types.specs.declared.hierarchy.DeclaredType.{DeclaredType}
use Rattle.fort_types.specs.declared.hierarchy.TypeKind.TheVariants as a_kind
use Rattle.fort_types.specs.Hierarchy.{DeclaredTypes, Extends, Leaf}
use Rattle.fort_types_sets.specs.declared.field.Field.{Field}
use Rattle.fort_member_fields.specs.Inherited.{Declares, DeclaresNone, Has, declared, inherited, IsListed, of_leaf, of_trait, AreFurther, no_more, of_type, of_any}
use Rattle.fort_member_fields.specs.Gathering.{HasGathered, HasTo, HasAll}
use Rattle.fort_member_fields.specs.Walks.{HasFieldNamed, Gathers, AreHeights, fields_of}
use Rattle.fort_member_fields.proofs.Items.{get_of, of_get, in_none, one}

-- ---- the fields of a type, by its number

pub declares_of : (own : List (List Field)) (a : ℕ) (f : Field) → Contains (fields_of own a) f
    → Declares own a f
declares_of [] a f w = absurd (in_none f w)
declares_of (x ∷ own) zero f w = (x, refl, w)
declares_of (x ∷ own) (suc a) f w = declares_of own a f w

pub of_declares : (own : List (List Field)) (a : ℕ) (f : Field) → Declares own a f
    → Contains (fields_of own a) f
of_declares own a f w = subst (λ z. Contains z f) (sym (get_or_from_slice_get own a w.0 [] w.1)) w.2

pub none_named : (own : List (List Field)) (a : ℕ) (name : NameId) → DeclaresNone own a name
    → HasFieldNamed (fields_of own a) name → ⊥
none_named own a name n w = n w.1 (declares_of own a w.1 (of_get (fields_of own a) w.0 w.1 w.2)) w.3

pub none_declared : (own : List (List Field)) (a : ℕ) (name : NameId)
    → (HasFieldNamed (fields_of own a) name → ⊥) → DeclaresNone own a name
none_declared own a name n f d e =
    let g = get_of (fields_of own a) f (of_declares own a f d) in n (g.0, f, g.1, e)

-- ---- lists joined

pub in_joined : {X Y : Type 0} (f : X → List Y) (xs : List X) (x : X) (y : Y) → Contains xs x
    → Contains (f x) y → Contains (flat_map f xs) y
in_joined f [] x y w v = absurd (in_none x w)
in_joined f (z ∷ xs) x y (zero, l, e) v =
    Contains-append_left (f z) (flat_map f xs) y (subst (λ u. Contains (f u) y) (sym e) v)
in_joined f (z ∷ xs) x y (suc k, l, e) v =
    Contains-append_right (f z) (flat_map f xs) y (in_joined f xs x y (k, omega arith, e) v)

pub of_joined : {X Y : Type 0} (f : X → List Y) (xs : List X) (y : Y) → Contains (flat_map f xs) y
    → (x : X) × Contains xs x × Contains (f x) y
of_joined f [] y w = absurd (in_none y w)
of_joined f (z ∷ xs) y w =
    elim (Contains-append_cases (f z) (flat_map f xs) y w) as (λ _.
    (x : _) × Contains (z ∷ xs) x × Contains (f x) y) [
      | inl v ↦ (z, (0, omega arith, refl), v)
      | inr v ↦
          (let r = of_joined f xs y v in (r.0, (suc r.1.0, let l = r.1.1 in omega arith, r.1.2), r.2))
    ]

-- ---- the lists of the types that a trait extends

inside_or : (b n : ℕ) → (b < n) ⊎ (n ≤ b)
inside_or b n = grind arith

none_past : (all : List (List Field)) (b : ℕ) → length all ≤ b → fields_of all b ≡ []
none_past [] zero l = refl
none_past [] (suc b) l = refl
none_past (x ∷ all) zero l = absurd (omega arith)
none_past (x ∷ all) (suc b) l = none_past all b (omega arith)

-- one after another
are_further : (h : DeclaredTypes) (own all : List (List Field)) → length all ≡ length h
    → (bs : List ℕ) → ((b : ℕ) → Contains bs b → b < length h → IsListed h own b (fields_of all b))
    → AreFurther h own bs (flat_map (fields_of all) bs)
are_further h own all la [] each = no_more
are_further h own all la (b ∷ bs) each =
    let others =
    are_further h own all la bs (λ c w l. each c (suc w.0, (let k = w.1 in omega arith), w.2) l)
    in
    elim (inside_or b (length h)) as
    (λ _. AreFurther h own (b ∷ bs) (fields_of all b ++ flat_map (fields_of all) bs)) [
      | inl l ↦ of_type refl (each b (0, omega arith, refl) l) others
      | inr l ↦
          subst (λ z. AreFurther h own (b ∷ bs) (z ++ flat_map (fields_of all) bs))
          (sym (none_past all b (omega arith))) (of_any l others)
    ]

-- ---- one trait

one_declared : (h : DeclaredTypes) (a : ℕ) (d e : DeclaredType) → slice_get h a ≡ Some d
    → slice_get h a ≡ Some e → d ≡ e
one_declared h a d e p q = cc

pub gathered_has : (h : DeclaredTypes) (own all : List (List Field)) (a : ℕ) (d : DeclaredType)
    (fs : List Field) → slice_get h a ≡ Some d → d.kind ≡ a_kind.Trait → length own ≡ length h
    → length all ≡ length h
    → ((b : ℕ) (gs : List Field) → Extends h a b → slice_get all b ≡ Some gs
    → HasGathered h own b gs)
    → Gathers (fields_of own a) (flat_map (fields_of all) d.extends) fs → HasGathered h own a fs
gathered_has h own all a d fs e k lo la done g = record {
  first = λ ds p. (
    g.first.0,
    g.first.1
        ∙ ap (λ z. z ++ g.first.0) (get_or_from_slice_get own a ds [] p),
    λ f w. none_declared own a f.name (g.first.2 f w),
  );
  has = λ f w. elim (g.from f w) as (λ _. Has h own a f) [
    | inl o ↦ declared (declares_of own a f o)
    | inr v ↦ from_above f v.0 v.1
  ];
  all = every;
  differ = λ i j f q p r n t m. g.differ i j f q p r (sym n, sym t) (none_named own a f.name m);
  listed = of_trait d (fields_of own a) (flat_map (fields_of all) d.extends) e k
      (slice_get-get_or own a [] (let l = slice_get_within h a d e in omega arith))
      (are_further h own all la d.extends
      (λ b w l. (done b (fields_of all b) (d, e, w, l) (list_of b l)).listed)) g.order;
}
  where
    list_of : (b : ℕ) → b < length h → slice_get all b ≡ Some (fields_of all b)
    list_of b l = slice_get-get_or all b [] (omega arith)

    from_above : (f : Field) → Contains (flat_map (fields_of all) d.extends) f
        → (HasFieldNamed (fields_of own a) f.name → ⊥) → Has h own a f
    from_above f w n =
        let r = of_joined (fields_of all) d.extends f w in let x = declares_of all r.0 f r.2
        in let l = slice_get_within all r.0 x.0 x.1 in
        inherited (d, e, k) (none_declared own a f.name n) (d, e, r.1, omega arith)
        ((done r.0 x.0 (d, e, r.1, omega arith) x.1).has f x.2)

    every : (f : Field) → Has h own a f
        → (g : Field) × Contains fs g × (g.name ≡ f.name) × (g.ty ≡ f.ty)
    every f (declared w) = (
      f,
      subst (λ z. Contains z f) (sym g.first.1)
          (Contains-append_left (fields_of own a) g.first.0 f (of_declares own a f w)),
      refl,
      refl,
    )
    every f (inherited {b = b} t n x v) =
        let gs = list_of b x.3 in let m = (done b (fields_of all b) x gs).all f v in
        let within =
        subst (λ (z : DeclaredType). Contains z.extends b) (one_declared h a x.0 d x.1 e) x.2 in
        let s = g.all m.0 (in_joined (fields_of all) d.extends b m.0 within m.1)
        (λ w. none_named own a f.name n (subst (λ
        (z : NameId). HasFieldNamed (fields_of own a) z) m.2 w)) in
        (s.1, of_get fs s.0 s.1 s.2, s.3.0 ∙ m.2, s.3.1 ∙ m.3)

-- a type that is no trait has what it declares
pub leaf_has : (h : DeclaredTypes) (own : List (List Field)) (a : ℕ) (fs : List Field)
    → slice_get own a ≡ Some fs → Leaf h a → HasGathered h own a fs
leaf_has h own a fs e l = record {
  first = λ ds p. ([], one own a ds fs p e ∙ nil ds, λ f w. absurd (in_none f w));
  has = λ f w. declared (fs, e, w);
  all = every;
  differ = λ i j f g p q n t m. absurd (m f (fs, e, of_get fs i f p) refl);
  listed = of_leaf l e;
}
  where
    nil : (ds : List Field) → ds ≡ ds ++ []
    nil [] = refl
    nil (x ∷ ds) = ap (λ z. x ∷ z) (nil ds)

    every : (f : Field) → Has h own a f
        → (g : Field) × Contains fs g × (g.name ≡ f.name) × (g.ty ≡ f.ty)
    every f (declared w) = (f, subst (λ z. Contains z f) (one own a fs w.0 e w.1) w.2, refl, refl)
    every f (inherited t n x v) =
        let q = one_declared h a t.0 l.0 t.1 l.1
        in absurd (l.2 (ap (λ (z : DeclaredType). z.kind) (sym q) ∙ t.2))

-- ---- all types

-- nothing is known of a trait at first
pub begins : (h : DeclaredTypes) (own : List (List Field)) (heights : List ℕ)
    → length own ≡ length h → HasTo h own heights 0 0 own
begins h own heights e = record {
  number = e;
  leaves = λ a fs p l. leaf_has h own a fs p l;
  lower = λ a n fs p q l. absurd (omega arith);
  level = λ a fs p q l. absurd (omega arith);
}

near : (j n : ℕ) → j < n + 1 → (j < n) ⊎ (j ≡ n)
near j n b = grind arith

-- a type of that height that is no trait, or one of another height
pub passed_by : (h : DeclaredTypes) (own : List (List Field)) (heights : List ℕ) (height i : ℕ)
    (all : List (List Field)) → (slice_get heights i ≡ Some height → Leaf h i)
    → HasTo h own heights height i all → HasTo h own heights height (i + 1) all
passed_by h own heights height i all n t = record {
  number = t.number;
  leaves = t.leaves;
  lower = t.lower;
  level = λ a fs p q l. elim (near a i l) as (λ _. HasGathered h own a fs) [
    | inl m ↦ t.level a fs p q m
    | inr e ↦
        t.leaves a fs p
        (subst (λ z. Leaf h z) (sym e) (n (subst (λ z. slice_get heights z ≡ Some height) e q)))
  ];
}

set_here : {X : Type 0} (xs : List X) (i : ℕ) (x y : X) → slice_get (slice_set xs i x) i ≡ Some y
    → y ≡ x
set_here [] i x y e = absurd cc
set_here (z ∷ xs) zero x y e = cc
set_here (z ∷ xs) (suc i) x y e = set_here xs i x y e

set_there : {X : Type 0} (xs : List X) (i a : ℕ) (x y : X) → (a ≡ i → ⊥)
    → slice_get (slice_set xs i x) a ≡ Some y → slice_get xs a ≡ Some y
set_there [] i a x y n e = e
set_there (z ∷ xs) zero zero x y n e = absurd (n refl)
set_there (z ∷ xs) zero (suc a) x y n e = e
set_there (z ∷ xs) (suc i) zero x y n e = e
set_there (z ∷ xs) (suc i) (suc a) x y n e = set_there xs i a x y (λ q. n (ap suc q)) e

set_long : {X : Type 0} (xs : List X) (i : ℕ) (x : X) → length (slice_set xs i x) ≡ length xs
set_long [] i x = refl
set_long (z ∷ xs) zero x = refl
set_long (z ∷ xs) (suc i) x = ap suc (set_long xs i x)

same_or_not : (a i : ℕ) → (a ≡ i) ⊎ (a ≡ i → ⊥)
same_or_not a i = grind arith

-- a trait of that height
pub put_in : (h : DeclaredTypes) (own : List (List Field)) (heights : List ℕ) (height i : ℕ)
    (all : List (List Field)) (fs : List Field) → HasGathered h own i fs
    → HasTo h own heights height i all → HasTo h own heights height (i + 1) (slice_set all i fs)
put_in h own heights height i all fs g t = record {
  number = set_long all i fs ∙ t.number;
  leaves = λ a gs p l. either a gs p (λ q. t.leaves a gs q l);
  lower = λ a n gs p q l. either a gs p (λ r. t.lower a n gs r q l);
  level = λ a gs p q l. elim (near a i l) as (λ _. HasGathered h own a gs) [
    | inl m ↦ either a gs p (λ r. t.level a gs r q m)
    | inr e ↦ here a gs e p
  ];
}
  where
    here : (a : ℕ) (gs : List Field) → a ≡ i → slice_get (slice_set all i fs) a ≡ Some gs
        → HasGathered h own a gs
    here a gs e p =
        let q = set_here all i fs gs (subst (λ z. slice_get (slice_set all i fs) z ≡ Some gs) e p)
        in
        subst (λ z. HasGathered h own z gs) (sym e) (subst (λ z. HasGathered h own i z) (sym q) g)

    either : (a : ℕ) (gs : List Field) → slice_get (slice_set all i fs) a ≡ Some gs
        → (slice_get all a ≡ Some gs → HasGathered h own a gs) → HasGathered h own a gs
    either a gs p k =
        elim (same_or_not a i) as (λ _. HasGathered h own a gs) [
          | inl e ↦ here a gs e p
          | inr n ↦ k (set_there all i a fs gs n p)
        ]

-- the trait that is asked: what it extends is known
pub known_above : (h : DeclaredTypes) (own : List (List Field)) (heights : List ℕ) (height i : ℕ)
    (all : List (List Field)) → AreHeights h heights → slice_get heights i ≡ Some height
    → HasTo h own heights height i all → (b : ℕ) (gs : List Field) → Extends h i b
    → slice_get all b ≡ Some gs → HasGathered h own b gs
known_above h own heights height i all r e t b gs x p = let n = r.number in
    let q = slice_get-get_or heights b 0 (let l = x.3 in omega arith)
    in t.lower b (get_or heights b 0) gs p q (r.falls i b height (get_or heights b 0) x e q)

-- all types of that height are asked
pub next_height : (h : DeclaredTypes) (own : List (List Field)) (heights : List ℕ) (height i : ℕ)
    (all : List (List Field)) → length h ≤ i → HasTo h own heights height i all
    → HasTo h own heights (height + 1) 0 all
next_height h own heights height i all l t = record {
  number = t.number;
  leaves = t.leaves;
  lower = λ a n fs p q m. elim (near n height m) as (λ _. HasGathered h own a fs) [
    | inl k ↦ t.lower a n fs p q k
    | inr e ↦
        t.level a fs p (subst (λ z. slice_get heights a ≡ Some z) e q) (let k =
        slice_get_within all a fs p in let s = t.number in omega arith)
  ];
  level = λ a fs p q m. absurd (omega arith);
}

-- all heights are asked
pub all_known : (h : DeclaredTypes) (own : List (List Field)) (heights : List ℕ) (height : ℕ)
    (all : List (List Field)) → AreHeights h heights → length h < height
    → HasTo h own heights height 0 all → HasAll h own all
all_known h own heights height all r l t = record {
  number = t.number;
  each = λ a fs p. let n = r.number in let k = slice_get_within all a fs p in let s = t.number
      in let q = slice_get-get_or heights a 0 (omega arith) in
      let b = r.bounded a (get_or heights a 0) q
      in t.lower a (get_or heights a 0) fs p q (omega arith);
}
