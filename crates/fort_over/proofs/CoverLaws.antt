-- Objects below a type, and whether a declaration is covered for one, by the table and the list of
-- objects.
use Rattle.std.proofs.Common.{◌≡◌, ◌≢◌, ◌<◌, ◌≤◌, ◌+◌, ◌⊎◌, inl, inr, ℕ, zero, suc, Bool, true, false, List, [], ◌∷◌, Some, length, IsTrue, ◌↔◌, refl, sym, ap, ◌∙◌, subst, arith}
use Rattle.std.specs.List.{slice_get}
use Rattle.std.specs.Prelude.{slice_set, get_or}
use Rattle.std.proofs.lemmas.Option.{slice_get_within, slice_get-get_or}
use Rattle.std.proofs.lemmas.List.{get_or-set_same, get_or-set_other, length-set}
use Rattle.fort_base.specs.declared.ids.TypeId.{TypeId}
use Rattle.fort_base.specs.declared.table.TypeTable.{TypeTable}
use Rattle.fort_base.specs.declared.ty.Ty.{Ty}
use Rattle.fort_base.specs.declared.ty.Ty.TheVariants as a_type
use Rattle.fort_types.specs.declared.hierarchy.TypeKind.{TypeKind}
use Rattle.fort_types.specs.declared.hierarchy.TypeKind.TheVariants as a_sort
use Rattle.fort_types.specs.Hierarchy.{DeclaredTypes, Leaf, Path}
use Rattle.fort_types.specs.Types.{Below}
use Rattle.fort_types.specs.Table.{is_set, IsExact, HasRows}
use Rattle.fort_types.proofs.Bits.{set_inside}
use Rattle.fort_types.proofs.Paths.{end_inside}
use Rattle.fort_types_sets.specs.declared.member.Member.{Member}
use Rattle.fort_types_sets.specs.declared.member.MemberSet.{MemberSet}
use Rattle.fort_types_sets.specs.declared.member.Members.{Members}
use Rattle.fort_types_sets.specs.Applicable.{Along}
use Rattle.fort_types_sets.specs.Coverage.{IsCovered}
use Rattle.fort_types_sets.specs.Leaves.{leaf_kind, leaves_of}
use Rattle.fort_over.specs.Walks.{IsObjectOf, Covers, SomeCovers}

near : (j n : ℕ) → j < n + 1 → (j < n) ⊎ (j ≡ n)
near j n b = grind arith

-- ---- objects below a type

not_trait : (k : TypeKind) → leaf_kind k ≡ true → k ≢ a_sort.Trait
not_trait a_sort.Trait e f = absurd cc
not_trait a_sort.Object e f = cc
not_trait a_sort.Leaf e f = cc

leaf_told : (k : TypeKind) → k ≢ a_sort.Trait → leaf_kind k ≡ true
leaf_told a_sort.Trait n = absurd (n refl)
leaf_told a_sort.Object n = refl
leaf_told a_sort.Leaf n = refl

leaf_of : (h : DeclaredTypes) (i : ℕ) → get_or (leaves_of h) i false ≡ true → Leaf h i
leaf_of [] i e = absurd (let f : false ≡ true = e in cc)
leaf_of (d ∷ h) zero e = (d, refl, not_trait d.kind e)
leaf_of (d ∷ h) (suc i) e = let w = leaf_of h i e in (w.0, w.1, w.2)

of_leaf : (h : DeclaredTypes) (i : ℕ) → Leaf h i → get_or (leaves_of h) i false ≡ true
of_leaf [] i w = absurd (let f = w.1 in cc)
of_leaf (d ∷ h) zero w =
    leaf_told d.kind (λ e. let f : slice_get (d ∷ h) 0 ≡ Some w.0 = w.1 in let g : d ≡ w.0 = cc
    in w.2 (subst (λ z. z.kind ≡ a_sort.Trait) g e))
of_leaf (d ∷ h) (suc i) w = of_leaf h i (w.0, w.1, w.2)

path_of : (h : DeclaredTypes) (rows : List (List Bool)) (i j : ℕ) → IsExact (Path h) (length h) rows
    → IsTrue (is_set rows i j) → Path h i j
path_of h rows i j e t =
    let k = set_inside rows i j (length h) e.wide t in let m = e.high
    in (e.sets i j (let l = k.0 in omega arith) k.1).0 t

set_of : (h : DeclaredTypes) (rows : List (List Bool)) (i j : ℕ) → IsExact (Path h) (length h) rows
    → i < length h → Path h i j → IsTrue (is_set rows i j)
set_of h rows i j e l p = (e.sets i j l (end_inside h i j p l)).1 p

-- what the list says isn't an object is none
pub no_object : (table : TypeTable) (m : Members) (o t : TypeId) (r : Bool)
    → r ≡ get_or m.objects o.0 false → r ≡ false → IsObjectOf table m o t false
no_object table m o t r e f = record {
  told = λ h a. (
    λ (g : false ≡ true). absurd cc,
    λ w. absurd (
        let k : get_or m.objects o.0 false ≡ true =
        ap (λ (z : List Bool). get_or z o.0 false) a.1 ∙ of_leaf h o.0 w.0 in cc),
  );
}

-- an object is below a type by its row
pub object_told : (table : TypeTable) (m : Members) (o t : TypeId) (r b : Bool)
    → r ≡ get_or m.objects o.0 false → r ≡ true → b ≡ is_set table.below o.0 t.0
    → IsObjectOf table m o t b
object_told table m o t r b e f g = record {
  told = λ h a.
      let l : Leaf h o.0 =
      leaf_of h o.0 (sym (ap (λ (z : List Bool). get_or z o.0 false) a.1) ∙ sym e ∙ f) in (
        λ k. (l, path_of h table.below o.0 t.0 a.0.below (sym g ∙ k)),
        λ w. g
            ∙ set_of h table.below o.0 t.0 a.0.below (slice_get_within h o.0 l.0 l.1) w.1,
      );
}

-- ---- lists of types, place by place

-- each type so far of a list is below that of another
pub record EachBelow (table : TypeTable) (xs ys : List Ty) (to : ℕ) : Type 0 where
  pub each : (h : DeclaredTypes) → HasRows h table → (k : ℕ) (x y : Ty) → k < to
      → slice_get xs k ≡ Some x → slice_get ys k ≡ Some y → Below h x y

pub each_none : (table : TypeTable) (xs ys : List Ty) → EachBelow table xs ys 0
each_none table xs ys = record { each = λ h t k x y l. absurd (omega arith) }

pub each_more : (table : TypeTable) (xs ys : List Ty) (x y : Ty) (i : ℕ) → slice_get xs i ≡ Some x
    → slice_get ys i ≡ Some y → ((h : DeclaredTypes) → HasRows h table → Below h x y)
    → EachBelow table xs ys i → EachBelow table xs ys (i + 1)
each_more table xs ys x y i e f b a = record {
  each = λ h t k u v l g m. elim (near k i l) as (λ _. Below h u v) [
    | inl c ↦ a.each h t k u v c g m
    | inr q ↦
        (let c : slice_get xs k ≡ slice_get xs i = ap (slice_get xs) q
        in let d : slice_get ys k ≡ slice_get ys i = ap (slice_get ys) q in let p : x ≡ u = cc
        in let o : y ≡ v = cc in
        subst (λ (z : Ty). Below h z v) p (subst (λ (z : Ty). Below h x z) o (b h t)))
  ];
}

pub each_all : (h : DeclaredTypes) (table : TypeTable) (xs ys : List Ty) (to : ℕ) → HasRows h table
    → length xs ≡ length ys → length xs ≤ to → EachBelow table xs ys to → Along (Below h) xs ys
each_all h table xs ys to t n l a =
    (n, λ k x y e f. a.each h t k x y (let m = slice_get_within xs k x e in omega arith) e f)

pub one_not_below : (h : DeclaredTypes) (xs ys : List Ty) (k : ℕ) (x y : Ty)
    → slice_get xs k ≡ Some x → slice_get ys k ≡ Some y → (Below h x y → ⊥) → Along (Below h) xs ys
    → ⊥
one_not_below h xs ys k x y e f n w = n (w.1 k x y e f)

-- what a list holds at a place, after another type was put at a position
pub given_there : (given : List Ty) (k at : ℕ) (object : Ty) → k < length given → k ≡ at
    → slice_get (slice_set given at object) k ≡ Some object
given_there given k at object l e =
    let m : k < length (slice_set given at object) =
    subst (λ n. k < n) (sym (length-set given at object)) l in
    let f : get_or (slice_set given at object) at object ≡ object =
    get_or-set_same given at object object (subst (λ n. n < length given) e l) in
    slice_get-get_or (slice_set given at object) k object m ∙ ap (λ
    (z : Ty). Some z) (ap (λ n. get_or (slice_set given at object) n object) e ∙ f)

pub given_elsewhere : (given : List Ty) (k at : ℕ) (object x : Ty) → k < length given → k ≢ at
    → slice_get given k ≡ Some x → slice_get (slice_set given at object) k ≡ Some x
given_elsewhere given k at object x l n e =
    let m : k < length (slice_set given at object) =
    subst (λ n. k < n) (sym (length-set given at object)) l in
    let f : get_or (slice_set given at object) k x ≡ get_or given k x =
    get_or-set_other given at k object x n in
    slice_get-get_or (slice_set given at object) k x m ∙ ap (λ
    (z : Ty). Some z) f ∙ sym (slice_get-get_or given k x l) ∙ e

-- ---- covering

-- none of the first of these declarations covers one
pub record NoneCovers (table : TypeTable) (members : List Member) (d : Member) (at : ℕ)
    (object : Ty) (to : ℕ) : Type 0 where
  pub none : (h : DeclaredTypes) → HasRows h table → (k : ℕ) (e : Member) → k < to
      → slice_get members k ≡ Some e → Covers h e d at object → ⊥

pub none_covers : (table : TypeTable) (members : List Member) (d : Member) (at : ℕ) (object : Ty)
    → NoneCovers table members d at object 0
none_covers table members d at object = record { none = λ h t k e l. absurd (omega arith) }

pub none_covers_more : (table : TypeTable) (members : List Member) (d : Member) (at : ℕ)
    (object : Ty) (i : ℕ) (x : Member) → slice_get members i ≡ Some x
    → ((h : DeclaredTypes) → HasRows h table → Covers h x d at object → ⊥)
    → NoneCovers table members d at object i → NoneCovers table members d at object (i + 1)
none_covers_more table members d at object i x is n a = record {
  none = λ h t k e l b c. elim (near k i l) as (λ _. ⊥) [
    | inl m ↦ a.none h t k e m b c
    | inr q ↦
        (let f : slice_get members i ≡ Some e = ap (slice_get members) (sym q) ∙ b
        in let same : e ≡ x = cc in n h t (subst (λ z. Covers h z d at object) same c))
  ];
}

pub none_covered : (h : DeclaredTypes) (table : TypeTable) (members : List Member) (d : Member)
    (at : ℕ) (object : Ty) (to : ℕ) → HasRows h table → length members ≤ to
    → NoneCovers table members d at object to → SomeCovers h members d at object → ⊥
none_covered h table members d at object to t l n w =
    n.none h t w.0 w.1 (let m = slice_get_within members w.0 w.1 w.2 in omega arith) w.2 w.3

pub covered_told : (h : DeclaredTypes) (s : MemberSet) (members : List Member) (d : Member) (at : ℕ)
    (o : TypeId) (r : Bool) → members ≡ s.members
    → (IsTrue r ↔ SomeCovers h members d at (a_type.Named o)) → IsTrue r ↔ IsCovered h s d at o
covered_told h s members d at o r e w = (
  λ t. let c = w.0 t
      in (c.0, c.1, subst (λ z. slice_get z c.0 ≡ Some c.1) e c.2, c.3.0, c.3.1, c.3.2, c.3.3),
  λ c. w.1 (c.0, c.1, subst (λ z. slice_get z c.0 ≡ Some c.1) (sym e) c.2, (c.3, c.4, c.5, c.6)),
)
