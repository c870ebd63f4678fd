-- A type has one list of its fields.
use Rattle.std.proofs.Common.{◌≡◌, ◌≤◌, ◌+◌, ◌⊎◌, ℕ, List, [], ◌∷◌, ◌++◌, length, get_or, Some, refl, sym, ap, ◌∙◌, subst, arith}
use Rattle.std.specs.List.{slice_get}
use Rattle.std.proofs.Math.ListN.{length-append}
use Rattle.std.proofs.lemmas.List.{ext_get_or}
use Rattle.std.proofs.lemmas.Option.{slice_get_within, slice_get-get_or}
use Rattle.fort_types.specs.declared.hierarchy.DeclaredType.{DeclaredType}
use Rattle.fort_types.specs.Hierarchy.{DeclaredTypes}
use Rattle.fort_types_sets.specs.declared.field.Field.{Field}
use Rattle.fort_member_fields.specs.Inherited.{IsListed, of_leaf, of_trait, AreFurther, no_more, of_type, of_any, AreAllFields}
use Rattle.fort_member_fields.specs.Walks.{HasFieldNamed, SomeIn, IsLike, IsInOrder, begins, passes, adds}

-- ---- lists with an item at their end

not_none : {X : Type 0} (all r : List X) (x : X) → all ≡ [] → all ≡ r ++ x ∷ [] → ⊥
not_none all r x e f =
    let l : length (r ++ x ∷ []) ≡ 0 = ap length (sym f ∙ e) in let m = length-append r (x ∷ [])
    in omega arith

same_parts : {X : Type 0} (xs ys : List X) (x y : X) → xs ++ x ∷ [] ≡ ys ++ y ∷ []
    → (xs ≡ ys) × (x ≡ y)
same_parts [] [] x y e = let q : x ≡ y = cc in (refl, q)
same_parts [] (z ∷ ys) x y e =
    let l : 1 ≡ length (z ∷ (ys ++ y ∷ [])) = ap length e in let m = length-append ys (y ∷ [])
    in absurd (omega arith)
same_parts (z ∷ xs) [] x y e =
    let l : length (z ∷ (xs ++ x ∷ [])) ≡ 1 = ap length e in let m = length-append xs (x ∷ [])
    in absurd (omega arith)
same_parts (z ∷ xs) (w ∷ ys) x y e =
    let h : z ≡ w = cc in
    let t : xs ++ x ∷ [] ≡ ys ++ y ∷ [] = cc in
    let r = same_parts xs ys x y t in
    (ap (λ u. u ∷ xs) h ∙ ap (λ l. w ∷ l) r.0, r.1)

-- ---- one trait

-- a further field that is there, where it would be one that isn't
both : (own fs gs : List Field) (x y : Field) → fs ≡ gs → x ≡ y
    → HasFieldNamed own x.name ⊎ SomeIn (IsLike x) fs
    → (HasFieldNamed own y.name ⊎ SomeIn (IsLike y) gs → ⊥) → ⊥
both own fs gs x y p q w n =
    n (subst (λ (z : Field). HasFieldNamed own z.name
    ⊎ SomeIn (IsLike z) gs) q (subst (λ l. HasFieldNamed own x.name ⊎ SomeIn (IsLike x) l) p w))

order_once : (own all fs gs : List Field) → IsInOrder own all fs → IsInOrder own all gs → fs ≡ gs
order_once own all fs gs (begins e p) (begins f q) = p ∙ sym q
order_once own all fs gs (begins e p) (passes {further = s} y f v j) = absurd (not_none all s y e f)
order_once own all fs gs (begins e p) (adds {further = s} y f q m j) = absurd (not_none all s y e f)
order_once own all fs gs (passes {further = r} x e w i) (begins f q) = absurd (not_none all r x f e)
order_once own all fs gs (passes {further = r} x e w i) (passes {further = s} y f v j) =
    let c = same_parts r s x y (sym e ∙ f)
    in order_once own r fs gs i (subst (λ z. IsInOrder own z gs) (sym c.0) j)
order_once own all fs gs (passes {further = r} x e w i) (adds {further = s} {fs = hs} y f q m j) =
    let c = same_parts r s x y (sym e ∙ f) in
    absurd (both own fs hs x y
    (order_once own r fs hs i (subst (λ z. IsInOrder own z hs) (sym c.0) j)) c.1 w m)
order_once own all fs gs (adds {further = r} {fs = ks} x e p n i) (begins f q) =
    absurd (not_none all r x f e)
order_once own all fs gs (adds {further = r} {fs = ks} x e p n i) (passes {further = s} y f v j) =
    let c = same_parts r s x y (sym e ∙ f) in
    absurd (both own gs ks y x
    (sym (order_once own r ks gs i (subst (λ z. IsInOrder own z gs) (sym c.0) j))) (sym c.1)
    v n)
order_once own all fs gs (adds {further = r} {fs = ks} x e p n i)
    (adds {further = s} {fs = hs} y f q m j) =
    let c = same_parts r s x y (sym e ∙ f) in
    let t = order_once own r ks hs i (subst (λ z. IsInOrder own z hs) (sym c.0) j) in
    p ∙ ap (λ z. z ++ x ∷ []) t ∙ ap (λ z. hs ++ z ∷ []) c.1 ∙ sym q

-- ---- all types

one : {X : Type 0} (xs : List X) (k : ℕ) (x y : X) → slice_get xs k ≡ Some x
    → slice_get xs k ≡ Some y → x ≡ y
one xs k x y p q = cc

module _ (h : DeclaredTypes) (own : List (List Field)) where
  outside : (b : ℕ) (fs : List Field) → IsListed h own b fs → length h ≤ b → ⊥
  outside b fs (of_leaf l e) m = let i = slice_get_within h b l.0 l.1 in omega arith
  outside b fs (of_trait d ds further s k o w i) m = let n = slice_get_within h b d s in omega arith

  mutual
    listed_once : (a : ℕ) (fs gs : List Field) → IsListed h own a fs → IsListed h own a gs → fs ≡ gs
    listed_once a fs gs (of_leaf l e) (of_leaf m f) = one own a fs gs e f
    listed_once a fs gs (of_leaf l e) (of_trait d ds further s k o w i) =
        absurd (l.2 (ap (λ (z : DeclaredType). z.kind) (one h a l.0 d l.1 s) ∙ k))
    listed_once a fs gs (of_trait d ds further s k o w i) (of_leaf l e) =
        absurd (l.2 (ap (λ (z : DeclaredType). z.kind) (one h a l.0 d l.1 s) ∙ k))
    listed_once a fs gs (of_trait d ds further s k o w i) (of_trait c cs others t j p v n) =
        let q = one h a c d t s in
        let r = one own a cs ds p o in
        let u = further_once d.extends further others w (subst (λ
        (z : DeclaredType). AreFurther h own z.extends others) q v) in
        order_once ds further fs gs i
        (subst (λ z. IsInOrder ds z gs) (sym u) (subst (λ z. IsInOrder z others gs) r n))

    further_once : (bs : List ℕ) (xs ys : List Field) → AreFurther h own bs xs
        → AreFurther h own bs ys → xs ≡ ys
    further_once [] xs ys no_more no_more = refl
    further_once (b ∷ bs) xs ys (of_type {fs = fs} {further = us} e l w)
        (of_type {fs = gs} {further = vs} f m v) =
        e ∙ ap (λ z. z ++ us) (listed_once b fs gs l m)
        ∙ ap (λ z. gs ++ z) (further_once bs us vs w v) ∙ sym f
    further_once (b ∷ bs) xs ys (of_type {fs = fs} e l w) (of_any m v) = absurd (outside b fs l m)
    further_once (b ∷ bs) xs ys (of_any l w) (of_type {fs = gs} f m v) = absurd (outside b gs m l)
    further_once (b ∷ bs) xs ys (of_any l w) (of_any m v) = further_once bs xs ys w v

  pub fields_once : (xs ys : List (List Field)) → AreAllFields h own xs → AreAllFields h own ys
      → xs ≡ ys
  fields_once xs ys a b =
      ext_get_or [] xs ys (a.number
      ∙ sym b.number) (λ i l. listed_once i (get_or xs i []) (get_or ys i [])
      (a.each i (get_or xs i []) (slice_get-get_or xs i [] l)).listed
      (b.each i (get_or ys i [])
      (slice_get-get_or ys i [] (let m = a.number in let n = b.number
      in omega arith))).listed)
