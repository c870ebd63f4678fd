-- Two types are written alike exactly where they are one.
use Rattle.std.proofs.Common.{◌≡◌, ℕ, suc, Bool, true, false, ◌&&◌, IsTrue, ◌↔◌, List, [], ◌∷◌, map, refl, sym, ap, ◌∙◌}
use Rattle.std.specs.Cmp.Derive.{both_true}
use Rattle.std.proofs.lemmas.Bool.Decides.{Decides-eqb}
use Rattle.fort_base.specs.declared.ids.TypeId.{TypeId}
use Rattle.fort_base.specs.declared.ty.Ty.{Ty, out-Ty, map-Ty, fold_out-Ty}
use Rattle.fort_base.specs.declared.ty.Ty.TheOpen.{Ty-F}
use Rattle.fort_types.proofs.ByParts.{Each, Parts, by_parts, same_layers}
use Rattle.fort_machine.specs.Texts.{each_same, same_type_at, same_type}

left_true : (b c : Bool) → (b && c) ≡ true → b ≡ true
left_true true c e = refl
left_true false c e = e

right_true : (b c : Bool) → (b && c) ≡ true → c ≡ true
right_true true c e = e
right_true false c e = absurd cc

-- what is asked of a type and any other
abbrev Told : Ty → Type 0
Told a = (b : Ty) → IsTrue (same_type a b) ↔ (a ≡ b)

abbrev flat : Ty-F Ty → Ty-F Ty → Bool
flat x y = same_type_at (map-Ty Ty (Ty → Bool) same_type x) y

flatly : (a b : Ty) → same_type a b ≡ flat (out-Ty a) (out-Ty b)
flatly a b =
    ap (λ (r : Ty → Bool). r b) (fold_out-Ty (Ty
    → Bool) (λ layer c. same_type_at layer (out-Ty c)) a)

each_is : (ts us : List Ty) → Each Told ts
    → IsTrue (each_same (λ (f : Ty → Bool) b. f b) (map same_type ts) us) ↔ (ts ≡ us)
each_is [] [] h = (λ e. refl, λ e. refl)
each_is [] (u ∷ us) h = (λ e. absurd cc, λ e. absurd cc)
each_is (t ∷ ts) [] h = (λ e. absurd cc, λ e. absurd cc)
each_is (t ∷ ts) (u ∷ us) h =
    let i = each_is ts us (λ k x e. h (suc k) x e) in
    let j = h 0 t refl u in (
      λ e. let p = j.0 (left_true _ _ e) in let q = i.0 (right_true _ _ e) in cc,
      λ e. let p : t ≡ u = cc in let q : ts ≡ us = cc in both_true (j.1 p) (i.1 q),
    )

flat_is : (x y : Ty-F Ty) → Parts Told x → IsTrue (flat x y) ↔ (x ≡ y)
flat_is Ty-F.Nothing Ty-F.Nothing h = (λ e. refl, λ e. refl)
flat_is Ty-F.Nothing Ty-F.Any h = (λ e. absurd cc, λ e. absurd cc)
flat_is Ty-F.Nothing (Ty-F.Named j) h = (λ e. absurd cc, λ e. absurd cc)
flat_is Ty-F.Nothing (Ty-F.Tuple us) h = (λ e. absurd cc, λ e. absurd cc)
flat_is Ty-F.Nothing (Ty-F.Arrow c d) h = (λ e. absurd cc, λ e. absurd cc)
flat_is Ty-F.Nothing (Ty-F.Array c) h = (λ e. absurd cc, λ e. absurd cc)
flat_is Ty-F.Any Ty-F.Nothing h = (λ e. absurd cc, λ e. absurd cc)
flat_is Ty-F.Any Ty-F.Any h = (λ e. refl, λ e. refl)
flat_is Ty-F.Any (Ty-F.Named j) h = (λ e. absurd cc, λ e. absurd cc)
flat_is Ty-F.Any (Ty-F.Tuple us) h = (λ e. absurd cc, λ e. absurd cc)
flat_is Ty-F.Any (Ty-F.Arrow c d) h = (λ e. absurd cc, λ e. absurd cc)
flat_is Ty-F.Any (Ty-F.Array c) h = (λ e. absurd cc, λ e. absurd cc)
flat_is (Ty-F.Named i) Ty-F.Nothing h = (λ e. absurd cc, λ e. absurd cc)
flat_is (Ty-F.Named i) Ty-F.Any h = (λ e. absurd cc, λ e. absurd cc)
flat_is (Ty-F.Named i) (Ty-F.Named j) h =
    let k = Decides-eqb i.0 j.0
    in (
      λ e. ap (λ (n : ℕ). let m : TypeId = record { 0 = n } in Ty-F.Named m) (k.0 e),
      λ e. k.1
          (let q : i ≡ j = cc in ap (λ (m : TypeId). m.0) q),
    )
flat_is (Ty-F.Named i) (Ty-F.Tuple us) h = (λ e. absurd cc, λ e. absurd cc)
flat_is (Ty-F.Named i) (Ty-F.Arrow c d) h = (λ e. absurd cc, λ e. absurd cc)
flat_is (Ty-F.Named i) (Ty-F.Array c) h = (λ e. absurd cc, λ e. absurd cc)
flat_is (Ty-F.Tuple ts) Ty-F.Nothing h = (λ e. absurd cc, λ e. absurd cc)
flat_is (Ty-F.Tuple ts) Ty-F.Any h = (λ e. absurd cc, λ e. absurd cc)
flat_is (Ty-F.Tuple ts) (Ty-F.Named j) h = (λ e. absurd cc, λ e. absurd cc)
flat_is (Ty-F.Tuple ts) (Ty-F.Tuple us) h =
    let k = each_is ts us h in (λ e. ap Ty-F.Tuple (k.0 e), λ e. k.1 (let q : ts ≡ us = cc in q))
flat_is (Ty-F.Tuple ts) (Ty-F.Arrow c d) h = (λ e. absurd cc, λ e. absurd cc)
flat_is (Ty-F.Tuple ts) (Ty-F.Array c) h = (λ e. absurd cc, λ e. absurd cc)
flat_is (Ty-F.Arrow a b) Ty-F.Nothing h = (λ e. absurd cc, λ e. absurd cc)
flat_is (Ty-F.Arrow a b) Ty-F.Any h = (λ e. absurd cc, λ e. absurd cc)
flat_is (Ty-F.Arrow a b) (Ty-F.Named j) h = (λ e. absurd cc, λ e. absurd cc)
flat_is (Ty-F.Arrow a b) (Ty-F.Tuple us) h = (λ e. absurd cc, λ e. absurd cc)
flat_is (Ty-F.Arrow a b) (Ty-F.Arrow c d) h =
    let k = h.0 c in
    let l = h.1 d in (
      λ e. let p = k.0 (left_true _ _ e) in let q = l.0 (right_true _ _ e) in cc,
      λ e. let p : a ≡ c = cc in let q : b ≡ d = cc in both_true (k.1 p) (l.1 q),
    )
flat_is (Ty-F.Arrow a b) (Ty-F.Array c) h = (λ e. absurd cc, λ e. absurd cc)
flat_is (Ty-F.Array a) Ty-F.Nothing h = (λ e. absurd cc, λ e. absurd cc)
flat_is (Ty-F.Array a) Ty-F.Any h = (λ e. absurd cc, λ e. absurd cc)
flat_is (Ty-F.Array a) (Ty-F.Named j) h = (λ e. absurd cc, λ e. absurd cc)
flat_is (Ty-F.Array a) (Ty-F.Tuple us) h = (λ e. absurd cc, λ e. absurd cc)
flat_is (Ty-F.Array a) (Ty-F.Arrow c d) h = (λ e. absurd cc, λ e. absurd cc)
flat_is (Ty-F.Array a) (Ty-F.Array c) h =
    let k = h c in (λ e. ap Ty-F.Array (k.0 e), λ e. k.1 (let q : a ≡ c = cc in q))

same_is : (a b : Ty) → IsTrue (same_type a b) ↔ (a ≡ b)
same_is =
    by_parts Told (
    λ t h b.
    let f = flat_is (out-Ty t) (out-Ty b) h in
    (λ e. same_layers t b (f.0 (sym (flatly t b) ∙ e)), λ e. flatly t b ∙ f.1 (ap out-Ty e))
    )

unless : (b : Bool) → (b ≡ true → false ≡ true) → false ≡ b
unless true f = f refl
unless false f = refl

-- a truth that is that of two types being one is that of their being written alike
pub told : (r : Bool) (s t : Ty) → IsTrue r ↔ (s ≡ t) → r ≡ same_type s t
told true s t i = sym ((same_is s t).1 (i.0 refl))
told false s t i = unless (same_type s t) (λ e. i.1 ((same_is s t).0 e))
