-- Two types that are below each other are one.
use Rattle.std.proofs.Common.{◌≡◌, ℕ, suc, List, [], ◌∷◌, length, Some, refl, sym, ap, subst, arith}
use Rattle.std.specs.List.{slice_get}
use Rattle.fort_base.specs.declared.ids.TypeId.{TypeId}
use Rattle.fort_base.specs.declared.ty.Ty.{Ty, out-Ty}
use Rattle.fort_types.specs.Hierarchy.{DeclaredTypes, Path, Sound}
use Rattle.fort_types.specs.Types.{Below, nothing, any, named, tuple, array, arrow}
use Rattle.fort_types.proofs.Paths.{both_ways}
use Rattle.fort_types.proofs.ByParts.{Parts, by_parts, part_of, sides_of, same_layers}

pub same_lists : (xs ys : List Ty) → length xs ≡ length ys
    → ((k : ℕ) (x y : Ty) → slice_get xs k ≡ Some x → slice_get ys k ≡ Some y → x ≡ y) → xs ≡ ys
same_lists [] [] n e = refl
same_lists [] (y ∷ ys) n e = absurd (omega arith)
same_lists (x ∷ xs) [] n e = absurd (omega arith)
same_lists (x ∷ xs) (y ∷ ys) n e =
    let r : x ≡ y = e 0 x y refl refl in
    let s : xs ≡ ys = same_lists xs ys (omega arith) (λ k u v p q. e (suc k) u v p q) in cc

module _ (h : DeclaredTypes) (sound : Sound h) where
  abbrev Same : Ty → Type 0
  Same a = (b : Ty) → Below h a b → Below h b a → a ≡ b

  same_layer : (a : Ty) → Parts Same (out-Ty a) → (b : Ty) → Below h a b → Below h b a → a ≡ b
  same_layer a p b (nothing e1) (nothing e2) = same_layers a b (cc)
  same_layer a p b (nothing e1) (any e2) = absurd cc
  same_layer a p b (nothing e1) (named {i = i2} {j = j2} e2 f2 p2) = absurd cc
  same_layer a p b (nothing e1) (tuple {xs = xs2} {ys = ys2} e2 f2 n2 q2) = absurd cc
  same_layer a p b (nothing e1) (array {e = u2} e2 f2) = absurd cc
  same_layer a p b (nothing e1) (arrow {p = p2} {q = q2} {r = r2} {s = s2} e2 f2 l2 m2) = absurd cc
  same_layer a p b (any e1) (nothing e2) = absurd cc
  same_layer a p b (any e1) (any e2) = same_layers a b (cc)
  same_layer a p b (any e1) (named {i = i2} {j = j2} e2 f2 p2) = absurd cc
  same_layer a p b (any e1) (tuple {xs = xs2} {ys = ys2} e2 f2 n2 q2) = absurd cc
  same_layer a p b (any e1) (array {e = u2} e2 f2) = absurd cc
  same_layer a p b (any e1) (arrow {p = p2} {q = q2} {r = r2} {s = s2} e2 f2 l2 m2) = absurd cc
  same_layer a p b (named {i = i1} {j = j1} e1 f1 p1) (nothing e2) = absurd cc
  same_layer a p b (named {i = i1} {j = j1} e1 f1 p1) (any e2) = absurd cc
  same_layer a p b (named {i = i1} {j = j1} e1 f1 p1) (named {i = i2} {j = j2} e2 f2 p2) =
      let g : i1 ≡ j2 = cc in let w : j1 ≡ i2 = cc in
      let k : i1.0 ≡ j1.0 =
      both_ways h sound i1.0 j1.0 p1 (subst (λ
      (z : TypeId). Path h z.0 i1.0) (sym w) (subst (λ
      (z : TypeId). Path h i2.0 z.0) (sym g) p2)) in
      let m : i1 ≡ j1 = ap (λ (n : ℕ). let z : TypeId = record { 0 = n } in z) k
      in same_layers a b (cc)
  same_layer a p b (named {i = i1} {j = j1} e1 f1 p1) (tuple {xs = xs2} {ys = ys2} e2 f2 n2 q2) =
      absurd cc
  same_layer a p b (named {i = i1} {j = j1} e1 f1 p1) (array {e = u2} e2 f2) = absurd cc
  same_layer a p b (named {i = i1} {j = j1} e1 f1 p1)
      (arrow {p = p2} {q = q2} {r = r2} {s = s2} e2 f2 l2 m2) = absurd cc
  same_layer a p b (tuple {xs = xs1} {ys = ys1} e1 f1 n1 q1) (nothing e2) = absurd cc
  same_layer a p b (tuple {xs = xs1} {ys = ys1} e1 f1 n1 q1) (any e2) = absurd cc
  same_layer a p b (tuple {xs = xs1} {ys = ys1} e1 f1 n1 q1) (named {i = i2} {j = j2} e2 f2 p2) =
      absurd cc
  same_layer a p b (tuple {xs = xs1} {ys = ys1} e1 f1 n1 q1)
      (tuple {xs = xs2} {ys = ys2} e2 f2 n2 q2) =
      let g : xs1 ≡ ys2 = cc in let w : ys1 ≡ xs2 = cc in
      let m : xs1 ≡ ys1 =
      same_lists xs1 ys1 n1
      (λ k x y u v. part_of Same a xs1 p e1 k x u y (q1 k x y u v)
      (q2 k y x (subst (λ l. slice_get l k ≡ Some y) w v)
      (subst (λ l. slice_get l k ≡ Some x) g u))) in same_layers a b (cc)
  same_layer a p b (tuple {xs = xs1} {ys = ys1} e1 f1 n1 q1) (array {e = u2} e2 f2) = absurd cc
  same_layer a p b (tuple {xs = xs1} {ys = ys1} e1 f1 n1 q1)
      (arrow {p = p2} {q = q2} {r = r2} {s = s2} e2 f2 l2 m2) = absurd cc
  same_layer a p b (array {e = u1} e1 f1) (nothing e2) = absurd cc
  same_layer a p b (array {e = u1} e1 f1) (any e2) = absurd cc
  same_layer a p b (array {e = u1} e1 f1) (named {i = i2} {j = j2} e2 f2 p2) = absurd cc
  same_layer a p b (array {e = u1} e1 f1) (tuple {xs = xs2} {ys = ys2} e2 f2 n2 q2) = absurd cc
  same_layer a p b (array {e = u1} e1 f1) (array {e = u2} e2 f2) = same_layers a b (cc)
  same_layer a p b (array {e = u1} e1 f1) (arrow {p = p2} {q = q2} {r = r2} {s = s2} e2 f2 l2 m2) =
      absurd cc
  same_layer a p b (arrow {p = p1} {q = q1} {r = r1} {s = s1} e1 f1 l1 m1) (nothing e2) = absurd cc
  same_layer a p b (arrow {p = p1} {q = q1} {r = r1} {s = s1} e1 f1 l1 m1) (any e2) = absurd cc
  same_layer a p b (arrow {p = p1} {q = q1} {r = r1} {s = s1} e1 f1 l1 m1)
      (named {i = i2} {j = j2} e2 f2 p2) = absurd cc
  same_layer a p b (arrow {p = p1} {q = q1} {r = r1} {s = s1} e1 f1 l1 m1)
      (tuple {xs = xs2} {ys = ys2} e2 f2 n2 q2) = absurd cc
  same_layer a p b (arrow {p = p1} {q = q1} {r = r1} {s = s1} e1 f1 l1 m1) (array {e = u2} e2 f2) =
      absurd cc
  same_layer a p b (arrow {p = p1} {q = q1} {r = r1} {s = s1} e1 f1 l1 m1)
      (arrow {p = p2} {q = q2} {r = r2} {s = s2} e2 f2 l2 m2) =
      let i = sides_of Same a p1 q1 p e1 in let g : p1 ≡ r2 = cc in let w : q1 ≡ s2 = cc
      in let gg : r1 ≡ p2 = cc in let ww : s1 ≡ q2 = cc in
      let m : p1 ≡ r1 =
      i.0 r1 (subst (λ z. Below h z r1) (sym g) (subst (λ z. Below h r2 z) (sym gg) l2)) l1 in
      let o : q1 ≡ s1 =
      i.1 s1 m1 (subst (λ z. Below h s1 z) (sym w) (subst (λ z. Below h z s2) (sym ww) m2))
      in same_layers a b (cc)

  pub same : (a b : Ty) → Below h a b → Below h b a → a ≡ b
  same a b = by_parts Same same_layer a b
