-- Arrows clash exactly where the layers of the two types say so.
use Rattle.std.proofs.Common.{◌≡◌, ◌↔◌, Bool, IsTrue, refl, sym, ap, ◌∙◌, subst}
use Rattle.fort_base.specs.declared.ty.Ty.{Ty, Arrow, out-Ty, out-roll-Ty}
use Rattle.fort_base.specs.declared.ty.Ty.TheVariants.{rolls-Arrow}
use Rattle.fort_base.specs.declared.ty.Ty.TheOpen.{Ty-F}
use Rattle.fort_types.specs.Hierarchy.{DeclaredTypes}
use Rattle.fort_types.specs.Types.{Below}
use Rattle.fort_types.specs.Layers.{BelowLayer}
use Rattle.fort_types.proofs.ByLayers.{layers_of_below, below_of_layers}
use Rattle.fort_types_sets.specs.Meets.{ArrowsClash, arrows, inner}
use Rattle.fort_over_pair.specs.Clashes.{ClashLayer}

module _ (h : DeclaredTypes) where
  two : (a b : Ty) (x y : Ty-F Ty) → out-Ty a ≡ x → out-Ty b ≡ y → ClashLayer h x y
      → ClashLayer h (out-Ty a) (out-Ty b)
  two a b x y e f w =
      subst (λ z. ClashLayer h z (out-Ty b)) (sym e) (subst (λ z. ClashLayer h x z) (sym f) w)

  below_from : (a b : Ty) (x y : Ty-F Ty) → out-Ty a ≡ x → out-Ty b ≡ y → BelowLayer h x y
      → Below h a b
  below_from a b x y e f w =
      below_of_layers h a b
      (subst (λ z. BelowLayer h z (out-Ty b)) (sym e) (subst (λ z. BelowLayer h x z) (sym f) w))

  pub layers_of_clash : {a b : Ty} → ArrowsClash h a b → ClashLayer h (out-Ty a) (out-Ty b)
  layers_of_clash (arrows {a = a} {b = b} {p = p} {q = q} {r = r} {s = s} e f m n) =
      two a b (Ty-F.Arrow p q) (Ty-F.Arrow r s) e f (
        λ w. m (below_from a b (Ty-F.Arrow p q) (Ty-F.Arrow r s) e f w),
        λ w. n (below_from b a (Ty-F.Arrow r s) (Ty-F.Arrow p q) f e w),
      )
  layers_of_clash (inner {a = a} {b = b} {x = x} {y = y} {xs = xs} {ys = ys} k e f l g m w) =
      two a b (Ty-F.Tuple xs) (Ty-F.Tuple ys) e f (l, (k, x, y, g, m, w))

  clash_at : (a b : Ty) (x y : Ty-F Ty) → out-Ty a ≡ x → out-Ty b ≡ y → ClashLayer h x y
      → ArrowsClash h a b
  clash_at a b (Ty-F.Tuple xs) (Ty-F.Tuple ys) e f w = inner w.1.0 e f w.0 w.1.3 w.1.4 w.1.5
  clash_at a b (Ty-F.Arrow p q) (Ty-F.Arrow r s) e f w = arrows e f
      (λ v. w.0
      (subst (λ z. BelowLayer h z (Ty-F.Arrow r s)) e
      (subst (λ z. BelowLayer h (out-Ty a) z) f (layers_of_below h v))))
      (λ v. w.1
      (subst (λ z. BelowLayer h z (Ty-F.Arrow p q)) f
      (subst (λ z. BelowLayer h (out-Ty b) z) e (layers_of_below h v))))
  clash_at a b x y e f w = absurd w

  pub clash_of_layers : (a b : Ty) → ClashLayer h (out-Ty a) (out-Ty b) → ArrowsClash h a b
  clash_of_layers a b = clash_at a b (out-Ty a) (out-Ty b) refl refl

  out_arrow : (t p q : Ty) → t ≡ Arrow p q → out-Ty t ≡ Ty-F.Arrow p q
  out_arrow t p q e = ap out-Ty (e ∙ sym (rolls-Arrow p q)) ∙ out-roll-Ty (Ty-F.Arrow p q)

  opened : (a b p q : Ty) → out-Ty a ≡ Ty-F.Arrow p q → ArrowsClash h a b
      → (Below h a b → ⊥) × (Below h b a → ⊥)
  opened a b p q e (arrows f g m n) = (m, n)
  opened a b p q e (inner k f g l i j w) = absurd cc

  pub arrows_clash : (a b p q r s : Ty) (t : Bool) → a ≡ Arrow p q → b ≡ Arrow r s
      → (IsTrue t ↔ ((Below h a b → ⊥) × (Below h b a → ⊥))) → IsTrue t
      ↔ ClashLayer h (out-Ty a) (out-Ty b)
  arrows_clash a b p q r s t e f w = (
    λ u. layers_of_clash (arrows (out_arrow a p q e) (out_arrow b r s f) (w.0 u).0 (w.0 u).1),
    λ v. w.1 (opened a b p q (out_arrow a p q e) (clash_of_layers a b v)),
  )
