-- The meets of two types: of ordered ones the smaller, of others by their layers.
use Rattle.std.proofs.Common.{◌≡◌, ◌<◌, ◌↔◌, ℕ, List, length, refl, sym, ap, ◌∙◌, subst}
use Rattle.fort_base.specs.declared.ids.TypeId.{TypeId}
use Rattle.fort_base.specs.declared.ty.Ty.{Ty, out-Ty}
use Rattle.fort_base.specs.declared.ty.Ty.TheOpen.{Ty-F}
use Rattle.fort_types.specs.Hierarchy.{DeclaredTypes, Path, stop, Sound}
use Rattle.fort_types.specs.Types.{Below}
use Rattle.fort_types.specs.Layers.{BelowLayer}
use Rattle.fort_types.proofs.Paths.{end_inside}
use Rattle.fort_types.proofs.ByLayers.{layers_of_below}
use Rattle.fort_types.proofs.ByParts.{same_layers}
use Rattle.fort_types.proofs.Orders.{partner}
use Rattle.fort_types.proofs.Antisymmetry.{same, same_lists}
use Rattle.fort_types_sets.specs.Meets.{Meet, lesser, greater, highest, each}
use Rattle.fort_over_pair.specs.Choices.{MeetLayer}

pub same_id : (a b : TypeId) → a.0 ≡ b.0 → a ≡ b
same_id a b p = ap (λ (n : ℕ). let z : TypeId = record { 0 = n } in z) p

module _ (h : DeclaredTypes) where
  -- the layers of a type below another
  layers_at : (a b : Ty) (x y : Ty-F Ty) → out-Ty a ≡ x → out-Ty b ≡ y → Below h a b
      → BelowLayer h x y
  layers_at a b x y e f w =
      subst (λ z. BelowLayer h z y) e
      (subst (λ z. BelowLayer h (out-Ty a) z) f (layers_of_below h w))

  pub turned : {a b m : Ty} → Meet h a b m → Meet h b a m
  turned (lesser w) = greater w
  turned (greater w) = lesser w
  turned (highest e f g w) =
      highest f e g
      (record {
        common = (w.common.0, w.common.2, w.common.1);
        highest = λ k c p. w.highest k (c.0, c.2, c.1) p;
      })
  turned (each {xs = xs} {ys = ys} {zs = zs} e f g n o q) =
      each f e g (sym n) (sym n ∙ o) (λ k y x z u v w. turned (q k x y z v u w))

  module _ (sound : Sound h) where
    pub of_lesser : {a b m : Ty} → Meet h a b m → Below h a b → m ≡ a
    of_lesser (lesser w) below = refl
    of_lesser (greater {a = a} {b = b} w) below = same h sound b a w below
    of_lesser (highest {a = a} {b = b} {m = m} {i = i} {j = j} {k = k} e f g w) below =
        let p : Path h i.0 j.0 = layers_at a b (Ty-F.Named i) (Ty-F.Named j) e f below in
        let l : i.0 < length h = end_inside h k.0 i.0 w.common.1 w.common.0 in
        let q : i.0 ≡ k.0 = w.highest i.0 (l, stop, p) w.common.1 in
        let r : i ≡ k = same_id i k q
        in same_layers m a (g ∙ ap (λ
        (z : TypeId). let y : Ty-F Ty = Ty-F.Named z in y) (sym r) ∙ sym e)
    of_lesser (each {a = a} {b = b} {m = m} {xs = xs} {ys = ys} {zs = zs} e f g n o q) below =
        let w = layers_at a b (Ty-F.Tuple xs) (Ty-F.Tuple ys) e f below in
        let r : zs ≡ xs =
        same_lists zs xs (sym o) (λ k z x u v. let y = partner xs ys k x v n
        in of_lesser (q k x y.0 z v y.1 u) (w.1 k x y.0 v y.1)) in
        same_layers m a (g ∙ ap (λ (z : List Ty). let y : Ty-F Ty = Ty-F.Tuple z in y) r ∙ sym e)

    pub of_greater : {a b m : Ty} → Meet h a b m → Below h b a → m ≡ b
    of_greater w below = of_lesser (turned w) below

  two : (a b m : Ty) (x y : Ty-F Ty) → out-Ty a ≡ x → out-Ty b ≡ y → MeetLayer h x y m
      → MeetLayer h (out-Ty a) (out-Ty b) m
  two a b m x y e f w =
      subst (λ z. MeetLayer h z (out-Ty b) m) (sym e) (subst (λ z. MeetLayer h x z m) (sym f) w)

  layers_of_meet : {a b m : Ty} → Meet h a b m → (Below h a b → ⊥) → (Below h b a → ⊥)
      → MeetLayer h (out-Ty a) (out-Ty b) m
  layers_of_meet (lesser w) s t = absurd (s w)
  layers_of_meet (greater w) s t = absurd (t w)
  layers_of_meet (highest {a = a} {b = b} {m = m} {i = i} {j = j} {k = k} e f g w) s t =
      two a b m (Ty-F.Named i) (Ty-F.Named j) e f (k, g, w)
  layers_of_meet (each {a = a} {b = b} {m = m} {xs = xs} {ys = ys} {zs = zs} e f g n o q) s t =
      two a b m (Ty-F.Tuple xs) (Ty-F.Tuple ys) e f (zs, g, n, (o, q))

  meet_at : (a b m : Ty) (x y : Ty-F Ty) → out-Ty a ≡ x → out-Ty b ≡ y → MeetLayer h x y m
      → Meet h a b m
  meet_at a b m (Ty-F.Named i) (Ty-F.Named j) e f w = highest e f w.1 w.2
  meet_at a b m (Ty-F.Tuple xs) (Ty-F.Tuple ys) e f w = each e f w.1 w.2 w.3.0 w.3.1
  meet_at a b m x y e f w = absurd w

  -- of types neither of which is below the other
  pub by_layers : (a b : Ty) → (Below h a b → ⊥) → (Below h b a → ⊥) → (m : Ty)
      → MeetLayer h (out-Ty a) (out-Ty b) m ↔ Meet h a b m
  by_layers a b s t m = (meet_at a b m (out-Ty a) (out-Ty b) refl refl, λ w. layers_of_meet w s t)
