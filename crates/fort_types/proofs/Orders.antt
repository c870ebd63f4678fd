-- Below is reflexive and transitive.
use Rattle.std.proofs.Common.{◌≡◌, ◌<◌, ℕ, List, length, Some, refl, sym, ap, ◌∙◌, subst, arith, get_or}
use Rattle.std.specs.List.{slice_get}
use Rattle.std.proofs.lemmas.Option.{slice_get_within, slice_get-get_or}
use Rattle.fort_base.specs.declared.ids.TypeId.{TypeId}
use Rattle.fort_base.specs.declared.ty.Ty.{Ty, out-Ty, roll-Ty, out-roll-Ty}
use Rattle.fort_base.specs.declared.ty.Ty.TheOpen.{Ty-F}
use Rattle.fort_types.specs.Hierarchy.{DeclaredTypes, Path, stop}
use Rattle.fort_types.specs.Types.{Below, nothing, any, named, tuple, array, arrow}
use Rattle.fort_types.proofs.Paths.{joined}
use Rattle.fort_types.proofs.ByParts.{Parts, by_parts, part_of, sides_of}

-- a list of the same length has an element there too
pub partner : (xs ys : List Ty) (k : ℕ) (x : Ty) → slice_get xs k ≡ Some x → length xs ≡ length ys
    → (y : Ty) × (slice_get ys k ≡ Some y)
partner xs ys k x e n =
    let h : k < length xs = slice_get_within xs k x e
    in (get_or ys k x, slice_get-get_or ys k x (omega arith))

-- the type of a number
pub declared_as : ℕ → Ty
declared_as u = roll-Ty (Ty-F.Named (record { 0 = u }))

pub is_declared : (u : ℕ) → out-Ty (declared_as u) ≡ Ty-F.Named (record { 0 = u })
unfolding declared_as
is_declared u = out-roll-Ty (Ty-F.Named (record { 0 = u }))

module _ (h : DeclaredTypes) where
  abbrev Itself : Ty → Type 0
  Itself t = Below h t t

  itself_layer : (t : Ty) (l : Ty-F Ty) → out-Ty t ≡ l → Parts Itself l → Below h t t
  itself_layer t Ty-F.Nothing e p = nothing e
  itself_layer t Ty-F.Any e p = any e
  itself_layer t (Ty-F.Named i) e p = named e e stop
  itself_layer t (Ty-F.Tuple xs) e p =
      tuple e e refl (λ k x y q r. let same : x ≡ y = cc in subst (λ z. Below h x z) same (p k x q))
  itself_layer t (Ty-F.Arrow a b) e p = arrow e e p.0 p.1
  itself_layer t (Ty-F.Array a) e p = array e e

  pub itself : (t : Ty) → Below h t t
  itself = by_parts Itself (λ t p. itself_layer t (out-Ty t) refl p)

  abbrev Through : Ty → Type 0
  Through b = (a c : Ty) → Below h a b → Below h b c → Below h a c

  through_layer : (b : Ty) → Parts Through (out-Ty b) → (a c : Ty) → Below h a b → Below h b c
      → Below h a c
  through_layer b p a c (nothing e) y = nothing e
  through_layer b p a c x (any e) = any e
  through_layer b p a c (any e) (nothing f) = absurd cc
  through_layer b p a c (any e) (named f g q) = absurd cc
  through_layer b p a c (any e) (tuple f g n q) = absurd cc
  through_layer b p a c (any e) (array f g) = absurd cc
  through_layer b p a c (any e) (arrow f g q r) = absurd cc
  through_layer b p a c (named e f q) (nothing g) = absurd cc
  through_layer b p a c (named {i = i} {j = j} e f q) (named {i = k} {j = l} g m r) =
      let same : j ≡ k = cc
      in named e m (joined h q (subst (λ (z : TypeId). Path h z.0 l.0) (sym same) r))
  through_layer b p a c (named e f q) (tuple g m n r) = absurd cc
  through_layer b p a c (named e f q) (array g m) = absurd cc
  through_layer b p a c (named e f q) (arrow g m r s) = absurd cc
  through_layer b p a c (tuple e f n q) (nothing g) = absurd cc
  through_layer b p a c (tuple e f n q) (named g m r) = absurd cc
  through_layer b p a c (tuple {xs = xs} {ys = ys} e f n q) (tuple {xs = us} {ys = zs} g m o r) =
      let same : ys ≡ us = cc in
      tuple e m (n ∙ ap length same ∙ o) (λ k x z u v. let w = partner xs ys k x u n in
      part_of Through b ys p f k w.0 w.1 x z (q k x w.0 u w.1)
      (r k w.0 z (subst (λ l. slice_get l k ≡ Some w.0) same w.1) v))
  through_layer b p a c (tuple e f n q) (array g m) = absurd cc
  through_layer b p a c (tuple e f n q) (arrow g m r s) = absurd cc
  through_layer b p a c (array e f) (nothing g) = absurd cc
  through_layer b p a c (array e f) (named g m r) = absurd cc
  through_layer b p a c (array e f) (tuple g m n r) = absurd cc
  through_layer b p a c (array {e = u} e f) (array {e = v} g m) =
      let same : u ≡ v = cc in array e (subst (λ z. out-Ty c ≡ Ty-F.Array z) (sym same) m)
  through_layer b p a c (array e f) (arrow g m r s) = absurd cc
  through_layer b p a c (arrow e f q r) (nothing g) = absurd cc
  through_layer b p a c (arrow e f q r) (named g m s) = absurd cc
  through_layer b p a c (arrow e f q r) (tuple g m n s) = absurd cc
  through_layer b p a c (arrow e f q r) (array g m) = absurd cc
  through_layer b p a c (arrow {p = p1} {q = q1} {r = r1} {s = s1} e f q r)
      (arrow {p = p2} {q = q2} {r = r2} {s = s2} g m u v) =
      let d : r1 ≡ p2 = cc in let w : s1 ≡ q2 = cc in let i = sides_of Through b r1 s1 p f in
      arrow e m (i.0 r2 p1 (subst (λ z. Below h r2 z) (sym d) u) q)
      (i.1 q1 s2 r (subst (λ z. Below h z s2) (sym w) v))

  pub through : (a b c : Ty) → Below h a b → Below h b c → Below h a c
  through a b c = by_parts Through through_layer b a c
