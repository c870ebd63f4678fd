-- No solid type is below two that are apart.
use Rattle.std.proofs.Common.{◌≡◌, ◌≢◌, ℕ, inl, inr, List, length, Some, sym, ap, ◌∙◌, subst}
use Rattle.std.specs.List.{slice_get}
use Rattle.fort_base.specs.declared.ids.TypeId.{TypeId}
use Rattle.fort_base.specs.declared.ty.Ty.{Ty, out-Ty}
use Rattle.fort_base.specs.declared.ty.Ty.TheOpen.{Ty-F}
use Rattle.fort_types.specs.Hierarchy.{DeclaredTypes, Path, Sound}
use Rattle.fort_types.specs.Types.{Below, nothing, any, named, tuple, array, arrow, Shape, bottom, top, declared, parts, function, elements, shape, shape_of, IsLone, Apart, excluded, leaf, shapes, lengths, part, element, lower, flip, comprised, Solid, solid_one, solid_all}
use Rattle.fort_types.proofs.Paths.{last_step, to_leaf}
use Rattle.fort_types.proofs.Orders.{partner, itself, through, declared_as, is_declared}

pub not_bottom : (t : Ty) → Solid t → out-Ty t ≡ Ty-F.Nothing → ⊥
not_bottom t (solid_one n m) e = n (ap shape_of e)
not_bottom t (solid_all f q) e = absurd cc

pub solid_part : (t : Ty) (xs : List Ty) → Solid t → out-Ty t ≡ Ty-F.Tuple xs → (k : ℕ) (x : Ty)
    → slice_get xs k ≡ Some x → Solid x
solid_part t xs (solid_one n m) e k x g = absurd (m (ap shape_of e))
solid_part t xs (solid_all {xs = ys} f q) e k x g =
    let same : xs ≡ ys = cc in q k x (subst (λ l. slice_get l k ≡ Some x) same g)

module _ (h : DeclaredTypes) where
  pub below_named : (x b : Ty) (j : TypeId) → Solid x → Below h x b → out-Ty b ≡ Ty-F.Named j
      → (i : TypeId) × (out-Ty x ≡ Ty-F.Named i) × Path h i.0 j.0
  below_named x b j s (nothing e) g = absurd (not_bottom x s e)
  below_named x b j s (any e) g = absurd cc
  below_named x b j s (named {i = i} {j = k} e f p) g =
      let same : k ≡ j = cc in (i, e, subst (λ (z : TypeId). Path h i.0 z.0) same p)
  below_named x b j s (tuple e f n q) g = absurd cc
  below_named x b j s (array e f) g = absurd cc
  below_named x b j s (arrow e f p q) g = absurd cc

  -- a solid type below one that isn't Any has its shape
  same_shape : (x b : Ty) → Solid x → Below h x b → shape b ≢ top → shape x ≡ shape b
  same_shape x b s (nothing e) n = absurd (not_bottom x s e)
  same_shape x b s (any e) n = absurd (n (ap shape_of e))
  same_shape x b s (named e f p) n = ap shape_of e ∙ sym (ap shape_of f)
  same_shape x b s (tuple e f m q) n = ap shape_of e ∙ sym (ap shape_of f)
  same_shape x b s (array e f) n = ap shape_of e ∙ sym (ap shape_of f)
  same_shape x b s (arrow e f p q) n = ap shape_of e ∙ sym (ap shape_of f)

  lone_not_top : (k : Shape) → IsLone k → k ≢ top
  lone_not_top parts l e = absurd cc
  lone_not_top function l e = absurd cc
  lone_not_top elements l e = absurd cc
  lone_not_top bottom l e = l
  lone_not_top top l e = l
  lone_not_top declared l e = l

  pub record Within (x : Ty) (ys : List Ty) : Type 0 where
    xs : List Ty
    is : out-Ty x ≡ Ty-F.Tuple xs
    long : length xs ≡ length ys
    each : (k : ℕ) (u v : Ty) → slice_get xs k ≡ Some u → slice_get ys k ≡ Some v → Below h u v

  pub below_tuple : (x b : Ty) (ys : List Ty) → Solid x → Below h x b → out-Ty b ≡ Ty-F.Tuple ys
      → Within x ys
  below_tuple x b ys s (nothing e) g = absurd (not_bottom x s e)
  below_tuple x b ys s (any e) g = absurd cc
  below_tuple x b ys s (named e f p) g = absurd cc
  below_tuple x b ys s (tuple {xs = xs} {ys = zs} e f n q) g = let same : zs ≡ ys = cc in
      subst (Within x) same (record { xs = xs; is = e; long = n; each = q })
  below_tuple x b ys s (array e f) g = absurd cc
  below_tuple x b ys s (arrow e f p q) g = absurd cc

  pub below_array : (x b y : Ty) → Solid x → Below h x b → out-Ty b ≡ Ty-F.Array y
      → out-Ty x ≡ Ty-F.Array y
  below_array x b y s (nothing e) g = absurd (not_bottom x s e)
  below_array x b y s (any e) g = absurd cc
  below_array x b y s (named e f p) g = absurd cc
  below_array x b y s (tuple e f n q) g = absurd cc
  below_array x b y s (array e f) g = cc
  below_array x b y s (arrow e f p q) g = absurd cc

  solid_declared : (u : ℕ) → Solid (declared_as u)
  solid_declared u =
      let e : shape (declared_as u) ≡ declared = ap shape_of (is_declared u)
      in solid_one (λ f. cc) (λ f. cc)

  pub never_below_two : Sound h → {a b : Ty} → Apart h a b → (x : Ty) → Solid x → Below h x a
      → Below h x b → ⊥
  never_below_two s (excluded {a = a} {b = b} {i = i} {j = j} e f _ _ g) x w p q =
      let m = below_named x a i w p e in let n = below_named x b j w q f
      in let same : n.0 ≡ m.0 = cc in
      s.below_one i.0 j.0 m.0.0 g m.2 (subst (λ (z : TypeId). Path h z.0 j.0) same n.2)
  never_below_two s (leaf {a = a} {b = b} {i = i} {j = j} e f l _ g _) x w p q =
      let m = below_named x a i w p e in let n = below_named x b j w q f
      in let same : n.0 ≡ m.0 = cc in
      g (subst (λ z. Path h z j.0) (to_leaf h s m.0.0 i.0 l m.2) (subst (λ
      (z : TypeId). Path h z.0 j.0) same n.2))
  never_below_two s (shapes {a = a} {b = b} l n m) x w p q =
      n (sym (same_shape x a w p (lone_not_top (shape a) l)) ∙ same_shape x b w q m)
  never_below_two s (lengths {a = a} {b = b} {xs = xs} {ys = ys} e f n) x w p q =
      let c = below_tuple x a xs w p e in let d = below_tuple x b ys w q f
      in let same : c.xs ≡ d.xs = cc (c.is, d.is) in
      n (sym c.long ∙ ap length same ∙ d.long)
  never_below_two s (part {a = a} {b = b} {x = u} {y = v} {xs = xs} {ys = ys} k e f n g m r) x w p
      q =
      let c = below_tuple x a xs w p e in let d = below_tuple x b ys w q f
      in let same : c.xs ≡ d.xs = cc (c.is, d.is) in
      let z = partner xs c.xs k u g (sym c.long) in
      never_below_two s r z.0 (solid_part x c.xs w c.is k z.0 z.1) (c.each k z.0 u z.1 g)
      (d.each k z.0 v (subst (λ l. slice_get l k ≡ Some z.0) same z.1) m)
  never_below_two s (element {a = a} {b = b} {x = u} {y = v} e f n) x w p q =
      let c = below_array x a u w p e in let d = below_array x b v w q f in n (cc)
  never_below_two s (lower {a = a} {c = c} l r) x w p q =
      never_below_two s r x w (through h x a c p l) q
  never_below_two s (flip r) x w p q = never_below_two s r x w q p
  never_below_two s (comprised {a = a} {b = b} {i = i} u e t l k) x w p q =
      let m = below_named x a i w p e in
      elim (last_step h m.2) as (λ _. ⊥) [
        | inl f ↦
            never_below_two s (k u (declared_as u) l (is_declared u)) (declared_as u) (solid_declared u)
            (itself h (declared_as u))
            (through h (declared_as u) x b
            (named (is_declared u) m.1
            (subst (λ z. Path h u z) (sym f) (s.listed_below i.0 u l))) q)
        | inr y ↦
            never_below_two s (k y.0 (declared_as y.0) (s.all_listed y.0 i.0 u y.2 l) (is_declared y.0))
            x w
            (named m.1 (is_declared y.0) y.1) q
      ]
