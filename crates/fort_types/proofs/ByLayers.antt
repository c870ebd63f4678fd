-- Below and apart hold exactly where the layers of the two types say so.
use Rattle.std.proofs.Common.{◌≡◌, ◌≢◌, inl, inr, ◌↔◌, ℕ, List, [], length, Some, refl, sym, ap, ◌∙◌, subst}
use Rattle.std.specs.List.{slice_get}
use Rattle.fort_base.specs.declared.ids.TypeId.{TypeId}
use Rattle.fort_base.specs.declared.ty.Ty.{Ty, out-Ty, roll-Ty, out-roll-Ty}
use Rattle.fort_base.specs.declared.ty.Ty.TheOpen.{Ty-F}
use Rattle.fort_types.specs.Hierarchy.{DeclaredTypes, Path, Trait, Lists, DeclaredApart}
use Rattle.fort_types.specs.Hierarchy.{excluded as excluded_one, leaf as leaf_one, lower as lower_one, flip as flip_one, comprised as comprised_one}
use Rattle.fort_types.specs.Types.{Below, nothing, any, named, tuple, array, arrow, Shape, bottom, top, declared, parts, function, elements, shape, shape_of, IsLone, Apart, excluded, leaf, shapes, lengths, part, element, lower, flip, comprised}
use Rattle.fort_types.specs.Layers.{Differ, BelowLayer, ApartLayer}
use Rattle.fort_types.proofs.Orders.{partner, declared_as, is_declared}

module _ (h : DeclaredTypes) where
  any_layer : (x : Ty-F Ty) → BelowLayer h x Ty-F.Any
  any_layer Ty-F.Nothing = tt
  any_layer Ty-F.Any = tt
  any_layer (Ty-F.Named i) = tt
  any_layer (Ty-F.Tuple xs) = tt
  any_layer (Ty-F.Arrow p q) = tt
  any_layer (Ty-F.Array e) = tt

  two_below : (a b : Ty) (x y : Ty-F Ty) → out-Ty a ≡ x → out-Ty b ≡ y → BelowLayer h x y
      → BelowLayer h (out-Ty a) (out-Ty b)
  two_below a b x y e f w =
      subst (λ z. BelowLayer h z (out-Ty b)) (sym e) (subst (λ z. BelowLayer h x z) (sym f) w)

  -- what is below has such layers
  pub layers_of_below : {a b : Ty} → Below h a b → BelowLayer h (out-Ty a) (out-Ty b)
  layers_of_below (nothing {a = a} {b = b} e) = two_below a b Ty-F.Nothing (out-Ty b) e refl tt
  layers_of_below (any {a = a} {b = b} e) =
      two_below a b (out-Ty a) Ty-F.Any refl e (any_layer (out-Ty a))
  layers_of_below (named {a = a} {b = b} {i = i} {j = j} e f p) =
      two_below a b (Ty-F.Named i) (Ty-F.Named j) e f p
  layers_of_below (tuple {a = a} {b = b} {xs = xs} {ys = ys} e f n q) =
      two_below a b (Ty-F.Tuple xs) (Ty-F.Tuple ys) e f (n, q)
  layers_of_below (array {a = a} {b = b} {e = u} e f) =
      two_below a b (Ty-F.Array u) (Ty-F.Array u) e f refl
  layers_of_below (arrow {a = a} {b = b} {p = p} {q = q} {r = r} {s = s} e f l m) =
      two_below a b (Ty-F.Arrow p q) (Ty-F.Arrow r s) e f (l, m)

  below_at : (a b : Ty) (x y : Ty-F Ty) → out-Ty a ≡ x → out-Ty b ≡ y → BelowLayer h x y
      → Below h a b
  below_at a b Ty-F.Nothing y e f w = nothing e
  below_at a b x Ty-F.Any e f w = any f
  below_at a b (Ty-F.Named i) (Ty-F.Named j) e f w = named e f w
  below_at a b (Ty-F.Tuple xs) (Ty-F.Tuple ys) e f w = tuple e f w.0 w.1
  below_at a b (Ty-F.Arrow p q) (Ty-F.Arrow r s) e f w = arrow e f w.0 w.1
  below_at a b (Ty-F.Array u) (Ty-F.Array v) e f w =
      array e (f ∙ ap (λ (z : Ty). let y : Ty-F Ty = Ty-F.Array z in y) (sym w))
  below_at a b x y e f w = absurd w

  -- types with such layers are one below the other
  pub below_of_layers : (a b : Ty) → BelowLayer h (out-Ty a) (out-Ty b) → Below h a b
  below_of_layers a b = below_at a b (out-Ty a) (out-Ty b) refl refl

differ_turned : (h : DeclaredTypes) (xs ys : List Ty) → Differ h xs ys → Differ h ys xs
differ_turned h xs ys (inl n) = inl (λ e. n (sym e))
differ_turned h xs ys (inr w) = inr (sym w.0, (w.1.0, w.1.2, w.1.1, w.1.4, w.1.3, flip w.1.5))

differ_lower : (h : DeclaredTypes) (xs ys zs : List Ty) → length xs ≡ length ys
    → ((k : ℕ) (x y : Ty) → slice_get xs k ≡ Some x → slice_get ys k ≡ Some y → Below h x y)
    → Differ h ys zs → Differ h xs zs
differ_lower h xs ys zs n q (inl m) = inl (λ e. m (sym n ∙ e))
differ_lower h xs ys zs n q (inr w) = let x = partner ys xs w.1.0 w.1.1 w.1.3 (sym n) in
    inr (n ∙ w.0, (w.1.0, x.0, w.1.2, x.1, w.1.4, lower (q w.1.0 x.0 w.1.1 x.1 w.1.3) w.1.5))

turned : (h : DeclaredTypes) (x y : Ty-F Ty) → ApartLayer h x y → ApartLayer h y x
turned h Ty-F.Any y w = absurd w
turned h x Ty-F.Any w = absurd w
turned h (Ty-F.Named i) (Ty-F.Named j) w = flip_one w
turned h (Ty-F.Tuple xs) (Ty-F.Tuple ys) w = differ_turned h xs ys w
turned h (Ty-F.Arrow p q) (Ty-F.Arrow r s) w = absurd w
turned h (Ty-F.Array u) (Ty-F.Array v) w = λ e. w (sym e)
turned h x y w = tt

lower_bottom : (h : DeclaredTypes) (x y : Ty-F Ty) → ApartLayer h x y → ApartLayer h Ty-F.Nothing y
lower_bottom h Ty-F.Any y w = absurd w
lower_bottom h x Ty-F.Any w = absurd w
lower_bottom h x y w = tt

lower_named : (h : DeclaredTypes) (i j : TypeId) → Path h i.0 j.0 → (y : Ty-F Ty)
    → ApartLayer h (Ty-F.Named j) y → ApartLayer h (Ty-F.Named i) y
lower_named h i j p Ty-F.Any w = absurd w
lower_named h i j p (Ty-F.Named k) w = lower_one p w
lower_named h i j p y w = tt

lower_tuple : (h : DeclaredTypes) (xs ys : List Ty) → length xs ≡ length ys
    → ((k : ℕ) (x y : Ty) → slice_get xs k ≡ Some x → slice_get ys k ≡ Some y → Below h x y)
    → (y : Ty-F Ty) → ApartLayer h (Ty-F.Tuple ys) y → ApartLayer h (Ty-F.Tuple xs) y
lower_tuple h xs ys n q Ty-F.Any w = absurd w
lower_tuple h xs ys n q (Ty-F.Tuple zs) w = differ_lower h xs ys zs n q w
lower_tuple h xs ys n q y w = tt

lower_arrow : (h : DeclaredTypes) (p q r s : Ty) → (y : Ty-F Ty) → ApartLayer h (Ty-F.Arrow r s) y
    → ApartLayer h (Ty-F.Arrow p q) y
lower_arrow h p q r s Ty-F.Any w = absurd w
lower_arrow h p q r s (Ty-F.Arrow t u) w = absurd w
lower_arrow h p q r s y w = tt

abbrev At : DeclaredTypes → Ty-F Ty → Ty-F Ty → Type 0
At h y x = ApartLayer h x y

any_never : (h : DeclaredTypes) (y : Ty-F Ty) → ApartLayer h Ty-F.Any y → ⊥
any_never h y w = w

lower_layer : (h : DeclaredTypes) (a c : Ty) → Below h a c → (y : Ty-F Ty)
    → ApartLayer h (out-Ty c) y → ApartLayer h (out-Ty a) y
lower_layer h a c (nothing e) y w = subst (At h y) (sym e) (lower_bottom h (out-Ty c) y w)
lower_layer h a c (any e) y w = absurd (any_never h y (subst (At h y) e w))
lower_layer h a c (named {i = i} {j = j} e f p) y w =
    subst (At h y) (sym e) (lower_named h i j p y (subst (At h y) f w))
lower_layer h a c (tuple {xs = xs} {ys = ys} e f n q) y w =
    subst (At h y) (sym e) (lower_tuple h xs ys n q y (subst (At h y) f w))
lower_layer h a c (array e f) y w = subst (At h y) (f ∙ sym e) w
lower_layer h a c (arrow {p = p} {q = q} {r = r} {s = s} e f l m) y w =
    subst (At h y) (sym e) (lower_arrow h p q r s y (subst (At h y) f w))

listed_layer : (h : DeclaredTypes) (i : TypeId) (u : ℕ) → Trait h i.0 → Lists h i.0 u
    → (y : Ty-F Ty)
    → ((v : ℕ) → Lists h i.0 v → ApartLayer h (Ty-F.Named (record { 0 = v })) y)
    → ApartLayer h (Ty-F.Named i) y
listed_layer h i u t l Ty-F.Any k = k u l
listed_layer h i u t l (Ty-F.Named j) k = comprised_one u t l k
listed_layer h i u t l y k = tt

module _ (h : DeclaredTypes) where
  two : (a b : Ty) (x y : Ty-F Ty) → out-Ty a ≡ x → out-Ty b ≡ y → ApartLayer h x y
      → ApartLayer h (out-Ty a) (out-Ty b)
  two a b x y e f w =
      subst (λ z. ApartLayer h z (out-Ty b)) (sym e) (subst (λ z. ApartLayer h x z) (sym f) w)

  lone_layer : (x y : Ty-F Ty) → IsLone (shape_of x) → shape_of x ≢ shape_of y → shape_of y ≢ top
      → ApartLayer h x y
  lone_layer Ty-F.Nothing y l n m = absurd l
  lone_layer Ty-F.Any y l n m = absurd l
  lone_layer (Ty-F.Named i) y l n m = absurd l
  lone_layer x Ty-F.Any l n m = absurd (m refl)
  lone_layer (Ty-F.Tuple xs) (Ty-F.Tuple ys) l n m = absurd (n refl)
  lone_layer (Ty-F.Arrow p q) (Ty-F.Arrow r s) l n m = absurd (n refl)
  lone_layer (Ty-F.Array u) (Ty-F.Array v) l n m = absurd (n refl)
  lone_layer x y l n m = tt

  -- what is apart has such layers
  pub layers_of_apart : {a b : Ty} → Apart h a b → ApartLayer h (out-Ty a) (out-Ty b)
  layers_of_apart (excluded {a = a} {b = b} {i = i} {j = j} e f t u w) =
      two a b (Ty-F.Named i) (Ty-F.Named j) e f (excluded_one t u w)
  layers_of_apart (leaf {a = a} {b = b} {i = i} {j = j} e f t u m n) =
      two a b (Ty-F.Named i) (Ty-F.Named j) e f (leaf_one t u m n)
  layers_of_apart (shapes {a = a} {b = b} l n m) = lone_layer (out-Ty a) (out-Ty b) l n m
  layers_of_apart (lengths {a = a} {b = b} {xs = xs} {ys = ys} e f n) =
      two a b (Ty-F.Tuple xs) (Ty-F.Tuple ys) e f (inl n)
  layers_of_apart (part {a = a} {b = b} {x = x} {y = y} {xs = xs} {ys = ys} k e f n g m r) =
      two a b (Ty-F.Tuple xs) (Ty-F.Tuple ys) e f (inr (n, (k, x, y, g, m, r)))
  layers_of_apart (element {a = a} {b = b} {x = x} {y = y} e f n) =
      two a b (Ty-F.Array x) (Ty-F.Array y) e f n
  layers_of_apart (lower {a = a} {c = c} {b = b} l r) =
      lower_layer h a c l (out-Ty b) (layers_of_apart r)
  layers_of_apart (flip {a = a} {b = b} r) = turned h (out-Ty a) (out-Ty b) (layers_of_apart r)
  layers_of_apart (comprised {a = a} {b = b} {i = i} u e t l k) =
      subst (λ z. ApartLayer h z (out-Ty b)) (sym e) (listed_layer h i u t l (out-Ty b)
      (λ v w. subst (λ z. ApartLayer h z (out-Ty b)) (is_declared v)
      (layers_of_apart (k v (declared_as v) w (is_declared v)))))

  -- the relation of declared types is the one of types, at declared types
  pub of_declared : {i j : ℕ} → DeclaredApart h i j → (a b : Ty)
      → out-Ty a ≡ Ty-F.Named (record { 0 = i }) → out-Ty b ≡ Ty-F.Named (record { 0 = j })
      → Apart h a b
  of_declared (excluded_one t u w) a b e f = excluded e f t u w
  of_declared (leaf_one t u m n) a b e f = leaf e f t u m n
  of_declared (lower_one {c = c} p r) a b e f =
      lower (named e (is_declared c) p) (of_declared r (declared_as c) b (is_declared c) f)
  of_declared (flip_one r) a b e f = flip (of_declared r b a f e)
  of_declared (comprised_one u t l k) a b e f =
      comprised u e t l (λ v d w g. of_declared (k v w) d b g f)

  lone_apart : (a b : Ty) (k m : Shape) → shape a ≡ k → shape b ≡ m → IsLone k → k ≢ m → m ≢ top
      → Apart h a b
  lone_apart a b k m e f l n o =
      shapes (subst IsLone (sym e) l) (λ q. n (sym e ∙ q ∙ f)) (λ q. o (sym f ∙ q))

  no_parts : Ty
  no_parts = roll-Ty (Ty-F.Tuple [])

  has_no_parts : shape no_parts ≡ parts
  unfolding no_parts
  has_no_parts = ap shape_of (out-roll-Ty (Ty-F.Tuple []))

  bottom_apart : (a b : Ty) (m : Shape) → out-Ty a ≡ Ty-F.Nothing → shape b ≡ m → m ≢ parts
      → m ≢ top → Apart h a b
  bottom_apart a b m e f n o =
      lower (nothing e) (lone_apart no_parts b parts m has_no_parts f tt (λ q. n (sym q)) o)

  apart_at : (a b : Ty) (x y : Ty-F Ty) → out-Ty a ≡ x → out-Ty b ≡ y → ApartLayer h x y
      → Apart h a b
  apart_at a b Ty-F.Any y e f w = absurd w
  apart_at a b x Ty-F.Any e f w = absurd w
  apart_at a b (Ty-F.Named i) (Ty-F.Named j) e f w = of_declared w a b e f
  apart_at a b (Ty-F.Tuple xs) (Ty-F.Tuple ys) e f w = elim w as (λ _. Apart h a b)
      [ inl n ↦ lengths e f n | inr v ↦ part v.1.0 e f v.0 v.1.3 v.1.4 v.1.5 ]
  apart_at a b (Ty-F.Arrow p q) (Ty-F.Arrow r s) e f w = absurd w
  apart_at a b (Ty-F.Array u) (Ty-F.Array v) e f w = element e f w
  apart_at a b (Ty-F.Tuple xs) y e f w =
      lone_apart a b parts (shape_of y) (ap shape_of e) (ap shape_of f) tt (λ q. cc) (λ q. cc)
  apart_at a b (Ty-F.Arrow p q) y e f w =
      lone_apart a b function (shape_of y) (ap shape_of e) (ap shape_of f) tt (λ q. cc) (λ q. cc)
  apart_at a b (Ty-F.Array u) y e f w =
      lone_apart a b elements (shape_of y) (ap shape_of e) (ap shape_of f) tt (λ q. cc) (λ q. cc)
  apart_at a b x (Ty-F.Tuple ys) e f w =
      flip (lone_apart b a parts (shape_of x) (ap shape_of f) (ap shape_of e) tt (λ q. cc)
      (λ q. cc))
  apart_at a b x (Ty-F.Arrow r s) e f w =
      flip (lone_apart b a function (shape_of x) (ap shape_of f) (ap shape_of e) tt (λ q. cc)
      (λ q. cc))
  apart_at a b x (Ty-F.Array v) e f w =
      flip (lone_apart b a elements (shape_of x) (ap shape_of f) (ap shape_of e) tt (λ q. cc)
      (λ q. cc))
  apart_at a b Ty-F.Nothing y e f w =
      bottom_apart a b (shape_of y) e (ap shape_of f) (λ q. cc) (λ q. cc)
  apart_at a b (Ty-F.Named i) Ty-F.Nothing e f w =
      flip (bottom_apart b a declared f (ap shape_of e) (λ q. cc) (λ q. cc))

  -- types with such layers are apart
  pub apart_of_layers : (a b : Ty) → ApartLayer h (out-Ty a) (out-Ty b) → Apart h a b
  apart_of_layers a b = apart_at a b (out-Ty a) (out-Ty b) refl refl

  not_any : (y : Ty-F Ty) → ApartLayer h Ty-F.Nothing y → shape_of y ≢ top
  not_any Ty-F.Any w q = w
  not_any y w q = cc

  nothing_layer : (y : Ty-F Ty) → shape_of y ≢ top → ApartLayer h Ty-F.Nothing y
  nothing_layer Ty-F.Any n = n refl
  nothing_layer y n = tt

  is_bottom : (x : Ty-F Ty) → shape_of x ≡ bottom → x ≡ Ty-F.Nothing
  is_bottom Ty-F.Nothing e = refl
  is_bottom x e = absurd cc

  -- `Nothing` is apart from each type but `Any`
  pub nothing_apart : (a b : Ty) → shape a ≡ bottom → Apart h a b ↔ (shape b ≢ top)
  nothing_apart a b e = let f = is_bottom (out-Ty a) e in (
    λ r. not_any (out-Ty b) (subst (At h (out-Ty b)) f (layers_of_apart r)),
    λ n. apart_of_layers a b (subst (At h (out-Ty b)) (sym f) (nothing_layer (out-Ty b) n)),
  )
