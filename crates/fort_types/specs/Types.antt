-- The chapter "Types": which type is below which, and which types are apart, with one rule for each
-- sentence there. The code goes down both types together.
use Rattle.std.specs.Prelude.{◌≡◌, ◌≢◌, ℕ, ◌<◌, List, length, slice_get, Some}
use Rattle.fort_base.specs.declared.ids.TypeId.{TypeId}
use Rattle.fort_base.specs.declared.ty.Ty.{Ty, out-Ty}
use Rattle.fort_base.specs.declared.ty.Ty.TheOpen.{Ty-F}
use Rattle.fort_types.specs.Hierarchy.{DeclaredTypes, Path, Trait, Leaf, Excludes, Lists}

-- One type is below another.
pub data Below (h : DeclaredTypes) : Ty → Ty → Type 0 where
  nothing : {a b : Ty} → out-Ty a ≡ Ty-F.Nothing → Below h a b
  any : {a b : Ty} → out-Ty b ≡ Ty-F.Any → Below h a b
  named : {a b : Ty} {i j : TypeId} → out-Ty a ≡ Ty-F.Named i → out-Ty b ≡ Ty-F.Named j
      → Path h i.0 j.0 → Below h a b
  tuple : {a b : Ty} {xs ys : List Ty} → out-Ty a ≡ Ty-F.Tuple xs → out-Ty b ≡ Ty-F.Tuple ys
      → length xs ≡ length ys
      → ((k : ℕ) (x y : Ty) → slice_get xs k ≡ Some x → slice_get ys k ≡ Some y → Below h x y)
      → Below h a b
  array : {a b e : Ty} → out-Ty a ≡ Ty-F.Array e → out-Ty b ≡ Ty-F.Array e → Below h a b
  arrow : {a b p q r s : Ty} → out-Ty a ≡ Ty-F.Arrow p q → out-Ty b ≡ Ty-F.Arrow r s → Below h r p
      → Below h q s → Below h a b

-- What a type is at its outermost: `Nothing`, `Any`, a declared type, a tuple, an arrow or an
-- array.
pub data Shape : Type 0 where
  bottom top declared parts function elements : Shape

abbrev pub shape_of : Ty-F Ty → Shape
shape_of Ty-F.Nothing = bottom
shape_of Ty-F.Any = top
shape_of (Ty-F.Named i) = declared
shape_of (Ty-F.Tuple xs) = parts
shape_of (Ty-F.Arrow a b) = function
shape_of (Ty-F.Array a) = elements

abbrev pub shape : Ty → Shape
shape t = shape_of (out-Ty t)

-- Tuples, arrows and arrays are below `Any` and types of their own shape alone.
abbrev pub IsLone : Shape → Type 0
IsLone parts = Unit {0}
IsLone function = Unit {0}
IsLone elements = Unit {0}
IsLone _ = ⊥

-- Two types are apart: the least symmetric relation with these rules.
pub data Apart (h : DeclaredTypes) : Ty → Ty → Type 0 where
  -- two traits one of which excludes the other
  excluded : {a b : Ty} {i j : TypeId} → out-Ty a ≡ Ty-F.Named i → out-Ty b ≡ Ty-F.Named j
      → Trait h i.0 → Trait h j.0 → Excludes h i.0 j.0 → Apart h a b
  -- an object or leaf and a declared type, neither below the other
  leaf : {a b : Ty} {i j : TypeId} → out-Ty a ≡ Ty-F.Named i → out-Ty b ≡ Ty-F.Named j
      → Leaf h i.0 → j.0 < length h → (Path h i.0 j.0 → ⊥) → (Path h j.0 i.0 → ⊥) → Apart h a b
  -- a tuple and a type that is no tuple and not `Any`; likewise an array, and an arrow
  shapes : {a b : Ty} → IsLone (shape a) → shape a ≢ shape b → shape b ≢ top → Apart h a b
  -- tuples of different lengths
  lengths : {a b : Ty} {xs ys : List Ty} → out-Ty a ≡ Ty-F.Tuple xs → out-Ty b ≡ Ty-F.Tuple ys
      → length xs ≢ length ys → Apart h a b
  -- tuples of one length with parts that are apart
  part : {a b x y : Ty} {xs ys : List Ty} (k : ℕ) → out-Ty a ≡ Ty-F.Tuple xs
      → out-Ty b ≡ Ty-F.Tuple ys → length xs ≡ length ys
      → slice_get xs k ≡ Some x → slice_get ys k ≡ Some y → Apart h x y → Apart h a b
  -- arrays with different elements
  element : {a b x y : Ty} → out-Ty a ≡ Ty-F.Array x → out-Ty b ≡ Ty-F.Array y → x ≢ y → Apart h a b
  -- a type below one of two that are apart, and the other
  lower : {a c b : Ty} → Below h a c → Apart h c b → Apart h a b
  -- a trait with a list, and a type that each listed one is apart from
  comprised : {a b : Ty} {i : TypeId} (u : ℕ) → out-Ty a ≡ Ty-F.Named i → Trait h i.0
      → Lists h i.0 u
      → ((v : ℕ) (c : Ty) → Lists h i.0 v → out-Ty c ≡ Ty-F.Named (record { 0 = v }) → Apart h c b)
      → Apart h a b
  flip : {a b : Ty} → Apart h a b → Apart h b a

-- A type that isn't `Nothing`, nor a tuple with a part that isn't solid; anything may stand inside
-- arrows and arrays.
pub data Solid : Ty → Type 0 where
  solid_one : {t : Ty} → shape t ≢ bottom → shape t ≢ parts → Solid t
  solid_all : {t : Ty} {xs : List Ty} → out-Ty t ≡ Ty-F.Tuple xs
      → ((k : ℕ) (x : Ty) → slice_get xs k ≡ Some x → Solid x) → Solid t

-- Each declared type that stands in the type has a number below `n`.
pub data IsNumbered (n : ℕ) : Ty → Type 0 where
  no_name : {t : Ty} → shape t ≢ declared → shape t ≢ parts → shape t ≢ function
      → shape t ≢ elements → IsNumbered n t
  name : {t : Ty} {i : TypeId} → out-Ty t ≡ Ty-F.Named i → i.0 < n → IsNumbered n t
  in_parts : {t : Ty} {xs : List Ty} → out-Ty t ≡ Ty-F.Tuple xs
      → ((k : ℕ) (x : Ty) → slice_get xs k ≡ Some x → IsNumbered n x) → IsNumbered n t
  in_sides : {t p q : Ty} → out-Ty t ≡ Ty-F.Arrow p q → IsNumbered n p → IsNumbered n q
      → IsNumbered n t
  in_element : {t e : Ty} → out-Ty t ≡ Ty-F.Array e → IsNumbered n e → IsNumbered n t
