-- The chapter "Overload rules": the meets of two types, and the choices of one meet for each
-- position. The code lists them.
use Rattle.std.specs.Prelude.{◌≡◌, ◌≢◌, ◌↔◌, ◌*◌, ◌<◌, ℕ, List, [], ◌∷◌, length, slice_get, Some, Contains}
use Rattle.std.specs.List.{AllPairs}
use Rattle.fort_base.specs.declared.ids.TypeId.{TypeId}
use Rattle.fort_base.specs.declared.ty.Ty.{Ty, out-Ty}
use Rattle.fort_base.specs.declared.ty.Ty.TheOpen.{Ty-F}
use Rattle.fort_types.specs.Hierarchy.{DeclaredTypes}
use Rattle.fort_types.specs.Types.{Below}
use Rattle.fort_meet.specs.Meets.{IsMeet}

-- A type is a meet of two types.
pub data Meet (h : DeclaredTypes) : Ty → Ty → Ty → Type 0 where
  -- of ordered types the smaller one
  lesser : {a b : Ty} → Below h a b → Meet h a b a
  greater : {a b : Ty} → Below h b a → Meet h a b b
  -- of two declared types each highest declared type below both
  highest : {a b m : Ty} {i j k : TypeId} → out-Ty a ≡ Ty-F.Named i → out-Ty b ≡ Ty-F.Named j
      → out-Ty m ≡ Ty-F.Named k → IsMeet h i.0 j.0 k.0 → Meet h a b m
  -- of tuples of one length the tuples of their parts' meets
  each : {a b m : Ty} {xs ys zs : List Ty} → out-Ty a ≡ Ty-F.Tuple xs → out-Ty b ≡ Ty-F.Tuple ys
      → out-Ty m ≡ Ty-F.Tuple zs
      → length xs ≡ length ys → length xs ≡ length zs
      → ((k : ℕ) (x y z : Ty) → slice_get xs k ≡ Some x → slice_get ys k ≡ Some y
      → slice_get zs k ≡ Some z → Meet h x y z) → Meet h a b m

-- Two types have no meet.
abbrev pub HasNone : DeclaredTypes → Ty → Ty → Type 0
HasNone h a b = (m : Ty) → Meet h a b m → ⊥

-- Two types are arrows neither of which is below the other, or tuples of one length with such parts
-- at one place.
pub data ArrowsClash (h : DeclaredTypes) : Ty → Ty → Type 0 where
  arrows : {a b p q r s : Ty} → out-Ty a ≡ Ty-F.Arrow p q → out-Ty b ≡ Ty-F.Arrow r s
      → (Below h a b → ⊥) → (Below h b a → ⊥) → ArrowsClash h a b
  inner : {a b x y : Ty} {xs ys : List Ty} (k : ℕ) → out-Ty a ≡ Ty-F.Tuple xs
      → out-Ty b ≡ Ty-F.Tuple ys → length xs ≡ length ys
      → slice_get xs k ≡ Some x → slice_get ys k ≡ Some y → ArrowsClash h x y → ArrowsClash h a b

-- A list of types is a choice of one meet for each position of two lists.
abbrev pub IsChoice : DeclaredTypes → List Ty → List Ty → List Ty → Type 0
IsChoice h xs ys ms = (length xs ≡ length ms)
    × ((k : ℕ) (x y m : Ty) → slice_get xs k ≡ Some x → slice_get ys k ≡ Some y
    → slice_get ms k ≡ Some m → Meet h x y m)

-- A list has exactly the meets of two types, each once.
pub record HasMeets (h : DeclaredTypes) (a b : Ty) (list : List Ty) : Type 0 where
  pub exactly : (m : Ty) → Contains list m ↔ Meet h a b m
  pub once : AllPairs (λ (x y : Ty). x ≢ y) list

-- For each position of two lists there is the list of its meets.
pub record HaveMeets (h : DeclaredTypes) (xs ys : List Ty) (lists : List (List Ty)) : Type 0 where
  pub long : length lists ≡ length xs
  pub each_has : (k : ℕ) (x y : Ty) (list : List Ty) → slice_get xs k ≡ Some x
      → slice_get ys k ≡ Some y → slice_get lists k ≡ Some list → HasMeets h x y list

-- How many ways there are to take one of each list.
abbrev pub choices_of : List (List Ty) → ℕ
choices_of [] = 1
choices_of (list ∷ lists) = length list * choices_of lists

-- There are more than 4,096 choices of one meet for each position.
abbrev pub AreTooMany : DeclaredTypes → List Ty → List Ty → Type 0
AreTooMany h xs ys = (lists : List (List Ty)) × HaveMeets h xs ys lists × (4096 < choices_of lists)
