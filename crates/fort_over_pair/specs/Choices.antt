-- The chapter "Overload rules": lists of meets, the ways to take one of each, and how many there
-- are. The code counts before it lists.
use Rattle.std.specs.Prelude.{◌≡◌, ◌≢◌, ◌↔◌, ◌⊎◌, ◌≤◌, ℕ, List, [], ◌∷◌, length, map, slice_get, Some, Contains}
use Rattle.std.specs.List.{flat_map}
use Rattle.fort_base.specs.declared.ty.Ty.{Ty, out-Ty}
use Rattle.fort_base.specs.declared.ty.Ty.TheVariants.{Named, Tuple}
use Rattle.fort_base.specs.declared.ty.Ty.TheOpen.{Ty-F}
use Rattle.fort_base.specs.declared.ids.TypeId.{TypeId}
use Rattle.fort_types.specs.Hierarchy.{DeclaredTypes}
use Rattle.fort_meet.specs.Meets.{IsMeet, AreMeets}
use Rattle.fort_types_sets.specs.Meets.{Meet, IsChoice, HasMeets, choices_of}

-- A type is a meet of types with two layers neither of which is below the other.
abbrev pub MeetLayer : DeclaredTypes → Ty-F Ty → Ty-F Ty → Ty → Type 0
MeetLayer h (Ty-F.Named i) (Ty-F.Named j) m = (k : TypeId) × (out-Ty m ≡ Ty-F.Named k)
    × IsMeet h i.0 j.0 k.0
MeetLayer h (Ty-F.Tuple xs) (Ty-F.Tuple ys) m = (zs : List Ty) × (out-Ty m ≡ Ty-F.Tuple zs)
    × (length xs ≡ length ys) × IsChoice h xs ys zs
MeetLayer h _ _ m = ⊥

-- A list has exactly the things with a property.
abbrev pub HasAll : {A : Type 0} → (A → Type 0) → List A → Type 0
HasAll {A} P list = (x : A) → Contains list x ↔ P x

-- For each place of two lists there is the list of its meets.
pub record HaveAll (h : DeclaredTypes) (xs ys : List Ty) (lists : List (List Ty))
    (to : ℕ) : Type 0 where
  pub long : length lists ≡ to
  pub each_has : (k : ℕ) (x y : Ty) (list : List Ty) → slice_get xs k ≡ Some x
      → slice_get ys k ≡ Some y → slice_get lists k ≡ Some list → HasAll (Meet h x y) list

-- All ways to take one of each list, in order.
abbrev pub products : List (List Ty) → List (List Ty)
products [] = [] ∷ []
products (list ∷ lists) = flat_map (λ m. map (λ rest. m ∷ rest) (products lists)) list

-- A number that stands for another one: the same up to 4,096, and above that 4,097.
abbrev pub Stands : ℕ → ℕ → Type 0
Stands n all = (n ≡ all) ⊎ ((n ≡ 4097) × (4097 ≤ all))

-- A number stands for that of the meets of two types.
pub record Counts (h : DeclaredTypes) (a b : Ty) (n : ℕ) : Type 0 where
  pub list : List Ty
  pub has : HasMeets h a b list
  pub stands : Stands n (length list)

-- A number stands for that of the choices of one meet for each of the first places.
pub record CountsTo (h : DeclaredTypes) (xs ys : List Ty) (to n : ℕ) : Type 0 where
  pub lists : List (List Ty)
  pub long : length lists ≡ to
  pub each_has : (k : ℕ) (x y : Ty) (list : List Ty) → slice_get xs k ≡ Some x
      → slice_get ys k ≡ Some y → slice_get lists k ≡ Some list → HasMeets h x y list
  pub stands : Stands n (choices_of lists)

-- A number stands for that of the meets of types with two layers neither of which is below the
-- other.
abbrev pub CountsLayer : DeclaredTypes → Ty-F Ty → Ty-F Ty → ℕ → Type 0
CountsLayer h (Ty-F.Named i) (Ty-F.Named j) n = (ids : List TypeId) × AreMeets h i.0 j.0 ids
    × Stands n (length ids)
CountsLayer h (Ty-F.Tuple xs) (Ty-F.Tuple ys) n = ((length xs ≢ length ys) × (n ≡ 0))
    ⊎ ((length xs ≡ length ys) × CountsTo h xs ys (length xs) n)
CountsLayer h _ _ n = n ≡ 0

-- A list has the meets of types with two layers neither of which is below the other.
abbrev pub ListsLayer : DeclaredTypes → Ty-F Ty → Ty-F Ty → List Ty → Type 0
ListsLayer h (Ty-F.Named i) (Ty-F.Named j) list = (ids : List TypeId) × AreMeets h i.0 j.0 ids
    × (list ≡ map Named ids)
ListsLayer h (Ty-F.Tuple xs) (Ty-F.Tuple ys) list = ((length xs ≢ length ys) × (list ≡ []))
    ⊎ ((length xs ≡ length ys)
    × (rows : List (List Ty)) × HasAll (IsChoice h xs ys) rows × (list ≡ map Tuple rows))
ListsLayer h _ _ list = list ≡ []
