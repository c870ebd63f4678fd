-- The chapter "Types", read by the outermost layers of two types: what `Below` and `Apart` come to
-- there. The code has a case for each of these lines.
use Rattle.std.specs.Prelude.{◌≡◌, ◌≢◌, ◌⊎◌, ℕ, Bool, true, false, List, length, slice_get, Some}
use Rattle.fort_base.specs.declared.ty.Ty.{Ty}
use Rattle.fort_base.specs.declared.ty.Ty.TheOpen.{Ty-F}
use Rattle.fort_types.specs.Hierarchy.{DeclaredTypes, Path, DeclaredApart}
use Rattle.fort_types.specs.Types.{Apart, Below}

-- Two lists of one length, related place by place.
abbrev pub Along : {A B : Type 0} → (A → B → Type 0) → List A → List B → Type 0
Along {A} {B} R xs ys = (length xs ≡ length ys)
    × ((k : ℕ) (x : A) (y : B) → slice_get xs k ≡ Some x → slice_get ys k ≡ Some y → R x y)

-- Each type of the first list is below the one in its place of the second.
abbrev pub AllBelow : DeclaredTypes → List Ty → List Ty → Type 0
AllBelow h xs ys = Along (Below h) xs ys

-- Some place of two lists has related types.
abbrev pub Somewhere : (Ty → Ty → Type 0) → List Ty → List Ty → Type 0
Somewhere R xs ys = (k : ℕ) × (x : Ty) × (y : Ty) × (slice_get xs k ≡ Some x)
    × (slice_get ys k ≡ Some y) × R x y

-- Tuples are apart by their lengths or, of one length, at some part.
abbrev pub Differ : DeclaredTypes → List Ty → List Ty → Type 0
Differ h xs ys = (length xs ≢ length ys) ⊎ ((length xs ≡ length ys) × Somewhere (Apart h) xs ys)

-- When a type with the first layer is below one with the second.
abbrev pub BelowLayer : DeclaredTypes → Ty-F Ty → Ty-F Ty → Type 0
BelowLayer h Ty-F.Nothing _ = Unit {0}
BelowLayer h _ Ty-F.Any = Unit {0}
BelowLayer h (Ty-F.Named i) (Ty-F.Named j) = Path h i.0 j.0
BelowLayer h (Ty-F.Tuple xs) (Ty-F.Tuple ys) = AllBelow h xs ys
BelowLayer h (Ty-F.Arrow p q) (Ty-F.Arrow r s) = Below h r p × Below h q s
BelowLayer h (Ty-F.Array e) (Ty-F.Array f) = e ≡ f
BelowLayer h _ _ = ⊥

-- The same, one way round or the other.
abbrev pub Sided : DeclaredTypes → Bool → Ty-F Ty → Ty-F Ty → Type 0
Sided h true x y = BelowLayer h x y
Sided h false x y = BelowLayer h y x

-- When a type with the first layer and one with the second are apart.
abbrev pub ApartLayer : DeclaredTypes → Ty-F Ty → Ty-F Ty → Type 0
ApartLayer h Ty-F.Any _ = ⊥
ApartLayer h _ Ty-F.Any = ⊥
ApartLayer h (Ty-F.Named i) (Ty-F.Named j) = DeclaredApart h i.0 j.0
ApartLayer h (Ty-F.Tuple xs) (Ty-F.Tuple ys) = Differ h xs ys
ApartLayer h (Ty-F.Arrow p q) (Ty-F.Arrow r s) = ⊥
ApartLayer h (Ty-F.Array e) (Ty-F.Array f) = e ≢ f
ApartLayer h _ _ = Unit {0}
