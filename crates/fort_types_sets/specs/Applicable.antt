-- The chapter "Overload rules": which declaration is applicable to types, and which of two is more
-- specific. The code reads the rows of below.
use Rattle.std.specs.Prelude.{◌≡◌, ℕ, List, length, slice_get, Some}
use Rattle.fort_base.specs.declared.ty.Ty.{Ty}
use Rattle.fort_types.specs.Hierarchy.{DeclaredTypes}
use Rattle.fort_types.specs.Types.{Below}
use Rattle.fort_types_sets.specs.declared.member.Member.{Member}

-- Two lists of types have one length, and are related place by place.
abbrev pub Along : (Ty → Ty → Type 0) → List Ty → List Ty → Type 0
Along R xs ys = (length xs ≡ length ys)
    × ((k : ℕ) (x y : Ty) → slice_get xs k ≡ Some x → slice_get ys k ≡ Some y → R x y)

-- Two lists of types are related at some place.
abbrev pub Somewhere : (Ty → Ty → Type 0) → List Ty → List Ty → Type 0
Somewhere R xs ys = (k : ℕ) × (x y : Ty) × (slice_get xs k ≡ Some x) × (slice_get ys k ≡ Some y)
    × R x y

-- A declaration is applicable to a list of types: there are as many as it has parameters, and each
-- is below its parameter.
abbrev pub IsApplicable : DeclaredTypes → Member → List Ty → Type 0
IsApplicable h d types = Along (Below h) types d.parameters

-- A declaration is more specific than another: its parameters are below the other's.
abbrev pub IsMoreSpecific : DeclaredTypes → Member → Member → Type 0
IsMoreSpecific h p q = Along (Below h) p.parameters q.parameters
