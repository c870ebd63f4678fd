-- The chapters "Types" and "Journals": what the built-in types are made of, and where the single
-- objects among them stand in an opening store.
use Rattle.std.specs.Prelude.{ℕ, zero, suc, ◌+◌, List, [], ◌∷◌, ◌++◌, map}
use Rattle.fort_base.specs.declared.ids.Loc.{Loc}
use Rattle.fort_base.specs.declared.ty.Ty.{Ty, Tuple}
use Rattle.fort_types.specs.declared.hierarchy.TypeKind.{TypeKind}
use Rattle.fort_types.specs.declared.hierarchy.TypeKind.TheVariants as a_kind
use Rattle.fort_core.specs.declared.program.CoreKind.{CoreKind}
use Rattle.fort_core.specs.declared.program.CoreKind.TheVariants as kind
use Rattle.fort_core.specs.declared.program.CoreShape.{CoreShape}
use Rattle.fort_core.specs.declared.value.Value.{Value}
use Rattle.fort_core.specs.declared.value.Value.TheVariants as value
use Rattle.fort_types_builtin.specs.declared.objects.TheConstants.{OBJECT_COUNT}
use Rattle.fort_types_builtin.specs.Types.{BuiltInType, types}

-- ---- shapes

-- a location by its number
abbrev pub location : ℕ → Loc
location l = record { 0 = l }

-- What makes values of a built-in type; an object is a single one, at this location.
abbrev pub kind_at : ℕ → TypeKind → CoreKind
kind_at l a_kind.Trait = kind.Trait
kind_at l a_kind.Object = kind.Single (location l)
kind_at l a_kind.Leaf = kind.Leaf

-- What a built-in type is made of: it has no field.
abbrev pub shape_at : ℕ → TypeKind → CoreShape
shape_at l k = record { kind = kind_at l k; fields = [] }

-- A single object has one location, another type none.
abbrev pub place_behind : ℕ → TypeKind → ℕ
place_behind l a_kind.Trait = l
place_behind l a_kind.Object = l + 1
place_behind l a_kind.Leaf = l

-- What types are made of whose single objects have the locations from this one on, in their order.
abbrev pub shapes_of : List BuiltInType → ℕ → List CoreShape
shapes_of [] l = []
shapes_of (row ∷ rows) l = shape_at l row.kind ∷ shapes_of rows (place_behind l row.kind)

-- What the built-in types are made of.
unfoldable pub shapes_from : ℕ → List CoreShape
shapes_from first = shapes_of types first

-- ---- the opening store

-- So many numbers from one on.
abbrev pub counted : ℕ → ℕ → List ℕ
counted first zero = []
counted first (suc n) = counted first n ++ (first + n) ∷ []

-- The locations of the built-in single objects.
abbrev pub object_places : ℕ → List ℕ
object_places first = counted first OBJECT_COUNT

-- A location that holds `()`, and its type.
abbrev pub holding_unit : ℕ → Loc × Value
holding_unit l = (location l, value.Tuple [])

abbrev pub typed_unit : ℕ → Loc × Ty
typed_unit l = (location l, Tuple [])

-- The opening store of the built-in single objects.
abbrev pub opening_from : ℕ → List (Loc × Value)
opening_from first = map holding_unit (object_places first)

-- The types of these locations, in the same order.
abbrev pub opening_types_from : ℕ → List (Loc × Ty)
opening_types_from first = map typed_unit (object_places first)
