-- The chapters "Types" and "Members": what the two tables say, in the words of the language.
use Rattle.std.specs.Prelude.{◌≡◌, ℕ, List, [], ◌∷◌, codes, get_or, map}
use Rattle.std.specs.List.{flat_map}
use Rattle.fort_base.specs.declared.ids.Loc.{Loc}
use Rattle.fort_base.specs.declared.ids.TypeId.{TypeId}
use Rattle.fort_core.specs.declared.program.CoreKind.{CoreKind}
use Rattle.fort_core.specs.declared.program.CoreKind.TheVariants as kind
use Rattle.fort_core.specs.declared.program.CoreShape.{CoreShape}
use Rattle.fort_types_builtin.specs.declared.types.TheConstants.{OBJECT, EXCEPTION, ZZ32, ZZ64, STRING, BOOLEAN, RANGE, INTEGER_OVERFLOW, DIVISION_BY_ZERO, NEGATIVE_EXPONENT, INDEX_OUT_OF_RANGE, NEGATIVE_SIZE, EMPTY_REDUCTION, MATCH_FAILURE, DEPTH_EXCEEDED, TRY_ATOMIC_FAILURE, ABORT_OUTSIDE}
use Rattle.fort_types_builtin.specs.Objects.{location, object_places, shapes_from}
use Rattle.fort_types_builtin.specs.Types.{declared_spellings}
use Rattle.fort_types_builtin.specs.Declarations.{declarations}
use Rattle.fort_types_builtin.specs.Rows.{signature_of, all_rows}

-- the name of the built-in type of a number
abbrev pub name_at : TypeId → List ℕ
name_at t = get_or declared_spellings t.0 []

-- Each number of a built-in type is that of the type with its name.
abbrev pub NumbersNameTypes : Type 0
NumbersNameTypes =
    map name_at
    (OBJECT ∷ EXCEPTION ∷ ZZ32 ∷ ZZ64 ∷ STRING ∷ BOOLEAN ∷ RANGE ∷ INTEGER_OVERFLOW
    ∷ DIVISION_BY_ZERO ∷ NEGATIVE_EXPONENT ∷ INDEX_OUT_OF_RANGE ∷ NEGATIVE_SIZE
    ∷ EMPTY_REDUCTION ∷ MATCH_FAILURE ∷ DEPTH_EXCEEDED ∷ TRY_ATOMIC_FAILURE ∷ ABORT_OUTSIDE ∷ [])
    ≡ codes "Object" ∷ codes "Exception" ∷ codes "ZZ32" ∷ codes "ZZ64" ∷ codes "String"
    ∷ codes "Boolean" ∷ codes "Range"
    ∷ codes "IntegerOverflow" ∷ codes "DivisionByZero" ∷ codes "NegativeExponent"
    ∷ codes "IndexOutOfRange" ∷ codes "NegativeSize"
    ∷ codes "EmptyReduction" ∷ codes "MatchFailure" ∷ codes "DepthExceeded"
    ∷ codes "TryAtomicFailure" ∷ codes "AbortOutside" ∷ []

-- The built-in declarations have these names, parameters and results, in this order.
abbrev pub TableHasRows : Type 0
TableHasRows = map signature_of declarations ≡ all_rows

-- the location of a single object
abbrev pub place_of : CoreKind → List Loc
place_of kind.Trait = []
place_of kind.Leaf = []
place_of kind.Object = []
place_of (kind.Single l) = l ∷ []

abbrev pub shape_place : CoreShape → List Loc
shape_place s = place_of s.kind

-- The built-in single objects have the locations that the opening store has for them.
abbrev pub ObjectsHavePlaces : Type 0
ObjectsHavePlaces = (first : ℕ)
    → flat_map shape_place (shapes_from first) ≡ map location (object_places first)
