-- The chapter "Types", names at the top: the numbers of types, and the hierarchy that a component
-- declares. The code looks names up in a map.
use Rattle.std.specs.Prelude.{◌≡◌, ◌<◌, ℕ, suc, List, [], ◌∷◌, ◌++◌, Option, Some, None, cond, map, length, slice_get, Contains}
use Rattle.std.specs.Str.{bytes_eq}
use Rattle.indexmap.specs.IndexMap.{get_by}
use Rattle.fort_base.specs.declared.refusal.Place.{Place}
use Rattle.fort_types.specs.declared.hierarchy.DeclaredType.{DeclaredType}
use Rattle.fort_types.specs.Hierarchy.{DeclaredTypes}
use Rattle.fort_tree.specs.declared.spot.Name.{Name}
use Rattle.fort_hier.specs.declared.heads.TypeHead.{TypeHead}
use Rattle.fort_hier.specs.declared.numbers.Numbers.{Numbers}
use Rattle.fort_types_builtin.specs.declared.types.TheConstants.{OBJECT}
use Rattle.fort_types_builtin.specs.Types.{declared_spellings, any_spelling, built_in_declared}
use Rattle.fort_hier.specs.Names.{Spelling, spelling}

-- the spelling of a declared type
abbrev pub head_spelling : List Spelling → TypeHead → Spelling
head_spelling names head = spelling names head.name

-- The names of the declared types, in the order of their numbers: built-in ones, then the
-- component's.
abbrev pub declared_types : List Spelling → List TypeHead → List Spelling
declared_types names heads = declared_spellings ++ map (head_spelling names) heads

-- The names of all types: `Any` stands behind the declared ones.
abbrev pub all_types : List Spelling → List TypeHead → List Spelling
all_types names heads = declared_types names heads ++ any_spelling ∷ []

-- The number of a spelling in a list of names: the place of the first that is spelled so, or the
-- place behind all.
abbrev pub number_of : List Spelling → Spelling → ℕ
number_of [] s = 0
number_of (x ∷ list) s = cond (bytes_eq s x) 0 (suc (number_of list s))

-- the number of a name
abbrev pub number : List Spelling → List Spelling → Name → ℕ
number list names name = number_of list (spelling names name)

-- A type without `extends` extends `Object`.
abbrev pub extends_numbers : List Spelling → List Spelling → Option (List Name) → List ℕ
extends_numbers list names None = OBJECT.0 ∷ []
extends_numbers list names (Some extends) = map (number list names) extends

-- What a head declares, by numbers.
abbrev pub declared_by : List Spelling → List Spelling → TypeHead → DeclaredType
declared_by list names head = record {
  kind = head.kind;
  extends = extends_numbers list names head.extends;
  excludes = map (number list names) head.excludes;
  comprises = map (number list names) head.comprises;
}

-- The hierarchy that heads declare.
abbrev pub hierarchy_of : List Spelling → List TypeHead → DeclaredTypes
hierarchy_of names heads =
    built_in_declared ++ map (declared_by (all_types names heads) names) heads

-- A name that stands as a type is neither `Any` nor that of a declared type, and this is its place.
abbrev pub IsUnknown : List Spelling → List Spelling → List Name → Place → Type 0
IsUnknown list names mentioned place = (k : ℕ) × (name : Name) × (slice_get mentioned k ≡ Some name)
    × (Contains list (spelling names name) → ⊥) × (place ≡ name.spot.place)

-- ---- the map of numbers

-- What is known of a spelling: its number, or that no name of the list is spelled so.
abbrev pub NumberIs : List Spelling → Spelling → Option ℕ → Type 0
NumberIs list s None = number_of list s ≡ length list
NumberIs list s (Some n) = (number_of list s ≡ n) × (n < length list)

abbrev pub numbered_as : Numbers → Spelling → Option ℕ
numbered_as numbers s = get_by (λ key. bytes_eq s key.now) numbers.known

-- The map has the number of each spelling of a list.
pub record HoldsNumbers (list : List Spelling) (numbers : Numbers) : Type 0 where
  pub knows : (s : Spelling) → NumberIs list s (numbered_as numbers s)
