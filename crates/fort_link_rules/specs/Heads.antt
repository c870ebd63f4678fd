-- The chapter "Components and APIs", 701, 702, 703 and 705: what the names of units, their imports
-- and their exports break. The code gathers the places at which each rule is broken.
use Rattle.std.specs.Prelude.{ℕ, ◌≡◌, ◌≢◌, ◌⊎◌, Bool, false, ◌||◌, IsTrue, IsFalse, List, Some, take, slice_get, Any, count_by}
use Rattle.std.specs.List.{list_any}
use Rattle.fort_base.specs.declared.refusal.Place.{Place}
use Rattle.fort_tree.specs.declared.spot.Name.{Name}
use Rattle.fort_tree.specs.Tokens.{Spellings, is_spelled}
use Rattle.fort_link_units.specs.declared.unit.Unit.{Unit}
use Rattle.fort_link_units.specs.declared.unit.Unit.TheVariants as a_unit
use Rattle.fort_link_rules.specs.Units.{is_same, name_of, first_token, is_api, is_executable_api, exports, exports_executable}

-- whether two units are of one kind and have one name
abbrev pub is_like : Unit → Unit → Bool
is_like (a_unit.Component c) (a_unit.Component d) =
    is_same c.parsed.component.name d.parsed.component.name
is_like (a_unit.Api a) (a_unit.Api b) = is_same a.name b.name
is_like (a_unit.Component c) (a_unit.Api b) = false
is_like (a_unit.Api a) (a_unit.Component d) = false

-- The unit at a number is like one before it, or is an API named `Executable`; the place is its
-- name's.
abbrev pub DuplicateAt : Spellings → List Unit → ℕ → Place → Type 0
DuplicateAt names units k place = (u : Unit) × (slice_get units k ≡ Some u)
    × IsTrue (list_any (λ other. is_like other u) (take k units) || is_executable_api names u)
    × ((name_of u).spot.place ≡ place)

-- 701: two components or two APIs have one name, or an API is named `Executable`.
abbrev pub IsDuplicate : Spellings → List Unit → Place → Type 0
IsDuplicate names units place = (k : ℕ) × DuplicateAt names units k place

-- An imported name is no API's.
abbrev pub IsUnknownImport : List Unit → Name → Place → Type 0
IsUnknownImport units name place = IsFalse (list_any (is_api name) units)
    × (name.spot.place ≡ place)

-- An exported name is no API's, nor `Executable`.
abbrev pub IsUnknownExport : Spellings → List Unit → Name → Place → Type 0
IsUnknownExport names units name place =
    IsFalse (list_any (is_api name) units || is_spelled "Executable" names name)
    × (name.spot.place ≡ place)

-- A component imports or exports an unknown name.
abbrev pub UnknownIn : Spellings → List Unit → Unit → Place → Type 0
UnknownIn names units (a_unit.Component c) place =
    Any (λ i. IsUnknownImport units i.name place) c.imports
    ⊎ Any (λ e. IsUnknownExport names units e.name place) c.exports
UnknownIn names units (a_unit.Api a) place = ⊥

-- 702: an imported or exported name is no API among the files, nor `Executable` where it is
-- exported.
abbrev pub IsUnknown : Spellings → List Unit → Place → Type 0
IsUnknown names units place = Any (λ u. UnknownIn names units u place) units

-- An API isn't exported by exactly one component; the place is its name's.
abbrev pub NotExportedOnce : List Unit → Unit → Place → Type 0
NotExportedOnce units (a_unit.Component c) place = ⊥
NotExportedOnce units (a_unit.Api a) place = (count_by (exports a.name) units ≢ 1)
    × (a.name.spot.place ≡ place)

-- 703: an API is exported by no component or by several.
abbrev pub IsNotOneExporter : List Unit → Place → Type 0
IsNotOneExporter units place = Any (λ u. NotExportedOnce units u place) units

-- 705: not exactly one component exports `Executable`; the place is the first file's first token.
abbrev pub IsNotOneMain : Spellings → List Unit → Place → Type 0
IsNotOneMain names units place = (count_by (exports_executable names) units ≢ 1)
    × ((first : Unit) × (slice_get units 0 ≡ Some first) × ((first_token first).place ≡ place))
