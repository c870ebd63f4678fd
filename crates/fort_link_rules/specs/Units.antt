-- The chapter "Components and APIs": what a unit is called, what it exports and what it imports. A
-- unit is a component or an API; two names are one where their numbers are. The code asks one unit
-- at a time.
use Rattle.std.specs.Prelude.{◌==◌, Bool, false, List}
use Rattle.std.specs.List.{list_any}
use Rattle.fort_tree.specs.declared.spot.Name.{Name}
use Rattle.fort_tree.specs.declared.spot.Spot.{Spot}
use Rattle.fort_tree.specs.Tokens.{Spellings, is_spelled}
use Rattle.fort_link_units.specs.declared.unit.ComponentUnit.{ComponentUnit}
use Rattle.fort_link_units.specs.declared.unit.Unit.{Unit}
use Rattle.fort_link_units.specs.declared.unit.Unit.TheVariants as a_unit

-- whether two names are one
abbrev pub is_same : Name → Name → Bool
is_same a b = a.id.0 == b.id.0

-- whether a name is among names
abbrev pub has_name : List Name → Name → Bool
has_name names name = list_any (λ n. is_same n name) names

-- the name of a unit
abbrev pub name_of : Unit → Name
name_of (a_unit.Component c) = c.parsed.component.name
name_of (a_unit.Api a) = a.name

-- the first token of a unit
abbrev pub first_token : Unit → Spot
first_token (a_unit.Component c) = c.parsed.component.component
first_token (a_unit.Api a) = a.api

-- whether a unit is the API of this name
abbrev pub is_api : Name → Unit → Bool
is_api name (a_unit.Component c) = false
is_api name (a_unit.Api a) = is_same a.name name

-- whether a unit is an API named `Executable`
abbrev pub is_executable_api : Spellings → Unit → Bool
is_executable_api names (a_unit.Component c) = false
is_executable_api names (a_unit.Api a) = is_spelled "Executable" names a.name

-- whether a component imports the API of this name
abbrev pub imports : Name → ComponentUnit → Bool
imports name c = list_any (λ i. is_same i.name name) c.imports

-- whether a unit is a component that exports the API of this name
abbrev pub exports : Name → Unit → Bool
exports name (a_unit.Component c) = list_any (λ e. is_same e.name name) c.exports
exports name (a_unit.Api a) = false

-- whether a unit is a component that exports `Executable`
abbrev pub exports_executable : Spellings → Unit → Bool
exports_executable names (a_unit.Component c) =
    list_any (λ e. is_spelled "Executable" names e.name) c.exports
exports_executable names (a_unit.Api a) = false
