-- The chapter "Components and APIs", 706: names of another component that are used and not
-- imported. No scope is asked: a field, a parameter or a local of that name is no excuse. Operators
-- and methods need no import. The code marks names by their numbers.
use Rattle.std.specs.Prelude.{◌≡◌, IsTrue, IsFalse, if◌then◌else◌, List, [], ◌∷◌, ◌++◌, map, Any}
use Rattle.std.specs.List.{flat_map}
use Rattle.fort_base.specs.declared.refusal.Place.{Place}
use Rattle.fort_tree.specs.declared.declarations.Component.{Component}
use Rattle.fort_tree.specs.declared.declarations.Declaration.{Declaration}
use Rattle.fort_tree.specs.declared.declarations.Declaration.TheVariants as declaration
use Rattle.fort_tree.specs.declared.declarations.FunctionName.{FunctionName}
use Rattle.fort_tree.specs.declared.declarations.FunctionName.TheVariants as function_name
use Rattle.fort_tree.specs.declared.spot.Name.{Name}
use Rattle.fort_tree_atoms.specs.AtomNames.{atom_names}
use Rattle.fort_tree_type_names.specs.TypeNames.{type_names}
use Rattle.fort_link_units.specs.declared.unit.Api.{Api}
use Rattle.fort_link_units.specs.declared.unit.ApiDeclaration.{ApiDeclaration}
use Rattle.fort_link_units.specs.declared.unit.ApiDeclaration.TheVariants as api_declaration
use Rattle.fort_link_units.specs.declared.unit.ComponentUnit.{ComponentUnit}
use Rattle.fort_link_units.specs.declared.unit.Unit.{Unit}
use Rattle.fort_link_units.specs.declared.unit.Unit.TheVariants as a_unit
use Rattle.fort_link_rules.specs.Units.{has_name, imports}

-- the name of a function; an operator has none
abbrev pub function_names : FunctionName → List Name
function_names (function_name.Name name) = name ∷ []
function_names (function_name.Operator opr sign) = []
function_names (function_name.Juxtaposition opr name) = []

-- the name that a declaration declares at the top level
abbrev pub declared_names : Declaration → List Name
declared_names (declaration.Variable v) = v.name ∷ []
declared_names (declaration.Function f) = function_names f.name
declared_names (declaration.Trait t) = t.name ∷ []
declared_names (declaration.Object o) = o.name ∷ []

-- the names that a component declares at its top level
abbrev pub names_declared : Component → List Name
names_declared c = flat_map (λ d. declared_names d.declaration) c.declarations

-- those of a unit; an API declares none
abbrev pub names_declared_in : Unit → List Name
names_declared_in (a_unit.Component c) = names_declared c.parsed.component
names_declared_in (a_unit.Api a) = []

-- the name of an API's declaration
abbrev pub api_name : ApiDeclaration → Name
api_name (api_declaration.Variable name colon ty) = name
api_name (api_declaration.Function f) = f.name
api_name (api_declaration.Trait at_trait name) = name
api_name (api_declaration.Object object name) = name

-- the names of an API
abbrev pub names_of_api : Api → List Name
names_of_api a = map (λ d. api_name d.declaration) a.declarations

-- the names that a component imports from a unit
abbrev pub names_imported_from : ComponentUnit → Unit → List Name
names_imported_from c (a_unit.Component other) = []
names_imported_from c (a_unit.Api a) = if imports a.name c then names_of_api a else []

-- the names that a component declares, and those in the APIs that it imports
abbrev pub names_known : List Unit → ComponentUnit → List Name
names_known units c = names_declared c.parsed.component ++ flat_map (names_imported_from c) units

-- the names that stand in a component as atoms, as types or in lists of names
abbrev pub names_used : Component → List Name
names_used c = atom_names c ++ type_names c

-- A component uses a name that it neither declares nor imports, and a component declares it, which
-- is another one then.
abbrev pub UsesUnknown : List Unit → Unit → Place → Type 0
UsesUnknown units (a_unit.Component c) place = Any (λ name. IsFalse (has_name (names_known units c) name)
    × IsTrue (has_name (flat_map names_declared_in units) name)
    × (name.spot.place ≡ place)) (names_used c.parsed.component)
UsesUnknown units (a_unit.Api a) place = ⊥

-- 706: in a component a name stands as an atom, a type or in a list of names, isn't declared at its
-- top level, is in no API that it imports, and another component declares it at top level.
abbrev pub IsNotImported : List Unit → Place → Type 0
IsNotImported units place = Any (λ u. UsesUnknown units u place) units
