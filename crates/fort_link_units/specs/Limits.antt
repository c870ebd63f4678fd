-- The chapter "Components and APIs", limits: which units pass a limit, and where. The code counts
-- while it walks an API.
use Rattle.std.specs.Prelude.{◌≡◌, List, [], ◌∷◌, ◌++◌, map}
use Rattle.std.specs.List.{Contains}
use Rattle.fort_base.specs.Places.{IsBefore}
use Rattle.fort_base.specs.declared.refusal.Place.{Place}
use Rattle.fort_tree.specs.Types.{parameter_count}
use Rattle.fort_tree.specs.Measured.{Measured, made_of, over, all_crowded, most_parameters, most_declarations}
use Rattle.fort_tree.specs.Measures.{measured_type, measured_parameters}
use Rattle.fort_tree.specs.Limits.{crowded, first_behind}
use Rattle.fort_link_units.specs.declared.unit.Api.{Api}
use Rattle.fort_link_units.specs.declared.unit.ApiDeclaration.{ApiDeclaration}
use Rattle.fort_link_units.specs.declared.unit.ApiDeclaration.TheVariants as declaration
use Rattle.fort_link_units.specs.declared.unit.FunctionHead.{FunctionHead}
use Rattle.fort_link_units.specs.declared.unit.Unit.{Unit}
use Rattle.fort_link_units.specs.declared.unit.Unit.TheVariants as a_unit

-- what the head of a function measures; its parameters are counted
abbrev pub measured_head : FunctionHead → Measured
measured_head f = let at = f.name.spot in
    made_of at (over most_parameters (parameter_count f.parameters) at.place)
    (measured_parameters f.parameters ++ measured_type f.result ∷ [])

-- what a declaration of an API measures
abbrev pub measured_api_declaration : ApiDeclaration → Measured
measured_api_declaration (declaration.Variable name colon ty) =
    made_of name.spot [] (measured_type ty ∷ [])
measured_api_declaration (declaration.Function head) = measured_head head
measured_api_declaration (declaration.Trait s name) = made_of s [] []
measured_api_declaration (declaration.Object s name) = made_of s [] []

-- the declarations of an API
abbrev pub measured_api : Api → List Measured
measured_api a = map (λ d. measured_api_declaration d.declaration) a.declarations

-- the places of what passes a limit in an API: the first declaration too many, and crowded lists of
-- parameters and of types
abbrev pub api_crowded : Api → List Place
api_crowded a =
    first_behind most_declarations
    (map (λ d. (measured_api_declaration d.declaration).spot.place) a.declarations)
    ++ all_crowded (measured_api a)

-- the places of what passes a limit in a unit
abbrev pub unit_crowded : Unit → List Place
unit_crowded (a_unit.Component u) = crowded u.parsed.component
unit_crowded (a_unit.Api a) = api_crowded a

-- A unit passes a limit, and this is the earliest place of what passes one.
abbrev pub BreaksUnitLimit : Unit → Place → Type 0
BreaksUnitLimit u at = Contains (unit_crowded u) at
    × ((other : Place) → Contains (unit_crowded u) other → ¬ (IsBefore other at))

-- A unit passes no limit.
abbrev pub KeepsUnitLimits : Unit → Type 0
KeepsUnitLimits u = unit_crowded u ≡ []
