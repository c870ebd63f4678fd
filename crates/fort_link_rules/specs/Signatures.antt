-- The chapter "Components and APIs", 704: what a declaration is called, of which kind it is, and
-- how its types are written. The names of parameters, and whether a variable can be assigned to,
-- don't matter.
use Rattle.std.specs.Prelude.{List, [], ◌∷◌, ◌++◌, Option}
use Rattle.std.specs.List.{flat_map}
use Rattle.fort_base.specs.declared.refusal.Place.{Place}
use Rattle.fort_tree.specs.declared.declarations.Component.{Component}
use Rattle.fort_tree.specs.declared.declarations.Declaration.{Declaration}
use Rattle.fort_tree.specs.declared.declarations.Declaration.TheVariants as declaration
use Rattle.fort_tree.specs.declared.declarations.Function.{Function}
use Rattle.fort_tree.specs.declared.declarations.FunctionName.{FunctionName}
use Rattle.fort_tree.specs.declared.declarations.FunctionName.TheVariants as function_name
use Rattle.fort_tree.specs.declared.declarations.Parameters.{Parameters}
use Rattle.fort_tree.specs.declared.spot.Name.{Name}
use Rattle.fort_tree.specs.declared.types.TypeTree.{TypeTree}
use Rattle.fort_link_units.specs.declared.unit.ApiDeclaration.{ApiDeclaration}
use Rattle.fort_link_units.specs.declared.unit.ApiDeclaration.TheVariants as api_declaration
use Rattle.fort_link_rules.specs.declared.signatures.Kind.{Kind}
use Rattle.fort_link_rules.specs.declared.signatures.Kind.TheVariants as kind
use Rattle.fort_link_rules.specs.declared.signatures.Signature.{Signature}
use Rattle.fort_link_rules.specs.Symbols.{type_symbols, parameters_symbols}

-- the signature of a variable
abbrev pub variable_signature : Name → TypeTree → Signature
variable_signature name ty =
    record { kind = kind.Variable; name = name.id; symbols = type_symbols ty }

-- the signature of a function
abbrev pub function_signature : Name → Option Parameters → TypeTree → Signature
function_signature name parameters result = record {
  kind = kind.Function;
  name = name.id;
  symbols = parameters_symbols parameters ++ type_symbols result;
}

-- the signature of a trait or object
abbrev pub untyped_signature : Kind → Name → Signature
untyped_signature k name = record { kind = k; name = name.id; symbols = [] }

-- what an API's declaration promises
abbrev pub promised : ApiDeclaration → Signature
promised (api_declaration.Variable name colon ty) = variable_signature name ty
promised (api_declaration.Function f) = function_signature f.name f.parameters f.result
promised (api_declaration.Trait at_trait name) = untyped_signature kind.Trait name
promised (api_declaration.Object object name) = untyped_signature kind.Object name

-- the place of an API's declaration, that of its first token
abbrev pub promised_at : ApiDeclaration → Place
promised_at (api_declaration.Variable name colon ty) = name.spot.place
promised_at (api_declaration.Function f) = f.name.spot.place
promised_at (api_declaration.Trait at_trait name) = at_trait.place
promised_at (api_declaration.Object object name) = object.place

-- what a function provides; an operator provides nothing
abbrev pub provided_by_function : FunctionName → Function → List Signature
provided_by_function (function_name.Name name) f =
    function_signature name f.parameters f.result ∷ []
provided_by_function (function_name.Operator opr sign) f = []
provided_by_function (function_name.Juxtaposition opr name) f = []

-- what a top-level declaration of a component provides
abbrev pub provided_by : Declaration → List Signature
provided_by (declaration.Variable v) = variable_signature v.name v.ty ∷ []
provided_by (declaration.Function f) = provided_by_function f.name f
provided_by (declaration.Trait t) = untyped_signature kind.Trait t.name ∷ []
provided_by (declaration.Object o) = untyped_signature kind.Object o.name ∷ []

-- what a component provides
abbrev pub provided : Component → List Signature
provided c = flat_map (λ d. provided_by d.declaration) c.declarations
