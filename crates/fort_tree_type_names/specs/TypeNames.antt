-- The chapter "Types": the names that stand as types in a component. The code puts them at the end
-- of one list as it walks.
use Rattle.std.specs.Prelude.{List, [], ◌∷◌, ◌++◌, Option, Some, None, map}
use Rattle.std.specs.List.{flat_map}
use Rattle.fort_tree.specs.declared.spot.Name.{Name}
use Rattle.fort_tree.specs.declared.declarations.Component.{Component}
use Rattle.fort_tree.specs.declared.declarations.Comprises.{Comprises}
use Rattle.fort_tree.specs.declared.declarations.Declaration.{Declaration}
use Rattle.fort_tree.specs.declared.declarations.Declaration.TheVariants as declaration
use Rattle.fort_tree.specs.declared.declarations.Excludes.{Excludes}
use Rattle.fort_tree.specs.declared.declarations.Extends.{Extends}
use Rattle.fort_tree.specs.declared.declarations.Function.{Function}
use Rattle.fort_tree.specs.declared.declarations.Method.{Method}
use Rattle.fort_tree.specs.declared.declarations.MethodBody.{MethodBody}
use Rattle.fort_tree.specs.declared.declarations.MethodParameter.{MethodParameter}
use Rattle.fort_tree.specs.declared.declarations.MethodParameter.TheVariants as method_parameter
use Rattle.fort_tree.specs.declared.declarations.MethodParameters.{MethodParameters}
use Rattle.fort_tree.specs.declared.declarations.Names.{Names}
use Rattle.fort_tree.specs.declared.declarations.Names.TheVariants as names_of
use Rattle.fort_tree.specs.declared.declarations.Object.{Object}
use Rattle.fort_tree.specs.declared.declarations.ObjectMember.{ObjectMember}
use Rattle.fort_tree.specs.declared.declarations.ObjectMember.TheVariants as object_member
use Rattle.fort_tree.specs.declared.declarations.ObjectParameterList.{ObjectParameterList}
use Rattle.fort_tree.specs.declared.declarations.ObjectParameters.{ObjectParameters}
use Rattle.fort_tree.specs.declared.declarations.Trait.{Trait}
use Rattle.fort_tree.specs.declared.declarations.TraitMember.{TraitMember}
use Rattle.fort_tree.specs.declared.declarations.TraitMember.TheVariants as trait_member
use Rattle.fort_tree_type_names.specs.Mentions.{mentioned_type, mentioned_parameters}
use Rattle.fort_tree_type_names.specs.Mentioning.{mentioned_expr, mentioned_variable}

-- of a function
abbrev pub mentioned_function : Function → List Name
mentioned_function f =
    mentioned_parameters f.parameters ++ (mentioned_type f.result ++ mentioned_expr f.body)

-- of a parameter of a method
abbrev pub mentioned_method_parameter : MethodParameter → List Name
mentioned_method_parameter (method_parameter.Parameter p) = mentioned_type p.ty
mentioned_method_parameter (method_parameter.Self_ s) = []

-- of the parameters of a method
abbrev pub mentioned_method_parameters : Option MethodParameters → List Name
mentioned_method_parameters None = []
mentioned_method_parameters (Some list) =
    mentioned_method_parameter list.first
    ++ flat_map (λ next. mentioned_method_parameter next.parameter) list.others

-- of a method's body
abbrev pub mentioned_body : Option MethodBody → List Name
mentioned_body None = []
mentioned_body (Some b) = mentioned_expr b.body

-- of a method
abbrev pub mentioned_method : Method → List Name
mentioned_method m =
    mentioned_method_parameters m.parameters ++ (mentioned_type m.result ++ mentioned_body m.body)

-- the names of a list of names
abbrev pub listed_names : Names → List Name
listed_names (names_of.One name) = name ∷ []
listed_names (names_of.Braces left first others right) = first ∷ map (λ next. next.name) others

-- the names of an `extends`
abbrev pub extended : Option Extends → List Name
extended None = []
extended (Some e) = listed_names e.names

-- the names of an `excludes`
abbrev pub excluded : Option Excludes → List Name
excluded None = []
excluded (Some e) = listed_names e.names

-- the names of a `comprises`
abbrev pub comprised : Option Comprises → List Name
comprised None = []
comprised (Some c) = listed_names c.names

-- of a member of a trait
abbrev pub mentioned_trait_member : TraitMember → List Name
mentioned_trait_member (trait_member.Field name colon ty) = mentioned_type ty
mentioned_trait_member (trait_member.Method method) = mentioned_method method

-- of a trait
abbrev pub mentioned_trait : Trait → List Name
mentioned_trait t =
    extended t.extends
    ++ (excluded t.excludes
    ++ (comprised t.comprises ++ flat_map (λ e. mentioned_trait_member e.member) t.members))

-- of a member of an object
abbrev pub mentioned_object_member : ObjectMember → List Name
mentioned_object_member (object_member.Variable variable) = mentioned_variable variable
mentioned_object_member (object_member.Method method) = mentioned_method method

-- of a list of parameters of an object
abbrev pub mentioned_object_parameter_list : Option ObjectParameterList → List Name
mentioned_object_parameter_list None = []
mentioned_object_parameter_list (Some list) =
    mentioned_type list.first.ty ++ flat_map (λ next. mentioned_type next.parameter.ty) list.others

-- of the parameters of an object
abbrev pub mentioned_object_parameters : Option ObjectParameters → List Name
mentioned_object_parameters None = []
mentioned_object_parameters (Some p) = mentioned_object_parameter_list p.parameters

-- of an object
abbrev pub mentioned_object : Object → List Name
mentioned_object o =
    mentioned_object_parameters o.parameters
    ++ (extended o.extends ++ flat_map (λ e. mentioned_object_member e.member) o.members)

-- of a declaration
abbrev pub mentioned_declaration : Declaration → List Name
mentioned_declaration (declaration.Variable variable) = mentioned_variable variable
mentioned_declaration (declaration.Function function) = mentioned_function function
mentioned_declaration (declaration.Trait tr) = mentioned_trait tr
mentioned_declaration (declaration.Object object) = mentioned_object object

-- The names that stand as types in a component, in the order of the text, each as often as it
-- stands there.
abbrev pub type_names : Component → List Name
type_names c = flat_map (λ d. mentioned_declaration d.declaration) c.declarations
