-- The chapter "Types", names at the top: the names at the top of a component. The code walks the
-- declarations once.
use Rattle.std.specs.Prelude.{Bool, true, false, ◌||◌, cond, List, [], ◌∷◌, ◌++◌, Option, Some, None}
use Rattle.std.specs.List.{flat_map}
use Rattle.fort_tree.specs.declared.declarations.Component.{Component}
use Rattle.fort_tree.specs.declared.declarations.Declaration.{Declaration}
use Rattle.fort_tree.specs.declared.declarations.Declaration.TheVariants as declaration
use Rattle.fort_tree.specs.declared.declarations.Declared.{Declared}
use Rattle.fort_tree.specs.declared.declarations.FunctionName.{FunctionName}
use Rattle.fort_tree.specs.declared.declarations.FunctionName.TheVariants as function_name
use Rattle.fort_tree.specs.declared.declarations.Method.{Method}
use Rattle.fort_tree.specs.declared.declarations.MethodParameter.{MethodParameter}
use Rattle.fort_tree.specs.declared.declarations.MethodParameter.TheVariants as method_parameter
use Rattle.fort_tree.specs.declared.declarations.MethodParameters.{MethodParameters}
use Rattle.fort_tree.specs.declared.declarations.NextMethodParameter.{NextMethodParameter}
use Rattle.fort_tree.specs.declared.declarations.ObjectEntry.{ObjectEntry}
use Rattle.fort_tree.specs.declared.declarations.ObjectMember.{ObjectMember}
use Rattle.fort_tree.specs.declared.declarations.ObjectMember.TheVariants as object_member
use Rattle.fort_tree.specs.declared.declarations.TraitEntry.{TraitEntry}
use Rattle.fort_tree.specs.declared.declarations.TraitMember.{TraitMember}
use Rattle.fort_tree.specs.declared.declarations.TraitMember.TheVariants as trait_member
use Rattle.fort_tree.specs.declared.spot.Name.{Name}
use Rattle.fort_hier.specs.declared.tops.Top.{Top}

-- The name of a variable or type.
abbrev pub named_top : Name → List Top
named_top name = record { name = name; is_function = false } ∷ []

-- The name of a function; an operator is none, nor is `juxtaposition` behind `opr`.
abbrev pub function_top : FunctionName → List Top
function_top (function_name.Name name) = record { name = name; is_function = true } ∷ []
function_top (function_name.Operator opr sign) = []
function_top (function_name.Juxtaposition opr name) = []

-- whether a parameter of a method is `self`
abbrev pub is_self : MethodParameter → Bool
is_self (method_parameter.Parameter p) = false
is_self (method_parameter.Self_ s) = true

-- whether one of further parameters is `self`
abbrev pub has_self : List NextMethodParameter → Bool
has_self [] = false
has_self (next ∷ others) = is_self next.parameter || has_self others

-- Whether a method is functional: whether it has `self` among its parameters.
abbrev pub is_functional : Option MethodParameters → Bool
is_functional None = false
is_functional (Some list) = is_self list.first || has_self list.others

-- A functional method is a function; a dotted one has no name at the top.
abbrev pub method_top : Method → List Top
method_top m = cond (is_functional m.parameters) (function_top m.name) []

-- the name of a member of a trait
abbrev pub trait_member_top : TraitMember → List Top
trait_member_top (trait_member.Field name colon ty) = []
trait_member_top (trait_member.Method method) = method_top method

abbrev pub trait_top : TraitEntry → List Top
trait_top entry = trait_member_top entry.member

-- the name of a member of an object
abbrev pub object_member_top : ObjectMember → List Top
object_member_top (object_member.Variable variable) = []
object_member_top (object_member.Method method) = method_top method

abbrev pub object_top : ObjectEntry → List Top
object_top entry = object_member_top entry.member

-- The names at the top that a declaration has: its own, and behind a type's those of its functional
-- methods.
abbrev pub top_of : Declaration → List Top
top_of (declaration.Variable v) = named_top v.name
top_of (declaration.Function f) = function_top f.name
top_of (declaration.Trait t) = named_top t.name ++ flat_map trait_top t.members
top_of (declaration.Object o) = named_top o.name ++ flat_map object_top o.members

-- the same of a declaration with its `;`
abbrev pub declared_top : Declared → List Top
declared_top d = top_of d.declaration

-- The names at the top of a component, in source order.
abbrev pub tops_of : Component → List Top
tops_of c = flat_map declared_top c.declarations
