-- The chapter "Typing", declarations: the forms of a component. The code walks the declarations
-- once.
use Rattle.std.specs.Prelude.{List, [], ◌∷◌, ◌++◌, Option, Some, None, codes}
use Rattle.std.specs.List.{flat_map}
use Rattle.fort_base.specs.declared.ids.NameId.{NameId}
use Rattle.fort_base.specs.declared.ids.TypeId.{TypeId}
use Rattle.fort_form.specs.declared.component.BodyForm.{BodyForm}
use Rattle.fort_form.specs.declared.component.Forms.{Forms}
use Rattle.fort_form.specs.declared.component.InitialForm.{InitialForm}
use Rattle.fort_form.specs.declared.form.Parameter.{Parameter}
use Rattle.fort_tree.specs.declared.declarations.Component.{Component}
use Rattle.fort_tree.specs.declared.declarations.Declaration.{Declaration}
use Rattle.fort_tree.specs.declared.declarations.Declaration.TheVariants as declaration
use Rattle.fort_tree.specs.declared.declarations.Declared.{Declared}
use Rattle.fort_tree.specs.declared.declarations.Function.{Function}
use Rattle.fort_tree.specs.declared.declarations.Method.{Method}
use Rattle.fort_tree.specs.declared.declarations.MethodBody.{MethodBody}
use Rattle.fort_tree.specs.declared.declarations.MethodParameter.{MethodParameter}
use Rattle.fort_tree.specs.declared.declarations.MethodParameter.TheVariants as method_parameter
use Rattle.fort_tree.specs.declared.declarations.MethodParameters.{MethodParameters}
use Rattle.fort_tree.specs.declared.declarations.NextMethodParameter.{NextMethodParameter}
use Rattle.fort_tree.specs.declared.declarations.ObjectEntry.{ObjectEntry}
use Rattle.fort_tree.specs.declared.declarations.ObjectMember.{ObjectMember}
use Rattle.fort_tree.specs.declared.declarations.ObjectMember.TheVariants as object_member
use Rattle.fort_tree.specs.declared.declarations.TraitEntry.{TraitEntry}
use Rattle.fort_tree.specs.declared.declarations.TraitMember.{TraitMember}
use Rattle.fort_tree.specs.declared.declarations.TraitMember.TheVariants as trait_member
use Rattle.fort_tree.specs.declared.declarations.Variable.{Variable}
use Rattle.fort_tree.specs.declared.grouped.Groups.{Groups}
use Rattle.fort_tree.specs.declared.spot.Name.{Name}
use Rattle.fort_tree.specs.declared.grouped.FlatGrouping.{FlatGrouping}
use Rattle.fort_hier.specs.Names.{Spelling}
use Rattle.fort_hier.specs.Numbers.{number, number_of}
use Rattle.fort_member_fields.specs.Own.{types_of}
use Rattle.fort_member.specs.Declarations.{function_place, owner_position}
use Rattle.fort_member_fields.specs.Written.{written}
use Rattle.fort_form_meaning.specs.Source.{Source}
use Rattle.fort_form_meaning.specs.Forming.{parameter, parameters}
use Rattle.fort_form_meaning.specs.Formed.{formed_expr}
use Rattle.fort_form_walk.specs.Groupings.{grouping_at}

-- The number of the first name that is `spawn'`, or the one behind all names where none is.
abbrev pub spawn_name : List Spelling → NameId
spawn_name names = record { 0 = number_of names (codes "spawn'") }

-- What the forms hang on: the types' names and the component's tell which type is written, the
-- groupings are found by their places.
pub record Tables : Type 0 where
  pub types : List Spelling
  pub names : List Spelling
  pub groups : List FlatGrouping

abbrev pub source : Tables → Source
source n = record {
  written = written n.types n.names;
  grouping = grouping_at n.groups;
  spawning = spawn_name n.names;
}

-- the type of that name
abbrev pub owner : Tables → Name → TypeId
owner n name = record { 0 = number n.types n.names name }

-- ---- initials

-- The initial of a variable at the top, or of a field of that object.
abbrev pub initial : Tables → Option TypeId → Variable → InitialForm
initial n id v = record {
  owner = id;
  name = v.name.id;
  ty = (source n).written v.ty;
  value = formed_expr (source n) v.value;
}

-- of a member of an object
abbrev pub member_initial : Tables → TypeId → ObjectMember → List InitialForm
member_initial n id (object_member.Variable v) = initial n (Some id) v ∷ []
member_initial n id (object_member.Method m) = []

-- the same with its `;`
abbrev pub entry_initial : Tables → TypeId → ObjectEntry → List InitialForm
entry_initial n id entry = member_initial n id entry.member

-- of a declaration
abbrev pub initials : Tables → Declaration → List InitialForm
initials n (declaration.Variable v) = initial n None v ∷ []
initials n (declaration.Function f) = []
initials n (declaration.Trait t) = []
initials n (declaration.Object o) = flat_map (entry_initial n (owner n o.name)) o.members

-- of a declaration with its `;`
abbrev pub declared_initials : Tables → Declared → List InitialForm
declared_initials n d = initials n d.declaration

-- ---- bodies

-- A function has its parameters bound, and no receiver.
abbrev pub function_body : Tables → Function → BodyForm
function_body n f = record {
  place = function_place f.name;
  owner = None;
  parameters = parameters (source n) f.parameters;
  receiver = None;
  result = (source n).written f.result;
  body = formed_expr (source n) f.body;
}

-- `self` is bound by no parameter.
abbrev pub named_parameter : Tables → MethodParameter → List Parameter
named_parameter n (method_parameter.Parameter p) = parameter (source n) p ∷ []
named_parameter n (method_parameter.Self_ s) = []

-- a further parameter of a method
abbrev pub next_named_parameter : Tables → NextMethodParameter → List Parameter
next_named_parameter n next = named_parameter n next.parameter

-- the parameters of a method that have names
abbrev pub named_parameters : Tables → Option MethodParameters → List Parameter
named_parameters n None = []
named_parameters n (Some list) =
    named_parameter n list.first ++ flat_map (next_named_parameter n) list.others

-- A method of a type has its parameters bound, `self` aside.
abbrev pub method_body : Tables → TypeId → Method → MethodBody → BodyForm
method_body n id m b = record {
  place = function_place m.name;
  owner = Some id;
  parameters = named_parameters n m.parameters;
  receiver = Some (owner_position m);
  result = (source n).written m.result;
  body = formed_expr (source n) b.body;
}

-- A method without a body is no body.
abbrev pub method_bodies : Tables → TypeId → Method → Option MethodBody → List BodyForm
method_bodies n id m None = []
method_bodies n id m (Some b) = method_body n id m b ∷ []

-- of a member of a trait
abbrev pub trait_member_body : Tables → TypeId → TraitMember → List BodyForm
trait_member_body n id (trait_member.Field name colon ty) = []
trait_member_body n id (trait_member.Method m) = method_bodies n id m m.body

-- the same with its `;`
abbrev pub trait_body : Tables → TypeId → TraitEntry → List BodyForm
trait_body n id entry = trait_member_body n id entry.member

-- of a member of an object
abbrev pub object_member_body : Tables → TypeId → ObjectMember → List BodyForm
object_member_body n id (object_member.Variable v) = []
object_member_body n id (object_member.Method m) = method_bodies n id m m.body

-- the same with its `;`
abbrev pub object_body : Tables → TypeId → ObjectEntry → List BodyForm
object_body n id entry = object_member_body n id entry.member

-- of a declaration
abbrev pub bodies : Tables → Declaration → List BodyForm
bodies n (declaration.Variable v) = []
bodies n (declaration.Function f) = function_body n f ∷ []
bodies n (declaration.Trait t) = flat_map (trait_body n (owner n t.name)) t.members
bodies n (declaration.Object o) = flat_map (object_body n (owner n o.name)) o.members

-- of a declaration with its `;`
abbrev pub declared_bodies : Tables → Declared → List BodyForm
declared_bodies n d = bodies n d.declaration

-- ---- components

-- The forms of a component: each initial and each body, in the order of the text.
abbrev pub forms_by : Tables → Component → Forms
forms_by n c = record {
  name = c.name.spot.place;
  initials = flat_map (declared_initials n) c.declarations;
  bodies = flat_map (declared_bodies n) c.declarations;
}

-- what a component and its groupings give the forms to hang on
abbrev pub tables_of : Component → Groups → Tables
tables_of c groups = record { types = types_of c; names = c.names; groups = groups.list }

-- The forms of a component, over the groupings of its flat expressions.
abbrev pub forms_of : Component → Groups → Forms
forms_of c groups = forms_by (tables_of c groups) c
