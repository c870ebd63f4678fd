-- The chapter "Members", fields: the fields that a declaration declares, in its order. The code
-- walks the declarations once.
use Rattle.std.specs.Prelude.{Bool, true, false, ◌||◌, is_some, List, [], ◌∷◌, ◌++◌, Option, Some, None, map, replicate}
use Rattle.std.specs.List.{flat_map}
use Rattle.fort_base.specs.declared.refusal.Place.{Place}
use Rattle.fort_tree.specs.declared.declarations.Component.{Component}
use Rattle.fort_tree.specs.declared.declarations.Declaration.{Declaration}
use Rattle.fort_tree.specs.declared.declarations.Declaration.TheVariants as declaration
use Rattle.fort_tree.specs.declared.declarations.Declared.{Declared}
use Rattle.fort_tree.specs.declared.declarations.InitialSign.{InitialSign}
use Rattle.fort_tree.specs.declared.declarations.InitialSign.TheVariants as a_sign
use Rattle.fort_tree.specs.declared.declarations.NextObjectParameter.{NextObjectParameter}
use Rattle.fort_tree.specs.declared.declarations.ObjectEntry.{ObjectEntry}
use Rattle.fort_tree.specs.declared.declarations.ObjectMember.{ObjectMember}
use Rattle.fort_tree.specs.declared.declarations.ObjectMember.TheVariants as object_member
use Rattle.fort_tree.specs.declared.declarations.ObjectParameter.{ObjectParameter}
use Rattle.fort_tree.specs.declared.declarations.ObjectParameterList.{ObjectParameterList}
use Rattle.fort_tree.specs.declared.declarations.ObjectParameters.{ObjectParameters}
use Rattle.fort_tree.specs.declared.declarations.TraitEntry.{TraitEntry}
use Rattle.fort_tree.specs.declared.declarations.TraitMember.{TraitMember}
use Rattle.fort_tree.specs.declared.declarations.TraitMember.TheVariants as trait_member
use Rattle.fort_tree.specs.declared.declarations.Variable.{Variable}
use Rattle.fort_tree.specs.declared.spot.Name.{Name}
use Rattle.fort_tree.specs.declared.spot.Spot.{Spot}
use Rattle.fort_types_builtin.specs.declared.types.TheConstants.{TYPE_COUNT}
use Rattle.fort_hier.specs.Heads.{heads_of}
use Rattle.fort_hier.specs.Names.{Spelling}
use Rattle.fort_hier.specs.Numbers.{all_types}
use Rattle.fort_types_sets.specs.declared.field.Field.{Field}
use Rattle.fort_member_fields.specs.Written.{written}

-- The place of a variable or field: that of its `var`, where it has one, or else of its name.
abbrev pub first_place : Option Spot → Name → Place
first_place None name = name.spot.place
first_place (Some var) name = var.place

-- `:=` makes what it initialises mutable.
abbrev pub becomes : InitialSign → Bool
becomes (a_sign.Equals s) = false
becomes (a_sign.Becomes s) = true

-- A variable, at the top or in an object.
abbrev pub variable_field : List Spelling → List Spelling → Variable → Field
variable_field list names v = record {
  name = v.name.id;
  place = first_place v.var v.name;
  ty = written list names v.ty;
  mutable = is_some v.var || becomes v.sign;
}

-- A value parameter of an object is a field.
abbrev pub parameter_field : List Spelling → List Spelling → ObjectParameter → Field
parameter_field list names p =
    record {
      name = p.name.id;
      place = first_place p.var p.name;
      ty = written list names p.ty;
      mutable = is_some p.var;
    }

abbrev pub next_field : List Spelling → List Spelling → NextObjectParameter → Field
next_field list names next = parameter_field list names next.parameter

abbrev pub list_fields : List Spelling → List Spelling → Option ObjectParameterList → List Field
list_fields list names None = []
list_fields list names (Some l) =
    parameter_field list names l.first ∷ map (next_field list names) l.others

abbrev pub parameter_fields : List Spelling → List Spelling → Option ObjectParameters → List Field
parameter_fields list names None = []
parameter_fields list names (Some p) = list_fields list names p.parameters

-- A method is no field.
abbrev pub object_member_field : List Spelling → List Spelling → ObjectMember → List Field
object_member_field list names (object_member.Variable v) = variable_field list names v ∷ []
object_member_field list names (object_member.Method m) = []

abbrev pub object_field : List Spelling → List Spelling → ObjectEntry → List Field
object_field list names entry = object_member_field list names entry.member

-- A trait's field can't be assigned to.
abbrev pub trait_member_field : List Spelling → List Spelling → TraitMember → List Field
trait_member_field list names (trait_member.Field name colon ty) =
    record { name = name.id; place = name.spot.place; ty = written list names ty; mutable = false }
    ∷ []
trait_member_field list names (trait_member.Method m) = []

abbrev pub trait_field : List Spelling → List Spelling → TraitEntry → List Field
trait_field list names entry = trait_member_field list names entry.member

-- The fields that a declaration declares, where it declares a type: an object's parameters stand
-- before the fields of its body.
abbrev pub own_of : List Spelling → List Spelling → Declaration → List (List Field)
own_of list names (declaration.Variable v) = []
own_of list names (declaration.Function f) = []
own_of list names (declaration.Trait t) = flat_map (trait_field list names) t.members ∷ []
own_of list names (declaration.Object o) =
    (parameter_fields list names o.parameters ++ flat_map (object_field list names) o.members) ∷ []

abbrev pub declared_own : List Spelling → List Spelling → Declared → List (List Field)
declared_own list names d = own_of list names d.declaration

-- the names of all types of a component
abbrev pub types_of : Component → List Spelling
types_of c = all_types c.names (heads_of c)

-- The fields that each type of a component declares, by the types' numbers; a built-in type
-- declares none.
abbrev pub own_fields : Component → List (List Field)
own_fields c =
    replicate TYPE_COUNT [] ++ flat_map (declared_own (types_of c) c.names) c.declarations

-- The variables at the top of a component, in source order.
abbrev pub variables_at : List Spelling → List Spelling → Declaration → List Field
variables_at list names (declaration.Variable v) = variable_field list names v ∷ []
variables_at list names (declaration.Function f) = []
variables_at list names (declaration.Trait t) = []
variables_at list names (declaration.Object o) = []

abbrev pub declared_variables : List Spelling → List Spelling → Declared → List Field
declared_variables list names d = variables_at list names d.declaration

abbrev pub variables_of : Component → List Field
variables_of c = flat_map (declared_variables (types_of c) c.names) c.declarations
