-- The chapter "Members", declarations: what each declaration of a component adds to the overload
-- sets. The code walks the declarations once.
use Rattle.std.specs.Prelude.{ℕ, suc, false, not, cond, List, [], ◌∷◌, ◌++◌, Option, Some, None, map, codes, get_or}
use Rattle.std.specs.List.{flat_map}
use Rattle.fort_base.specs.declared.ids.TypeId.{TypeId}
use Rattle.fort_base.specs.declared.refusal.Place.{Place}
use Rattle.fort_base.specs.declared.ty.Ty.{Ty}
use Rattle.fort_base.specs.declared.ty.Ty.TheVariants as a_type
use Rattle.fort_ops.specs.declared.op.Op.{Op}
use Rattle.fort_ops.specs.declared.op.Op.TheVariants as an_op
use Rattle.fort_tree.specs.declared.declarations.Component.{Component}
use Rattle.fort_tree.specs.declared.declarations.Declaration.{Declaration}
use Rattle.fort_tree.specs.declared.declarations.Declaration.TheVariants as declaration
use Rattle.fort_tree.specs.declared.declarations.Declared.{Declared}
use Rattle.fort_tree.specs.declared.declarations.Function.{Function}
use Rattle.fort_tree.specs.declared.declarations.FunctionName.{FunctionName}
use Rattle.fort_tree.specs.declared.declarations.FunctionName.TheVariants as function_name
use Rattle.fort_tree.specs.declared.declarations.Method.{Method}
use Rattle.fort_tree.specs.declared.declarations.MethodBody.{MethodBody}
use Rattle.fort_tree.specs.declared.declarations.MethodParameter.{MethodParameter}
use Rattle.fort_tree.specs.declared.declarations.MethodParameter.TheVariants as method_parameter
use Rattle.fort_tree.specs.declared.declarations.MethodParameters.{MethodParameters}
use Rattle.fort_tree.specs.declared.declarations.NextMethodParameter.{NextMethodParameter}
use Rattle.fort_tree.specs.declared.declarations.NextObjectParameter.{NextObjectParameter}
use Rattle.fort_tree.specs.declared.declarations.NextParameter.{NextParameter}
use Rattle.fort_tree.specs.declared.declarations.Object.{Object}
use Rattle.fort_tree.specs.declared.declarations.ObjectEntry.{ObjectEntry}
use Rattle.fort_tree.specs.declared.declarations.ObjectMember.{ObjectMember}
use Rattle.fort_tree.specs.declared.declarations.ObjectMember.TheVariants as object_member
use Rattle.fort_tree.specs.declared.declarations.ObjectParameterList.{ObjectParameterList}
use Rattle.fort_tree.specs.declared.declarations.ObjectParameters.{ObjectParameters}
use Rattle.fort_tree.specs.declared.declarations.Parameters.{Parameters}
use Rattle.fort_tree.specs.declared.declarations.TraitEntry.{TraitEntry}
use Rattle.fort_tree.specs.declared.declarations.TraitMember.{TraitMember}
use Rattle.fort_tree.specs.declared.declarations.TraitMember.TheVariants as trait_member
use Rattle.fort_hier.specs.Names.{Spelling, spelling}
use Rattle.fort_hier.specs.Numbers.{number_of}
use Rattle.fort_hier.specs.Tops.{is_self, is_functional}
use Rattle.fort_member.specs.declared.entries.Entry.{Entry}
use Rattle.fort_types_sets.specs.declared.member.Member.{Member}
use Rattle.fort_types_sets.specs.declared.member.MemberKind.{MemberKind}
use Rattle.fort_types_sets.specs.declared.member.MemberKind.TheVariants as a_kind
use Rattle.fort_member_fields.specs.Own.{types_of}
use Rattle.fort_member_fields.specs.Written.{written}
use Rattle.fort_member.specs.BuiltIn.{built_in_entries}

-- ---- names

-- An operator's set has its first spelling as name; an operator word is its own name.
abbrev pub operator_spelling : List Spelling → Op → Spelling
operator_spelling names an_op.Juxt = codes "juxtaposition"
operator_spelling names an_op.Times = codes "TIMES"
operator_spelling names an_op.Dot = codes "DOT"
operator_spelling names an_op.Div = codes "DIV"
operator_spelling names an_op.Rem = codes "REM"
operator_spelling names an_op.Mod = codes "MOD"
operator_spelling names an_op.Max = codes "MAX"
operator_spelling names an_op.Min = codes "MIN"
operator_spelling names an_op.Gcd = codes "GCD"
operator_spelling names an_op.Lcm = codes "LCM"
operator_spelling names an_op.Plus = codes "+"
operator_spelling names an_op.Minus = codes "-"
operator_spelling names an_op.BitAnd = codes "BITAND"
operator_spelling names an_op.BitOr = codes "BITOR"
operator_spelling names an_op.BitXor = codes "BITXOR"
operator_spelling names an_op.LShift = codes "LSHIFT"
operator_spelling names an_op.RShift = codes "RSHIFT"
operator_spelling names an_op.Range = codes ":"
operator_spelling names an_op.Count = codes "#"
operator_spelling names an_op.Eq = codes "="
operator_spelling names an_op.Ne = codes "=/="
operator_spelling names an_op.Lt = codes "<"
operator_spelling names an_op.Le = codes "<="
operator_spelling names an_op.Gt = codes ">"
operator_spelling names an_op.Ge = codes ">="
operator_spelling names an_op.Same = codes "==="
operator_spelling names an_op.And = codes "AND"
operator_spelling names an_op.Or = codes "OR"
operator_spelling names an_op.Not = codes "NOT"
operator_spelling names an_op.Power = codes "^"
operator_spelling names (an_op.Word n) = get_or names n []

-- the name of a function's or method's set
abbrev pub set_name : List Spelling → FunctionName → Spelling
set_name names (function_name.Name name) = spelling names name
set_name names (function_name.Operator opr sign) = operator_spelling names sign.op
set_name names (function_name.Juxtaposition opr name) = spelling names name

-- the place of a function or method: that of its first token
abbrev pub function_place : FunctionName → Place
function_place (function_name.Name name) = name.spot.place
function_place (function_name.Operator opr sign) = opr.place
function_place (function_name.Juxtaposition opr name) = opr.place

-- ---- functions

abbrev pub next_parameter_type : List Spelling → List Spelling → NextParameter → Ty
next_parameter_type list names next = written list names next.parameter.ty

abbrev pub parameter_types : List Spelling → List Spelling → Option Parameters → List Ty
parameter_types list names None = []
parameter_types list names (Some ps) =
    written list names ps.first.ty ∷ map (next_parameter_type list names) ps.others

abbrev pub function_entry : List Spelling → List Spelling → Function → Entry
function_entry list names f = record {
  name = set_name names f.name;
  dotted = false;
  member = record {
    place = Some (function_place f.name);
    parameters = parameter_types list names f.parameters;
    result = written list names f.result;
    owner = None;
    kind = a_kind.Concrete;
  };
}

-- ---- methods

-- `self` has the type that declares the method.
abbrev pub method_parameter_type : List Spelling → List Spelling → Ty → MethodParameter → Ty
method_parameter_type list names self_type (method_parameter.Parameter p) = written list names p.ty
method_parameter_type list names self_type (method_parameter.Self_ s) = self_type

abbrev pub next_method_parameter_type : List Spelling → List Spelling → Ty → NextMethodParameter
    → Ty
next_method_parameter_type list names self_type next =
    method_parameter_type list names self_type next.parameter

abbrev pub method_types : List Spelling → List Spelling → Ty → Option MethodParameters → List Ty
method_types list names self_type None = []
method_types list names self_type (Some ps) =
    method_parameter_type list names self_type ps.first
    ∷ map (next_method_parameter_type list names self_type) ps.others

-- The position of the first `self` of further parameters, where there is one.
abbrev pub self_among : List NextMethodParameter → ℕ
self_among [] = 0
self_among (next ∷ others) = cond (is_self next.parameter) 0 (suc (self_among others))

-- The position of `self` in a functional method, counted from 0.
abbrev pub self_position : Option MethodParameters → ℕ
self_position None = 0
self_position (Some ps) = cond (is_self ps.first) 0 (suc (self_among ps.others))

-- A method without a body is abstract.
abbrev pub method_kind : Option MethodBody → MemberKind
method_kind None = a_kind.Abstract
method_kind (Some b) = a_kind.Concrete

-- the number of a type
abbrev pub type_id : ℕ → TypeId
type_id t = record { 0 = t }

-- A functional method is a function with `self` among its parameters; a dotted one has its receiver
-- as first parameter.
abbrev pub method_parameters : List Spelling → List Spelling → ℕ → Method → List Ty
method_parameters list names t m =
    cond (is_functional m.parameters)
    (method_types list names (a_type.Named (type_id t)) m.parameters)
    (a_type.Named (type_id t) ∷ method_types list names (a_type.Named (type_id t)) m.parameters)

-- the position of `self` or of the receiver
abbrev pub owner_position : Method → ℕ
owner_position m = cond (is_functional m.parameters) (self_position m.parameters) 0

abbrev pub method_member : List Spelling → List Spelling → ℕ → Method → Member
method_member list names t m = record {
  place = Some (function_place m.name);
  parameters = method_parameters list names t m;
  result = written list names m.result;
  owner = Some (owner_position m, type_id t);
  kind = method_kind m.body;
}

abbrev pub method_entry : List Spelling → List Spelling → ℕ → Method → Entry
method_entry list names t m =
    record {
      name = set_name names m.name;
      dotted = not (is_functional m.parameters);
      member = method_member list names t m;
    }

abbrev pub trait_member_entry : List Spelling → List Spelling → ℕ → TraitMember → List Entry
trait_member_entry list names t (trait_member.Field name colon ty) = []
trait_member_entry list names t (trait_member.Method m) = method_entry list names t m ∷ []

abbrev pub trait_entry : List Spelling → List Spelling → ℕ → TraitEntry → List Entry
trait_entry list names t entry = trait_member_entry list names t entry.member

abbrev pub object_member_entry : List Spelling → List Spelling → ℕ → ObjectMember → List Entry
object_member_entry list names t (object_member.Variable v) = []
object_member_entry list names t (object_member.Method m) = method_entry list names t m ∷ []

abbrev pub object_entry : List Spelling → List Spelling → ℕ → ObjectEntry → List Entry
object_entry list names t entry = object_member_entry list names t entry.member

-- ---- constructors

abbrev pub next_object_parameter_type : List Spelling → List Spelling → NextObjectParameter → Ty
next_object_parameter_type list names next = written list names next.parameter.ty

abbrev pub object_types : List Spelling → List Spelling → Option ObjectParameterList → List Ty
object_types list names None = []
object_types list names (Some ps) =
    written list names ps.first.ty ∷ map (next_object_parameter_type list names) ps.others

-- An object with parentheses, empty ones too, has a constructor; one without is a single object.
abbrev pub constructor_entry : List Spelling → List Spelling → ℕ → Object → Option ObjectParameters
    → List Entry
constructor_entry list names t o None = []
constructor_entry list names t o (Some ps) = record {
  name = spelling names o.name;
  dotted = false;
  member = record {
    place = Some o.name.spot.place;
    parameters = object_types list names ps.parameters;
    result = a_type.Named (type_id t);
    owner = None;
    kind = a_kind.Constructor (type_id t);
  };
} ∷ []

-- ---- all

-- What a declaration adds, in source order.
abbrev pub entries_at : List Spelling → List Spelling → Declaration → List Entry
entries_at list names (declaration.Variable v) = []
entries_at list names (declaration.Function f) = function_entry list names f ∷ []
entries_at list names (declaration.Trait t) =
    flat_map (trait_entry list names (number_of list (spelling names t.name))) t.members
entries_at list names (declaration.Object o) =
    constructor_entry list names (number_of list (spelling names o.name)) o o.parameters
    ++ flat_map (object_entry list names (number_of list (spelling names o.name))) o.members

abbrev pub declared_entries : List Spelling → List Spelling → Declared → List Entry
declared_entries list names d = entries_at list names d.declaration

-- All declarations that stand in overload sets: built-in ones, then the component's in source
-- order.
abbrev pub entries_of : Component → List Entry
entries_of c = built_in_entries ++ flat_map (declared_entries (types_of c) c.names) c.declarations
