-- The parameters of all declarations of a component are solid.
use Rattle.std.proofs.Common.{ℕ, Bool, true, false, cond, List, [], ◌∷◌, map, Option, Some, None}
use Rattle.std.specs.List.{flat_map, AllByRecursion}
use Rattle.fort_base.specs.declared.ty.Ty.{Ty}
use Rattle.fort_base.specs.declared.ty.Ty.TheVariants as a_type
use Rattle.fort_types.specs.Types.{Solid}
use Rattle.fort_core.specs.declared.primitive.Primitive.{Primitive}
use Rattle.fort_tree.specs.declared.declarations.Component.{Component}
use Rattle.fort_tree.specs.declared.declarations.Declaration.{Declaration}
use Rattle.fort_tree.specs.declared.declarations.Declaration.TheVariants as declaration
use Rattle.fort_tree.specs.declared.declarations.MethodParameter.{MethodParameter}
use Rattle.fort_tree.specs.declared.declarations.MethodParameter.TheVariants as method_parameter
use Rattle.fort_tree.specs.declared.declarations.MethodParameters.{MethodParameters}
use Rattle.fort_tree.specs.declared.declarations.Object.{Object}
use Rattle.fort_tree.specs.declared.declarations.ObjectMember.{ObjectMember}
use Rattle.fort_tree.specs.declared.declarations.ObjectMember.TheVariants as object_member
use Rattle.fort_tree.specs.declared.declarations.ObjectParameterList.{ObjectParameterList}
use Rattle.fort_tree.specs.declared.declarations.ObjectParameters.{ObjectParameters}
use Rattle.fort_tree.specs.declared.declarations.Parameters.{Parameters}
use Rattle.fort_tree.specs.declared.declarations.TraitMember.{TraitMember}
use Rattle.fort_tree.specs.declared.declarations.TraitMember.TheVariants as trait_member
use Rattle.fort_types_builtin.specs.declared.table.Simple.{Simple}
use Rattle.fort_types_builtin.specs.declared.table.Simple.TheVariants as simple
use Rattle.fort_types_builtin.specs.declared.table.TheConstants.{DECLARATIONS}
use Rattle.fort_types_builtin.specs.Declarations.{ty_of, declared_by, declarations}
use Rattle.fort_hier.specs.Names.{Spelling, spelling}
use Rattle.fort_hier.specs.Numbers.{number_of}
use Rattle.fort_hier.specs.Tops.{is_functional}
use Rattle.fort_member_fields.specs.Own.{types_of}
use Rattle.fort_member.specs.declared.entries.Entry.{Entry}
use Rattle.fort_member.specs.BuiltIn.{built_in_entry, built_in_entries}
use Rattle.fort_member.specs.Declarations.{parameter_types, next_parameter_type, method_parameter_type, next_method_parameter_type, method_types, type_id, trait_member_entry, trait_entry, object_member_entry, object_entry, next_object_parameter_type, object_types, constructor_entry, entries_at, declared_entries, entries_of}
use Rattle.fort_member.proofs.Numbered.{all_join}
use Rattle.fort_member.proofs.BuiltInLaws.{all_joined}
use Rattle.fort_sound_program.proofs.Solid.{solid_any, solid_named, solid_tuple, written_solid}

-- the parameters of a declaration
abbrev pub HasSolid : Entry → Type 0
HasSolid e = AllByRecursion Solid e.member.parameters

abbrev AreSolid : List Entry → Type 0
AreSolid es = AllByRecursion HasSolid es

all_mapped : {X : Type 0} (f : X → Ty) (xs : List X) → ((x : X) → Solid (f x))
    → AllByRecursion Solid (map f xs)
all_mapped f [] h = tt
all_mapped f (x ∷ xs) h = (h x, all_mapped f xs h)

-- ---- built-in ones

solid_simple : (s : Simple) → Solid (ty_of s)
solid_simple simple.Any = solid_any
solid_simple simple.Unit = solid_tuple [] tt
solid_simple (simple.Declared id) = solid_named id

solid_rows : {R : Type 0} (name : R → List ℕ) (parameters : R → List Simple) (result : R → Simple)
    (primitive : R → Primitive) (rows : List R)
    → AreSolid
    (map built_in_entry
    (map (λ k. declared_by (name k) (parameters k) (result k) (primitive k)) rows))
solid_rows name parameters result primitive [] = tt
solid_rows name parameters result primitive (row ∷ rows) = (
  all_mapped ty_of (parameters row) solid_simple,
  solid_rows name parameters result primitive rows,
)

solid_built_in : AreSolid built_in_entries
unfolding declarations
solid_built_in = solid_rows (λ k. k.0.now) (λ k. k.1.now) (λ k. k.2) (λ k. k.3) DECLARATIONS

-- ---- a component's

module _ (list names : List Spelling) where
  function_solid : (ps : Option Parameters) → AllByRecursion Solid (parameter_types list names ps)
  function_solid None = tt
  function_solid (Some ps) = (
    written_solid list names ps.first.ty,
    all_mapped (next_parameter_type list names) ps.others
        (λ next. written_solid list names next.parameter.ty),
  )

  object_solid : (ps : Option ObjectParameterList)
      → AllByRecursion Solid (object_types list names ps)
  object_solid None = tt
  object_solid (Some ps) = (
    written_solid list names ps.first.ty,
    all_mapped (next_object_parameter_type list names) ps.others
        (λ next. written_solid list names next.parameter.ty),
  )

  module _ (t : ℕ) where
    abbrev self_type : Ty
    self_type = a_type.Named (type_id t)

    parameter_solid : (p : MethodParameter) → Solid (method_parameter_type list names self_type p)
    parameter_solid (method_parameter.Parameter p) = written_solid list names p.ty
    parameter_solid (method_parameter.Self_ s) = solid_named (type_id t)

    types_solid : (ps : Option MethodParameters)
        → AllByRecursion Solid (method_types list names self_type ps)
    types_solid None = tt
    types_solid (Some ps) = (
      parameter_solid ps.first,
      all_mapped (next_method_parameter_type list names self_type) ps.others
          (λ next. parameter_solid next.parameter),
    )

    with_receiver : (b : Bool) (ts : List Ty) → AllByRecursion Solid ts
        → AllByRecursion Solid (cond b ts (self_type ∷ ts))
    with_receiver true ts h = h
    with_receiver false ts h = (solid_named (type_id t), h)

    trait_member_solid : (x : TraitMember) → AreSolid (trait_member_entry list names t x)
    trait_member_solid (trait_member.Field name colon ty) = tt
    trait_member_solid (trait_member.Method m) = (
      with_receiver (is_functional m.parameters) (method_types list names self_type m.parameters)
          (types_solid m.parameters),
      tt,
    )

    object_member_solid : (x : ObjectMember) → AreSolid (object_member_entry list names t x)
    object_member_solid (object_member.Variable v) = tt
    object_member_solid (object_member.Method m) = (
      with_receiver (is_functional m.parameters) (method_types list names self_type m.parameters)
          (types_solid m.parameters),
      tt,
    )

    constructor_solid : (o : Object) (ps : Option ObjectParameters)
        → AreSolid (constructor_entry list names t o ps)
    constructor_solid o None = tt
    constructor_solid o (Some ps) = (object_solid ps.parameters, tt)

  declaration_solid : (d : Declaration) → AreSolid (entries_at list names d)
  declaration_solid (declaration.Variable v) = tt
  declaration_solid (declaration.Function f) = (function_solid f.parameters, tt)
  declaration_solid (declaration.Trait t) = let number = number_of list (spelling names t.name) in
      all_joined HasSolid (trait_entry list names number) t.members
      (λ x. trait_member_solid number x.member)
  declaration_solid (declaration.Object o) = let number = number_of list (spelling names o.name) in
      all_join HasSolid (constructor_entry list names number o o.parameters)
      (flat_map (object_entry list names number) o.members)
      (constructor_solid number o o.parameters)
      (all_joined HasSolid (object_entry list names number) o.members
      (λ x. object_member_solid number x.member))

pub component_solid : (c : Component) → AreSolid (entries_of c)
component_solid c =
    all_join HasSolid built_in_entries
    (flat_map (declared_entries (types_of c) c.names) c.declarations) solid_built_in
    (all_joined HasSolid (declared_entries (types_of c) c.names) c.declarations
    (λ d. declaration_solid (types_of c) c.names d.declaration))
