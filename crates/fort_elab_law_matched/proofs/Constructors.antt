-- The parameters of a constructor fill the fields of its object.
use Rattle.std.proofs.Common.{◌≡◌, ℕ, ◌+◌, Bool, true, false, ◌&&◌, List, [], ◌∷◌, ◌++◌, length, map, Option, Some, None, refl, sym, ap, ◌∙◌, subst, eqb-true, arith}
use Rattle.std.specs.Prelude.{nat_eq}
use Rattle.std.specs.List.{slice_get, flat_map, AllByRecursion}
use Rattle.std.proofs.lemmas.List.{map-append}
use Rattle.std.proofs.lemmas.Option.{slice_get_within}
use Rattle.fort_base.specs.declared.ids.NameId.{NameId}
use Rattle.fort_base.specs.declared.ids.TypeId.{TypeId}
use Rattle.fort_base.specs.declared.ty.Ty.{Ty}
use Rattle.fort_core.specs.declared.program.CoreField.{CoreField}
use Rattle.fort_machine.specs.Written.{HaveConstants}
use Rattle.fort_tree.specs.declared.declarations.Component.{Component}
use Rattle.fort_tree.specs.declared.declarations.Declaration.{Declaration}
use Rattle.fort_tree.specs.declared.declarations.Declaration.TheVariants as declaration
use Rattle.fort_tree.specs.declared.declarations.Declared.{Declared}
use Rattle.fort_tree.specs.declared.declarations.MethodBody.{MethodBody}
use Rattle.fort_tree.specs.declared.declarations.NextObjectParameter.{NextObjectParameter}
use Rattle.fort_tree.specs.declared.declarations.Object.{Object}
use Rattle.fort_tree.specs.declared.declarations.ObjectMember.{ObjectMember}
use Rattle.fort_tree.specs.declared.declarations.ObjectMember.TheVariants as object_member
use Rattle.fort_tree.specs.declared.declarations.ObjectParameterList.{ObjectParameterList}
use Rattle.fort_tree.specs.declared.declarations.ObjectParameters.{ObjectParameters}
use Rattle.fort_tree.specs.declared.declarations.TraitMember.{TraitMember}
use Rattle.fort_tree.specs.declared.declarations.TraitMember.TheVariants as trait_member
use Rattle.fort_tree.specs.declared.grouped.Groups.{Groups}
use Rattle.fort_tree_type_names.specs.TypeNames.{type_names}
use Rattle.fort_types_builtin.specs.declared.table.BuiltInDeclaration.{BuiltInDeclaration}
use Rattle.fort_types_builtin.specs.Declarations.{declarations}
use Rattle.fort_hier.specs.declared.accepted.Hierarchy.{Hierarchy}
use Rattle.fort_hier.specs.Hierarchies.{IsHierarchy}
use Rattle.fort_hier.specs.Names.{Spelling, spelling}
use Rattle.fort_hier.specs.Numbers.{number_of}
use Rattle.fort_types_sets.specs.declared.field.Field.{Field}
use Rattle.fort_types_sets.specs.declared.member.Members.{Members}
use Rattle.fort_member_fields.specs.Own.{parameter_field, next_field, list_fields, parameter_fields, types_of}
use Rattle.fort_member_fields.specs.Inherited.{EachOnce}
use Rattle.fort_member_fields.proofs.Items.{get_left}
use Rattle.fort_member.specs.declared.entries.Entry.{Entry}
use Rattle.fort_member.specs.Answers.{AreMembers}
use Rattle.fort_member.specs.BuiltIn.{built_in_entry}
use Rattle.fort_member.specs.Declarations.{type_id, method_kind, method_parameters, trait_member_entry, trait_entry, object_member_entry, object_entry, next_object_parameter_type, object_types, constructor_entry, entries_at, declared_entries, entries_of}
use Rattle.fort_member.proofs.Numbered.{all_items, all_join}
use Rattle.fort_member.proofs.BuiltInLaws.{all_joined}
use Rattle.fort_form_walk.specs.FormsOf.{Tables, tables_of, owner}
use Rattle.fort_elab_meaning.specs.Shapes.{Initial, core_field, shapes}
use Rattle.fort_elab_law_written.specs.Matching.{Takes, Fills}
use Rattle.fort_elab_law_matched.proofs.Typed.{typed_keyed, IsFilled}
use Rattle.fort_elab_law_matched.proofs.Types.{all_weaker, types_in, type_number, each_object, IfObject}
use Rattle.fort_elab_law_matched.proofs.Initials.{is_of, has_initial, no_initial, an_initial, of_all, of_object, fields_of, none_in_all, none_in_members, some_in_all, all_have}
use Rattle.fort_elab_law_matched.proofs.Shapes.{get_behind, at, own_once, its_shape}

-- ---- what a constructor takes

abbrev type_of_field : Field → Ty
type_of_field f = f.ty

module _ (texts : List (List ℕ)) (is : List Initial) (id : TypeId) where
  -- a field without a constant, and one with
  abbrev HasNone : Field → Type 0
  HasNone f = has_initial (Some id) f.name (map typed_keyed is) ≡ false

  abbrev HasSome : Field → Type 0
  HasSome f = has_initial (Some id) f.name (map typed_keyed is) ≡ true

  have_constants : (fs : List Field) → AllByRecursion HasSome fs
      → HaveConstants (map (core_field texts is id) fs)
  have_constants [] h = tt
  have_constants (f ∷ fs) h = (an_initial texts (Some id) f.name is h.0, have_constants fs h.1)

  takes : (fs : List Field) (rest : List CoreField) → AllByRecursion HasNone fs → HaveConstants rest
      → Takes (map (core_field texts is id) fs ++ rest) (map type_of_field fs)
  takes [] rest h k = k
  takes (f ∷ fs) rest h k = (no_initial texts (Some id) f.name is h.0, refl, takes fs rest h.1 k)

-- The types of a constructor's parameters are those of their fields.
module _ (list names : List Spelling) where
  further_types : (others : List NextObjectParameter)
      → map type_of_field (map (next_field list names) others)
      ≡ map (next_object_parameter_type list names) others
  further_types [] = refl
  further_types (p ∷ others) =
      ap (λ z. next_object_parameter_type list names p ∷ z) (further_types others)

  parameter_types : (ps : ObjectParameters)
      → map type_of_field (parameter_fields list names (Some ps))
      ≡ object_types list names ps.parameters
  parameter_types ps = by_list ps.parameters
    where
      by_list : (l : Option ObjectParameterList)
          → map type_of_field (list_fields list names l) ≡ object_types list names l
      by_list None = refl
      by_list (Some l) =
          ap (λ z. type_of_field (parameter_field list names l.first) ∷ z) (further_types l.others)

-- ---- names of fields

abbrev name_by : ℕ → NameId
name_by n = record { 0 = n }

name_step : (f g : Field) (b : Bool) → nat_eq g.name.0 f.name.0 ≡ b → (f.name ≡ g.name → ⊥)
    → b ≡ false
name_step f g true e apart = absurd (apart (sym (ap name_by (eqb-true g.name.0 f.name.0 e))))
name_step f g false e apart = refl

-- Of two parts of fields whose names differ, no name of the first is in the second.
names_apart : (front behind : List Field) → EachOnce (front ++ behind) → (i : ℕ) (f : Field)
    → slice_get front i ≡ Some f
    → AllByRecursion (λ (g : Field). nat_eq g.name.0 f.name.0 ≡ false) behind
names_apart front behind once i f e =
    all_items (λ
    (g : Field). nat_eq g.name.0 f.name.0
    ≡ false) behind (λ j g h. name_step f g (nat_eq g.name.0 f.name.0) refl (λ q.
    let same =
    once i (length front + j) f g (get_left front behind i f e)
    (get_behind front behind (length front + j) j refl ∙ h) q
    in let l = slice_get_within front i f e in absurd (omega arith)))

-- ---- the objects of a component

module _ (c : Component) (h : Hierarchy) (is_hierarchy : IsHierarchy c (type_names c) h)
    (m : Members) (has : AreMembers c m) (groups : Groups) where
  abbrev tables : Tables
  tables = tables_of c groups

  abbrev number : Object → ℕ
  number o = number_of (types_of c) (spelling c.names o.name)

  -- the fields of an object's parameters, and of its body
  abbrev front : Object → List Field
  front o = parameter_fields (types_of c) c.names o.parameters

  abbrev behind : Object → List Field
  behind o = fields_of tables o.members

  abbrev StandsAt : ℕ → Object → Type 0
  StandsAt i o = slice_get (types_in c.declarations) i ≡ Some (declaration.Object o)

  -- Objects of one number are one.
  one_object : (i j : ℕ) (o p : Object) → StandsAt i o → StandsAt j p → number o ≡ number p → p ≡ o
  one_object i j o p s t e =
      let a = type_number c h is_hierarchy i (declaration.Object o) s in
      let b = type_number c h is_hierarchy j (declaration.Object p) t in
      let same : i ≡ j = omega arith in
      let both : Some (declaration.Object p) ≡ Some (declaration.Object o) =
      sym t ∙ ap (slice_get (types_in c.declarations)) (sym same) ∙ s in cc

  and_false : (a b : Bool) → b ≡ false → (a && b) ≡ false
  and_false true b e = e
  and_false false b e = refl

  -- A parameter of an object has no initial in an object.
  none_of_other : (i j : ℕ) (o p : Object) (f : Field) → StandsAt i o → StandsAt j p
      → AllByRecursion (λ (g : Field). nat_eq g.name.0 f.name.0 ≡ false) (behind o)
      → (b : Bool) → nat_eq (number p) (number o) ≡ b
      → has_initial (Some (type_id (number o))) f.name (of_object tables p) ≡ false
  none_of_other i j o p f s t apart true e =
      let same = one_object i j o p s t (sym (eqb-true (number p) (number o) e)) in
      let id = type_id (number o) in
      none_in_members tables id f.name (owner tables p.name) p.members
      (subst (λ
      (z : Object). AllByRecursion (λ
      (g : Field). is_of (Some id) f.name (Some (owner tables p.name), g.name)
      ≡ false) (behind z)) (sym same)
      (all_weaker (λ (g : Field). nat_eq g.name.0 f.name.0 ≡ false) (λ
      (g : Field). is_of (Some id) f.name (Some (owner tables p.name), g.name)
      ≡ false) (behind o)
      (λ g q. and_false (nat_eq (number p) (number o)) (nat_eq g.name.0 f.name.0) q) apart))
  none_of_other i j o p f s t apart false e = let id = type_id (number o) in
      none_in_members tables id f.name (owner tables p.name) p.members
      (all_items (λ
      (g : Field). is_of (Some id) f.name (Some (owner tables p.name), g.name)
      ≡ false) (behind p) (λ k g q. ap (λ (b : Bool). b && nat_eq g.name.0 f.name.0) e))

  module _ (i : ℕ) (o : Object) (stands : StandsAt i o) where
    abbrev id : TypeId
    id = type_id (number o)

    number_is : number o ≡ at c i o stands
    number_is = type_number c h is_hierarchy i (declaration.Object o) stands

    once : EachOnce (front o ++ behind o)
    once = own_once c i o stands m has

    none_in_front : AllByRecursion (λ
        (f : Field). has_initial (Some id) f.name (of_all tables c.declarations)
        ≡ false) (front o)
    none_in_front =
        all_items (λ
        (f : Field). has_initial (Some id) f.name (of_all tables c.declarations)
        ≡ false) (front o) (λ k f e.
        none_in_all tables id f.name c.declarations
        (each_object (λ p. has_initial (Some id) f.name (of_object tables p)
        ≡ false) c.declarations
        (λ j p t. none_of_other i j o p f stands t (names_apart (front o) (behind o) once k f e)
        (nat_eq (number p) (number o)) refl)))

    some_behind : AllByRecursion (λ
        (f : Field). has_initial (Some id) f.name (of_all tables c.declarations)
        ≡ true) (behind o)
    some_behind =
        all_weaker (λ (f : Field). has_initial (Some id) f.name (of_object tables o) ≡ true) (λ
        (f : Field). has_initial (Some id) f.name (of_all tables c.declarations)
        ≡ true) (behind o)
        (λ f e. some_in_all tables id f.name c.declarations o e i stands)
        (all_have tables id o.members)

    module _ (texts : List (List ℕ)) (is : List Initial)
        (same : map typed_keyed is ≡ of_all tables c.declarations) where
      takes_its : (ps : ObjectParameters) → o.parameters ≡ Some ps
          → Takes (map (core_field texts is id) (front o ++ behind o))
          (object_types (types_of c) c.names ps.parameters)
      takes_its ps e = let F = core_field texts is id in
          subst (λ z. Takes (map F (front o ++ behind o)) z)
          (ap (λ z. map type_of_field (parameter_fields (types_of c) c.names z)) e
          ∙ parameter_types (types_of c) c.names ps)
          (subst (λ z. Takes z (map type_of_field (front o)))
          (sym (map-append F (front o) (behind o)))
          (takes texts is id (front o) (map F (behind o))
          (subst (λ z. AllByRecursion (λ
          (f : Field). has_initial (Some id) f.name z ≡ false) (front o)) (sym same)
          none_in_front)
          (have_constants texts is id (behind o)
          (subst (λ z. AllByRecursion (λ
          (f : Field). has_initial (Some id) f.name z ≡ true) (behind o)) (sym same)
          some_behind))))

      pub fills : (ps : ObjectParameters) → o.parameters ≡ Some ps
          → Fills (shapes texts is m) id (object_types (types_of c) c.names ps.parameters)
      fills ps e = let w = its_shape c i o stands m has texts is in record {
        shape = w.0;
        is_shape = ap (slice_get (shapes texts is m)) number_is ∙ w.1;
        takes = subst (λ z. Takes z (object_types (types_of c) c.names ps.parameters))
            (sym (w.2
            ∙ ap (λ t. map (core_field texts is (type_id t)) (front o ++ behind o))
            (sym number_is))) (takes_its ps e);
      }

  -- ---- all declarations

  module _ (texts : List (List ℕ)) (is : List Initial)
      (same : map typed_keyed is ≡ of_all tables c.declarations) where
    abbrev IsFull : Entry → Type 0
    IsFull e = IsFilled (shapes texts is m) e.member.kind e.member.parameters

    abbrev AreFull : List Entry → Type 0
    AreFull es = AllByRecursion IsFull es

    method_full : (b : Option MethodBody) (parameters : List Ty)
        → IsFilled (shapes texts is m) (method_kind b) parameters
    method_full None parameters = tt
    method_full (Some b) parameters = tt

    trait_member_full : (t : ℕ) (x : TraitMember)
        → AreFull (trait_member_entry (types_of c) c.names t x)
    trait_member_full t (trait_member.Field name colon ty) = tt
    trait_member_full t (trait_member.Method x) =
        (method_full x.body (method_parameters (types_of c) c.names t x), tt)

    object_member_full : (t : ℕ) (x : ObjectMember)
        → AreFull (object_member_entry (types_of c) c.names t x)
    object_member_full t (object_member.Variable v) = tt
    object_member_full t (object_member.Method x) =
        (method_full x.body (method_parameters (types_of c) c.names t x), tt)

    constructor_full : (i : ℕ) (o : Object) → StandsAt i o → (ps : Option ObjectParameters)
        → o.parameters ≡ ps → AreFull (constructor_entry (types_of c) c.names (number o) o ps)
    constructor_full i o s None e = tt
    constructor_full i o s (Some ps) e = (fills i o s texts is same ps e, tt)

    object_full : (i : ℕ) (o : Object) → StandsAt i o
        → AreFull (entries_at (types_of c) c.names (declaration.Object o))
    object_full i o s =
        all_join IsFull (constructor_entry (types_of c) c.names (number o) o o.parameters)
        (flat_map (object_entry (types_of c) c.names (number o)) o.members)
        (constructor_full i o s o.parameters refl)
        (all_joined IsFull (object_entry (types_of c) c.names (number o)) o.members
        (λ x. object_member_full (number o) x.member))

    declaration_full : (d : Declaration)
        → IfObject (λ o. AreFull (entries_at (types_of c) c.names (declaration.Object o))) d
        → AreFull (entries_at (types_of c) c.names d)
    declaration_full (declaration.Variable v) k = tt
    declaration_full (declaration.Function f) k = (tt, tt)
    declaration_full (declaration.Trait t) k =
        let number = number_of (types_of c) (spelling c.names t.name) in
        all_joined IsFull (trait_entry (types_of c) c.names number) t.members
        (λ x. trait_member_full number x.member)
    declaration_full (declaration.Object o) k = k

    all_full : (ds : List Declared)
        → AllByRecursion (λ
        (d : Declared). IfObject
        (λ o. AreFull (entries_at (types_of c) c.names (declaration.Object o))) d.declaration)
        ds
        → AreFull (flat_map (declared_entries (types_of c) c.names) ds)
    all_full [] k = tt
    all_full (d ∷ ds) k =
        all_join IsFull (declared_entries (types_of c) c.names d)
        (flat_map (declared_entries (types_of c) c.names) ds) (declaration_full d.declaration k.0)
        (all_full ds k.1)

    built_in_full : (ds : List BuiltInDeclaration) → AreFull (map built_in_entry ds)
    built_in_full [] = tt
    built_in_full (d ∷ ds) = (tt, built_in_full ds)

    -- Each constructor's parameters fill the fields of its object.
    pub component_full : AreFull (entries_of c)
    component_full =
        all_join IsFull (map built_in_entry declarations)
        (flat_map (declared_entries (types_of c) c.names) c.declarations)
        (built_in_full declarations)
        (all_full c.declarations
        (each_object (λ o. AreFull (entries_at (types_of c) c.names (declaration.Object o)))
        c.declarations object_full))
