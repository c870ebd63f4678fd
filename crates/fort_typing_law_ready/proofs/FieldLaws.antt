-- The types of fields and of variables at the top have numbers of the hierarchy.
use Rattle.std.proofs.Common.{◌≡◌, ◌<◌, ℕ, zero, suc, List, [], ◌∷◌, ◌++◌, length, map, replicate, Option, Some, None, refl, sym, subst, ap, ◌∙◌}
use Rattle.std.specs.List.{slice_get, AllByRecursion, flat_map, Contains}
use Rattle.fort_base.specs.declared.ty.Ty.{Ty}
use Rattle.fort_types.specs.Types.{IsNumbered}
use Rattle.fort_types.specs.Hierarchy.{DeclaredTypes}
use Rattle.fort_tree.specs.declared.declarations.Declaration.{Declaration}
use Rattle.fort_tree.specs.declared.declarations.Declaration.TheVariants as declaration
use Rattle.fort_tree.specs.declared.declarations.Declared.{Declared}
use Rattle.fort_tree.specs.declared.declarations.NextObjectParameter.{NextObjectParameter}
use Rattle.fort_tree.specs.declared.declarations.Object.{Object}
use Rattle.fort_tree.specs.declared.declarations.ObjectEntry.{ObjectEntry}
use Rattle.fort_tree.specs.declared.declarations.ObjectMember.{ObjectMember}
use Rattle.fort_tree.specs.declared.declarations.ObjectMember.TheVariants as object_member
use Rattle.fort_tree.specs.declared.declarations.ObjectParameterList.{ObjectParameterList}
use Rattle.fort_tree.specs.declared.declarations.ObjectParameters.{ObjectParameters}
use Rattle.fort_tree.specs.declared.declarations.Trait.{Trait}
use Rattle.fort_tree.specs.declared.declarations.TraitEntry.{TraitEntry}
use Rattle.fort_tree.specs.declared.declarations.TraitMember.{TraitMember}
use Rattle.fort_tree.specs.declared.declarations.TraitMember.TheVariants as trait_member
use Rattle.fort_tree.specs.declared.declarations.Variable.{Variable, out-Variable}
use Rattle.fort_tree.specs.declared.spot.Name.{Name}
use Rattle.fort_tree.specs.declared.types.TypeTree.{TypeTree}
use Rattle.fort_tree_type_names.specs.Mentions.{mentioned_type}
use Rattle.fort_tree_type_names.specs.Mentioning.{mentioned_expr, mentioned_variable}
use Rattle.fort_tree_type_names.specs.TypeNames.{mentioned_declaration, mentioned_trait_member, mentioned_object_member, mentioned_object_parameter_list, mentioned_object_parameters, extended, excluded, comprised}
use Rattle.fort_tree_type_names.proofs.MentionsBlocks.{variable_mentions}
use Rattle.fort_hier.specs.Names.{Spelling, spelling}
use Rattle.fort_types_sets.specs.declared.field.Field.{Field}
use Rattle.fort_member_fields.specs.Inherited.{Declares, Has, declared, inherited}
use Rattle.fort_member_fields.specs.Own.{variable_field, parameter_field, next_field, list_fields, parameter_fields, object_member_field, object_field, trait_member_field, trait_field, own_of, declared_own, variables_at, declared_variables}
use Rattle.fort_member_fields.specs.Written.{named, written}
use Rattle.fort_member_fields.proofs.Items.{get_of}
use Rattle.fort_member.proofs.Numbered.{all_left, all_right, all_join, all_item, written_numbered}

-- the type of a field has a number of the hierarchy
abbrev pub IsHeld : ℕ → Field → Type 0
IsHeld n f = IsNumbered n f.ty

abbrev pub AreHeld : ℕ → List Field → Type 0
AreHeld n fs = AllByRecursion (IsHeld n) fs

pub none_held : (n k : ℕ) → AllByRecursion (AreHeld n) (replicate k [])
none_held n zero = tt
none_held n (suc k) = (tt, none_held n k)

-- fields that types have are held where those that they declare are
pub has_held : (n : ℕ) (h : DeclaredTypes) (own : List (List Field))
    → AllByRecursion (AreHeld n) own → (a : ℕ) (f : Field) → Has h own a f → IsHeld n f
has_held n h own all a f (declared d) =
    let at = get_of d.0 f d.2
    in all_item (IsHeld n) d.0 at.0 f (all_item (AreHeld n) own a d.0 all d.1) at.1
has_held n h own all a f (inherited t none extends has) = has_held n h own all _ f has

module _ (n : ℕ) (list names : List Spelling) (Known : Name → Type 0)
    (known : (x : Name) → Known x → IsNumbered n (named list (spelling names x))) where
  abbrev AreKnown : List Name → Type 0
  AreKnown = AllByRecursion Known

  joined : {X : Type 0} (f : X → List Field) (m : X → List Name)
      → ((x : X) → AreKnown (m x) → AreHeld n (f x)) → (xs : List X) → AreKnown (flat_map m xs)
      → AreHeld n (flat_map f xs)
  joined f m each [] k = tt
  joined f m each (x ∷ xs) k =
      all_join (IsHeld n) (f x) (flat_map f xs) (each x (all_left Known (m x) (flat_map m xs) k))
      (joined f m each xs (all_right Known (m x) (flat_map m xs) k))

  type_held : (t : TypeTree) → AreKnown (mentioned_type t) → IsNumbered n (written list names t)
  type_held = written_numbered n list names Known known

  variable_held : (v : Variable) → AreKnown (mentioned_variable v)
      → IsHeld n (variable_field list names v)
  variable_held v k =
      type_held v.ty
      (all_left Known (mentioned_type v.ty) (mentioned_expr v.value)
      (subst AreKnown (variable_mentions v) k))

  parameters_held : (os : List NextObjectParameter)
      → AreKnown (flat_map (λ (next : NextObjectParameter). mentioned_type next.parameter.ty) os)
      → AreHeld n (map (next_field list names) os)
  parameters_held [] k = tt
  parameters_held (o ∷ os) k =
      let rest = flat_map (λ (next : NextObjectParameter). mentioned_type next.parameter.ty) os in (
        type_held o.parameter.ty (all_left Known (mentioned_type o.parameter.ty) rest k),
        parameters_held os (all_right Known (mentioned_type o.parameter.ty) rest k),
      )

  list_held : (ps : Option ObjectParameterList) → AreKnown (mentioned_object_parameter_list ps)
      → AreHeld n (list_fields list names ps)
  list_held None k = tt
  list_held (Some l) k =
      let rest =
      flat_map (λ (next : NextObjectParameter). mentioned_type next.parameter.ty) l.others in (
        type_held l.first.ty (all_left Known (mentioned_type l.first.ty) rest k),
        parameters_held l.others (all_right Known (mentioned_type l.first.ty) rest k),
      )

  object_parameters_held : (ps : Option ObjectParameters)
      → AreKnown (mentioned_object_parameters ps) → AreHeld n (parameter_fields list names ps)
  object_parameters_held None k = tt
  object_parameters_held (Some p) k = list_held p.parameters k

  object_member_held : (m : ObjectMember) → AreKnown (mentioned_object_member m)
      → AreHeld n (object_member_field list names m)
  object_member_held (object_member.Variable v) k = (variable_held v k, tt)
  object_member_held (object_member.Method m) k = tt

  trait_member_held : (m : TraitMember) → AreKnown (mentioned_trait_member m)
      → AreHeld n (trait_member_field list names m)
  trait_member_held (trait_member.Field name colon ty) k = (type_held ty k, tt)
  trait_member_held (trait_member.Method m) k = tt

  trait_held : (t : Trait) → AreKnown (mentioned_declaration (declaration.Trait t))
      → AreHeld n (flat_map (trait_field list names) t.members)
  trait_held t k =
      let members = flat_map (λ (e : TraitEntry). mentioned_trait_member e.member) t.members in
      joined (trait_field list names) (λ
      (e : TraitEntry). mentioned_trait_member e.member) (λ e. trait_member_held e.member)
      t.members
      (all_right Known (comprised t.comprises) members
      (all_right Known (excluded t.excludes) (comprised t.comprises ++ members)
      (all_right Known (extended t.extends)
      (excluded t.excludes ++ (comprised t.comprises ++ members)) k)))

  object_held : (o : Object) → AreKnown (mentioned_declaration (declaration.Object o))
      → AreHeld n
      (parameter_fields list names o.parameters ++ flat_map (object_field list names) o.members)
  object_held o k =
      let members = flat_map (λ (e : ObjectEntry). mentioned_object_member e.member) o.members in
      all_join (IsHeld n) (parameter_fields list names o.parameters)
      (flat_map (object_field list names) o.members)
      (object_parameters_held o.parameters
      (all_left Known (mentioned_object_parameters o.parameters)
      (extended o.extends ++ members) k))
      (joined (object_field list names) (λ
      (e : ObjectEntry). mentioned_object_member e.member)
      (λ e. object_member_held e.member) o.members
      (all_right Known (extended o.extends) members
      (all_right Known (mentioned_object_parameters o.parameters)
      (extended o.extends ++ members) k)))

  -- the fields that a declaration declares
  own_held : (d : Declaration) → AreKnown (mentioned_declaration d)
      → AllByRecursion (AreHeld n) (own_of list names d)
  own_held (declaration.Variable v) k = tt
  own_held (declaration.Function f) k = tt
  own_held (declaration.Trait t) k = (trait_held t k, tt)
  own_held (declaration.Object o) k = (object_held o k, tt)

  -- a variable at the top
  top_held : (d : Declaration) → AreKnown (mentioned_declaration d)
      → AreHeld n (variables_at list names d)
  top_held (declaration.Variable v) k = (variable_held v k, tt)
  top_held (declaration.Function f) k = tt
  top_held (declaration.Trait t) k = tt
  top_held (declaration.Object o) k = tt

  pub all_own_held : (ds : List Declared)
      → AreKnown (flat_map (λ (d : Declared). mentioned_declaration d.declaration) ds)
      → AllByRecursion (AreHeld n) (flat_map (declared_own list names) ds)
  all_own_held [] k = tt
  all_own_held (d ∷ ds) k =
      let rest = flat_map (λ (d : Declared). mentioned_declaration d.declaration) ds in
      all_join (AreHeld n) (own_of list names d.declaration) (flat_map (declared_own list names) ds)
      (own_held d.declaration (all_left Known (mentioned_declaration d.declaration) rest k))
      (all_own_held ds (all_right Known (mentioned_declaration d.declaration) rest k))

  pub all_tops_held : (ds : List Declared)
      → AreKnown (flat_map (λ (d : Declared). mentioned_declaration d.declaration) ds)
      → AreHeld n (flat_map (declared_variables list names) ds)
  all_tops_held =
      joined (declared_variables list names) (λ
      (d : Declared). mentioned_declaration d.declaration) (λ d. top_held d.declaration)
