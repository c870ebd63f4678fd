-- The objects of a component: their declarations, their fields, and which of them have a
-- constructor.
use Rattle.std.proofs.Common.{◌≡◌, ℕ, ◌+◌, true, false, List, ◌++◌, length, map, Option, Some, None, refl, sym, ap, ◌∙◌, subst, eq-eqb, arith}
use Rattle.std.specs.Prelude.{nat_eq}
use Rattle.std.specs.List.{slice_get, flat_map}
use Rattle.std.proofs.lemmas.Option.{slice_get_within}
use Rattle.fort_base.specs.declared.ty.Ty.TheVariants as a_type
use Rattle.fort_core.specs.declared.value.Value.{Value}
use Rattle.fort_types.specs.declared.hierarchy.DeclaredType.{DeclaredType}
use Rattle.fort_types.specs.declared.hierarchy.TypeKind.TheVariants as a_kind
use Rattle.fort_tree.specs.declared.declarations.Component.{Component}
use Rattle.fort_tree.specs.declared.declarations.Declaration.{Declaration}
use Rattle.fort_tree.specs.declared.declarations.Declaration.TheVariants as declaration
use Rattle.fort_tree.specs.declared.declarations.Object.{Object}
use Rattle.fort_tree.specs.declared.declarations.ObjectParameters.{ObjectParameters}
use Rattle.fort_tree.specs.declared.grouped.Groups.{Groups}
use Rattle.fort_types_builtin.specs.declared.types.TheConstants.{TYPE_COUNT}
use Rattle.fort_types_builtin.specs.Types.{built_in_declared}
use Rattle.fort_types_builtin.proofs.PlainTypes.{built_in_count}
use Rattle.fort_hier.specs.declared.heads.TypeHead.{TypeHead}
use Rattle.fort_hier.specs.Heads.{heads_of}
use Rattle.fort_hier.specs.Hierarchies.{declares}
use Rattle.fort_hier.specs.Names.{spelling}
use Rattle.fort_hier.specs.Numbers.{number_of, all_types, declared_by}
use Rattle.fort_types_sets.specs.declared.field.Field.{Field}
use Rattle.fort_types_sets.specs.declared.member.Member.{Member}
use Rattle.fort_types_sets.specs.declared.member.MemberKind.TheVariants as a_member
use Rattle.fort_types_sets.specs.declared.member.Members.{Members}
use Rattle.fort_types_sets.specs.Leaves.{leaf_kind, is_leaf}
use Rattle.fort_member_fields.specs.Own.{object_field, types_of}
use Rattle.fort_member_fields.proofs.Items.{one}
use Rattle.fort_member.specs.declared.entries.Entry.{Entry}
use Rattle.fort_member.specs.Answers.{AreMembers}
use Rattle.fort_member.specs.BuiltIn.{built_in_entries}
use Rattle.fort_member.specs.Declarations.{object_types, constructor_entry, object_entry, entries_at, declared_entries, entries_of}
use Rattle.fort_member.proofs.Numbered.{all_item}
use Rattle.fort_member.proofs.SetLaws.{get_mapped, get_of_mapped}
use Rattle.fort_form_walk.specs.FormsOf.{tables_of}
use Rattle.fort_form_typed.specs.declared.component.Typed.{Typed}
use Rattle.fort_elab_meaning.specs.Shapes.{constructs_by, has_constructor, initial}
use Rattle.fort_elab_law_matched.proofs.Initials.{has_initial, an_initial, of_all, of_members, fields_of, some_in_all, all_have}
use Rattle.fort_elab_law_matched.proofs.Typed.{typed_keyed}
use Rattle.fort_elab_law_matched.proofs.Types.{types_in, kind_of_type, kind_of_head, kinds_are}
use Rattle.fort_elab_law_matched.proofs.Shapes.{get_behind}
use Rattle.fort_sound_program.proofs.BuiltInTypes.{there, counted}
use Rattle.fort_sound_program.proofs.Entries.{some_member}
use Rattle.fort_sound_program.proofs.Flat.{of_types}
use Rattle.fort_sound_program.proofs.Locations.{in_flat}
use Rattle.fort_sound_program.proofs.Order.{type_number}

no_object : a_kind.Trait ≡ a_kind.Object → ⊥
no_object e = absurd cc

-- a declaration of the kind of objects is an object
object_by : (d : Declaration) → kind_of_type d ≡ a_kind.Object
    → (o : Object) × (d ≡ declaration.Object o)
object_by (declaration.Variable v) e = absurd (no_object e)
object_by (declaration.Function f) e = absurd (no_object e)
object_by (declaration.Trait t) e = absurd (no_object e)
object_by (declaration.Object o) e = (o, refl)

-- a head is a trait's or an object's
head_kind : (d : Declaration) → leaf_kind (kind_of_type d) ≡ true → kind_of_type d ≡ a_kind.Object
head_kind (declaration.Variable v) e = absurd cc
head_kind (declaration.Function f) e = absurd cc
head_kind (declaration.Trait t) e = absurd cc
head_kind (declaration.Object o) e = refl

module _ (c : Component) where
  abbrev Stands : ℕ → Object → Type 0
  Stands k o = slice_get (types_in c.declarations) k ≡ Some (declaration.Object o)

  own_types : TypeHead → DeclaredType
  own_types = declared_by (all_types c.names (heads_of c)) c.names

  by_type : (k : ℕ) (d : Declaration) → slice_get (types_in c.declarations) k ≡ Some d
      → leaf_kind (kind_of_type d) ≡ true → (o : Object) × Stands k o
  by_type k d e leaf = let o = object_by d (head_kind d leaf) in (o.0, e ∙ ap Some o.1)

  leaf_of : (head : TypeHead) (d : DeclaredType) → own_types head ≡ d → leaf_kind d.kind ≡ true
      → leaf_kind head.kind ≡ true
  unfolding own_types
  leaf_of head d e k = subst (λ (z : DeclaredType). leaf_kind z.kind ≡ true) (sym e) k

  by_head : (k : ℕ) (head : TypeHead) → slice_get (heads_of c) k ≡ Some head
      → leaf_kind head.kind ≡ true → (o : Object) × Stands k o
  by_head k head e leaf =
      let t = get_mapped kind_of_type (types_in c.declarations) k head.kind
      (ap (λ z. slice_get z k) (sym (kinds_are 0 c.declarations))
      ∙ get_of_mapped kind_of_head (heads_of c) k head e) in
      by_type k t.0 t.1 (ap leaf_kind t.2 ∙ leaf)

  -- the object of a number that makes values
  pub object_at : (m : Members) → AreMembers c m → (n k : ℕ) → n ≡ TYPE_COUNT + k
      → slice_get m.objects n ≡ Some true → (o : Object) × Stands k o
  unfolding own_types
  object_at m has n k q e =
      let d = get_mapped is_leaf (declares c) n true (ap (λ z. slice_get z n) (sym has.objects) ∙ e)
      in
      let l = slice_get_within (declares c) n d.0 d.1 in
      let many = counted c in
      let head = there (heads_of c) k (omega arith) in
      let at : slice_get (declares c) n ≡ Some (own_types head.0) =
      get_behind built_in_declared (map own_types (heads_of c)) n k (q
      ∙ ap (λ z. z + k) (sym built_in_count))
      ∙ get_of_mapped own_types (heads_of c) k head.0 head.1 in
      by_head k head.0 head.1
      (leaf_of head.0 d.0 (one (declares c) n d.0 (own_types head.0) d.1 at) d.2)

  -- and the other way round
  pub object_true : (m : Members) → AreMembers c m → (n k : ℕ) → n ≡ TYPE_COUNT + k → (o : Object)
      → Stands k o → slice_get m.objects n ≡ Some true
  unfolding own_types
  object_true m has n k q o st =
      let g = ap (λ z. slice_get z k) (kinds_are 0 c.declarations)
      ∙ get_of_mapped kind_of_type (types_in c.declarations) k (declaration.Object o) st in
      let head = get_mapped kind_of_head (heads_of c) k a_kind.Object g in
      let at : slice_get (declares c) n ≡ Some (own_types head.0) =
      get_behind built_in_declared (map own_types (heads_of c)) n k (q
      ∙ ap (λ z. z + k) (sym built_in_count))
      ∙ get_of_mapped own_types (heads_of c) k head.0 head.1 in
      ap (λ z. slice_get z n) has.objects
      ∙ get_of_mapped is_leaf (declares c) n (own_types head.0) at
      ∙ ap (λ z. Some (leaf_kind z)) head.2

  -- ---- constructors

  -- the constructor of an object with these parameters
  abbrev pub constructor_of : ℕ → Object → ObjectParameters → Entry
  constructor_of t o ps = record {
    name = spelling c.names o.name;
    dotted = false;
    member = record {
      place = Some o.name.spot.place;
      parameters = object_types (types_of c) c.names ps.parameters;
      result = a_type.Named (type_number t);
      owner = None;
      kind = a_member.Constructor (type_number t);
    };
  }

  constructs_it : (t : ℕ) → nat_eq t t ≡ true
  constructs_it t = eq-eqb t t refl

  -- Where an object has no constructor, it has no parameters.
  pub no_parameters : (m : Members) → AreMembers c m → (k : ℕ) (o : Object) → Stands k o
      → has_constructor m.sets (type_number (number_of (types_of c) (spelling c.names o.name)))
      ≡ false → o.parameters ≡ None
  no_parameters m has k o st none = go o.parameters refl
    where
      go : (ps : Option ObjectParameters) → o.parameters ≡ ps → ps ≡ None
      go None e = refl
      go (Some ps) e =
          let t = number_of (types_of c) (spelling c.names o.name) in
          let d = of_types c.declarations k o st in
          let rest = flat_map (object_entry (types_of c) c.names t) o.members in
          let it = constructor_of t o ps in
          let here : slice_get (declared_entries (types_of c) c.names d.1) 0 ≡ Some it =
          ap (λ z. slice_get (entries_at (types_of c) c.names z) 0) d.3
          ∙ ap (λ z. slice_get (constructor_entry (types_of c) c.names t o z ++ rest) 0) e in
          let flat =
          in_flat (declared_entries (types_of c) c.names) c.declarations d.0 0 d.1 it d.2 here
          in
          let all : slice_get (entries_of c) (length built_in_entries + flat.0) ≡ Some it =
          get_behind built_in_entries
          (flat_map (declared_entries (types_of c) c.names) c.declarations)
          (length built_in_entries + flat.0) flat.0 refl ∙ flat.1 in
          let some =
          some_member (λ
          (x : Member). constructs_by x.kind (type_number t)) (entries_of c)
          (length built_in_entries + flat.0) it all (constructs_it t) in
          let yes : has_constructor m.sets (type_number t) ≡ true =
          ap (λ z. has_constructor z (type_number t)) has.sets ∙ some in
          absurd (let z : true ≡ false = sym yes ∙ none in cc)

  -- ---- initials of fields of a body

  module _ (groups : Groups) (typed : Typed)
      (same : map typed_keyed typed.initials ≡ of_all (tables_of c groups) c.declarations) where
    abbrev behind : Object → List Field
    behind o = flat_map (object_field (types_of c) c.names) o.members

    -- Each field of the body of an object has an initial.
    pub has_one : (k : ℕ) (o : Object) → Stands k o → (j : ℕ) (f : Field)
        → slice_get (behind o) j ≡ Some f
        → (v : Value)
        × (initial c.texts typed.initials
        (Some (type_number (number_of (types_of c) (spelling c.names o.name)))) f.name ≡ Some v)
    has_one k o st j f e =
        let tables = tables_of c groups in
        let id = type_number (number_of (types_of c) (spelling c.names o.name)) in
        let own_one =
        all_item (λ
        (g : Field). has_initial (Some id) g.name (of_members tables id o.members)
        ≡ true) (fields_of tables o.members) j f (all_have tables id o.members) e in
        let one_of_all = some_in_all tables id f.name c.declarations o own_one k st in
        an_initial c.texts (Some id) f.name typed.initials (ap (has_initial (Some id) f.name) same
        ∙ one_of_all)
