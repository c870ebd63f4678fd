-- The opening store of the program of a component has its types, and single objects are values of
-- theirs.
use Rattle.std.proofs.Common.{◌≡◌, ℕ, ◌+◌, Bool, true, false, ◌&&◌, cond, List, [], ◌++◌, length, map, Some, None, refl, sym, ap, ◌∙◌, subst, eq-eqb, arith}
use Rattle.std.specs.Prelude.{unwrap_or, nat_eq}
use Rattle.std.specs.List.{slice_get, flat_map, list_any}
use Rattle.fort_base.specs.declared.ids.Loc.{Loc}
use Rattle.fort_base.specs.declared.ids.TypeId.{TypeId}
use Rattle.fort_base.specs.declared.ty.Ty.{Ty}
use Rattle.fort_base.specs.declared.ty.Ty.TheVariants.{Named}
use Rattle.fort_core.specs.declared.program.CoreField.{CoreField}
use Rattle.fort_core.specs.declared.program.CoreKind.{CoreKind}
use Rattle.fort_core.specs.declared.program.CoreKind.TheVariants as kind
use Rattle.fort_core.specs.declared.program.CoreShape.{CoreShape}
use Rattle.fort_core.specs.declared.program.Program.{Program}
use Rattle.fort_core.specs.declared.value.Value.{Value, Object as ObjectValue}
use Rattle.fort_core.specs.declared.value.Value.TheVariants.{outs-Object}
use Rattle.fort_machine.specs.Acts.{unit}
use Rattle.fort_machine.specs.Journals.{opening_store}
use Rattle.fort_lex_token.specs.declared.token.Tokens.{Tokens}
use Rattle.fort_tree.specs.declared.declarations.Component.{Component}
use Rattle.fort_tree.specs.declared.declarations.Declaration.{Declaration}
use Rattle.fort_tree.specs.declared.declarations.Declaration.TheVariants as declaration
use Rattle.fort_tree.specs.declared.declarations.Declared.{Declared}
use Rattle.fort_tree.specs.declared.declarations.Object.{Object}
use Rattle.fort_tree.specs.declared.grouped.Groups.{Groups}
use Rattle.fort_types_builtin.specs.declared.types.TheConstants.{TYPE_COUNT}
use Rattle.fort_types_builtin.specs.Objects.{location}
use Rattle.fort_hier.specs.declared.accepted.Hierarchy.{Hierarchy}
use Rattle.fort_hier.specs.Names.{spelling}
use Rattle.fort_hier.specs.Numbers.{number_of}
use Rattle.fort_types_sets.specs.declared.field.Field.{Field}
use Rattle.fort_types_sets.specs.declared.member.MemberSet.{MemberSet}
use Rattle.fort_types_sets.specs.declared.member.Members.{Members}
use Rattle.fort_member_fields.specs.Own.{parameter_fields, object_field, declared_variables, variables_at, variable_field, types_of, variables_of}
use Rattle.fort_member_fields.proofs.Items.{one}
use Rattle.fort_member.proofs.SetLaws.{get_mapped, get_of_mapped}
use Rattle.fort_form.specs.declared.component.InitialForm.{InitialForm}
use Rattle.fort_form_walk.specs.FormsOf.{tables_of, forms_of, declared_initials, initials}
use Rattle.fort_form_walk.specs.FormsOf as forming
use Rattle.fort_typing_law_ready.specs.Fit.{known_of}
use Rattle.fort_form_typed.specs.declared.component.Typed.{Typed}
use Rattle.fort_sound_typed.specs.Envs.{Sig}
use Rattle.fort_sound_typed.specs.Typing.{is_same, ShapeOf, Makes, ObjectFits, HasV, parts0, vs0}
use Rattle.fort_sound_typed.specs.Sound.{opening, StoreOk}
use Rattle.fort_sound_typed.proofs.Rules.{has_v_at}
use Rattle.fort_elab_meaning.specs.Shapes.{initial, has_constructor, kind_of, core_field, variables_from, variable_types, types_at, held_by, types_by}
use Rattle.fort_elab_law_matched.proofs.Initials.{is_of, an_initial, of_all}
use Rattle.fort_elab_law_matched.proofs.Shapes.{own, has_own, get_behind}
use Rattle.fort_elab_law_matched.proofs.Typed.{typed_keyed, form_keyed, initials_same}
use Rattle.fort_elab_law_matched.proofs.Types.{types_in, type_number as number_at}
use Rattle.fort_sound_program.specs.Checked.{Checked}
use Rattle.fort_sound_program.proofs.Constants.{has_unit}
use Rattle.fort_sound_program.proofs.Entries.{any_at}
use Rattle.fort_sound_program.proofs.Flat.{from_flat, only}
use Rattle.fort_sound_program.proofs.Initials.{variable_has, field_has}
use Rattle.fort_sound_program.proofs.Locations.{From, from_both, variables_from_here, variables_long, type_at_field, shapes_from_here, in_flat, typed_item}
use Rattle.fort_sound_program.proofs.Objects.{object_at, no_parameters, has_one}
use Rattle.fort_sound_program.proofs.Opening.{Alike, alike_both, holds, covers, variables_alike, Constants, shapes_alike}
use Rattle.fort_sound_program.proofs.Order.{type_number}
use Rattle.fort_sound_program.proofs.Shapes.{Told, built_in, own as of_component, told}

-- ---- kinds

no_trait : (l : Loc) → kind.Trait ≡ kind.Single l → ⊥
no_trait l e = absurd cc

object_or_single : (b : Bool) (k l : Loc) → cond b kind.Object (kind.Single k) ≡ kind.Single l
    → b ≡ false
object_or_single true k l e = absurd cc
object_or_single false k l e = refl

-- a single object is an object without a constructor
single_kind : (sets : List MemberSet) (t : TypeId) (b : ℕ) (o : Bool) (l : Loc)
    → kind_of sets t b o ≡ kind.Single l → (o ≡ true) × (has_constructor sets t ≡ false)
single_kind sets t b false l e = absurd (no_trait l e)
single_kind sets t b true l e = (refl, object_or_single (has_constructor sets t) (location b) l e)

made_kind : (sets : List MemberSet) (t : TypeId) (b : ℕ) (o : Bool) → Makes (kind_of sets t b o)
    → o ≡ true
made_kind sets t b true h = refl
made_kind sets t b false h = absurd h

is_single : (l : Loc) (k : CoreKind) → k ≡ kind.Single l → Makes k
is_single l k e = subst Makes (sym e) tt

yes_and_yes : (a b : Bool) → a ≡ true → b ≡ true → (a && b) ≡ true
yes_and_yes true b e f = f
yes_and_yes false b e f = absurd cc

module _ (tokens : Tokens) (c : Component) (h : Hierarchy) (m : Members) (groups : Groups)
    (typed : Typed) (p : Program) (ok : Checked tokens c h m groups typed p) where
  abbrev S : Sig
  S = opening p

  abbrev texts : List (List ℕ)
  texts = c.texts

  abbrev number : Object → ℕ
  number o = number_of (types_of c) (spelling c.names o.name)

  abbrev IsTold : ℕ → CoreShape → Type 0
  IsTold n s = Told c m ok.members texts typed.initials n s

  pub told_at : (n : ℕ) (s : CoreShape) → slice_get p.shapes n ≡ Some s → IsTold n s
  told_at n s e =
      told c m ok.members texts typed.initials n s (ap (λ z. slice_get z n) (sym ok.program.shapes)
      ∙ e)

  keyed : map typed_keyed typed.initials ≡ of_all (tables_of c groups) c.declarations
  keyed = initials_same (known_of c h m) (forms_of c groups) typed ok.types

  -- ---- constants of fields

  -- the object of a component's own type, with its fields
  pub record ObjectOf (n : ℕ) (fs : List Field) : Type 0 where
    pub k : ℕ
    pub object : Object
    pub stands : slice_get (types_in c.declarations) k ≡ Some (declaration.Object object)
    pub number_is : n ≡ TYPE_COUNT + k
    pub fields_are : fs ≡ own c k object stands

  pub object_of : (n k : ℕ) → n ≡ TYPE_COUNT + k → slice_get m.objects n ≡ Some true
      → (fs : List Field) → slice_get m.fields n ≡ Some fs → ObjectOf n fs
  object_of n k q e fs g =
      let o = object_at c m ok.members n k q e in
      let here = has_own c k o.0 o.1 m ok.members in
      record {
        k = k;
        object = o.0;
        stands = o.1;
        number_is = q;
        fields_are =
            one m.fields n (own c k o.0 o.1) fs (ap (slice_get m.fields) q ∙ here) g;
      }

  -- a constant of a field has its type
  field_constant : (n : ℕ) (fs : List Field) → ObjectOf n fs → (i : ℕ) (f : CoreField)
      → slice_get (map (core_field texts typed.initials (type_number n)) fs) i ≡ Some f
      → (v : Value) → f.initial ≡ Some v → HasV p S v f.ty
  field_constant n fs o i f e v g =
      let w = get_mapped (core_field texts typed.initials (type_number n)) fs i f e in
      let found : initial texts typed.initials (Some (type_number (TYPE_COUNT + o.k))) w.0.name
      ≡ Some v =
      ap (λ z. initial texts typed.initials (Some (type_number z)) w.0.name) (sym o.number_is)
      ∙ ap (λ (z : CoreField). z.initial) w.2 ∙ g in
      subst (λ (z : CoreField). HasV p S v z.ty) w.2
      (field_has c h ok.hierarchy m ok.members groups typed ok.types ok.constants p
      ok.program.types ok.program.built_in S o.k o.object o.stands w.0 i
      (ap (λ z. slice_get z i) (sym o.fields_are) ∙ w.1) v found)

  pub shape_constant : (n : ℕ) (s : CoreShape) → IsTold n s → Makes s.kind → (i : ℕ) (f : CoreField)
      → slice_get s.fields i ≡ Some f → (v : Value) → f.initial ≡ Some v → HasV p S v f.ty
  shape_constant n s (built_in row b e q) made i f g v w =
      let z : slice_get [] i ≡ Some f = ap (λ (x : CoreShape). slice_get x.fields i) (sym q) ∙ g
      in absurd cc
  shape_constant n s (of_component k q o fs e g is) made i f a v w =
      let yes =
      made_kind m.sets (type_number n) is.base o (subst (λ
      (z : CoreShape). Makes z.kind) is.is_shape made) in
      field_constant n fs (object_of n k q (e ∙ ap Some yes) fs g) i f (ap (λ
      (z : CoreShape). slice_get z.fields i) (sym is.is_shape) ∙ a) v w

  -- a field of a single object has one
  single_initial : (n : ℕ) (fs : List Field) → (o : ObjectOf n fs)
      → has_constructor m.sets (type_number n) ≡ false → (i : ℕ) (f : CoreField)
      → slice_get (map (core_field texts typed.initials (type_number n)) fs) i ≡ Some f
      → (v : Value) × (f.initial ≡ Some v)
  single_initial n fs o none i f e =
      let w = get_mapped (core_field texts typed.initials (type_number n)) fs i f e in
      let same : number o.object ≡ n =
      number_at c h ok.hierarchy o.k (declaration.Object o.object) o.stands ∙ sym o.number_is in
      let without =
      no_parameters c m ok.members o.k o.object o.stands
      (ap (λ z. has_constructor m.sets (type_number z)) same ∙ none) in
      let behind : slice_get (flat_map (object_field (types_of c) c.names) o.object.members) i
      ≡ Some w.0 =
      ap (λ z. slice_get
      (parameter_fields (types_of c) c.names z
      ++ flat_map (object_field (types_of c) c.names) o.object.members) i) (sym without)
      ∙ ap (λ z. slice_get z i) (sym o.fields_are) ∙ w.1 in
      let v = has_one c groups typed keyed o.k o.object o.stands i w.0 behind in (
        v.0,
        ap (λ
            (z : CoreField). z.initial) (sym w.2)
            ∙ ap (λ z. initial texts typed.initials (Some (type_number z)) w.0.name) (sym same)
            ∙ v.1,
      )

  single_constants : (n : ℕ) (s : CoreShape) → IsTold n s → Constants p S s
  single_constants n s (built_in row b e q) l single i f g =
      let z : slice_get [] i ≡ Some f = ap (λ (x : CoreShape). slice_get x.fields i) (sym q) ∙ g
      in absurd cc
  single_constants n s (of_component k q o fs e g is) l single i f a =
      let w = single_kind m.sets (type_number n) is.base o l (ap (λ
      (z : CoreShape). z.kind) (sym is.is_shape) ∙ single) in
      let object = object_of n k q (e ∙ ap Some w.0) fs g in
      let stands = ap (λ (z : CoreShape). slice_get z.fields i) (sym is.is_shape) ∙ a in
      let v = single_initial n fs object w.1 i f stands in
      subst (λ z. HasV p S (unwrap_or z unit) f.ty) (sym v.1)
      (field_constant n fs object i f stands v.0 v.1)

  -- ---- variables at the top

  variable_initial : (i : ℕ) (f : Field) → slice_get (variables_of c) i ≡ Some f
      → (v : Value) × (initial texts typed.initials None f.name ≡ Some v)
  variable_initial i f e =
      let w = from_flat (declared_variables (types_of c) c.names) c.declarations i f e in
      go w.0 w.1 w.3 w.1.declaration refl w.2 w.4
    where
      go : (a : ℕ) (d : Declared) → slice_get c.declarations a ≡ Some d → (x : Declaration)
          → d.declaration ≡ x → (j : ℕ) → slice_get (variables_at (types_of c) c.names x) j ≡ Some f
          → (v : Value) × (initial texts typed.initials None f.name ≡ Some v)
      go a d g (declaration.Variable v) q j k =
          let tables = tables_of c groups in
          let it : InitialForm = forming.initial tables None v in
          let same = only (variable_field (types_of c) c.names v) f j k in
          let at = in_flat (declared_initials tables) c.declarations a 0 d it g
          (ap (λ z. slice_get (initials tables z) 0) q) in
          let test : is_of None f.name (form_keyed it) ≡ true =
          ap (λ (z : Field). nat_eq v.name.id.0 z.name.0) (sym same)
          ∙ eq-eqb v.name.id.0 v.name.id.0 refl in
          an_initial texts None f.name typed.initials
          (ap (λ z. list_any (is_of None f.name) z) keyed
          ∙ any_at (is_of None f.name) (of_all tables c.declarations) at.0 (form_keyed it)
          (get_of_mapped form_keyed (flat_map (declared_initials tables) c.declarations) at.0 it
          at.1) test)
      go a d g (declaration.Function x) q j k = absurd cc
      go a d g (declaration.Trait t) q j k = absurd cc
      go a d g (declaration.Object o) q j k = absurd cc

  variable_constant : (i : ℕ) (f : Field) → slice_get m.variables i ≡ Some f
      → HasV p S (unwrap_or (initial texts typed.initials None f.name) unit) f.ty
  variable_constant i f e =
      let g = ap (λ z. slice_get z i) (sym ok.members.variables) ∙ e in
      let v = variable_initial i f g in
      subst (λ z. HasV p S (unwrap_or z unit) f.ty) (sym v.1)
      (variable_has c h ok.hierarchy m ok.members groups typed ok.types ok.constants p
      ok.program.types ok.program.built_in S f i g v.0 v.1)

  -- ---- the store

  alike : Alike p S p.opening p.opening_types
  alike = subst (λ z. Alike p S z p.opening_types) (sym ok.program.opening)
      (subst (λ z. Alike p S
      (variables_from texts typed.initials 0 m.variables ++ flat_map held_by p.shapes) z)
      (sym ok.program.opening_types)
      (alike_both p S (variables_from texts typed.initials 0 m.variables)
      (flat_map held_by p.shapes) (variable_types 0 m.variables)
      (flat_map types_by p.shapes)
      (variables_alike p S texts typed.initials 0 m.variables variable_constant)
      (shapes_alike p S p.shapes (has_unit p ok.program.built_in S)
      (λ n s e. single_constants n s (told_at n s e)))))

  pub store_opens : StoreOk p (opening p) (opening_store p)
  store_opens = record {
    opened = λ l F e. e;
    holds = λ l F e. holds p S p.opening p.opening_types alike l F e;
    covers = λ l v e. covers p S p.opening p.opening_types alike l v e;
  }

  -- ---- locations

  all_from : From 0 p.opening_types
  all_from =
      subst (From 0) (sym ok.program.opening_types)
      (from_both 0 (variable_types 0 m.variables) (flat_map types_by p.shapes)
      (variables_from_here 0 m.variables)
      (subst (λ z. From z (flat_map types_by p.shapes))
      (sym (let l = variables_long 0 m.variables
      in let q : 0 + length (variable_types 0 m.variables) ≡ length m.variables =
      omega arith in q))
      (subst (λ z. From (length m.variables) (flat_map types_by z)) (sym ok.program.shapes)
      (shapes_from_here texts typed.initials m))))

  pub typed_location : (i : ℕ) (l : Loc) (F : Ty) → slice_get p.opening_types i ≡ Some (l, F)
      → opening p l.0 ≡ Some F
  typed_location i l F e = typed_item p.opening_types i (l, F) all_from e

  -- A single object is a value of its type.
  pub single_has : (t : TypeId) (s : CoreShape) (l : Loc) → ShapeOf p t s → s.kind ≡ kind.Single l
      → HasV p (opening p) (ObjectValue t l) (Named t)
  single_has t s l e k =
      has_v_at p (opening p) (outs-Object t l)
      (record {
        own = Named t;
        qs = [];
        ws = [];
        fits = (fits, refl);
        parts = parts0;
        values = vs0;
        below = is_same refl;
      })
    where
      fits : ObjectFits p (opening p) t l.0
      fits = record {
        shape = s;
        is_shape = e;
        is_made = is_single l s.kind k;
        located = λ n f g.
            let at = in_flat types_by p.shapes t.0 n s (location (l.0 + n), f.ty) e
            (ap (λ z. slice_get (types_at z s.fields) n) k ∙ type_at_field l s.fields n f g) in
            let behind =
            get_behind (variable_types 0 m.variables) (flat_map types_by p.shapes)
            (length (variable_types 0 m.variables) + at.0) at.0 refl ∙ at.1 in
            typed_location (length (variable_types 0 m.variables) + at.0) (location (l.0 + n)) f.ty
            (ap (λ z. slice_get z (length (variable_types 0 m.variables) + at.0))
            ok.program.opening_types ∙ behind);
      }
