-- The initials of a program have the types of their variables and fields.
use Rattle.std.proofs.Common.{◌≡◌, ◌≤◌, ℕ, suc, ◌+◌, Bool, true, false, ◌&&◌, cond, List, [], ◌∷◌, length, Option, Some, None, refl, sym, ap, ◌∙◌, subst, eqb-true, arith}
use Rattle.std.specs.Prelude.{nat_eq}
use Rattle.std.specs.List.{slice_get, flat_map}
use Rattle.std.proofs.lemmas.Option.{slice_get_within}
use Rattle.fort_base.specs.declared.ids.NameId.{NameId}
use Rattle.fort_base.specs.declared.ids.TypeId.{TypeId}
use Rattle.fort_base.specs.declared.ty.Ty.{Ty}
use Rattle.fort_types.specs.Types.{IsNumbered}
use Rattle.fort_types.specs.Types as types
use Rattle.fort_core.specs.declared.program.Program.{Program}
use Rattle.fort_core.specs.declared.value.Value.{Value}
use Rattle.fort_tree.specs.declared.declarations.Component.{Component}
use Rattle.fort_tree.specs.declared.declarations.Declaration.{Declaration}
use Rattle.fort_tree.specs.declared.declarations.Declaration.TheVariants as declaration
use Rattle.fort_tree.specs.declared.declarations.Declared.{Declared}
use Rattle.fort_tree.specs.declared.declarations.Object.{Object}
use Rattle.fort_tree.specs.declared.declarations.ObjectMember.{ObjectMember}
use Rattle.fort_tree.specs.declared.declarations.ObjectMember.TheVariants as object_member
use Rattle.fort_tree.specs.declared.grouped.Groups.{Groups}
use Rattle.fort_tree_type_names.specs.TypeNames.{type_names}
use Rattle.fort_types_builtin.specs.declared.types.TheConstants.{BUILT_IN, TYPE_COUNT}
use Rattle.fort_hier.specs.declared.accepted.Hierarchy.{Hierarchy}
use Rattle.fort_hier.specs.Hierarchies.{IsHierarchy, declares}
use Rattle.fort_hier.specs.Names.{spelling}
use Rattle.fort_hier.specs.Numbers.{number_of}
use Rattle.fort_types_sets.specs.declared.field.Field.{Field}
use Rattle.fort_types_sets.specs.declared.member.Members.{Members}
use Rattle.fort_member_fields.specs.Own.{variable_field, parameter_fields, object_field, object_member_field, variables_at, declared_variables, types_of, variables_of}
use Rattle.fort_member_fields.proofs.Items.{one}
use Rattle.fort_member.specs.Answers.{AreMembers}
use Rattle.fort_typing_law_ready.specs.Fit.{known_of}
use Rattle.fort_form.specs.declared.component.InitialForm.{InitialForm}
use Rattle.fort_form_walk.specs.FormsOf.{Tables, tables_of, forms_of, owner, initials, declared_initials, entry_initial, member_initial}
use Rattle.fort_form_walk.specs.FormsOf as forming
use Rattle.fort_form_typed.specs.declared.component.Typed.{Typed}
use Rattle.fort_form_typed.specs.declared.typed_form.TypedForm.{TypedForm}
use Rattle.fort_typing_rules.specs.Components.{HasTypes, HasInitial, initial}
use Rattle.fort_sound_typed.specs.Envs.{Sig}
use Rattle.fort_sound_typed.specs.Typing.{HasV}
use Rattle.fort_sound_typed.proofs.Computed.{through}
use Rattle.fort_sound_typed.proofs.Order.{transitive}
use Rattle.fort_sound_typed.proofs.Rules.{sub_v}
use Rattle.fort_elab_meaning.specs.Shapes.{Initial, same_owner}
use Rattle.fort_elab_meaning.specs.Shapes as shaping
use Rattle.fort_elab_meaning.specs.Values.{constant}
use Rattle.fort_elab_law_matched.proofs.Shapes.{own, own_once, get_behind}
use Rattle.fort_elab_law_matched.proofs.Types.{types_in, type_number as number_at}
use Rattle.fort_sound_program.specs.Checked.{FitsFile}
use Rattle.fort_sound_program.proofs.Order.{type_number, below, rows_through}
use Rattle.fort_sound_program.proofs.BuiltInTypes.{counted, there}
use Rattle.fort_sound_program.proofs.Constants.{constant_has, constant_numbered}
use Rattle.fort_sound_program.proofs.Flat.{some_of, from_flat, only, in_types}
use Rattle.fort_sound_program.proofs.Locations.{in_flat}
use Rattle.fort_sound_program.proofs.Variables.{variables_once}

and_both : (a b : Bool) → (a && b) ≡ true → (a ≡ true) × (b ≡ true)
and_both true b e = (refl, e)
and_both false b e = absurd cc

-- ---- what the translation finds

-- the initial of a name
pub record Found (texts : List (List ℕ)) (is : List Initial) (who : Option TypeId) (name : NameId)
    (v : Value) : Type 0 where
  pub at : ℕ
  pub it : Initial
  pub stands : slice_get is at ≡ Some it
  pub owned : same_owner it.0 who ≡ true
  pub named : it.1 ≡ name
  pub value : v ≡ constant texts it.3

name_by : ℕ → NameId
name_by n = record { 0 = n }

later : {texts : List (List ℕ)} {is : List Initial} {who : Option TypeId} {name : NameId}
    {v : Value} (i : Initial) → Found texts is who name v → Found texts (i ∷ is) who name v
later i f =
    record {
      at = suc f.at;
      it = f.it;
      stands = f.stands;
      owned = f.owned;
      named = f.named;
      value = f.value;
    }

found_step : (texts : List (List ℕ)) (i : Initial) (is : List Initial) (who : Option TypeId)
    (name : NameId) (v : Value) (b : Bool) → (same_owner i.0 who && nat_eq i.1.0 name.0) ≡ b
    → (shaping.initial texts is who name ≡ Some v → Found texts is who name v)
    → cond b (Some (constant texts i.3)) (shaping.initial texts is who name) ≡ Some v
    → Found texts (i ∷ is) who name v
found_step texts i is who name v true q rest e =
    let w = and_both (same_owner i.0 who) (nat_eq i.1.0 name.0) q in
    record {
      at = 0;
      it = i;
      stands = refl;
      owned = w.0;
      named = same_name i.1 name (eqb-true i.1.0 name.0 w.1);
      value = sym (some_of e);
    }
  where
    same_name : (a b : NameId) → a.0 ≡ b.0 → a ≡ b
    same_name a b e = ap (λ n. let z : NameId = record { 0 = n } in z) e
found_step texts i is who name v false q rest e = later i (rest e)

pub found : (texts : List (List ℕ)) (is : List Initial) (who : Option TypeId) (name : NameId)
    (v : Value) → shaping.initial texts is who name ≡ Some v → Found texts is who name v
found texts [] who name v e = absurd cc
found texts (i ∷ is) who name v e =
    found_step texts i is who name v (same_owner i.0 who
    && nat_eq i.1.0 name.0) refl (found texts is who name v) e

same_type : (a b : Option TypeId) (t : TypeId) → same_owner a b ≡ true → b ≡ Some t → a ≡ Some t
same_type None None t e q = absurd cc
same_type None (Some u) t e q = absurd cc
same_type (Some s) None t e q = absurd cc
same_type (Some s) (Some u) t e q =
    ap (λ n. let z : TypeId = record { 0 = n } in Some z) (eqb-true s.0 u.0 e) ∙ q

same_none : (a : Option TypeId) → same_owner a None ≡ true → a ≡ None
same_none None e = refl
same_none (Some s) e = absurd cc

-- ---- what the forms of initials are

module _ (c : Component) (groups : Groups) where
  abbrev n : Tables
  n = tables_of c groups

  abbrev number : Object → ℕ
  number o = number_of (types_of c) (spelling c.names o.name)

  abbrev behind : Object → List Field
  behind o = flat_map (object_field (types_of c) c.names) o.members

  abbrev front : Object → List Field
  front o = parameter_fields (types_of c) c.names o.parameters

  abbrev pub Stands : ℕ → Object → Type 0
  Stands k o = slice_get (types_in c.declarations) k ≡ Some (declaration.Object o)

  -- a field of a name and a type
  pub record Has (fs : List Field) (name : NameId) (ty : Ty) : Type 0 where
    pub at : ℕ
    pub field : Field
    pub stands : slice_get fs at ≡ Some field
    pub name_is : field.name ≡ name
    pub type_is : field.ty ≡ ty

  -- whose initial it is
  pub data IsOf (who : Option TypeId) (name : NameId) (ty : Ty) : Type 0 where
    a_variable : who ≡ None → Has (variables_of c) name ty → IsOf who name ty
    a_field : (k : ℕ) (o : Object) → Stands k o → who ≡ Some (type_number (number o))
        → Has (behind o) name ty → IsOf who name ty

  of_member : (k : ℕ) (o : Object) → Stands k o → (b : ℕ) (x : ObjectMember)
      → (slice_get (flat_map (object_field (types_of c) c.names) o.members) ≡ slice_get (behind o))
      → (j : ℕ) (i : InitialForm) → slice_get (member_initial n (owner n o.name) x) j ≡ Some i
      → ((g : Field) → slice_get (object_member_field (types_of c) c.names x) 0 ≡ Some g
      → (at : ℕ) × (slice_get (behind o) at ≡ Some g))
      → IsOf i.owner i.name i.ty
  of_member k o st b (object_member.Variable v) q j i e has =
      let same = only (forming.initial n (Some (owner n o.name)) v) i j e in
      let w = has (variable_field (types_of c) c.names v) refl in
      subst (λ (z : InitialForm). IsOf z.owner z.name z.ty) same
      (a_field k o st refl
      (record {
        at = w.0;
        field = variable_field (types_of c) c.names v;
        stands = w.1;
        name_is = refl;
        type_is = refl;
      }))
  of_member k o st b (object_member.Method m) q j i e has = absurd cc

  of_declaration : (a : ℕ) (d : Declared) → slice_get c.declarations a ≡ Some d → (e : Declaration)
      → d.declaration ≡ e → (j : ℕ) (i : InitialForm) → slice_get (initials n e) j ≡ Some i
      → IsOf i.owner i.name i.ty
  of_declaration a d g (declaration.Variable v) q j i e =
      let same = only (forming.initial n None v) i j e in
      let w = in_flat (declared_variables (types_of c) c.names) c.declarations a 0 d
      (variable_field (types_of c) c.names v) g
      (ap (λ z. slice_get (variables_at (types_of c) c.names z) 0) q) in
      subst (λ (z : InitialForm). IsOf z.owner z.name z.ty) same
      (a_variable refl
      (record {
        at = w.0;
        field = variable_field (types_of c) c.names v;
        stands = w.1;
        name_is = refl;
        type_is = refl;
      }))
  of_declaration a d g (declaration.Function f) q j i e = absurd cc
  of_declaration a d g (declaration.Trait t) q j i e = absurd cc
  of_declaration a d g (declaration.Object o) q j i e =
      let w = from_flat (entry_initial n (owner n o.name)) o.members j i e in
      let k = in_types c.declarations a d o g q in
      of_member k.0 o k.1 w.0 w.1.member refl w.2 i w.4
      (λ x f. in_flat (object_field (types_of c) c.names) o.members w.0 0 w.1 x w.3 f)

  pub is_of : (j : ℕ) (i : InitialForm) → slice_get (forms_of c groups).initials j ≡ Some i
      → IsOf i.owner i.name i.ty
  is_of j i e =
      let w = from_flat (declared_initials n) c.declarations j i e
      in of_declaration w.0 w.1 w.3 w.1.declaration refl w.2 i w.4

-- ---- initials with their types

module _ (c : Component) (h : Hierarchy) (is : IsHierarchy c (type_names c) h) (m : Members)
    (members : AreMembers c m) (groups : Groups) (typed : Typed)
    (has : HasTypes (known_of c h m) (forms_of c groups) typed)
    (fits : (j : ℕ) (i : InitialForm) → slice_get (forms_of c groups).initials j ≡ Some i
    → FitsFile i.value)
    (p : Program) (same : p.types ≡ h.table) (built_in : p.built_in ≡ BUILT_IN) (S : Sig) where
  abbrev texts : List (List ℕ)
  texts = c.texts

  sub : {v : Value} {A T : Ty} → HasV p S v A → IsNumbered (length (declares c)) A
      → types.Below (declares c) A T → HasV p S v T
  sub {v} {A} {T} x n b =
      sub_v p S (λ X Y Z u w. transitive p (through p.types.below (rows_through c h is p same)) u w)
      x (below c h is p same A T n b)

  many : 7 ≤ length (declares c)
  many = let k = counted c in omega arith

  initial_has : (i : InitialForm) (t : TypedForm) → FitsFile i.value
      → HasInitial (known_of c h m) i t → HasV p S (constant texts t) i.ty
  initial_has i t f (initial k b) =
      sub (constant_has p built_in S texts (known_of c h m) i.value t k f)
      (constant_numbered (length (declares c)) many (known_of c h m) i.value t k) b

  -- an initial of the program
  pub record Told (x : Initial) : Type 0 where
    pub is_of_it : IsOf c groups x.0 x.1 x.2
    pub has_type : HasV p S (constant texts x.3) x.2

  told : (j : ℕ) (x : Initial) → slice_get typed.initials j ≡ Some x → Told x
  told j x e =
      let l = slice_get_within typed.initials j x e in
      let r = has.initials in
      let i = there (forms_of c groups).initials j (omega (arith, l, r)) in
      let w = has.each_initial j i.0 i.1 in
      subst Told (some_of (sym w.2 ∙ e))
      (record {
        is_of_it = is_of c groups j i.0 i.1;
        has_type = initial_has i.0 w.0 (fits j i.0 i.1) w.1;
      })

  -- ---- of variables at the top

  variable_by : (f : Field) (i : ℕ) → slice_get (variables_of c) i ≡ Some f → (x : Initial)
      → x.0 ≡ None → x.1 ≡ f.name → Told x → HasV p S (constant texts x.3) f.ty
  variable_by f i e x none name t = go t.is_of_it
    where
      go : IsOf c groups x.0 x.1 x.2 → HasV p S (constant texts x.3) f.ty
      go (a_field k o st q r) =
          let z : None ≡ Some (type_number (number_of (types_of c) (spelling c.names o.name))) =
          sym none ∙ q in absurd cc
      go (a_variable q r) =
          let at = variables_once c h is i r.at f r.field e r.stands (sym (r.name_is ∙ name)) in
          let again : r.field ≡ f =
          one (variables_of c) i f r.field e (ap (slice_get (variables_of c)) at ∙ r.stands) in
          subst (HasV p S (constant texts x.3)) (sym r.type_is ∙ ap (λ
          (z : Field). z.ty) again) t.has_type

  pub variable_has : (f : Field) (i : ℕ) → slice_get (variables_of c) i ≡ Some f → (v : Value)
      → shaping.initial texts typed.initials None f.name ≡ Some v → HasV p S v f.ty
  variable_has f i e v g = let w = found texts typed.initials None f.name v g in
      subst (λ z. HasV p S z f.ty) (sym w.value)
      (variable_by f i e w.it (same_none w.it.0 w.owned) w.named (told w.at w.it w.stands))

  -- ---- of fields of objects

  field_by : (k : ℕ) (o : Object) → (st : Stands c groups k o) → (f : Field) (i : ℕ)
      → slice_get (own c k o st) i ≡ Some f → (x : Initial)
      → x.0 ≡ Some (type_number (TYPE_COUNT + k)) → x.1 ≡ f.name → Told x
      → HasV p S (constant texts x.3) f.ty
  field_by k o st f i e x who name t = go t.is_of_it
    where
      same_id : (a b : ℕ) → Some (type_number a) ≡ Some (type_number b) → a ≡ b
      same_id a b q = ap (λ (z : TypeId). z.0) (some_of q)

      go : IsOf c groups x.0 x.1 x.2 → HasV p S (constant texts x.3) f.ty
      go (a_variable q r) =
          let z : None ≡ Some (type_number (TYPE_COUNT + k)) = sym q ∙ who in absurd cc
      go (a_field l u su q r) =
          let number_is : number_of (types_of c) (spelling c.names u.name) ≡ TYPE_COUNT + l =
          number_at c h is l (declaration.Object u) su in
          let number_too : number_of (types_of c) (spelling c.names u.name) ≡ TYPE_COUNT + k =
          same_id (number_of (types_of c) (spelling c.names u.name)) (TYPE_COUNT + k) (sym q
          ∙ who) in
          let again : l ≡ k = omega (arith, number_is, number_too) in
          let one_object : u ≡ o =
          object_same (sym su ∙ ap (slice_get (types_in c.declarations)) again ∙ st) in
          let stands : slice_get (own c k o st) (length (front c groups o) + r.at) ≡ Some r.field =
          get_behind (front c groups o) (behind c groups o) (length (front c groups o) + r.at)
          r.at refl ∙ ap (λ z. slice_get (behind c groups z) r.at) (sym one_object) ∙ r.stands
          in
          let at = own_once c k o st m members i (length (front c groups o) + r.at) f r.field e
          stands (sym (r.name_is ∙ name)) in
          let same_field : r.field ≡ f =
          one (own c k o st) i f r.field e (ap (slice_get (own c k o st)) at ∙ stands) in
          subst (HasV p S (constant texts x.3)) (sym r.type_is ∙ ap (λ
          (z : Field). z.ty) same_field) t.has_type
        where
          object_same : {a b : Object} → Some (declaration.Object a) ≡ Some (declaration.Object b)
              → a ≡ b
          object_same e = cc

  pub field_has : (k : ℕ) (o : Object) → (st : Stands c groups k o) → (f : Field) (i : ℕ)
      → slice_get (own c k o st) i ≡ Some f → (v : Value)
      → shaping.initial texts typed.initials (Some (type_number (TYPE_COUNT + k))) f.name ≡ Some v
      → HasV p S v f.ty
  field_has k o st f i e v g =
      let w = found texts typed.initials (Some (type_number (TYPE_COUNT + k))) f.name v g in
      subst (λ z. HasV p S z f.ty) (sym w.value)
      (field_by k o st f i e w.it
      (same_type w.it.0 (Some (type_number (TYPE_COUNT + k))) (type_number (TYPE_COUNT + k))
      w.owned refl) w.named (told w.at w.it w.stands))
