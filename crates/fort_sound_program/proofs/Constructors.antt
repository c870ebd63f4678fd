-- Constructors make objects of their types.
use Rattle.std.proofs.Common.{◌≡◌, inl, inr, ℕ, zero, suc, ◌+◌, false, List, [], ◌∷◌, ◌++◌, length, map, Option, Some, None, refl, sym, ap, ◌∙◌, subst}
use Rattle.std.specs.Prelude.{filter_map, option_map, option_and_then}
use Rattle.std.specs.List.{slice_get, flat_map, cons_option, AllByRecursion}
use Rattle.std.proofs.lemmas.List.{map-append}
use Rattle.fort_base.specs.declared.ids.TypeId.{TypeId}
use Rattle.fort_base.specs.declared.ty.Ty.{Ty}
use Rattle.fort_base.specs.declared.ty.Ty.TheVariants.{Named}
use Rattle.fort_base.specs.declared.refusal.Place.{Place}
use Rattle.fort_core.specs.declared.primitive.Primitive.{Primitive}
use Rattle.fort_core.specs.declared.program.CoreBody.TheVariants as body
use Rattle.fort_core.specs.declared.program.CoreDecl.{CoreDecl}
use Rattle.fort_core.specs.declared.program.CoreField.{CoreField}
use Rattle.fort_core.specs.declared.program.CoreShape.{CoreShape}
use Rattle.fort_core.specs.declared.program.Program.{Program}
use Rattle.fort_core.specs.declared.term.Term.{Term}
use Rattle.fort_core.specs.declared.value.Value.{Value}
use Rattle.fort_machine.specs.Written.{HaveNone, HaveConstants, Constructs}
use Rattle.fort_tree.specs.declared.declarations.Component.{Component}
use Rattle.fort_tree.specs.declared.declarations.Declaration.{Declaration}
use Rattle.fort_tree.specs.declared.declarations.Declaration.TheVariants as declaration
use Rattle.fort_tree.specs.declared.declarations.Declared.{Declared}
use Rattle.fort_tree.specs.declared.declarations.MethodBody.{MethodBody}
use Rattle.fort_tree.specs.declared.declarations.Object.{Object}
use Rattle.fort_tree.specs.declared.declarations.ObjectMember.{ObjectMember}
use Rattle.fort_tree.specs.declared.declarations.ObjectMember.TheVariants as object_member
use Rattle.fort_tree.specs.declared.declarations.ObjectParameters.{ObjectParameters}
use Rattle.fort_tree.specs.declared.declarations.TraitMember.{TraitMember}
use Rattle.fort_tree.specs.declared.declarations.TraitMember.TheVariants as trait_member
use Rattle.fort_types_builtin.specs.declared.table.BuiltInDeclaration.{BuiltInDeclaration}
use Rattle.fort_types_builtin.specs.Declarations.{declarations, primitives_of}
use Rattle.fort_hier.specs.Names.{spelling}
use Rattle.fort_hier.specs.Numbers.{number_of}
use Rattle.fort_types_sets.specs.declared.member.Member.{Member}
use Rattle.fort_types_sets.specs.declared.member.MemberKind.{MemberKind}
use Rattle.fort_types_sets.specs.declared.member.MemberKind.TheVariants as a_kind
use Rattle.fort_types_sets.specs.declared.member.MemberSet.{MemberSet}
use Rattle.fort_member_fields.specs.Own.{types_of}
use Rattle.fort_member.specs.declared.entries.Entry.{Entry}
use Rattle.fort_member.specs.BuiltIn.{built_in_entry, built_in_entries}
use Rattle.fort_member.specs.Declarations.{method_kind, trait_member_entry, trait_entry, object_member_entry, object_entry, constructor_entry, entries_at, declared_entries, entries_of}
use Rattle.fort_member.proofs.Numbered.{all_items}
use Rattle.fort_member.proofs.SetLaws.{get_mapped}
use Rattle.fort_sound_typed.specs.Envs.{Sig}
use Rattle.fort_sound_typed.specs.Typing.{is_same, Makes, HasV, HasVs, vs0, vs1}
use Rattle.fort_sound_typed.specs.Sound.{opening, NewFits}
use Rattle.fort_elab_law_matched.proofs.Shapes.{get_behind}
use Rattle.fort_elab_law_matched.proofs.Types.{types_in, all_weaker}
use Rattle.fort_elab_meaning.specs.Bodies.{body_at}
use Rattle.fort_elab_meaning.specs.Programs.{core_body}
use Rattle.fort_sound_program.proofs.Flat.{some_of, from_flat, only, in_types}
use Rattle.fort_sound_program.proofs.Order.{type_number}
use Rattle.fort_sound_program.proofs.Placed.{either_side}

-- ---- which declarations are constructors

module _ (c : Component) where
  -- it is the constructor of an object
  pub record OfObject (e : Entry) (t : TypeId) : Type 0 where
    pub k : ℕ
    pub object : Object
    pub stands : slice_get (types_in c.declarations) k ≡ Some (declaration.Object object)
    pub type_is : t ≡ type_number (number_of (types_of c) (spelling c.names object.name))
    pub result_is : e.member.result ≡ Named t
    pub name_is : e.name ≡ spelling c.names object.name
    pub plain : e.dotted ≡ false

  abbrev pub IsConstructor : Entry → Type 0
  IsConstructor e = (t : TypeId) → e.member.kind ≡ a_kind.Constructor t → OfObject e t

  method_none : (b : Option MethodBody) (t : TypeId) → method_kind b ≡ a_kind.Constructor t → ⊥
  method_none None t e = absurd cc
  method_none (Some b) t e = absurd cc

  of_trait : (t : ℕ) (x : TraitMember) (j : ℕ) (e : Entry)
      → slice_get (trait_member_entry (types_of c) c.names t x) j ≡ Some e → IsConstructor e
  of_trait t (trait_member.Field name colon ty) j e g u q = absurd cc
  of_trait t (trait_member.Method m) zero e g u q =
      absurd (method_none m.body u (ap (λ (z : Entry). z.member.kind) (some_of g) ∙ q))
  of_trait t (trait_member.Method m) (suc j) e g u q = absurd cc

  of_body : (t : ℕ) (x : ObjectMember) (j : ℕ) (e : Entry)
      → slice_get (object_member_entry (types_of c) c.names t x) j ≡ Some e → IsConstructor e
  of_body t (object_member.Variable v) j e g u q = absurd cc
  of_body t (object_member.Method m) zero e g u q =
      absurd (method_none m.body u (ap (λ (z : Entry). z.member.kind) (some_of g) ∙ q))
  of_body t (object_member.Method m) (suc j) e g u q = absurd cc

  constructor_step : (k : ℕ) (o : Object)
      → slice_get (types_in c.declarations) k ≡ Some (declaration.Object o)
      → (ps : Option ObjectParameters) (j : ℕ) (e : Entry)
      → slice_get
      (constructor_entry (types_of c) c.names (number_of (types_of c) (spelling c.names o.name)) o
      ps) j ≡ Some e → IsConstructor e
  constructor_step k o st None j e g u q = absurd cc
  constructor_step k o st (Some ps) zero e g u q =
      let t = type_number (number_of (types_of c) (spelling c.names o.name)) in
      let same : t ≡ u = id_same (ap (λ (z : Entry). z.member.kind) (some_of g) ∙ q) in
      record {
        k = k;
        object = o;
        stands = st;
        type_is = sym same;
        result_is = ap (λ (z : Entry). z.member.result) (sym (some_of g)) ∙ ap Named same;
        name_is = ap (λ (z : Entry). z.name) (sym (some_of g));
        plain = ap (λ (z : Entry). z.dotted) (sym (some_of g));
      }
    where
      id_same : {a b : TypeId} → a_kind.Constructor a ≡ a_kind.Constructor b → a ≡ b
      id_same e = cc
  constructor_step k o st (Some ps) (suc j) e g u q = absurd cc

  of_declaration : (a : ℕ) (d : Declared) → slice_get c.declarations a ≡ Some d → (x : Declaration)
      → d.declaration ≡ x → (j : ℕ) (e : Entry)
      → slice_get (entries_at (types_of c) c.names x) j ≡ Some e → IsConstructor e
  of_declaration a d g (declaration.Variable v) r j e f u q = absurd cc
  of_declaration a d g (declaration.Function w) r j e f u q = function_none (only _ e j f) refl u q
    where
      function_none : {y : Entry} → y ≡ e → y.member.kind ≡ a_kind.Concrete → (u : TypeId)
          → e.member.kind ≡ a_kind.Constructor u → OfObject e u
      function_none s k u q = absurd
          (let z : a_kind.Concrete ≡ a_kind.Constructor u =
          sym k ∙ ap (λ (z : Entry). z.member.kind) s ∙ q in cc)
  of_declaration a d g (declaration.Trait t) r j e f u q =
      let w = from_flat
      (trait_entry (types_of c) c.names (number_of (types_of c) (spelling c.names t.name)))
      t.members j e f in
      of_trait (number_of (types_of c) (spelling c.names t.name)) w.1.member w.2 e w.4 u q
  of_declaration a d g (declaration.Object o) r j e f u q =
      let t = number_of (types_of c) (spelling c.names o.name) in
      let k = in_types c.declarations a d o g r in
      elim (either_side (constructor_entry (types_of c) c.names t o o.parameters)
      (flat_map (object_entry (types_of c) c.names t) o.members) j e f) as
      (λ _. OfObject e u) [
        | inl v ↦ constructor_step k.0 o k.1 o.parameters j e v u q
        | inr v ↦
            (let w = from_flat (object_entry (types_of c) c.names t) o.members v.0 e v.2
            in of_body t w.1.member w.2 e w.4 u q)
      ]

  of_built_in : (ds : List BuiltInDeclaration) (j : ℕ) (e : Entry)
      → slice_get (map built_in_entry ds) j ≡ Some e → IsConstructor e
  of_built_in ds j e g u q =
      let w = get_mapped built_in_entry ds j e g in absurd
      (let z : a_kind.BuiltIn ≡ a_kind.Constructor u = ap (λ (z : Entry). z.member.kind) w.2 ∙ q
      in cc)

  pub all_constructors : AllByRecursion (λ (e : Entry). IsConstructor e) (entries_of c)
  all_constructors = all_items (λ (e : Entry). IsConstructor e) (entries_of c) (λ i e g.
      elim (either_side built_in_entries
      (flat_map (declared_entries (types_of c) c.names) c.declarations) i e g) as
      (λ _. IsConstructor e) [
        | inl f ↦ of_built_in declarations i e f
        | inr v ↦
            (let w = from_flat (declared_entries (types_of c) c.names) c.declarations v.0 e v.2
            in of_declaration w.0 w.1 w.3 w.1.declaration refl w.2 e w.4)
      ])

  -- the same of a member
  pub record MadeBy (m : Member) (t : TypeId) : Type 0 where
    pub k : ℕ
    pub object : Object
    pub stands : slice_get (types_in c.declarations) k ≡ Some (declaration.Object object)
    pub type_is : t ≡ type_number (number_of (types_of c) (spelling c.names object.name))
    pub result_is : m.result ≡ Named t

  abbrev pub MakesIt : Member → Type 0
  MakesIt m = (t : TypeId) → m.kind ≡ a_kind.Constructor t → MadeBy m t

  pub all_made : AllByRecursion (λ (e : Entry). MakesIt e.member) (entries_of c)
  all_made =
      all_weaker (λ (e : Entry). IsConstructor e) (λ (e : Entry). MakesIt e.member) (entries_of c)
      (λ e w t q. let o = w t q
      in record {
        k = o.k;
        object = o.object;
        stands = o.stands;
        type_is = o.type_is;
        result_is = o.result_is;
      }) all_constructors

-- ---- what they became

no_primitive : (o : Option Primitive) (id : TypeId)
    → option_map body.Primitive o ≡ Some (body.New id) → ⊥
no_primitive None id e = absurd cc
no_primitive (Some f) id e = absurd cc

no_term : (o : Option Term) (id : TypeId) → option_map body.Plain o ≡ Some (body.New id) → ⊥
no_term None id e = absurd cc
no_term (Some t) id e = absurd cc

pub constructor_kind : (table : List (Place × Term)) (s : MemberSet) (at : ℕ) (m : Member)
    (kind : MemberKind) (id : TypeId) → core_body table s at m kind ≡ Some (body.New id)
    → kind ≡ a_kind.Constructor id
constructor_kind table s at m a_kind.BuiltIn id e =
    absurd (no_primitive (slice_get (primitives_of s.name (length m.parameters)) at) id e)
constructor_kind table s at m (a_kind.Constructor t) id e =
    let z : body.New t ≡ body.New id = some_of e in let y : t ≡ id = cc in ap a_kind.Constructor y
constructor_kind table s at m a_kind.Concrete id e =
    absurd (no_term (option_and_then (body_at table) m.place) id e)
constructor_kind table s at m a_kind.Abstract id e = absurd cc

-- ---- their objects

module _ (p : Program) (S : Sig) where
  abbrev type_in : CoreField → Ty
  type_in f = f.ty

  without : (fs gs : List CoreField) → HaveNone fs
      → filter_map (λ (f : CoreField). f.initial) (fs ++ gs) ≡ filter_map (λ
      (f : CoreField). f.initial) gs
  without [] gs h = refl
  without (f ∷ fs) gs h =
      ap (λ z. cons_option z (filter_map (λ (f : CoreField). f.initial) (fs ++ gs))) h.0
      ∙ without fs gs h.1

  have : (gs : List CoreField) → HaveConstants gs
      → ((j : ℕ) (g : CoreField) → slice_get gs j ≡ Some g → (v : Value) → g.initial ≡ Some v
      → HasV p S v g.ty)
      → HasVs p S (filter_map (λ (f : CoreField). f.initial) gs) (map type_in gs)
  have [] h each = vs0
  have (g ∷ gs) h each =
      let w = h.0
      in subst (λ z. HasVs p S (cons_option z (filter_map (λ (f : CoreField). f.initial) gs))
      (g.ty ∷ map type_in gs)) (sym w.1)
      (vs1 (each 0 g refl w.0 w.1) (have gs h.1 (λ j x e. each (suc j) x e)))

pub new_fits : (p : Program) (id : TypeId) (decl : CoreDecl) → Constructs p id decl.parameters
    → ((s : CoreShape) → slice_get p.shapes id.0 ≡ Some s → Makes s.kind)
    → ((s : CoreShape) → slice_get p.shapes id.0 ≡ Some s → (i : ℕ) (f : CoreField)
    → slice_get s.fields i ≡ Some f → (v : Value) → f.initial ≡ Some v
    → HasV p (opening p) v f.ty) → decl.result ≡ Named id → NewFits p id decl
new_fits p id decl w made each result = record {
  shape = w.shape;
  is_shape = w.is_shape;
  is_made = made w.shape w.is_shape;
  types = map (λ (f : CoreField). f.ty) w.constant;
  constants_have =
      subst (λ z. HasVs p (opening p) z (map (λ (f : CoreField). f.ty) w.constant))
      (sym (ap (filter_map (λ (f : CoreField). f.initial)) w.are_fields
      ∙ without p (opening p) w.awaited w.constant w.have_none))
      (have p (opening p) w.constant w.have_constants
      (λ j g e v q. each w.shape w.is_shape (length w.awaited + j) g
      (ap (λ z. slice_get z (length w.awaited + j)) w.are_fields
      ∙ get_behind w.awaited w.constant (length w.awaited + j) j refl ∙ e) v q));
  fields = ap (map (λ (f : CoreField). f.ty)) w.are_fields ∙ map-append (λ
      (f : CoreField). f.ty) w.awaited w.constant
      ∙ ap (λ z. z ++ map (λ (f : CoreField). f.ty) w.constant) w.are_parameters;
  result = is_same (sym result);
}
