-- What the typing of translated forms takes of the program of a component.
use Rattle.std.proofs.Common.{◌≡◌, ◌⊎◌, inl, inr, ◌<◌, ◌≤◌, ℕ, zero, suc, ◌+◌, ◌-◌, ◌==◌, Bool, true, false, if◌then◌else◌, cond, List, [], ◌∷◌, length, replicate, map, Option, Some, None, refl, sym, ap, ◌∙◌, subst, eqb-true, eq-eqb, arith}
use Rattle.std.specs.Prelude.{nat_eq, option_map}
use Rattle.std.specs.List.{slice_get, flat_map}
use Rattle.std.proofs.lemmas.List.{length-replicate}
use Rattle.std.proofs.lemmas.Option.{slice_get_within}
use Rattle.fort_base.specs.declared.ids.NameId.{NameId}
use Rattle.fort_base.specs.declared.ids.TypeId.{TypeId}
use Rattle.fort_core.specs.declared.program.CoreShape.{CoreShape}
use Rattle.fort_core.specs.declared.program.Program.{Program}
use Rattle.fort_machine.specs.Forms.{place_of}
use Rattle.fort_lex_token.specs.declared.token.Tokens.{Tokens}
use Rattle.fort_types.specs.declared.hierarchy.DeclaredType.{DeclaredType}
use Rattle.fort_types.specs.declared.hierarchy.TypeKind.{TypeKind}
use Rattle.fort_types.specs.declared.hierarchy.TypeKind.TheVariants as a_kind
use Rattle.fort_types.specs.Hierarchy.{Trait, Extends}
use Rattle.fort_tree.specs.declared.declarations.Component.{Component}
use Rattle.fort_tree.specs.declared.declarations.Declaration.{Declaration}
use Rattle.fort_tree.specs.declared.declarations.Declaration.TheVariants as declaration
use Rattle.fort_tree.specs.declared.declarations.TraitMember.{TraitMember}
use Rattle.fort_tree.specs.declared.declarations.TraitMember.TheVariants as trait_member
use Rattle.fort_tree.specs.declared.grouped.Groups.{Groups}
use Rattle.fort_types_builtin.specs.declared.types.TheConstants.{TYPE_COUNT}
use Rattle.fort_types_builtin.specs.Objects.{location}
use Rattle.fort_types_builtin.specs.Types.{types, built_in_declared}
use Rattle.fort_types_builtin.proofs.PlainTypes.{built_in_count}
use Rattle.fort_hier.specs.declared.accepted.Hierarchy.{Hierarchy}
use Rattle.fort_hier.specs.declared.heads.TypeHead.{TypeHead}
use Rattle.fort_hier.specs.Heads.{heads_of}
use Rattle.fort_hier.specs.Hierarchies.{declares}
use Rattle.fort_hier.specs.Numbers.{all_types, declared_by}
use Rattle.fort_types_sets.specs.declared.field.Field.{Field}
use Rattle.fort_types_sets.specs.declared.member.Members.{Members}
use Rattle.fort_types_sets.specs.Leaves.{leaf_kind, is_leaf}
use Rattle.fort_member_fields.specs.Inherited.{Declares, Has, declared, inherited}
use Rattle.fort_member_fields.specs.Own.{own_fields, declared_own, types_of, trait_field, trait_member_field}
use Rattle.fort_member_fields.proofs.Items.{of_get, get_of, get_left, one}
use Rattle.fort_member.proofs.SetLaws.{get_mapped, get_of_mapped}
use Rattle.fort_typing_known.specs.Names.{field_in, field_among}
use Rattle.fort_form_typed.specs.declared.component.Typed.{Typed}
use Rattle.fort_sound_typed.specs.Typing.{ShapeOf, Makes, FieldOf}
use Rattle.fort_sound_typed.specs.Sound.{opening}
use Rattle.fort_sound_typed.proofs.Bind.{Tells, alike, apart, tells, self_same}
use Rattle.fort_elab_meaning.specs.Shapes.{Initial, kind_of, core_field, variable_types, types_by}
use Rattle.fort_elab_law_matched.proofs.Shapes.{get_behind}
use Rattle.fort_elab_law_matched.proofs.Types.{types_in, own_of_type, owns_are, kind_of_type, kind_of_head, kinds_are}
use Rattle.fort_sound_program.specs.Checked.{Checked}
use Rattle.fort_sound_program.proofs.BuiltInTypes.{there, same_item, no_field}
use Rattle.fort_sound_program.proofs.Fields.{which_kind}
use Rattle.fort_sound_program.proofs.Flat.{some_of, from_flat}
use Rattle.fort_sound_program.proofs.Locations.{variable_at}
use Rattle.fort_sound_program.proofs.Order.{type_number, sound}
use Rattle.fort_sound_program.proofs.Placed.{nothing_plus, either_side}
use Rattle.fort_sound_program.proofs.Shapes.{Told, built_in, own, own_shape, rows_long, makes_object}
use Rattle.fort_sound_program.proofs.Store.{told_at, typed_location}

-- ---- the place of a field

place_step : (texts : List (List ℕ)) (is : List Initial) (t : TypeId) (g : Field) (fs : List Field)
    (name : NameId) (f : Field) (b : Bool) → nat_eq g.name.0 name.0 ≡ b → Tells g.name.0 name.0
    → (field_in fs name ≡ Some f
    → (n : ℕ) × (place_of name (map (core_field texts is t) fs) ≡ Some n)
    × (slice_get fs n ≡ Some f)) → cond b (Some g) (field_in fs name) ≡ Some f
    → (n : ℕ) × (place_of name (map (core_field texts is t) (g ∷ fs)) ≡ Some n)
    × (slice_get (g ∷ fs) n ≡ Some f)
place_step texts is t g fs name f true q (alike a b) rest e = (
  0,
  ap (λ b. if b then Some 0
      else option_map (λ n. n + 1) (place_of name (map (core_field texts is t) fs))) b,
  e,
)
place_step texts is t g fs name f true q (apart a b) rest e = absurd
    (let z : true ≡ false =
    sym (self_same name.0) ∙ ap (λ n. n == name.0) (sym (eqb-true g.name.0 name.0 q)) ∙ a in cc)
place_step texts is t g fs name f false q (alike a b) rest e =
    let z : true ≡ false = sym (eq-eqb g.name.0 name.0 a) ∙ q in absurd cc
place_step texts is t g fs name f false q (apart a b) rest e =
    let w = rest e in (
      w.0 + 1,
      ap (λ b. if b then Some 0
          else option_map (λ n. n + 1) (place_of name (map (core_field texts is t) fs))) a
          ∙ ap (option_map (λ n. n + 1)) w.1,
      ap (slice_get (g ∷ fs))
          (let q : w.0 + 1 ≡ suc w.0 = omega arith in q) ∙ w.2,
    )

place_there : (texts : List (List ℕ)) (is : List Initial) (t : TypeId) (fs : List Field)
    (name : NameId) (f : Field) → field_in fs name ≡ Some f
    → (n : ℕ) × (place_of name (map (core_field texts is t) fs) ≡ Some n)
    × (slice_get fs n ≡ Some f)
place_there texts is t [] name f e = absurd cc
place_there texts is t (g ∷ fs) name f e =
    place_step texts is t g fs name f (nat_eq g.name.0 name.0) refl (tells g.name.0 name.0)
    (place_there texts is t fs name f) e

among : (o : Option (List Field)) (name : NameId) (f : Field) → field_among o name ≡ Some f
    → (fs : List Field) × (o ≡ Some fs) × (field_in fs name ≡ Some f)
among None name f e = absurd cc
among (Some fs) name f e = (fs, refl, e)

-- ---- the fields of traits can't be assigned to

trait_only : (list names : List (List ℕ)) (x : TraitMember) (j : ℕ) (f : Field)
    → slice_get (trait_member_field list names x) j ≡ Some f → f.mutable ≡ false
trait_only list names (trait_member.Field name colon ty) zero f e =
    ap (λ (z : Field). z.mutable) (sym (some_of e))
trait_only list names (trait_member.Field name colon ty) (suc j) f e = absurd cc
trait_only list names (trait_member.Method m) j f e = absurd cc

no_leaf : (k : TypeKind) → leaf_kind k ≡ false → k ≡ a_kind.Trait
no_leaf a_kind.Trait e = refl
no_leaf a_kind.Object e = absurd cc
no_leaf a_kind.Leaf e = absurd cc

none_in : (fs : List Field) → [] ≡ fs → (i : ℕ) (f : Field) → slice_get fs i ≡ Some f → ⊥
none_in fs q i f e = let z : slice_get [] i ≡ Some f = ap (λ z. slice_get z i) q ∙ e in absurd cc

less : (n : ℕ) → (n < TYPE_COUNT) ⊎ (TYPE_COUNT ≤ n)
less n = grind arith

module _ (tokens : Tokens) (c : Component) (h : Hierarchy) (m : Members) (groups : Groups)
    (typed : Typed) (p : Program) (ok : Checked tokens c h m groups typed p) where
  -- ---- variables at the top

  pub tops : (n : ℕ) (v : Field) → slice_get m.variables n ≡ Some v → opening p n ≡ Some v.ty
  tops n v e =
      let at = variable_at 0 m.variables n v e in
      let all =
      get_left (variable_types 0 m.variables) (flat_map types_by p.shapes) n (
        location (0 + n),
        v.ty,
      ) at in
      ap (opening p) (sym (nothing_plus n))
      ∙ typed_location tokens c h m groups typed p ok n (location (0 + n)) v.ty
      (ap (λ z. slice_get z n) ok.program.opening_types ∙ all)

  -- ---- fields

  -- a field that is found is one that the type has
  has_field : (o : TypeId) (fs : List Field) (name : NameId) (f : Field)
      → slice_get m.fields o.0 ≡ Some fs → field_in fs name ≡ Some f
      → Has (declares c) (own_fields c) o.0 f
  has_field o fs name f e g =
      let w = place_there c.texts typed.initials o fs name f g
      in (ok.members.fields.fields.each o.0 fs e).has f (of_get fs w.0 f w.2)

  own_number : (o : TypeId) (fs : List Field) (name : NameId) (f : Field)
      → slice_get m.fields o.0 ≡ Some fs → field_in fs name ≡ Some f
      → (k : ℕ) × (o.0 ≡ TYPE_COUNT + k)
  own_number o fs name f e g = go (which o.0)
    where
      which : (n : ℕ) → (n < TYPE_COUNT) ⊎ ((k : ℕ) × (n ≡ TYPE_COUNT + k))
      which n =
          elim (less n) as (λ _. (n < TYPE_COUNT)
          ⊎ ((k : ℕ) × (n ≡ TYPE_COUNT + k))) [
            | inl l ↦ inl l
            | inr l ↦ inr (n - TYPE_COUNT, omega arith)
          ]

      go : (o.0 < TYPE_COUNT) ⊎ ((k : ℕ) × (o.0 ≡ TYPE_COUNT + k))
          → (k : ℕ) × (o.0 ≡ TYPE_COUNT + k)
      go (inl l) = absurd (no_field c o.0 f l (has_field o fs name f e g))
      go (inr w) = w

  pub fields : (o : TypeId) (name : NameId) (f : Field)
      → field_among (slice_get m.fields o.0) name ≡ Some f → FieldOf p o name f.ty
  fields o name f e =
      let w = among (slice_get m.fields o.0) name f e in
      let fs = w.0 in
      let k = own_number o fs name f w.1 w.2 in
      let number = ok.members.fields.fields.number in
      let many = slice_get_within m.fields o.0 fs w.1 in
      let d = there (declares c) o.0 (omega arith) in
      let object =
      ap (λ z. slice_get z o.0) ok.members.objects
      ∙ get_of_mapped is_leaf (declares c) o.0 d.0 d.1 in
      let s = own_shape c m ok.members c.texts typed.initials o.0 k.0 (is_leaf d.0) fs k.1 object
      w.1 in
      let place = place_there c.texts typed.initials (type_number o.0) fs name f w.2 in
      let are : s.0.fields ≡ map (core_field c.texts typed.initials (type_number o.0)) fs =
      ap (λ (z : CoreShape). z.fields) s.2.is_shape in
      record {
        shape = s.0;
        place = place.0;
        field = core_field c.texts typed.initials (type_number o.0) f;
        is_shape = ap (λ z. slice_get z o.0) ok.program.shapes ∙ s.1;
        is_place = ap (place_of name) are ∙ place.1;
        is_field =
            ap (λ z. slice_get z place.0) are
            ∙ get_of_mapped (core_field c.texts typed.initials (type_number o.0)) fs place.0 f
            place.2;
        is_type = refl;
      }

  -- ---- fields that can be assigned to

  own_immutable : (x : Declaration) → kind_of_type x ≡ a_kind.Trait → (i : ℕ) (f : Field)
      → slice_get (own_of_type (types_of c) c.names x) i ≡ Some f → f.mutable ≡ false
  own_immutable (declaration.Variable v) k i f e = absurd cc
  own_immutable (declaration.Function v) k i f e = absurd cc
  own_immutable (declaration.Trait t) k i f e =
      let w = from_flat (trait_field (types_of c) c.names) t.members i f e
      in trait_only (types_of c) c.names w.1.member w.2 f w.4
  own_immutable (declaration.Object o) k i f e = absurd cc

  own_types : TypeHead → DeclaredType
  own_types = declared_by (all_types c.names (heads_of c)) c.names

  -- the declaration of a trait is no object
  trait_kind : (a j : ℕ) (x : Declaration)
      → a ≡ length (replicate {A = List Field} TYPE_COUNT []) + j
      → slice_get (types_in c.declarations) j ≡ Some x → Trait (declares c) a
      → kind_of_type x ≡ a_kind.Trait
  unfolding own_types
  trait_kind a j x q e t =
      let n = length-replicate {A = List Field} TYPE_COUNT [] in
      let g = ap (λ z. slice_get z j) (kinds_are 0 c.declarations)
      ∙ get_of_mapped kind_of_type (types_in c.declarations) j x e in
      let head = get_mapped kind_of_head (heads_of c) j (kind_of_type x) g in
      let at : slice_get (declares c) a ≡ Some (own_types head.0) =
      get_behind built_in_declared (map own_types (heads_of c)) a j (let b = built_in_count
      in omega (arith, q, n, b)) ∙ get_of_mapped own_types (heads_of c) j head.0 head.1 in
      let same : own_types head.0 ≡ t.0 = one (declares c) a t.0 (own_types head.0) t.1 at in
      sym head.2 ∙ ap (λ (d : DeclaredType). d.kind) same ∙ t.2

  trait_immutable : (a : ℕ) (f : Field) → Trait (declares c) a → Declares (own_fields c) a f
      → f.mutable ≡ false
  trait_immutable a f t (fs, e, w) =
      let at = get_of fs f w in
      elim (either_side (replicate TYPE_COUNT [])
      (flat_map (declared_own (types_of c) c.names) c.declarations) a fs e) as
      (λ _. f.mutable ≡ false) [
        | inl g ↦ absurd (none_in fs (same_item TYPE_COUNT [] a fs g) at.0 f at.1)
        | inr v ↦
            (let own_at =
            get_mapped (own_of_type (types_of c) c.names) (types_in c.declarations) v.0 fs
            (ap (λ z. slice_get z v.0) (sym (owns_are (types_of c) c.names c.declarations)) ∙ v.2)
            in
            own_immutable own_at.0 (trait_kind a v.0 own_at.0 v.1 own_at.1 t) at.0 f
            (ap (λ z. slice_get z at.0) own_at.2 ∙ at.1))
      ]

  immutable : {a : ℕ} {f : Field} → Trait (declares c) a → Has (declares c) (own_fields c) a f
      → f.mutable ≡ false
  immutable {a} {f} t (declared d) = trait_immutable a f t d
  immutable {a} {f} t (inherited {b = b} u none e has) = immutable (above e) has
    where
      above : Extends (declares c) a b → Trait (declares c) b
      above e =
          let d = there (declares c) b e.3
          in elim (which_kind (declares c) b d.0 d.1) as (λ _. Trait (declares c) b) [
            | inl x ↦ x
            | inr x ↦ absurd ((sound c h ok.hierarchy p ok.program.types).only_traits a b e x)
          ]

  pub mutable : (o : TypeId) (name : NameId) (f : Field) (s : CoreShape)
      → field_among (slice_get m.fields o.0) name ≡ Some f → f.mutable ≡ true → ShapeOf p o s
      → Makes s.kind
  mutable o name f s e changes shape =
      let w = among (slice_get m.fields o.0) name f e in
      let has = has_field o w.0 name f w.1 w.2 in
      let k = own_number o w.0 name f w.1 w.2 in
      by_shape (told_at tokens c h m groups typed p ok o.0 s shape) has k.0 k.1
    where
      by_object : (b : ℕ) (x : Bool) → slice_get m.objects o.0 ≡ Some x
          → Has (declares c) (own_fields c) o.0 f → Makes (kind_of m.sets (type_number o.0) b x)
      by_object b true e has = makes_object m.sets (type_number o.0) b true refl
      by_object b false e has =
          let d = get_mapped is_leaf (declares c) o.0 false
          (ap (λ z. slice_get z o.0) (sym ok.members.objects) ∙ e) in
          let z : true ≡ false = sym changes ∙ immutable (d.0, d.1, no_leaf d.0.kind d.2) has
          in absurd cc

      by_shape : Told c m ok.members c.texts typed.initials o.0 s
          → Has (declares c) (own_fields c) o.0 f → (k : ℕ) → o.0 ≡ TYPE_COUNT + k → Makes s.kind
      by_shape (built_in row b e q) has k n =
          let l = slice_get_within types o.0 row e in let r = rows_long
          in absurd (omega (arith, n, l, r))
      by_shape (own j q x fs e g v) has k n =
          subst (λ (z : CoreShape). Makes z.kind) (sym v.is_shape) (by_object v.base x e has)
