-- The fields of an object are below those of the types above it.
use Rattle.std.proofs.Common.{◌≡◌, ◌⊎◌, inl, inr, ℕ, ◌+◌, ◌-◌, ◌<◌, ◌≤◌, Bool, true, false, IsTrue, List, length, map, Option, Some, None, refl, sym, ap, ◌∙◌, subst, arith}
use Rattle.std.specs.List.{slice_get, Contains}
use Rattle.std.proofs.lemmas.Option.{slice_get_within}
use Rattle.fort_base.specs.declared.ids.NameId.{NameId}
use Rattle.fort_base.specs.declared.ids.TypeId.{TypeId}
use Rattle.fort_base.specs.declared.ty.Ty.{Ty}
use Rattle.fort_types.specs.Hierarchy.{Path, Trait, Leaf}
use Rattle.fort_types.specs.Relation.{relation}
use Rattle.fort_types.specs.Types.{IsNumbered}
use Rattle.fort_types.proofs.Paths.{joined, to_leaf, end_inside}
use Rattle.fort_core.specs.declared.program.CoreField.{CoreField}
use Rattle.fort_core.specs.declared.program.CoreShape.{CoreShape}
use Rattle.fort_core.specs.declared.program.Program.{Program}
use Rattle.fort_machine.specs.Forms.{place_of}
use Rattle.fort_tree.specs.declared.declarations.Component.{Component}
use Rattle.fort_tree_type_names.specs.TypeNames.{type_names}
use Rattle.fort_types_builtin.specs.declared.types.TheConstants.{TYPE_COUNT}
use Rattle.fort_types_builtin.specs.Types.{types}
use Rattle.fort_hier.specs.declared.accepted.Hierarchy.{Hierarchy}
use Rattle.fort_hier.specs.Heads.{heads_of, head_place}
use Rattle.fort_hier.specs.Hierarchies.{declares, places_of, IsHierarchy}
use Rattle.fort_hier.proofs.NamesWalk.{as_long}
use Rattle.fort_types_sets.specs.declared.field.Field.{Field}
use Rattle.fort_types_sets.specs.declared.member.Members.{Members}
use Rattle.fort_member_fields.specs.Inherited.{Declares, Has}
use Rattle.fort_member_fields.specs.Own.{own_fields}
use Rattle.fort_member_fields.specs.Rules.{IsMissing, IsWider, LacksField, not_below}
use Rattle.fort_member_fields.proofs.Items.{of_get, get_of, one}
use Rattle.fort_member.specs.Answers.{AreMembers}
use Rattle.fort_member.proofs.SetLaws.{get_mapped, get_of_mapped}
use Rattle.fort_sound_typed.specs.Typing.{Below, is_same, is_told, ShapeOf, Makes, FieldOf}
use Rattle.fort_sound_typed.specs.Sound.{Under}
use Rattle.fort_elab_meaning.specs.Shapes.{Initial, core_field, shapes}
use Rattle.fort_sound_program.proofs.Order.{type_number, sound, computed, path}
use Rattle.fort_sound_program.proofs.Shapes.{rows_long, Told, built_in, own, told, made_leaf}
use Rattle.fort_sound_program.proofs.BuiltInTypes.{there, counted, stays}
use Rattle.fort_sound_program.proofs.Fields.{at_place, no_place, declared_above, of_leaf_alone, which_kind}

module _ (c : Component) (h : Hierarchy) (is : IsHierarchy c (type_names c) h) (m : Members)
    (has : AreMembers c m) (p : Program) (same : p.types ≡ h.table)
    (held : (n i : ℕ) (all : List Field) (f : Field) → slice_get m.fields n ≡ Some all
    → slice_get all i ≡ Some f → IsNumbered (length (declares c)) f.ty)
    (texts : List (List ℕ)) (initials : List Initial)
    (shaped : p.shapes ≡ shapes texts initials m) where
  told_at : (n : ℕ) (s : CoreShape) → slice_get p.shapes n ≡ Some s
      → Told c m has texts initials n s
  told_at n s e = told c m has texts initials n s (ap (λ z. slice_get z n) (sym shaped) ∙ e)

  -- ---- no type of the component lacks a field

  never_lacks : (a k : ℕ) → a ≡ TYPE_COUNT + k → a < length (declares c)
      → LacksField (declares c) (own_fields c) a → ⊥
  never_lacks a k q l lacks =
      let n = counted c in
      let long = as_long head_place (heads_of c) in
      let w = there (places_of c) k (omega (arith, q)) in
      let at : a ≡ length (declares c) - length (places_of c) + k = omega (arith, q) in
      has.fields.kept 452 w.0
      (not_below refl (k, w.1, subst (LacksField (declares c) (own_fields c)) at lacks))

  -- ---- a field of a type

  -- a field that the program's type has is one that the type has
  pub record Held (j : ℕ) (f : NameId) (A : Ty) : Type 0 where
    pub field : Field
    pub name : field.name ≡ f
    pub type : field.ty ≡ A
    pub has_it : Has (declares c) (own_fields c) j field
    pub behind : TYPE_COUNT ≤ j

  name_of : (t : TypeId) (g : Field) (d : CoreField) (f : NameId)
      → core_field texts initials t g ≡ d → d.name.0 ≡ f.0 → g.name ≡ f
  name_of t g d f e n =
      let q : g.name.0 ≡ f.0 = ap (λ (z : CoreField). z.name.0) e ∙ n
      in ap (λ k. let x : NameId = record { 0 = k } in x) q

  held_by : (j : TypeId) (f : NameId) (A : Ty) → (x : FieldOf p j f A)
      → Told c m has texts initials j.0 x.shape → Held j.0 f A
  held_by j f A x (built_in row b e q) =
      let z : None ≡ Some x.place = ap (λ (s : CoreShape). place_of f s.fields) (sym q) ∙ x.is_place
      in absurd cc
  held_by j f A x (own k n o fs e g w) =
      let cs = map (core_field texts initials (type_number j.0)) fs in
      let fields_are : x.shape.fields ≡ cs = ap (λ (s : CoreShape). s.fields) w.is_shape in
      let at = at_place f cs x.place (ap (place_of f) (sym fields_are) ∙ x.is_place) in
      let same_field : at.0 ≡ x.field =
      one cs x.place x.field at.0 (ap (λ z. slice_get z x.place) (sym fields_are)
      ∙ x.is_field) at.1 in
      let v = get_mapped (core_field texts initials (type_number j.0)) fs x.place at.0 at.1
      in record {
        field = v.0;
        name = name_of (type_number j.0) v.0 at.0 f v.2 at.2;
        type = ap (λ (z : CoreField). z.ty) (v.2 ∙ same_field) ∙ x.is_type;
        has_it = (has.fields.fields.each j.0 fs g).has v.0 (of_get fs x.place v.0 v.1);
        behind = omega (arith, n);
      }

  -- ---- a field of an object below

  -- what an object declares of a name that a trait above it has
  module _ (a k : ℕ) (behind : a ≡ TYPE_COUNT + k) (within : a < length (declares c))
      (leaf : Leaf (declares c) a) (fs : List Field) (e : slice_get m.fields a ≡ Some fs)
      (id : TypeId)
      (t : ℕ) (g : Field) (trait : Trait (declares c) t) (way : Path (declares c) a t)
      (decl : Declares (own_fields c) t g) where
    abbrev cs : List CoreField
    cs = map (core_field texts initials id) fs

    own_is : slice_get (own_fields c) a ≡ Some fs
    own_is = of_leaf_alone (declares c) (own_fields c) a fs leaf
        (has.fields.fields.each a fs e).listed

    missing : place_of g.name cs ≡ None → IsMissing (declares c) (own_fields c) a g
    missing q = (
      leaf,
      λ f w n.
          let same_list : w.0 ≡ fs = one (own_fields c) a fs w.0 own_is w.1 in
          let at = get_of fs f (subst (λ z. Contains z f) same_list w.2) in
          no_place g.name cs q at.0 (core_field texts initials id f)
          (get_of_mapped (core_field texts initials id) fs at.0 f at.1) (ap (λ
          (z : NameId). z.0) n),
    )

    -- what is found in its place
    pub record Found : Type 0 where
      pub place : ℕ
      pub field : CoreField
      pub is_place : place_of g.name cs ≡ Some place
      pub is_field : slice_get cs place ≡ Some field
      pub below_it : IsTrue (relation p.types.below field.ty true g.ty)

    told_below : (n : ℕ) (d : CoreField) (x : Field) → slice_get fs n ≡ Some x
        → core_field texts initials id x ≡ d → d.name.0 ≡ g.name.0 → (b : Bool)
        → relation p.types.below d.ty true g.ty ≡ b → b ≡ true
    told_below n d x f r q true s = refl
    told_below n d x f r q false s =
        let wider : IsWider (declares c) (own_fields c) a g = (
          x,
          (fs, own_is, of_get fs n x f),
          name_of id x d g.name r q,
          λ b.
              let told_so = computed c h is p same x.ty g.ty (held a n fs x e f) b in
              let z : true ≡ false =
              sym told_so ∙ ap (λ (y : CoreField). relation p.types.below y.ty true g.ty) r ∙ s
              in cc,
        ) in
        absurd (never_lacks a k behind within (t, g, trait, way, decl, inr wider))

    found_by : (o : Option ℕ) → place_of g.name cs ≡ o → Found
    found_by None q =
        absurd (never_lacks a k behind within (t, g, trait, way, decl, inl (missing q)))
    found_by (Some n) q =
        let at = at_place g.name cs n q in
        let v = get_mapped (core_field texts initials id) fs n at.0 at.1 in
        record {
          place = n;
          field = at.0;
          is_place = q;
          is_field = at.1;
          below_it =
              told_below n at.0 v.0 v.1 v.2 at.2 (relation p.types.below at.0.ty true g.ty) refl;
        }

    found : Found
    found = found_by (place_of g.name cs) refl

  -- ---- an object and a type above it

  type_by : (i j : TypeId) → i.0 ≡ j.0 → i ≡ j
  type_by i j e = ap type_number e

  abbrev HasBelow : TypeId → NameId → Ty → Type 0
  HasBelow i f A = (B : Ty) × FieldOf p i f B × Below p B A

  itself : (i j : TypeId) (f : NameId) (A : Ty) → FieldOf p j f A → i ≡ j → HasBelow i f A
  itself i j f A x e = (A, subst (λ z. FieldOf p z f A) (sym e) x, is_same refl)

  of_object : (i j : TypeId) (f : NameId) (A : Ty) (s : CoreShape) → FieldOf p j f A → ShapeOf p i s
      → Leaf (declares c) i.0 → Path (declares c) i.0 j.0
      → (w : Held j.0 f A) → (t : ℕ) → Path (declares c) j.0 t → Declares (own_fields c) t w.field
      → Trait (declares c) t ⊎ Leaf (declares c) t → Told c m has texts initials i.0 s
      → HasBelow i f A
  of_object i j f A s x shape leaf way w t up decl (inr other) told_it =
      let a = to_leaf (declares c) (sound c h is p same) i.0 t other (joined (declares c) way up) in
      let b = to_leaf (declares c) (sound c h is p same) j.0 t other up in
      itself i j f A x (type_by i j (a ∙ sym b))
  of_object i j f A s x shape leaf way w t up decl (inl trait) (built_in row b e q) =
      let l = slice_get_within types i.0 row e in
      let n = rows_long in
      let r = stays c i.0 j.0 way (omega arith) in
      let v = w.behind in absurd (omega arith)
  of_object i j f A s x shape leaf way w t up decl (inl trait) (own k n o fs e g is_own) =
      let l = slice_get_within (declares c) i.0 leaf.0 leaf.1 in
      let v = found i.0 k n l leaf fs g (type_number i.0) t w.field trait
      (joined (declares c) way up) decl in
      let are : s.fields ≡ map (core_field texts initials (type_number i.0)) fs =
      ap (λ (z : CoreShape). z.fields) is_own.is_shape in (
        v.field.ty,
        record {
          shape = s;
          place = v.place;
          field = v.field;
          is_shape = shape;
          is_place =
              ap (place_of f) are
              ∙ ap (λ z. place_of z (map (core_field texts initials (type_number i.0)) fs))
              (sym w.name) ∙ v.is_place;
          is_field = ap (λ z. slice_get z v.place) are ∙ v.is_field;
          is_type = refl;
        },
        is_told (subst (λ B. IsTrue (relation p.types.below v.field.ty true B)) w.type v.below_it),
      )

  pub fields_below : (i j : TypeId) (f : NameId) (A : Ty) (s : CoreShape) → FieldOf p j f A
      → ShapeOf p i s → Makes s.kind → Under p i j → HasBelow i f A
  fields_below i j f A s x shape made (inl e) = itself i j f A x e
  fields_below i j f A s x shape made (inr set) =
      let told_it = told_at i.0 s shape in
      let leaf = made_leaf c m has texts initials i.0 s told_it made in
      let w = held_by j f A x (told_at j.0 x.shape x.is_shape) in
      let way = path c h is p same i.0 j.0 set in
      let u = declared_above (declares c) (own_fields c) w.has_it in
      let all = joined (declares c) way u.1 in
      let v = there (declares c) u.0
      (end_inside (declares c) i.0 u.0 all (slice_get_within (declares c) i.0 leaf.0 leaf.1)) in
      of_object i j f A s x shape leaf way w u.0 u.1 u.2 (which_kind (declares c) u.0 v.0 v.1)
      told_it
