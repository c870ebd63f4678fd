-- The forms of declarations are ready for typing, where the names in them are known.
use Rattle.std.proofs.Common.{◌≡◌, ◌<◌, ◌+◌, ℕ, Bool, true, List, [], ◌∷◌, ◌++◌, length, map, Option, Some, None, subst}
use Rattle.std.specs.List.{AllByRecursion, flat_map}
use Rattle.fort_base.specs.declared.ids.TypeId.{TypeId}
use Rattle.fort_base.specs.declared.refusal.Place.{Place}
use Rattle.fort_tree.specs.declared.declarations.Declaration.{Declaration}
use Rattle.fort_tree.specs.declared.declarations.Declaration.TheVariants as declaration
use Rattle.fort_tree.specs.declared.declarations.Declared.{Declared}
use Rattle.fort_tree.specs.declared.declarations.Function.{Function}
use Rattle.fort_tree.specs.declared.declarations.Method.{Method}
use Rattle.fort_tree.specs.declared.declarations.MethodBody.{MethodBody}
use Rattle.fort_tree.specs.declared.declarations.MethodParameter.{MethodParameter}
use Rattle.fort_tree.specs.declared.declarations.MethodParameter.TheVariants as method_parameter
use Rattle.fort_tree.specs.declared.declarations.MethodParameters.{MethodParameters}
use Rattle.fort_tree.specs.declared.declarations.NextMethodParameter.{NextMethodParameter}
use Rattle.fort_tree.specs.declared.declarations.NextParameter.{NextParameter}
use Rattle.fort_tree.specs.declared.declarations.Object.{Object}
use Rattle.fort_tree.specs.declared.declarations.ObjectEntry.{ObjectEntry}
use Rattle.fort_tree.specs.declared.declarations.ObjectMember.{ObjectMember}
use Rattle.fort_tree.specs.declared.declarations.ObjectMember.TheVariants as object_member
use Rattle.fort_tree.specs.declared.declarations.Parameters.{Parameters}
use Rattle.fort_tree.specs.declared.declarations.Trait.{Trait}
use Rattle.fort_tree.specs.declared.declarations.TraitEntry.{TraitEntry}
use Rattle.fort_tree.specs.declared.declarations.TraitMember.{TraitMember}
use Rattle.fort_tree.specs.declared.declarations.TraitMember.TheVariants as trait_member
use Rattle.fort_tree.specs.declared.declarations.Variable.{Variable}
use Rattle.fort_tree.specs.declared.expr.Expr.{Expr}
use Rattle.fort_tree.specs.declared.grouped.Grouped.{Grouped}
use Rattle.fort_tree.specs.declared.spot.Name.{Name}
use Rattle.fort_tree.specs.declared.types.TypeTree.{TypeTree}
use Rattle.fort_tree_type_names.specs.Mentions.{mentioned_type, mentioned_parameters}
use Rattle.fort_tree_type_names.specs.Mentioning.{mentioned_expr, mentioned_variable}
use Rattle.fort_tree_type_names.specs.TypeNames.{mentioned_function, mentioned_method_parameter, mentioned_method_parameters, mentioned_body, mentioned_trait_member, mentioned_object_member, mentioned_object_parameters, mentioned_trait, mentioned_object, mentioned_declaration, extended, excluded, comprised}
use Rattle.fort_tree_type_names.proofs.MentionsBlocks.{variable_mentions}
use Rattle.fort_hier.specs.declared.heads.TypeHead.{TypeHead}
use Rattle.fort_hier.specs.Heads.{heads_from, head_of}
use Rattle.fort_hier.specs.Names.{spelling}
use Rattle.fort_member_fields.specs.Written.{named, written}
use Rattle.fort_member.proofs.Numbered.{all_left, all_right, all_join, written_numbered}
use Rattle.fort_typing_known.specs.Known.{Knows}
use Rattle.fort_form.specs.declared.component.BodyForm.{BodyForm}
use Rattle.fort_form.specs.declared.component.InitialForm.{InitialForm}
use Rattle.fort_form.specs.declared.form.Parameter.{Parameter}
use Rattle.fort_form.specs.Shapes.{an_expression, IsShaped}
use Rattle.fort_form_meaning.specs.Forming.{parameters, next_parameter}
use Rattle.fort_form_walk.specs.FormsOf.{Tables, source, owner, initial, member_initial, entry_initial, initials, declared_initials, function_body, named_parameter, next_named_parameter, named_parameters, method_bodies, trait_member_body, trait_body, object_member_body, object_body, bodies, declared_bodies}
use Rattle.fort_form_walk.specs.Groupings.{grouping_at}
use Rattle.fort_form_law_shapes.specs.Fits.{grouping_shape, IsFitSource, FormsAreFit}
use Rattle.fort_form_meaning.specs.Formed.{formed_expr}
use Rattle.fort_typing_law_rules.specs.Deciding.{IsType}
use Rattle.fort_typing_law_rules.specs.Written.{IsWritten}
use Rattle.fort_typing_law_exact.specs.Ready.{IsBodyReady}
use Rattle.fort_typing_law_ready.proofs.Names.{IsPlaced}

module _ (fits : FormsAreFit) (k : Knows) (t : Tables) (is_known : Name → Bool)
    (known : (x : Name) → is_known x ≡ true → IsType k (named t.types (spelling t.names x)))
    (grouped : (p : Place) (g : Grouped) → grouping_at t.groups p ≡ Some g
    → grouping_shape g ≡ an_expression) where
  abbrev Known : Name → Type 0
  Known x = is_known x ≡ true

  abbrev AreKnown : List Name → Type 0
  AreKnown = AllByRecursion Known

  abbrev IsHeld : InitialForm → Type 0
  IsHeld i = IsType k i.ty

  abbrev IsBound : Parameter → Type 0
  IsBound p = IsType k p.ty

  abbrev AreBound : List Parameter → Type 0
  AreBound = AllByRecursion IsBound

  abbrev AreReady : List BodyForm → Type 0
  AreReady = AllByRecursion (IsBodyReady k)

  -- of each of a list, one after another
  joined : {X Y : Type 0} (P : Y → Type 0) (f : X → List Y) (m : X → List Name)
      → ((x : X) → AreKnown (m x) → AllByRecursion P (f x)) → (xs : List X)
      → AreKnown (flat_map m xs) → AllByRecursion P (flat_map f xs)
  joined P f m each [] a = tt
  joined P f m each (x ∷ xs) a =
      all_join P (f x) (flat_map f xs) (each x (all_left Known (m x) (flat_map m xs) a))
      (joined P f m each xs (all_right Known (m x) (flat_map m xs) a))

  type_held : (x : TypeTree) → AreKnown (mentioned_type x) → IsType k (written t.types t.names x)
  type_held = written_numbered (length k.declared) t.types t.names Known known

  fit : IsFitSource (IsType k) Known (source t)
  fit = record { types = type_held; groupings = grouped }

  body_fit : (e : Expr) → AreKnown (mentioned_expr e)
      → IsShaped (formed_expr (source t) e) × IsWritten k (formed_expr (source t) e)
  body_fit e a = fits (length k.declared) is_known (source t) fit e a

  -- ---- initials

  initial_held : (at : Option TypeId) (v : Variable) → AreKnown (mentioned_variable v)
      → IsHeld (initial t at v)
  initial_held at v a =
      type_held v.ty
      (all_left Known (mentioned_type v.ty) (mentioned_expr v.value)
      (subst AreKnown (variable_mentions v) a))

  member_held : (id : TypeId) (m : ObjectMember) → AreKnown (mentioned_object_member m)
      → AllByRecursion IsHeld (member_initial t id m)
  member_held id (object_member.Variable v) a = (initial_held (Some id) v a, tt)
  member_held id (object_member.Method m) a = tt

  -- the members of an object
  abbrev object_members : Object → List Name
  object_members o = flat_map (λ (e : ObjectEntry). mentioned_object_member e.member) o.members

  members_of_object : (o : Object) → AreKnown (mentioned_object o) → AreKnown (object_members o)
  members_of_object o a =
      all_right Known (extended o.extends) (object_members o)
      (all_right Known (mentioned_object_parameters o.parameters)
      (extended o.extends ++ object_members o) a)

  initials_held : (d : Declaration) → AreKnown (mentioned_declaration d)
      → AllByRecursion IsHeld (initials t d)
  initials_held (declaration.Variable v) a = (initial_held None v a, tt)
  initials_held (declaration.Function f) a = tt
  initials_held (declaration.Trait r) a = tt
  initials_held (declaration.Object o) a =
      joined IsHeld (entry_initial t (owner t o.name)) (λ
      (e : ObjectEntry). mentioned_object_member e.member)
      (λ e h. member_held (owner t o.name) e.member h) o.members (members_of_object o a)

  pub all_held : (ds : List Declared)
      → AreKnown (flat_map (λ (d : Declared). mentioned_declaration d.declaration) ds)
      → AllByRecursion IsHeld (flat_map (declared_initials t) ds)
  all_held =
      joined IsHeld (declared_initials t) (λ
      (d : Declared). mentioned_declaration d.declaration)
      (λ d h. initials_held d.declaration h)

  -- ---- functions

  further_bound : (ps : List NextParameter)
      → AreKnown (flat_map (λ (next : NextParameter). mentioned_type next.parameter.ty) ps)
      → AreBound (map (next_parameter (source t)) ps)
  further_bound [] a = tt
  further_bound (p ∷ ps) a =
      let rest = flat_map (λ (next : NextParameter). mentioned_type next.parameter.ty) ps in (
        type_held p.parameter.ty (all_left Known (mentioned_type p.parameter.ty) rest a),
        further_bound ps (all_right Known (mentioned_type p.parameter.ty) rest a),
      )

  parameters_bound : (ps : Option Parameters) → AreKnown (mentioned_parameters ps)
      → AreBound (parameters (source t) ps)
  parameters_bound None a = tt
  parameters_bound (Some ps) a =
      let rest = flat_map (λ (next : NextParameter). mentioned_type next.parameter.ty) ps.others in (
        type_held ps.first.ty (all_left Known (mentioned_type ps.first.ty) rest a),
        further_bound ps.others (all_right Known (mentioned_type ps.first.ty) rest a),
      )

  function_ready : (f : Function) → AreKnown (mentioned_function f)
      → IsBodyReady k (function_body t f)
  function_ready f a =
      let rest = mentioned_type f.result ++ mentioned_expr f.body in
      let behind = all_right Known (mentioned_parameters f.parameters) rest a in
      let b = body_fit f.body
      (all_right Known (mentioned_type f.result) (mentioned_expr f.body) behind) in record {
        owner = λ id none. absurd cc;
        parameters =
            parameters_bound f.parameters
            (all_left Known (mentioned_parameters f.parameters) rest a);
        result = type_held f.result
            (all_left Known (mentioned_type f.result) (mentioned_expr f.body) behind);
        written = b.1;
        shaped = b.0;
      }

  -- ---- methods of a type

  named_bound : (p : MethodParameter) → AreKnown (mentioned_method_parameter p)
      → AreBound (named_parameter t p)
  named_bound (method_parameter.Parameter p) a = (type_held p.ty a, tt)
  named_bound (method_parameter.Self_ s) a = tt

  named_all_bound : (ps : Option MethodParameters) → AreKnown (mentioned_method_parameters ps)
      → AreBound (named_parameters t ps)
  named_all_bound None a = tt
  named_all_bound (Some ps) a =
      let rest =
      flat_map (λ (next : NextMethodParameter). mentioned_method_parameter next.parameter) ps.others
      in
      all_join IsBound (named_parameter t ps.first) (flat_map (next_named_parameter t) ps.others)
      (named_bound ps.first (all_left Known (mentioned_method_parameter ps.first) rest a))
      (joined IsBound (next_named_parameter t) (λ
      (next : NextMethodParameter). mentioned_method_parameter next.parameter)
      (λ next h. named_bound next.parameter h) ps.others
      (all_right Known (mentioned_method_parameter ps.first) rest a))

  module _ (id : TypeId) (numbered : id.0 < length k.declared) where
    same_owner : (i : TypeId) → Some id ≡ Some i → i.0 < length k.declared
    same_owner i e =
        let q : id ≡ i = cc in subst (λ (i : TypeId). i.0 < length k.declared) q numbered

    method_ready : (m : Method) (b : Option MethodBody)
        → AreKnown
        (mentioned_method_parameters m.parameters ++ (mentioned_type m.result ++ mentioned_body b))
        → AreReady (method_bodies t id m b)
    method_ready m None a = tt
    method_ready m (Some b) a =
        let rest = mentioned_type m.result ++ mentioned_expr b.body in
        let behind = all_right Known (mentioned_method_parameters m.parameters) rest a in
        let f = body_fit b.body
        (all_right Known (mentioned_type m.result) (mentioned_expr b.body) behind) in (
          record {
            owner = same_owner;
            parameters =
                named_all_bound m.parameters
                (all_left Known (mentioned_method_parameters m.parameters) rest a);
            result = type_held m.result
                (all_left Known (mentioned_type m.result) (mentioned_expr b.body) behind);
            written = f.1;
            shaped = f.0;
          },
          tt,
        )

    trait_member_ready : (m : TraitMember) → AreKnown (mentioned_trait_member m)
        → AreReady (trait_member_body t id m)
    trait_member_ready (trait_member.Field name colon ty) a = tt
    trait_member_ready (trait_member.Method m) a = method_ready m m.body a

    object_member_ready : (m : ObjectMember) → AreKnown (mentioned_object_member m)
        → AreReady (object_member_body t id m)
    object_member_ready (object_member.Variable v) a = tt
    object_member_ready (object_member.Method m) a = method_ready m m.body a

  -- ---- all declarations, beside the heads of the types

  abbrev IsHere : TypeHead → Type 0
  IsHere = IsPlaced (length k.declared) t.types t.names

  trait_ready : (r : Trait) → (owner t r.name).0 < length k.declared → AreKnown (mentioned_trait r)
      → AreReady (flat_map (trait_body t (owner t r.name)) r.members)
  trait_ready r l a =
      let members = flat_map (λ (e : TraitEntry). mentioned_trait_member e.member) r.members in
      joined (IsBodyReady k) (trait_body t (owner t r.name)) (λ
      (e : TraitEntry). mentioned_trait_member e.member)
      (λ e h. trait_member_ready (owner t r.name) l e.member h) r.members
      (all_right Known (comprised r.comprises) members
      (all_right Known (excluded r.excludes) (comprised r.comprises ++ members)
      (all_right Known (extended r.extends)
      (excluded r.excludes ++ (comprised r.comprises ++ members)) a)))

  object_ready : (o : Object) → (owner t o.name).0 < length k.declared
      → AreKnown (mentioned_object o)
      → AreReady (flat_map (object_body t (owner t o.name)) o.members)
  object_ready o l a =
      joined (IsBodyReady k) (object_body t (owner t o.name)) (λ
      (e : ObjectEntry). mentioned_object_member e.member)
      (λ e h. object_member_ready (owner t o.name) l e.member h) o.members (members_of_object o a)

  bodies_ready : (body : ℕ) (d : Declaration) → AllByRecursion IsHere (head_of body d)
      → AreKnown (mentioned_declaration d) → AreReady (bodies t d)
  bodies_ready body (declaration.Variable v) h a = tt
  bodies_ready body (declaration.Function f) h a = (function_ready f a, tt)
  bodies_ready body (declaration.Trait r) h a = trait_ready r h.0 a
  bodies_ready body (declaration.Object o) h a = object_ready o h.0 a

  pub all_ready : (body : ℕ) (ds : List Declared) → AllByRecursion IsHere (heads_from body ds)
      → AreKnown (flat_map (λ (d : Declared). mentioned_declaration d.declaration) ds)
      → AreReady (flat_map (declared_bodies t) ds)
  all_ready body [] h a = tt
  all_ready body (d ∷ ds) h a =
      let others = flat_map (λ (d : Declared). mentioned_declaration d.declaration) ds in
      all_join (IsBodyReady k) (bodies t d.declaration) (flat_map (declared_bodies t) ds)
      (bodies_ready body d.declaration
      (all_left IsHere (head_of body d.declaration) (heads_from (body + 1) ds) h)
      (all_left Known (mentioned_declaration d.declaration) others a))
      (all_ready (body + 1) ds
      (all_right IsHere (head_of body d.declaration) (heads_from (body + 1) ds) h)
      (all_right Known (mentioned_declaration d.declaration) others a))
