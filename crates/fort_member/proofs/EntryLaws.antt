-- What a declaration of a component adds to the sets is well made, where each name in it is a
-- type's.
use Rattle.std.proofs.Common.{◌≡◌, ◌<◌, ◌+◌, ◌||◌, ℕ, suc, Bool, true, false, not, cond, List, [], ◌∷◌, ◌++◌, map, Option, Some, None, refl, subst}
use Rattle.std.specs.List.{slice_get, flat_map, AllByRecursion}
use Rattle.fort_base.specs.declared.ids.TypeId.{TypeId}
use Rattle.fort_base.specs.declared.ty.Ty.{Ty}
use Rattle.fort_base.specs.declared.ty.Ty.TheVariants as a_type
use Rattle.fort_types.specs.Types.{IsNumbered}
use Rattle.fort_tree.specs.declared.spot.Name.{Name}
use Rattle.fort_tree.specs.declared.types.TypeTree.{TypeTree}
use Rattle.fort_tree.specs.declared.declarations.NextParameter.{NextParameter}
use Rattle.fort_tree.specs.declared.declarations.NextObjectParameter.{NextObjectParameter}
use Rattle.fort_tree.specs.declared.declarations.TraitEntry.{TraitEntry}
use Rattle.fort_tree.specs.declared.declarations.ObjectEntry.{ObjectEntry}
use Rattle.fort_tree.specs.declared.declarations.Declaration.{Declaration}
use Rattle.fort_tree.specs.declared.declarations.Declaration.TheVariants as declaration
use Rattle.fort_tree.specs.declared.declarations.Declared.{Declared}
use Rattle.fort_tree.specs.declared.declarations.Function.{Function}
use Rattle.fort_tree.specs.declared.declarations.Method.{Method}
use Rattle.fort_tree.specs.declared.declarations.MethodParameter.{MethodParameter}
use Rattle.fort_tree.specs.declared.declarations.MethodParameter.TheVariants as method_parameter
use Rattle.fort_tree.specs.declared.declarations.MethodParameters.{MethodParameters}
use Rattle.fort_tree.specs.declared.declarations.NextMethodParameter.{NextMethodParameter}
use Rattle.fort_tree.specs.declared.declarations.Object.{Object}
use Rattle.fort_tree.specs.declared.declarations.ObjectMember.{ObjectMember}
use Rattle.fort_tree.specs.declared.declarations.ObjectMember.TheVariants as object_member
use Rattle.fort_tree.specs.declared.declarations.ObjectParameterList.{ObjectParameterList}
use Rattle.fort_tree.specs.declared.declarations.ObjectParameters.{ObjectParameters}
use Rattle.fort_tree.specs.declared.declarations.Parameters.{Parameters}
use Rattle.fort_tree.specs.declared.declarations.Trait.{Trait}
use Rattle.fort_tree.specs.declared.declarations.TraitMember.{TraitMember}
use Rattle.fort_tree.specs.declared.declarations.TraitMember.TheVariants as trait_member
use Rattle.fort_tree_type_names.specs.Mentions.{mentioned_type, mentioned_parameters}
use Rattle.fort_tree_type_names.specs.Mentioning.{mentioned_expr}
use Rattle.fort_tree_type_names.specs.TypeNames.{mentioned_function, mentioned_method_parameter, mentioned_method_parameters, mentioned_body, mentioned_method, mentioned_trait_member, mentioned_object_member, mentioned_object_parameter_list, mentioned_object_parameters, mentioned_trait, mentioned_object, mentioned_declaration, extended, excluded, comprised}
use Rattle.fort_hier.specs.declared.heads.TypeHead.{TypeHead}
use Rattle.fort_hier.specs.Heads.{heads_from, head_of}
use Rattle.fort_hier.specs.Names.{Spelling, spelling}
use Rattle.fort_hier.specs.Numbers.{number_of}
use Rattle.fort_hier.specs.Tops.{is_self, has_self, is_functional}
use Rattle.fort_types_sets.specs.Rules.{HasNamed}
use Rattle.fort_member_fields.specs.Written.{named, written}
use Rattle.fort_member.specs.declared.entries.Entry.{Entry}
use Rattle.fort_member.specs.Declarations.{parameter_types, next_parameter_type, function_entry, method_parameter_type, next_method_parameter_type, method_types, self_among, self_position, type_id, owner_position, method_entry, trait_member_entry, trait_entry, object_member_entry, object_entry, next_object_parameter_type, object_types, constructor_entry, entries_at, declared_entries}
use Rattle.fort_member.proofs.Numbered.{all_left, all_right, all_join, out_named, named_numbered, written_numbered}
use Rattle.fort_member.proofs.BuiltInLaws.{IsGood}

some_told : {X : Type 0} (x y : X) → Some x ≡ Some y → x ≡ y
some_told x y e = cc

-- ---- `self` stands where the owner's position says

module _ (list names : List Spelling) (self_type : Ty) where
  among_step : (p : MethodParameter) (ts : List Ty) (at : ℕ) (rest : Bool)
      → (rest ≡ true → slice_get ts at ≡ Some self_type) → (is_self p || rest) ≡ true
      → slice_get (method_parameter_type list names self_type p ∷ ts) (cond (is_self p) 0 (suc at))
      ≡ Some self_type
  among_step (method_parameter.Parameter p) ts at rest h e = h e
  among_step (method_parameter.Self_ s) ts at rest h e = refl

  among_stands : (others : List NextMethodParameter) → has_self others ≡ true
      → slice_get (map (next_method_parameter_type list names self_type) others) (self_among others)
      ≡ Some self_type
  among_stands [] e = absurd cc
  among_stands (next ∷ others) e =
      among_step next.parameter (map (next_method_parameter_type list names self_type) others)
      (self_among others) (has_self others) (among_stands others) e

  pub self_stands : (ps : Option MethodParameters) → is_functional ps ≡ true
      → slice_get (method_types list names self_type ps) (self_position ps) ≡ Some self_type
  self_stands None e = absurd cc
  self_stands (Some ps) e =
      among_step ps.first (map (next_method_parameter_type list names self_type) ps.others)
      (self_among ps.others) (has_self ps.others) (among_stands ps.others) e

-- The name of a type has a number below this.
abbrev pub IsPlaced : ℕ → List Spelling → List Spelling → TypeHead → Type 0
IsPlaced n list names head = number_of list (spelling names head.name) < n

-- ---- the declarations

module _ (n : ℕ) (list names : List Spelling) (Known : Name → Type 0)
    (known : (x : Name) → Known x → IsNumbered n (named list (spelling names x))) where
  abbrev AreKnown : List Name → Type 0
  AreKnown = AllByRecursion Known

  abbrev AreNumbered : List Ty → Type 0
  AreNumbered = AllByRecursion (IsNumbered n)

  abbrev AreGood : List Entry → Type 0
  AreGood = AllByRecursion (IsGood n)

  mapped : {X : Type 0} (f : X → Ty) (m : X → List Name)
      → ((x : X) → AreKnown (m x) → IsNumbered n (f x)) → (xs : List X) → AreKnown (flat_map m xs)
      → AreNumbered (map f xs)
  mapped f m each [] k = tt
  mapped f m each (x ∷ xs) k = (
    each x (all_left Known (m x) (flat_map m xs) k),
    mapped f m each xs (all_right Known (m x) (flat_map m xs) k),
  )

  joined : {X : Type 0} (f : X → List Entry) (m : X → List Name)
      → ((x : X) → AreKnown (m x) → AreGood (f x)) → (xs : List X) → AreKnown (flat_map m xs)
      → AreGood (flat_map f xs)
  joined f m each [] k = tt
  joined f m each (x ∷ xs) k =
      all_join (IsGood n) (f x) (flat_map f xs) (each x (all_left Known (m x) (flat_map m xs) k))
      (joined f m each xs (all_right Known (m x) (flat_map m xs) k))

  a_type_numbered : (t : TypeTree) → AreKnown (mentioned_type t)
      → IsNumbered n (written list names t)
  a_type_numbered = written_numbered n list names Known known

  -- ---- functions

  parameters_numbered : (ps : Option Parameters) → AreKnown (mentioned_parameters ps)
      → AreNumbered (parameter_types list names ps)
  parameters_numbered None k = tt
  parameters_numbered (Some ps) k =
      let others = flat_map (λ (next : NextParameter). mentioned_type next.parameter.ty) ps.others
      in (
        a_type_numbered ps.first.ty (all_left Known (mentioned_type ps.first.ty) others k),
        mapped (next_parameter_type list names) (λ
            (next : NextParameter). mentioned_type next.parameter.ty)
            (λ next h. a_type_numbered next.parameter.ty h) ps.others
            (all_right Known (mentioned_type ps.first.ty) others k),
      )

  good_function : (f : Function) → AreKnown (mentioned_function f)
      → IsGood n (function_entry list names f)
  good_function f k = let rest = mentioned_type f.result ++ mentioned_expr f.body in record {
    receiver = λ e. absurd cc;
    owner = λ at t e. absurd cc;
    owned = λ e. absurd cc;
    parameters =
        parameters_numbered f.parameters
        (all_left Known (mentioned_parameters f.parameters) rest k);
    result = a_type_numbered f.result
        (all_left Known (mentioned_type f.result) (mentioned_expr f.body)
        (all_right Known (mentioned_parameters f.parameters) rest k));
  }

  -- ---- methods of a type

  module _ (t : ℕ) (numbered : t < n) where
    abbrev self_type : Ty
    self_type = a_type.Named (type_id t)

    self_numbered : IsNumbered n self_type
    self_numbered = named_numbered n (type_id t) numbered

    parameter_numbered : (p : MethodParameter) → AreKnown (mentioned_method_parameter p)
        → IsNumbered n (method_parameter_type list names self_type p)
    parameter_numbered (method_parameter.Parameter p) k = a_type_numbered p.ty k
    parameter_numbered (method_parameter.Self_ s) k = self_numbered

    method_types_numbered : (ps : Option MethodParameters)
        → AreKnown (mentioned_method_parameters ps)
        → AreNumbered (method_types list names self_type ps)
    method_types_numbered None k = tt
    method_types_numbered (Some ps) k =
        let others =
        flat_map (λ
        (next : NextMethodParameter). mentioned_method_parameter next.parameter) ps.others in (
          parameter_numbered ps.first (all_left Known (mentioned_method_parameter ps.first) others k),
          mapped (next_method_parameter_type list names self_type) (λ
              (next : NextMethodParameter). mentioned_method_parameter next.parameter)
              (λ next h. parameter_numbered next.parameter h) ps.others
              (all_right Known (mentioned_method_parameter ps.first) others k),
        )

    with_receiver : (b : Bool) (ts : List Ty) → AreNumbered ts
        → AreNumbered (cond b ts (self_type ∷ ts))
    with_receiver true ts h = h
    with_receiver false ts h = (self_numbered, h)

    -- the type stands at the owner's position
    owner_step : (b : Bool) (ts : List Ty) (at : ℕ) → (b ≡ true → slice_get ts at ≡ Some self_type)
        → slice_get (cond b ts (self_type ∷ ts)) (cond b at 0) ≡ Some self_type
    owner_step true ts at h = h refl
    owner_step false ts at h = refl

    receiver_step : (b : Bool) (ts : List Ty) → not b ≡ true
        → slice_get (cond b ts (self_type ∷ ts)) 0 ≡ Some self_type
    receiver_step true ts e = absurd cc
    receiver_step false ts e = refl

    good_method : (m : Method) → AreKnown (mentioned_method m)
        → IsGood n (method_entry list names t m)
    good_method m k =
        let rest = mentioned_type m.result ++ mentioned_body m.body
        in let ts = method_types list names self_type m.parameters in record {
          receiver =
              λ e. (
                type_id t,
                (self_type, receiver_step (is_functional m.parameters) ts e, out_named (type_id t)),
              );
          owner = λ at u e. let q : (owner_position m, type_id t) ≡ (at, u) =
              some_told (owner_position m, type_id t) (at, u) e in
              subst (λ (z : ℕ × TypeId). HasNamed (method_entry list names t m).member z.0 z.1) q (
                self_type,
                owner_step (is_functional m.parameters) ts (self_position m.parameters)
                    (self_stands list names self_type m.parameters),
                out_named (type_id t),
              );
          owned = λ e. (owner_position m, type_id t, refl);
          parameters =
              with_receiver (is_functional m.parameters) ts
              (method_types_numbered m.parameters
              (all_left Known (mentioned_method_parameters m.parameters) rest k));
          result = a_type_numbered m.result
              (all_left Known (mentioned_type m.result) (mentioned_body m.body)
              (all_right Known (mentioned_method_parameters m.parameters) rest k));
        }

    good_trait_member : (m : TraitMember) → AreKnown (mentioned_trait_member m)
        → AreGood (trait_member_entry list names t m)
    good_trait_member (trait_member.Field name colon ty) k = tt
    good_trait_member (trait_member.Method m) k = (good_method m k, tt)

    good_object_member : (m : ObjectMember) → AreKnown (mentioned_object_member m)
        → AreGood (object_member_entry list names t m)
    good_object_member (object_member.Variable v) k = tt
    good_object_member (object_member.Method m) k = (good_method m k, tt)

    object_types_numbered : (ps : Option ObjectParameterList)
        → AreKnown (mentioned_object_parameter_list ps) → AreNumbered (object_types list names ps)
    object_types_numbered None k = tt
    object_types_numbered (Some ps) k =
        let others =
        flat_map (λ (next : NextObjectParameter). mentioned_type next.parameter.ty) ps.others in (
          a_type_numbered ps.first.ty (all_left Known (mentioned_type ps.first.ty) others k),
          mapped (next_object_parameter_type list names) (λ
              (next : NextObjectParameter). mentioned_type next.parameter.ty)
              (λ next h. a_type_numbered next.parameter.ty h) ps.others
              (all_right Known (mentioned_type ps.first.ty) others k),
        )

    good_constructor : (o : Object) (ps : Option ObjectParameters)
        → AreKnown (mentioned_object_parameters ps) → AreGood (constructor_entry list names t o ps)
    good_constructor o None k = tt
    good_constructor o (Some ps) k = (
      record {
        receiver = λ e. absurd cc;
        owner = λ at u e. absurd cc;
        owned = λ e. absurd cc;
        parameters = object_types_numbered ps.parameters k;
        result = self_numbered;
      },
      tt,
    )

  -- ---- all declarations, beside the heads of the types

  abbrev IsHere : TypeHead → Type 0
  IsHere = IsPlaced n list names

  good_trait : (t : Trait) → number_of list (spelling names t.name) < n
      → AreKnown (mentioned_trait t)
      → AreGood
      (flat_map (trait_entry list names (number_of list (spelling names t.name))) t.members)
  good_trait t l k =
      let members = flat_map (λ (e : TraitEntry). mentioned_trait_member e.member) t.members in
      joined (trait_entry list names (number_of list (spelling names t.name))) (λ
      (e : TraitEntry). mentioned_trait_member e.member)
      (λ e h. good_trait_member (number_of list (spelling names t.name)) l e.member h) t.members
      (all_right Known (comprised t.comprises) members
      (all_right Known (excluded t.excludes) (comprised t.comprises ++ members)
      (all_right Known (extended t.extends)
      (excluded t.excludes ++ (comprised t.comprises ++ members)) k)))

  good_object : (o : Object) → number_of list (spelling names o.name) < n
      → AreKnown (mentioned_object o) → AreGood (entries_at list names (declaration.Object o))
  good_object o l k =
      let members = flat_map (λ (e : ObjectEntry). mentioned_object_member e.member) o.members
      in let t = number_of list (spelling names o.name) in
      all_join (IsGood n) (constructor_entry list names t o o.parameters)
      (flat_map (object_entry list names t) o.members)
      (good_constructor t l o o.parameters
      (all_left Known (mentioned_object_parameters o.parameters)
      (extended o.extends ++ members) k))
      (joined (object_entry list names t) (λ
      (e : ObjectEntry). mentioned_object_member e.member)
      (λ e h. good_object_member t l e.member h) o.members
      (all_right Known (extended o.extends) members
      (all_right Known (mentioned_object_parameters o.parameters)
      (extended o.extends ++ members) k)))

  good_declaration : (body : ℕ) (d : Declaration) → AllByRecursion IsHere (head_of body d)
      → AreKnown (mentioned_declaration d) → AreGood (entries_at list names d)
  good_declaration body (declaration.Variable v) h k = tt
  good_declaration body (declaration.Function f) h k = (good_function f k, tt)
  good_declaration body (declaration.Trait t) h k = good_trait t h.0 k
  good_declaration body (declaration.Object o) h k = good_object o h.0 k

  pub good_declared : (body : ℕ) (ds : List Declared) → AllByRecursion IsHere (heads_from body ds)
      → AreKnown (flat_map (λ (d : Declared). mentioned_declaration d.declaration) ds)
      → AreGood (flat_map (declared_entries list names) ds)
  good_declared body [] h k = tt
  good_declared body (d ∷ ds) h k =
      let others = flat_map (λ (d : Declared). mentioned_declaration d.declaration) ds in
      all_join (IsGood n) (declared_entries list names d)
      (flat_map (declared_entries list names) ds)
      (good_declaration body d.declaration
      (all_left IsHere (head_of body d.declaration) (heads_from (body + 1) ds) h)
      (all_left Known (mentioned_declaration d.declaration) others k))
      (good_declared (body + 1) ds
      (all_right IsHere (head_of body d.declaration) (heads_from (body + 1) ds) h)
      (all_right Known (mentioned_declaration d.declaration) others k))
