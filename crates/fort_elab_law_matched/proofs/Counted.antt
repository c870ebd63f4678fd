-- The declarations with bodies are the bodies, one after another: each at its place, with as many
-- parameters as the body counts.
use Rattle.std.proofs.Common.{◌≡◌, ℕ, ◌+◌, ◌≤◌, true, ◌&&◌, List, [], ◌∷◌, ◌++◌, length, map, Option, Some, None, refl, sym, ap, ◌∙◌, arith}
use Rattle.std.specs.Prelude.{option_map}
use Rattle.std.specs.List.{flat_map}
use Rattle.std.proofs.lemmas.Bool.Decides.{nat_tests}
use Rattle.std.proofs.lemmas.Grind.{flat_map-append}
use Rattle.std.proofs.lemmas.List.{map-append}
use Rattle.fort_base.specs.declared.ids.TypeId.{TypeId}
use Rattle.fort_base.specs.declared.refusal.Place.{Place}
use Rattle.fort_base.specs.declared.ty.Ty.TheVariants as a_type
use Rattle.fort_form.specs.declared.component.BodyForm.{BodyForm}
use Rattle.fort_lex_token.specs.declared.token.Token.{Token}
use Rattle.fort_lex_token.specs.declared.reserved.Reserved.TheVariants as reserved
use Rattle.fort_tree.specs.declared.declarations.Declaration.{Declaration}
use Rattle.fort_tree.specs.declared.declarations.Declaration.TheVariants as declaration
use Rattle.fort_tree.specs.declared.declarations.Declared.{Declared}
use Rattle.fort_tree.specs.declared.declarations.Function.{Function}
use Rattle.fort_tree.specs.declared.declarations.FunctionName.{FunctionName}
use Rattle.fort_tree.specs.declared.declarations.FunctionName.TheVariants as function_name
use Rattle.fort_tree.specs.declared.declarations.Method.{Method}
use Rattle.fort_tree.specs.declared.declarations.MethodBody.{MethodBody}
use Rattle.fort_tree.specs.declared.declarations.Object.{Object}
use Rattle.fort_tree.specs.declared.declarations.ObjectMember.{ObjectMember}
use Rattle.fort_tree.specs.declared.declarations.ObjectMember.TheVariants as object_member
use Rattle.fort_tree.specs.declared.declarations.ObjectParameters.{ObjectParameters}
use Rattle.fort_tree.specs.declared.declarations.TraitMember.{TraitMember}
use Rattle.fort_tree.specs.declared.declarations.TraitMember.TheVariants as trait_member
use Rattle.fort_tree.specs.Tokens.{word}
use Rattle.fort_tree.specs.Types.{said_type}
use Rattle.fort_tree.specs.Said.{Said, SaidEntry, elsewhere, tokens_of, maybe_tokens, maybe_obeys, is_there, semicolon_tokens, begins_apart, entries_tokens, entries_obey}
use Rattle.fort_tree.specs.Declarations.{name_first, name_fits, selves, selves_fit, method_parameter_count, body_obeys, said_method, said_method_parameters, said_trait_member, said_trait_entry, said_object_member, said_object_entry, said_object_parameters, said_declaration, said_declared, extends_tokens, excludes_tokens, comprises_tokens}
use Rattle.fort_types_builtin.specs.declared.table.BuiltInDeclaration.{BuiltInDeclaration}
use Rattle.fort_hier.specs.Names.{spelling}
use Rattle.fort_hier.specs.Numbers.{number_of}
use Rattle.fort_types_sets.specs.declared.member.MemberKind.{MemberKind}
use Rattle.fort_types_sets.specs.declared.member.MemberKind.TheVariants as a_kind
use Rattle.fort_member.specs.declared.entries.Entry.{Entry}
use Rattle.fort_member.specs.BuiltIn.{built_in_entry}
use Rattle.fort_member.specs.Declarations.{function_place, function_entry, method_kind, method_parameters, method_entry, owner_position, type_id, trait_member_entry, trait_entry, object_member_entry, object_entry, constructor_entry, entries_at, declared_entries}
use Rattle.fort_form_walk.specs.FormsOf.{Tables, owner, function_body, named_parameters, method_bodies, trait_member_body, trait_body, object_member_body, object_body, bodies, declared_bodies}
use Rattle.fort_elab_meaning.specs.Bodies.{position, same_place}
use Rattle.fort_elab_law_written.specs.Matching.{body_place}
use Rattle.fort_elab_law_matched.proofs.Places.{both, one, times, times_append, standing, standing_append}
use Rattle.fort_elab_law_matched.proofs.Sets.{entry_places}
use Rattle.fort_elab_law_matched.proofs.Widths.{function_width, method_width}

-- the place of a declaration with a body, and how many parameters it has
abbrev pub Counted : Type 0
Counted = Place × ℕ

abbrev pub counted_by : MemberKind → Option Place → ℕ → List Counted
counted_by a_kind.Concrete (Some place) n = (place, n) ∷ []
counted_by _ place n = []

abbrev pub entry_counted : Entry → List Counted
entry_counted e = counted_by e.member.kind e.member.place (length e.member.parameters)

abbrev pub all_counted : List Entry → List Counted
all_counted es = flat_map entry_counted es

-- the same of a body
abbrev pub form_counted : BodyForm → Counted
form_counted b = (b.place, position b.receiver (length b.parameters))

-- ---- how often a place is that of one of them

abbrev pub counts : Place → List Counted → ℕ
counts p [] = 0
counts p (x ∷ xs) = one (same_place p x.0) + counts p xs

pub counts_append : (p : Place) (xs ys : List Counted)
    → counts p (xs ++ ys) ≡ counts p xs + counts p ys
counts_append p [] ys = omega arith
counts_append p (x ∷ xs) ys = let e = counts_append p xs ys in omega arith

by_kind : (p : Place) (kind : MemberKind) (place : Option Place) (n : ℕ)
    → times p (body_place kind place) ≡ counts p (counted_by kind place n)
by_kind p a_kind.BuiltIn place n = refl
by_kind p (a_kind.Constructor t) place n = refl
by_kind p a_kind.Concrete None n = refl
by_kind p a_kind.Concrete (Some q) n = refl
by_kind p a_kind.Abstract place n = refl

pub times_counted : (p : Place) (es : List Entry)
    → times p (flat_map entry_places es) ≡ counts p (all_counted es)
times_counted p [] = refl
times_counted p (e ∷ es) =
    let a = times_append p (entry_places e) (flat_map entry_places es) in
    let b = counts_append p (entry_counted e) (all_counted es) in
    let c = by_kind p e.member.kind e.member.place (length e.member.parameters) in
    let r = times_counted p es in omega arith

-- Built-in declarations have no bodies.
pub none_built_in : (ds : List BuiltInDeclaration) → all_counted (map built_in_entry ds) ≡ []
none_built_in [] = refl
none_built_in (d ∷ ds) = none_built_in ds

-- ---- the declarations are the bodies

-- declarations and bodies are the same
abbrev pub AreSame : List Entry → List BodyForm → Type 0
AreSame es bs = all_counted es ≡ map form_counted bs

same_both : (es fs : List Entry) (bs cs : List BodyForm) → AreSame es bs → AreSame fs cs
    → AreSame (es ++ fs) (bs ++ cs)
same_both es fs bs cs h k =
    flat_map-append entry_counted es fs ∙ ap (λ z. z ++ all_counted fs) h
    ∙ ap (λ z. map form_counted bs ++ z) k ∙ sym (map-append form_counted bs cs)

at_most_one : (name : FunctionName) (count : ℕ) → selves_fit name count ≡ true → count ≤ 1
at_most_one name count e = grind (arith, nat_tests)

module _ (n : Tables) where
  -- the rules hold in a tree
  abbrev Keeps : Said → Type 0
  Keeps x = x.obeys n.names elsewhere ≡ true

  -- of each item of a list, one after another
  same_all : {X : Type 0} (said : X → SaidEntry) (f : X → List Entry) (g : X → List BodyForm)
      → ((x : X) → Keeps (said x).item → AreSame (f x) (g x)) → (xs : List X)
      → entries_obey n.names (map said xs) ≡ true
      → AreSame (flat_map f xs) (flat_map g xs)
  same_all said f g each [] e = refl
  same_all said f g each (x ∷ xs) e =
      let a = both ((said x).item.obeys n.names elsewhere)
      (begins_apart (said x).semicolon (map said xs) && entries_obey n.names (map said xs)) e in
      let b = both (begins_apart (said x).semicolon (map said xs))
      (entries_obey n.names (map said xs)) a.1 in
      same_both (f x) (flat_map f xs) (g x) (flat_map g xs) (each x a.0)
      (same_all said f g each xs b.1)

  function_same : (f : Function)
      → AreSame (function_entry n.types n.names f ∷ []) (function_body n f ∷ [])
  function_same f =
      ap (λ w. let x : Counted = (function_place f.name, w)
      in x ∷ []) (function_width n f.parameters)

  body_same : (m : Method) (id : TypeId) (w : ℕ) (b : Option MethodBody)
      → w ≡ position (Some (owner_position m)) (length (named_parameters n m.parameters))
      → counted_by (method_kind b) (Some (function_place m.name)) w ++ []
      ≡ map form_counted (method_bodies n id m b)
  body_same m id w None e = refl
  body_same m id w (Some b) e = ap (λ w. let x : Counted = (function_place m.name, w) in x ∷ []) e

  method_same : (t : ℕ) (id : TypeId) (m : Method) → Keeps (said_method m)
      → AreSame (method_entry n.types n.names t m ∷ []) (method_bodies n id m m.body)
  method_same t id m e =
      let parts =
      maybe_obeys n.names elsewhere (option_map said_method_parameters m.parameters)
      && ((said_type m.result).obeys n.names elsewhere && body_obeys n.names m.body) in
      let a = both (name_fits n.names m.name (method_parameter_count m.parameters))
      (selves_fit m.name (selves m.parameters) && parts) e in
      let b = both (selves_fit m.name (selves m.parameters)) parts a.1 in
      body_same m id (length (method_parameters n.types n.names t m)) m.body
      (method_width n (a_type.Named (type_id t)) (a_type.Named (type_id t)) m.parameters
      (at_most_one m.name (selves m.parameters) b.0))

  trait_member_same : (t : ℕ) (id : TypeId) (x : TraitMember) → Keeps (said_trait_member x)
      → AreSame (trait_member_entry n.types n.names t x) (trait_member_body n id x)
  trait_member_same t id (trait_member.Field name colon ty) e = refl
  trait_member_same t id (trait_member.Method m) e = method_same t id m e

  object_member_same : (t : ℕ) (id : TypeId) (x : ObjectMember) → Keeps (said_object_member x)
      → AreSame (object_member_entry n.types n.names t x) (object_member_body n id x)
  object_member_same t id (object_member.Variable v) e = refl
  object_member_same t id (object_member.Method m) e =
      method_same t id m (both (is_there m.body) ((said_method m).obeys n.names elsewhere) e).1

  constructor_none : (t : ℕ) (o : Object) (ps : Option ObjectParameters)
      → all_counted (constructor_entry n.types n.names t o ps) ≡ []
  constructor_none t o None = refl
  constructor_none t o (Some ps) = refl

  -- of an object, its methods
  without_constructor : (t : ℕ) (o : Object)
      → all_counted
      (constructor_entry n.types n.names t o o.parameters
      ++ flat_map (object_entry n.types n.names t) o.members)
      ≡ all_counted (flat_map (object_entry n.types n.names t) o.members)
  without_constructor t o = let rest = flat_map (object_entry n.types n.names t) o.members in
      flat_map-append entry_counted (constructor_entry n.types n.names t o o.parameters) rest
      ∙ ap (λ z. z ++ all_counted rest) (constructor_none t o o.parameters)

  declaration_same : (d : Declaration) → Keeps (said_declaration d)
      → AreSame (entries_at n.types n.names d) (bodies n d)
  declaration_same (declaration.Variable v) e = refl
  declaration_same (declaration.Function f) e = function_same f
  declaration_same (declaration.Trait t) e =
      let number = number_of n.types (spelling n.names t.name) in
      same_all said_trait_entry (trait_entry n.types n.names number) (trait_body n (owner n t.name))
      (λ x k. trait_member_same number (owner n t.name) x.member k) t.members e
  declaration_same (declaration.Object o) e =
      let number = number_of n.types (spelling n.names o.name) in
      let a = both (maybe_obeys n.names elsewhere (option_map said_object_parameters o.parameters))
      (entries_obey n.names (map said_object_entry o.members)) e in
      without_constructor number o
      ∙ same_all said_object_entry (object_entry n.types n.names number)
      (object_body n (owner n o.name))
      (λ x k. object_member_same number (owner n o.name) x.member k) o.members a.1

  -- The declarations of a component that obeys the rules are its bodies.
  pub component_same : (ds : List Declared) → entries_obey n.names (map said_declared ds) ≡ true
      → AreSame (flat_map (declared_entries n.types n.names) ds) (flat_map (declared_bodies n) ds)
  component_same =
      same_all said_declared (declared_entries n.types n.names) (declared_bodies n)
      (λ d k. declaration_same d.declaration k)

  -- ---- the place of a declaration is that of its first token

  module _ (p : Place) where
    -- declarations stand among tokens
    abbrev Stand : List Entry → List Token → Type 0
    Stand es ts = counts p (all_counted es) ≤ standing p ts

    stand_all : {X : Type 0} (said : X → SaidEntry) (f : X → List Entry)
        → ((x : X) → Stand (f x) (tokens_of (said x).item)) → (xs : List X)
        → Stand (flat_map f xs) (entries_tokens (map said xs))
    stand_all said f each [] = omega arith
    stand_all said f each (x ∷ xs) =
        let a = ap (counts p) (flat_map-append entry_counted (f x) (flat_map f xs))
        ∙ counts_append p (all_counted (f x)) (all_counted (flat_map f xs)) in
        let b = standing_append p (tokens_of (said x).item)
        (semicolon_tokens (said x).semicolon ++ entries_tokens (map said xs)) in
        let c = standing_append p (semicolon_tokens (said x).semicolon)
        (entries_tokens (map said xs)) in
        let h = each x in let r = stand_all said f each xs in omega arith

    first_place : (name : FunctionName) → (name_first name).place ≡ function_place name
    first_place (function_name.Name name) = refl
    first_place (function_name.Operator opr sign) = refl
    first_place (function_name.Juxtaposition opr name) = refl

    one_stands : (name : FunctionName) (w : ℕ) (kind : MemberKind) (more : List Token)
        → counts p (counted_by kind (Some (function_place name)) w ++ [])
        ≤ standing p (name_first name ∷ more)
    one_stands name w a_kind.BuiltIn more = omega arith
    one_stands name w (a_kind.Constructor t) more = omega arith
    one_stands name w a_kind.Concrete more =
        let e = ap (λ q. one (same_place p q)) (first_place name) in omega arith
    one_stands name w a_kind.Abstract more = omega arith

    method_stands : (t : ℕ) (m : Method)
        → Stand (method_entry n.types n.names t m ∷ []) (tokens_of (said_method m))
    method_stands t m =
        one_stands m.name (length (method_parameters n.types n.names t m)) (method_kind m.body)
        (said_method m).more

    trait_member_stands : (t : ℕ) (x : TraitMember)
        → Stand (trait_member_entry n.types n.names t x) (tokens_of (said_trait_member x))
    trait_member_stands t (trait_member.Field name colon ty) = omega arith
    trait_member_stands t (trait_member.Method m) = method_stands t m

    object_member_stands : (t : ℕ) (x : ObjectMember)
        → Stand (object_member_entry n.types n.names t x) (tokens_of (said_object_member x))
    object_member_stands t (object_member.Variable v) = omega arith
    object_member_stands t (object_member.Method m) = method_stands t m

    declaration_stands : (d : Declaration)
        → Stand (entries_at n.types n.names d) (tokens_of (said_declaration d))
    declaration_stands (declaration.Variable v) = omega arith
    declaration_stands (declaration.Function f) =
        one_stands f.name (length (function_entry n.types n.names f).member.parameters)
        a_kind.Concrete (said_declaration (declaration.Function f)).more
    declaration_stands (declaration.Trait t) =
        let number = number_of n.types (spelling n.names t.name) in
        let last = word reserved.End t.end ∷ [] in
        let members = entries_tokens (map said_trait_entry t.members) in
        let h = stand_all said_trait_entry (trait_entry n.types n.names number)
        (λ x. trait_member_stands number x.member) t.members in
        let a = standing_append p (extends_tokens t.extends)
        (excludes_tokens t.excludes ++ (comprises_tokens t.comprises ++ (members ++ last))) in
        let b = standing_append p (excludes_tokens t.excludes)
        (comprises_tokens t.comprises ++ (members ++ last)) in
        let c = standing_append p (comprises_tokens t.comprises) (members ++ last) in
        let d = standing_append p members last in omega arith
    declaration_stands (declaration.Object o) =
        let number = number_of n.types (spelling n.names o.name) in
        let rest = flat_map (object_entry n.types n.names number) o.members in
        let last = word reserved.End o.end ∷ [] in
        let members = entries_tokens (map said_object_entry o.members) in
        let e = ap (counts p) (without_constructor number o) in
        let h = stand_all said_object_entry (object_entry n.types n.names number)
        (λ x. object_member_stands number x.member) o.members in
        let a = standing_append p (maybe_tokens (option_map said_object_parameters o.parameters))
        (extends_tokens o.extends ++ (members ++ last)) in
        let b = standing_append p (extends_tokens o.extends) (members ++ last) in
        let c = standing_append p members last in omega arith

    pub component_stands : (ds : List Declared)
        → Stand (flat_map (declared_entries n.types n.names) ds)
        (entries_tokens (map said_declared ds))
    component_stands =
        stand_all said_declared (declared_entries n.types n.names)
        (λ d. declaration_stands d.declaration)
