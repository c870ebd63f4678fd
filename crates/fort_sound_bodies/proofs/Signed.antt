-- The declarations with bodies are the bodies, one after another: each at its place, with the
-- parameters and the result of its body.
use Rattle.std.proofs.Common.{◌≡◌, ℕ, ◌≤◌, true, ◌&&◌, List, [], ◌∷◌, ◌++◌, map, Option, Some, None, refl, sym, ap, ◌∙◌, subst, arith}
use Rattle.std.specs.Prelude.{option_map}
use Rattle.std.specs.List.{flat_map}
use Rattle.std.proofs.lemmas.Bool.Decides.{nat_tests}
use Rattle.std.proofs.lemmas.Grind.{flat_map-append}
use Rattle.fort_base.specs.declared.refusal.Place.{Place}
use Rattle.fort_base.specs.declared.ty.Ty.{Ty}
use Rattle.fort_form.specs.declared.component.BodyForm.{BodyForm}
use Rattle.fort_tree.specs.declared.declarations.Declaration.{Declaration}
use Rattle.fort_tree.specs.declared.declarations.Declaration.TheVariants as declaration
use Rattle.fort_tree.specs.declared.declarations.Declared.{Declared}
use Rattle.fort_tree.specs.declared.declarations.Function.{Function}
use Rattle.fort_tree.specs.declared.declarations.FunctionName.{FunctionName}
use Rattle.fort_tree.specs.declared.declarations.Method.{Method}
use Rattle.fort_tree.specs.declared.declarations.MethodBody.{MethodBody}
use Rattle.fort_tree.specs.declared.declarations.Object.{Object}
use Rattle.fort_tree.specs.declared.declarations.ObjectMember.{ObjectMember}
use Rattle.fort_tree.specs.declared.declarations.ObjectMember.TheVariants as object_member
use Rattle.fort_tree.specs.declared.declarations.ObjectParameters.{ObjectParameters}
use Rattle.fort_tree.specs.declared.declarations.TraitMember.{TraitMember}
use Rattle.fort_tree.specs.declared.declarations.TraitMember.TheVariants as trait_member
use Rattle.fort_tree.specs.Types.{said_type}
use Rattle.fort_tree.specs.Said.{Said, SaidEntry, elsewhere, maybe_obeys, is_there, begins_apart, entries_obey}
use Rattle.fort_tree.specs.Declarations.{name_fits, selves, selves_fit, method_parameter_count, body_obeys, said_method, said_method_parameters, said_trait_member, said_trait_entry, said_object_member, said_object_entry, said_object_parameters, said_declaration, said_declared}
use Rattle.fort_hier.specs.Names.{spelling}
use Rattle.fort_hier.specs.Numbers.{number_of}
use Rattle.fort_types_sets.specs.declared.member.MemberKind.{MemberKind}
use Rattle.fort_types_sets.specs.declared.member.MemberKind.TheVariants as a_kind
use Rattle.fort_types_builtin.specs.declared.table.BuiltInDeclaration.{BuiltInDeclaration}
use Rattle.fort_member.specs.declared.entries.Entry.{Entry}
use Rattle.fort_member.specs.BuiltIn.{built_in_entry}
use Rattle.fort_member.specs.Declarations.{function_place, function_entry, method_kind, method_parameters, method_entry, type_id, trait_member_entry, trait_entry, object_member_entry, object_entry, constructor_entry, entries_at, declared_entries}
use Rattle.fort_typing_rules.specs.Types.{parameter_type}
use Rattle.fort_form_walk.specs.FormsOf.{Tables, source, owner, function_body, method_bodies, trait_member_body, trait_body, object_member_body, object_body, bodies, declared_bodies}
use Rattle.fort_elab_law_matched.proofs.Places.{both}
use Rattle.fort_sound_bodies.specs.Bodies.{Takes}
use Rattle.fort_sound_bodies.proofs.Receivers.{function_takes, method_takes}

-- What a declaration with a body has: its place, its parameters, its result.
pub record Signature : Type 0 where
  pub place : Place
  pub parameters : List Ty
  pub result : Ty

abbrev pub signed_by : MemberKind → Option Place → List Ty → Ty → List Signature
signed_by a_kind.Concrete (Some place) parameters result =
    record { place = place; parameters = parameters; result = result } ∷ []
signed_by _ place parameters result = []

abbrev pub entry_signed : Entry → List Signature
entry_signed e = signed_by e.member.kind e.member.place e.member.parameters e.member.result

abbrev pub all_signed : List Entry → List Signature
all_signed es = flat_map entry_signed es

-- A body is at the place of a declaration, with its parameters and its result.
pub record IsBodyOf (s : Signature) (b : BodyForm) : Type 0 where
  pub place : s.place ≡ b.place
  pub takes : Takes b.owner b.receiver (map parameter_type b.parameters) s.parameters
  pub result : s.result ≡ b.result

abbrev pub AreBodies : List Signature → List BodyForm → Type 0
AreBodies [] [] = Unit {0}
AreBodies (s ∷ ss) (b ∷ bs) = IsBodyOf s b × AreBodies ss bs
AreBodies _ _ = ⊥

both_bodies : (ss us : List Signature) (bs cs : List BodyForm) → AreBodies ss bs → AreBodies us cs
    → AreBodies (ss ++ us) (bs ++ cs)
both_bodies [] us [] cs h k = k
both_bodies [] us (b ∷ bs) cs h k = absurd h
both_bodies (s ∷ ss) us [] cs h k = absurd h
both_bodies (s ∷ ss) us (b ∷ bs) cs h k = (h.0, both_bodies ss us bs cs h.1 k)

-- Built-in declarations have no bodies.
pub none_signed : (ds : List BuiltInDeclaration) → all_signed (map built_in_entry ds) ≡ []
none_signed [] = refl
none_signed (d ∷ ds) = none_signed ds

-- declarations have these bodies
abbrev pub HaveBodies : List Entry → List BodyForm → Type 0
HaveBodies es bs = AreBodies (all_signed es) bs

have_both : (es fs : List Entry) (bs cs : List BodyForm) → HaveBodies es bs → HaveBodies fs cs
    → HaveBodies (es ++ fs) (bs ++ cs)
have_both es fs bs cs h k =
    subst (λ ss. AreBodies ss (bs ++ cs)) (sym (flat_map-append entry_signed es fs))
    (both_bodies (all_signed es) (all_signed fs) bs cs h k)

at_most_one : (name : FunctionName) (count : ℕ) → selves_fit name count ≡ true → count ≤ 1
at_most_one name count e = grind (arith, nat_tests)

module _ (n : Tables) where
  -- the rules hold in a tree
  abbrev Keeps : Said → Type 0
  Keeps x = x.obeys n.names elsewhere ≡ true

  -- of each item of a list, one after another
  have_all : {X : Type 0} (said : X → SaidEntry) (f : X → List Entry) (g : X → List BodyForm)
      → ((x : X) → Keeps (said x).item → HaveBodies (f x) (g x)) → (xs : List X)
      → entries_obey n.names (map said xs) ≡ true
      → HaveBodies (flat_map f xs) (flat_map g xs)
  have_all said f g each [] e = tt
  have_all said f g each (x ∷ xs) e =
      let a = both ((said x).item.obeys n.names elsewhere)
      (begins_apart (said x).semicolon (map said xs) && entries_obey n.names (map said xs)) e in
      let b = both (begins_apart (said x).semicolon (map said xs))
      (entries_obey n.names (map said xs)) a.1 in
      have_both (f x) (flat_map f xs) (g x) (flat_map g xs) (each x a.0)
      (have_all said f g each xs b.1)

  function_has : (f : Function)
      → HaveBodies (function_entry n.types n.names f ∷ []) (function_body n f ∷ [])
  function_has f =
      (record { place = refl; takes = function_takes n f.parameters; result = refl }, tt)

  bodies_have : (t : ℕ) (m : Method) (b : Option MethodBody) → selves m.parameters ≤ 1
      → AreBodies
      (signed_by (method_kind b) (Some (function_place m.name))
      (method_parameters n.types n.names t m) ((source n).written m.result) ++ [])
      (method_bodies n (type_id t) m b)
  bodies_have t m None few = tt
  bodies_have t m (Some b) few = (
    record { place = refl; takes = method_takes n (type_id t) m.parameters few; result = refl },
    tt,
  )

  method_has : (t : ℕ) (m : Method) → Keeps (said_method m)
      → HaveBodies (method_entry n.types n.names t m ∷ []) (method_bodies n (type_id t) m m.body)
  method_has t m e =
      let parts =
      maybe_obeys n.names elsewhere (option_map said_method_parameters m.parameters)
      && ((said_type m.result).obeys n.names elsewhere && body_obeys n.names m.body) in
      let a = both (name_fits n.names m.name (method_parameter_count m.parameters))
      (selves_fit m.name (selves m.parameters) && parts) e in
      let b = both (selves_fit m.name (selves m.parameters)) parts a.1 in
      bodies_have t m m.body (at_most_one m.name (selves m.parameters) b.0)

  trait_member_has : (t : ℕ) (x : TraitMember) → Keeps (said_trait_member x)
      → HaveBodies (trait_member_entry n.types n.names t x) (trait_member_body n (type_id t) x)
  trait_member_has t (trait_member.Field name colon ty) e = tt
  trait_member_has t (trait_member.Method m) e = method_has t m e

  object_member_has : (t : ℕ) (x : ObjectMember) → Keeps (said_object_member x)
      → HaveBodies (object_member_entry n.types n.names t x) (object_member_body n (type_id t) x)
  object_member_has t (object_member.Variable v) e = tt
  object_member_has t (object_member.Method m) e =
      method_has t m (both (is_there m.body) ((said_method m).obeys n.names elsewhere) e).1

  constructor_none : (t : ℕ) (o : Object) (ps : Option ObjectParameters)
      → all_signed (constructor_entry n.types n.names t o ps) ≡ []
  constructor_none t o None = refl
  constructor_none t o (Some ps) = refl

  -- of an object, its methods
  without_constructor : (t : ℕ) (o : Object)
      → all_signed
      (constructor_entry n.types n.names t o o.parameters
      ++ flat_map (object_entry n.types n.names t) o.members)
      ≡ all_signed (flat_map (object_entry n.types n.names t) o.members)
  without_constructor t o = let rest = flat_map (object_entry n.types n.names t) o.members in
      flat_map-append entry_signed (constructor_entry n.types n.names t o o.parameters) rest
      ∙ ap (λ z. z ++ all_signed rest) (constructor_none t o o.parameters)

  declaration_has : (d : Declaration) → Keeps (said_declaration d)
      → HaveBodies (entries_at n.types n.names d) (bodies n d)
  declaration_has (declaration.Variable v) e = tt
  declaration_has (declaration.Function f) e = function_has f
  declaration_has (declaration.Trait t) e =
      let number = number_of n.types (spelling n.names t.name) in
      have_all said_trait_entry (trait_entry n.types n.names number) (trait_body n (owner n t.name))
      (λ x k. trait_member_has number x.member k) t.members e
  declaration_has (declaration.Object o) e =
      let number = number_of n.types (spelling n.names o.name) in
      let a = both (maybe_obeys n.names elsewhere (option_map said_object_parameters o.parameters))
      (entries_obey n.names (map said_object_entry o.members)) e in
      subst (λ ss. AreBodies ss (flat_map (object_body n (owner n o.name)) o.members))
      (sym (without_constructor number o))
      (have_all said_object_entry (object_entry n.types n.names number)
      (object_body n (owner n o.name)) (λ x k. object_member_has number x.member k)
      o.members a.1)

  -- The declarations of a component that obeys the rules have its bodies.
  pub component_has : (ds : List Declared) → entries_obey n.names (map said_declared ds) ≡ true
      → HaveBodies (flat_map (declared_entries n.types n.names) ds)
      (flat_map (declared_bodies n) ds)
  component_has =
      have_all said_declared (declared_entries n.types n.names) (declared_bodies n)
      (λ d k. declaration_has d.declaration k)
