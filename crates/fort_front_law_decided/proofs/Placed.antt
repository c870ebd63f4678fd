-- Each declaration that goes on as a body has one among the forms of its component, at its place.
use Rattle.std.proofs.Common.{◌≡◌, ◌⊎◌, inl, inr, ℕ, zero, suc, Bool, true, false, cond, List, [], ◌∷◌, ◌++◌, map, Option, Some, None, refl, subst}
use Rattle.std.specs.Prelude.{filter}
use Rattle.std.specs.List.{slice_get, flat_map, AllByRecursion}
use Rattle.fort_base.specs.declared.ids.TypeId.{TypeId}
use Rattle.fort_base.specs.declared.refusal.Place.{Place}
use Rattle.fort_tree.specs.declared.declarations.Component.{Component}
use Rattle.fort_tree.specs.declared.declarations.Declaration.{Declaration}
use Rattle.fort_tree.specs.declared.declarations.Declaration.TheVariants as declaration
use Rattle.fort_tree.specs.declared.declarations.Declared.{Declared}
use Rattle.fort_tree.specs.declared.declarations.Method.{Method}
use Rattle.fort_tree.specs.declared.declarations.MethodBody.{MethodBody}
use Rattle.fort_tree.specs.declared.declarations.Object.{Object}
use Rattle.fort_tree.specs.declared.declarations.ObjectMember.{ObjectMember}
use Rattle.fort_tree.specs.declared.declarations.ObjectMember.TheVariants as object_member
use Rattle.fort_tree.specs.declared.declarations.ObjectParameters.{ObjectParameters}
use Rattle.fort_tree.specs.declared.declarations.TraitMember.{TraitMember}
use Rattle.fort_tree.specs.declared.declarations.TraitMember.TheVariants as trait_member
use Rattle.fort_tree.specs.declared.grouped.Groups.{Groups}
use Rattle.fort_types_builtin.specs.declared.table.BuiltInDeclaration.{BuiltInDeclaration}
use Rattle.fort_types_builtin.specs.Declarations.{declarations}
use Rattle.fort_hier.specs.Names.{spelling}
use Rattle.fort_hier.specs.Numbers.{number_of}
use Rattle.fort_types_sets.specs.declared.member.Member.{Member}
use Rattle.fort_types_sets.specs.declared.member.MemberKind.TheVariants as a_kind
use Rattle.fort_types_sets.specs.declared.member.MemberSet.{MemberSet}
use Rattle.fort_member.specs.declared.entries.Entry.{Entry}
use Rattle.fort_member.specs.BuiltIn.{built_in_entry}
use Rattle.fort_member.specs.Declarations.{function_place, method_kind, method_entry, trait_entry, trait_member_entry, object_entry, object_member_entry, constructor_entry, entries_at, declared_entries, entries_of}
use Rattle.fort_member.specs.Sets.{Key, belongs, member_of, keys_of, set_of, sets_of}
use Rattle.fort_form.specs.declared.component.BodyForm.{BodyForm}
use Rattle.fort_front_law_decided.proofs.Items.{all_both, all_as, all_at}
use Rattle.fort_form_walk.specs.FormsOf.{Tables, owner, method_bodies, trait_body, trait_member_body, object_body, object_member_body, bodies, declared_bodies, tables_of, forms_of}

-- ---- bodies at places

-- A body stands at a place.
abbrev Stands : List BodyForm → Place → Type 0
Stands [] p = ⊥
Stands (b ∷ bs) p = (b.place ≡ p) ⊎ Stands bs p

stands_left : (bs cs : List BodyForm) (p : Place) → Stands bs p → Stands (bs ++ cs) p
stands_left [] cs p w = absurd w
stands_left (b ∷ bs) cs p (inl e) = inl e
stands_left (b ∷ bs) cs p (inr w) = inr (stands_left bs cs p w)

stands_right : (bs cs : List BodyForm) (p : Place) → Stands cs p → Stands (bs ++ cs) p
stands_right [] cs p w = w
stands_right (b ∷ bs) cs p w = inr (stands_right bs cs p w)

-- A body of a list stands at a place.
abbrev pub HasBody : List BodyForm → Place → Type 0
HasBody bs p = (k : ℕ) × (b : BodyForm) × (slice_get bs k ≡ Some b) × (b.place ≡ p)

has_body : (bs : List BodyForm) (p : Place) → Stands bs p → HasBody bs p
has_body [] p w = absurd w
has_body (b ∷ bs) p (inl e) = (0, b, refl, e)
has_body (b ∷ bs) p (inr w) = let r = has_body bs p w in (suc r.0, r.1, r.2, r.3)

-- A declaration that goes on as a body has one.
abbrev IsPlaced : List BodyForm → Member → Type 0
IsPlaced bs m = m.kind ≡ a_kind.Concrete → (p : Place) × (m.place ≡ Some p) × Stands bs p

abbrev IsPlacedEntry : List BodyForm → Entry → Type 0
IsPlacedEntry bs e = IsPlaced bs e.member

abbrev ArePlaced : List BodyForm → List Entry → Type 0
ArePlaced bs es = AllByRecursion (IsPlacedEntry bs) es

-- each item's entries have its bodies
placed_all : {X : Type 0} (f : X → List Entry) (g : X → List BodyForm)
    → ((x : X) → ArePlaced (g x) (f x)) → (xs : List X)
    → ArePlaced (flat_map g xs) (flat_map f xs)
placed_all f g each [] = tt
placed_all f g each (x ∷ xs) =
    all_both (IsPlacedEntry (g x ++ flat_map g xs)) (f x) (flat_map f xs)
    (all_as (IsPlacedEntry (g x)) (IsPlacedEntry (g x ++ flat_map g xs))
    (λ e w k. let r = w k in (r.0, r.1, stands_left (g x) (flat_map g xs) r.0 r.2)) (f x) (each x))
    (all_as (IsPlacedEntry (flat_map g xs)) (IsPlacedEntry (g x ++ flat_map g xs))
    (λ e w k. let r = w k in (r.0, r.1, stands_right (g x) (flat_map g xs) r.0 r.2))
    (flat_map f xs) (placed_all f g each xs))

-- ---- the declarations of a component

module _ (n : Tables) where
  body_placed : (m : Method) (id : TypeId) (b : Option MethodBody)
      → method_kind b ≡ a_kind.Concrete
      → (p : Place) × (Some (function_place m.name) ≡ Some p) × Stands (method_bodies n id m b) p
  body_placed m id None e = absurd cc
  body_placed m id (Some b) e = (function_place m.name, refl, inl refl)

  method_placed : (t : ℕ) (id : TypeId) (m : Method)
      → ArePlaced (method_bodies n id m m.body) (method_entry n.types n.names t m ∷ [])
  method_placed t id m = (body_placed m id m.body, tt)

  trait_placed : (t : ℕ) (id : TypeId) (x : TraitMember)
      → ArePlaced (trait_member_body n id x) (trait_member_entry n.types n.names t x)
  trait_placed t id (trait_member.Field name colon ty) = tt
  trait_placed t id (trait_member.Method m) = method_placed t id m

  object_placed : (t : ℕ) (id : TypeId) (x : ObjectMember)
      → ArePlaced (object_member_body n id x) (object_member_entry n.types n.names t x)
  object_placed t id (object_member.Variable v) = tt
  object_placed t id (object_member.Method m) = method_placed t id m

  constructor_placed : (bs : List BodyForm) (t : ℕ) (o : Object) (ps : Option ObjectParameters)
      → ArePlaced bs (constructor_entry n.types n.names t o ps)
  constructor_placed bs t o None = tt
  constructor_placed bs t o (Some ps) = (λ k. absurd cc, tt)

  declaration_placed : (d : Declaration) → ArePlaced (bodies n d) (entries_at n.types n.names d)
  declaration_placed (declaration.Variable v) = tt
  declaration_placed (declaration.Function f) = (λ k. (function_place f.name, refl, inl refl), tt)
  declaration_placed (declaration.Trait t) =
      let number = number_of n.types (spelling n.names t.name) in
      placed_all (trait_entry n.types n.names number) (trait_body n (owner n t.name))
      (λ x. trait_placed number (owner n t.name) x.member) t.members
  declaration_placed (declaration.Object o) =
      let number = number_of n.types (spelling n.names o.name) in
      all_both (IsPlacedEntry (bodies n (declaration.Object o)))
      (constructor_entry n.types n.names number o o.parameters)
      (flat_map (object_entry n.types n.names number) o.members)
      (constructor_placed (bodies n (declaration.Object o)) number o o.parameters)
      (placed_all (object_entry n.types n.names number) (object_body n (owner n o.name))
      (λ x. object_placed number (owner n o.name) x.member) o.members)

  component_placed : (ds : List Declared)
      → ArePlaced (flat_map (declared_bodies n) ds) (flat_map (declared_entries n.types n.names) ds)
  component_placed =
      placed_all (declared_entries n.types n.names) (declared_bodies n)
      (λ d. declaration_placed d.declaration)

built_in_placed : (bs : List BodyForm) (ds : List BuiltInDeclaration)
    → ArePlaced bs (map built_in_entry ds)
built_in_placed bs [] = tt
built_in_placed bs (d ∷ ds) = (λ k. absurd cc, built_in_placed bs ds)

-- ---- its sets

filtered_step : (bs : List BodyForm) (e : Entry) (fs : List Entry) (b : Bool) → IsPlacedEntry bs e
    → AllByRecursion (IsPlaced bs) (map member_of fs)
    → AllByRecursion (IsPlaced bs) (map member_of (cond b (e ∷ fs) fs))
filtered_step bs e fs true h rest = (h, rest)
filtered_step bs e fs false h rest = rest

filtered_placed : (bs : List BodyForm) (test : Entry → Bool) (es : List Entry) → ArePlaced bs es
    → AllByRecursion (IsPlaced bs) (map member_of (filter test es))
filtered_placed bs test [] h = tt
filtered_placed bs test (e ∷ es) h =
    filtered_step bs e (filter test es) (test e) h.0 (filtered_placed bs test es h.1)

set_placed : (bs : List BodyForm) (es : List Entry) → ArePlaced bs es → (ks : List Key) (n : ℕ)
    (s : MemberSet) → slice_get (map (set_of es) ks) n ≡ Some s
    → AllByRecursion (IsPlaced bs) s.members
set_placed bs es h [] n s e = absurd cc
set_placed bs es h (k ∷ ks) zero s e =
    let q : set_of es k ≡ s = cc in
    subst (λ (z : MemberSet). AllByRecursion (IsPlaced bs) z.members) q
    (filtered_placed bs (belongs k) es h)
set_placed bs es h (k ∷ ks) (suc n) s e = set_placed bs es h ks n s e

-- Each declaration of a component's sets that goes on as a body has one among its forms.
pub member_has_body : (c : Component) (groups : Groups) (n : ℕ) (s : MemberSet)
    → slice_get (sets_of (entries_of c)) n ≡ Some s → (j : ℕ) (d : Member)
    → slice_get s.members j ≡ Some d → d.kind ≡ a_kind.Concrete
    → (p : Place) × (d.place ≡ Some p) × HasBody (forms_of c groups).bodies p
member_has_body c groups n s e j d f k =
    let t = tables_of c groups in
    let bs = flat_map (declared_bodies t) c.declarations in
    let all = all_both (IsPlacedEntry bs) (map built_in_entry declarations)
    (flat_map (declared_entries t.types t.names) c.declarations) (built_in_placed bs declarations)
    (component_placed t c.declarations) in
    let r = all_at (IsPlaced bs) s.members
    (set_placed bs (entries_of c) all (keys_of (entries_of c)) n s e) j d f k in
    (r.0, r.1, has_body bs r.0 r.2)
