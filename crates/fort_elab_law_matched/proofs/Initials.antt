-- Which fields of an object have an initial: those of its body, and not its parameters.
use Rattle.std.proofs.Common.{◌≡◌, ℕ, zero, suc, Bool, true, false, ◌&&◌, ◌||◌, cond, List, [], ◌∷◌, ◌++◌, map, Option, Some, None, refl, sym, ap, ◌∙◌, subst, eq-eqb}
use Rattle.std.specs.Prelude.{nat_eq}
use Rattle.std.specs.List.{slice_get, flat_map, list_any, AllByRecursion}
use Rattle.std.proofs.lemmas.List.{map-append}
use Rattle.fort_base.specs.declared.ids.NameId.{NameId}
use Rattle.fort_base.specs.declared.ids.TypeId.{TypeId}
use Rattle.fort_core.specs.declared.value.Value.{Value}
use Rattle.fort_form.specs.declared.component.InitialForm.{InitialForm}
use Rattle.fort_tree.specs.declared.declarations.Declaration.{Declaration}
use Rattle.fort_tree.specs.declared.declarations.Declaration.TheVariants as declaration
use Rattle.fort_tree.specs.declared.declarations.Declared.{Declared}
use Rattle.fort_tree.specs.declared.declarations.Object.{Object}
use Rattle.fort_tree.specs.declared.declarations.ObjectEntry.{ObjectEntry}
use Rattle.fort_tree.specs.declared.declarations.ObjectMember.{ObjectMember}
use Rattle.fort_tree.specs.declared.declarations.ObjectMember.TheVariants as object_member
use Rattle.fort_types_sets.specs.declared.field.Field.{Field}
use Rattle.fort_member_fields.specs.Own.{object_member_field, object_field}
use Rattle.fort_member.proofs.Numbered.{all_left, all_right, all_join}
use Rattle.fort_form_walk.specs.FormsOf.{Tables, owner, member_initial, entry_initial, initials, declared_initials}
use Rattle.fort_elab_meaning.specs.Shapes.{Initial, same_owner, initial}
use Rattle.fort_elab_meaning.specs.Values.{constant}
use Rattle.fort_elab_law_matched.proofs.Typed.{Keyed, typed_keyed, form_keyed}
use Rattle.fort_elab_law_matched.proofs.Types.{types_in, type_of, IfObject, all_weaker}

-- whether an initial is that of a name, of a type's field or at the top
abbrev pub is_of : Option TypeId → NameId → Keyed → Bool
is_of id name x = same_owner x.0 id && nat_eq x.1.0 name.0

-- whether one of them is
abbrev pub has_initial : Option TypeId → NameId → List Keyed → Bool
has_initial id name xs = list_any (is_of id name) xs

-- ---- what the translation finds

none_step : (v : Value) (o : Option Value) (b rest : Bool) → (b || rest) ≡ false
    → (rest ≡ false → o ≡ None) → cond b (Some v) o ≡ None
none_step v o true rest e h = absurd cc
none_step v o false rest e h = h e

pub no_initial : (texts : List (List ℕ)) (id : Option TypeId) (name : NameId) (is : List Initial)
    → has_initial id name (map typed_keyed is) ≡ false → initial texts is id name ≡ None
no_initial texts id name [] e = refl
no_initial texts id name (i ∷ is) e =
    none_step (constant texts i.3) (initial texts is id name) (is_of id name (typed_keyed i))
    (has_initial id name (map typed_keyed is)) e (no_initial texts id name is)

some_step : (v : Value) (o : Option Value) (b rest : Bool) → (b || rest) ≡ true
    → (rest ≡ true → (w : Value) × (o ≡ Some w)) → (w : Value) × (cond b (Some v) o ≡ Some w)
some_step v o true rest e h = (v, refl)
some_step v o false rest e h = h e

pub an_initial : (texts : List (List ℕ)) (id : Option TypeId) (name : NameId) (is : List Initial)
    → has_initial id name (map typed_keyed is) ≡ true
    → (v : Value) × (initial texts is id name ≡ Some v)
an_initial texts id name [] e = absurd cc
an_initial texts id name (i ∷ is) e =
    some_step (constant texts i.3) (initial texts is id name) (is_of id name (typed_keyed i))
    (has_initial id name (map typed_keyed is)) e (an_initial texts id name is)

-- ---- several lists of initials

or_none : (a b : Bool) → a ≡ false → b ≡ false → (a || b) ≡ false
or_none true b e f = absurd cc
or_none false b e f = f

or_left : (a b : Bool) → a ≡ true → (a || b) ≡ true
or_left true b e = refl
or_left false b e = absurd cc

or_right : (a b : Bool) → b ≡ true → (a || b) ≡ true
or_right true b e = refl
or_right false b e = e

or_step : (a b c d : Bool) → b ≡ (c || d) → (a || b) ≡ ((a || c) || d)
or_step true b c d e = refl
or_step false b c d e = e

any_append : (test : Keyed → Bool) (xs ys : List Keyed)
    → list_any test (xs ++ ys) ≡ (list_any test xs || list_any test ys)
any_append test [] ys = refl
any_append test (x ∷ xs) ys =
    or_step (test x) (list_any test (xs ++ ys)) (list_any test xs) (list_any test ys)
    (any_append test xs ys)

-- of the initials of declarations
abbrev keyed : List InitialForm → List Keyed
keyed is = map form_keyed is

keyed_append : (test : Keyed → Bool) (is js : List InitialForm)
    → list_any test (keyed (is ++ js)) ≡ (list_any test (keyed is) || list_any test (keyed js))
keyed_append test is js =
    ap (list_any test) (map-append form_keyed is js) ∙ any_append test (keyed is) (keyed js)

module _ (n : Tables) where
  -- the initials of an object's members
  abbrev pub of_members : TypeId → List ObjectEntry → List Keyed
  of_members id ms = keyed (flat_map (entry_initial n id) ms)

  abbrev pub of_object : Object → List Keyed
  of_object o = of_members (owner n o.name) o.members

  -- of all declarations
  abbrev pub of_all : List Declared → List Keyed
  of_all ds = keyed (flat_map (declared_initials n) ds)

  -- the fields of an object's members
  abbrev pub fields_of : List ObjectEntry → List Field
  fields_of ms = flat_map (object_field n.types n.names) ms

  module _ (id : TypeId) (name : NameId) where
    none_at : (d : Declaration) → IfObject (λ o. has_initial (Some id) name (of_object o) ≡ false) d
        → has_initial (Some id) name (keyed (initials n d)) ≡ false
    none_at (declaration.Variable v) h = refl
    none_at (declaration.Function f) h = refl
    none_at (declaration.Trait t) h = refl
    none_at (declaration.Object o) h = h

    -- Where no object has one, no declaration has.
    pub none_in_all : (ds : List Declared)
        → AllByRecursion (λ
        (d : Declared). IfObject (λ o. has_initial (Some id) name (of_object o)
        ≡ false) d.declaration) ds → has_initial (Some id) name (of_all ds) ≡ false
    none_in_all [] h = refl
    none_in_all (d ∷ ds) h =
        keyed_append (is_of (Some id) name) (declared_initials n d)
        (flat_map (declared_initials n) ds)
        ∙ or_none (has_initial (Some id) name (keyed (declared_initials n d)))
        (has_initial (Some id) name (of_all ds)) (none_at d.declaration h.0) (none_in_all ds h.1)

    member_none : (at : TypeId) (m : ObjectMember) (is : List InitialForm)
        → AllByRecursion (λ
        (f : Field). is_of (Some id) name (Some at, f.name)
        ≡ false) (object_member_field n.types n.names m)
        → has_initial (Some id) name (keyed is) ≡ false
        → has_initial (Some id) name (keyed (member_initial n at m ++ is)) ≡ false
    member_none at (object_member.Variable v) is h e =
        or_none (is_of (Some id) name (Some at, v.name.id)) (has_initial (Some id) name (keyed is))
        h.0 e
    member_none at (object_member.Method m) is h e = e

    -- An object none of whose fields is so has none.
    pub none_in_members : (at : TypeId) (ms : List ObjectEntry)
        → AllByRecursion (λ
        (f : Field). is_of (Some id) name (Some at, f.name) ≡ false) (fields_of ms)
        → has_initial (Some id) name (of_members at ms) ≡ false
    none_in_members at [] h = refl
    none_in_members at (m ∷ ms) h =
        let P : Field → Type 0 = λ (f : Field). is_of (Some id) name (Some at, f.name) ≡ false in
        member_none at m.member (flat_map (entry_initial n at) ms)
        (all_left P (object_field n.types n.names m) (fields_of ms) h)
        (none_in_members at ms (all_right P (object_field n.types n.names m) (fields_of ms) h))

    first_has : (d : Declaration) (o : Object) (ts : List Declaration) (is : List InitialForm)
        → ((i : ℕ) → slice_get ts i ≡ Some (declaration.Object o)
        → has_initial (Some id) name (keyed is) ≡ true)
        → has_initial (Some id) name (of_object o) ≡ true → (i : ℕ)
        → slice_get (type_of d ++ ts) i ≡ Some (declaration.Object o)
        → (has_initial (Some id) name (keyed (initials n d))
        || has_initial (Some id) name (keyed is)) ≡ true
    first_has (declaration.Variable v) o ts is h e i g = h i g
    first_has (declaration.Function f) o ts is h e i g = h i g
    first_has (declaration.Trait t) o ts is h e zero g = absurd cc
    first_has (declaration.Trait t) o ts is h e (suc i) g = h i g
    first_has (declaration.Object p) o ts is h e zero g = let s : p ≡ o = cc in
        or_left (has_initial (Some id) name (of_object p)) (has_initial (Some id) name (keyed is))
        (subst (λ z. has_initial (Some id) name (of_object z) ≡ true) (sym s) e)
    first_has (declaration.Object p) o ts is h e (suc i) g =
        or_right (has_initial (Some id) name (of_object p)) (has_initial (Some id) name (keyed is))
        (h i g)

    -- What an object has is there among all declarations.
    pub some_in_all : (ds : List Declared) (o : Object)
        → has_initial (Some id) name (of_object o) ≡ true → (i : ℕ)
        → slice_get (types_in ds) i ≡ Some (declaration.Object o)
        → has_initial (Some id) name (of_all ds) ≡ true
    some_in_all [] o e i g = absurd cc
    some_in_all (d ∷ ds) o e i g =
        keyed_append (is_of (Some id) name) (declared_initials n d)
        (flat_map (declared_initials n) ds)
        ∙ first_has d.declaration o (types_in ds) (flat_map (declared_initials n) ds)
        (λ j f. some_in_all ds o e j f) e i g

  -- ---- each field of an object's body has one

  itself : (id : TypeId) (name : NameId) → is_of (Some id) name (Some id, name) ≡ true
  itself id name =
      ap (λ b. b && nat_eq name.0 name.0) (eq-eqb id.0 id.0 refl) ∙ eq-eqb name.0 name.0 refl

  field_has : (id : TypeId) (m : ObjectMember) (is : List InitialForm)
      → AllByRecursion (λ
      (f : Field). has_initial (Some id) f.name (keyed (member_initial n id m ++ is))
      ≡ true) (object_member_field n.types n.names m)
  field_has id (object_member.Variable v) is = (
    or_left (is_of (Some id) v.name.id (Some id, v.name.id))
        (has_initial (Some id) v.name.id (keyed is)) (itself id v.name.id),
    tt,
  )
  field_has id (object_member.Method m) is = tt

  still_has : (id : TypeId) (name : NameId) (m : ObjectMember) (is : List InitialForm)
      → has_initial (Some id) name (keyed is) ≡ true
      → has_initial (Some id) name (keyed (member_initial n id m ++ is)) ≡ true
  still_has id name (object_member.Variable v) is e =
      or_right (is_of (Some id) name (Some id, v.name.id)) (has_initial (Some id) name (keyed is)) e
  still_has id name (object_member.Method m) is e = e

  pub all_have : (id : TypeId) (ms : List ObjectEntry)
      → AllByRecursion (λ
      (f : Field). has_initial (Some id) f.name (of_members id ms) ≡ true) (fields_of ms)
  all_have id [] = tt
  all_have id (m ∷ ms) =
      let rest = flat_map (entry_initial n id) ms in
      let P : Field
      → Type 0 = λ (f : Field). has_initial (Some id) f.name (of_members id ms) ≡ true in
      let Q : Field
      → Type 0 = λ (f : Field). has_initial (Some id) f.name (of_members id (m ∷ ms)) ≡ true in
      all_join Q (object_field n.types n.names m) (fields_of ms) (field_has id m.member rest)
      (all_weaker P Q (fields_of ms) (λ f e. still_has id f.name m.member rest e) (all_have id ms))
