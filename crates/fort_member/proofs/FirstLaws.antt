-- The built-in declarations stand first in their sets.
use Rattle.std.proofs.Common.{◌≡◌, ℕ, Bool, true, false, ◌&&◌, cond, List, [], ◌∷◌, ◌++◌, length, map, Option, Some, None, refl, sym, ap, ◌∙◌, subst}
use Rattle.std.specs.Prelude.{nat_eq, filter}
use Rattle.std.specs.Bool.{beq}
use Rattle.std.specs.List.{slice_get, flat_map, AllByRecursion}
use Rattle.std.specs.Str.{bytes_eq}
use Rattle.std.specs.Cmp.Lexicographic.{bytes_decides}
use Rattle.std.proofs.lemmas.Bool.{eqb-true, eq-eqb}
use Rattle.std.proofs.lemmas.List.{map-append}
use Rattle.std.proofs.lemmas.List.Elements.{filter-append}
use Rattle.fort_tree.specs.declared.declarations.Component.{Component}
use Rattle.fort_tree.specs.declared.declarations.Declaration.{Declaration}
use Rattle.fort_tree.specs.declared.declarations.Declaration.TheVariants as declaration
use Rattle.fort_tree.specs.declared.declarations.Method.{Method}
use Rattle.fort_tree.specs.declared.declarations.MethodBody.{MethodBody}
use Rattle.fort_tree.specs.declared.declarations.Object.{Object}
use Rattle.fort_tree.specs.declared.declarations.ObjectMember.{ObjectMember}
use Rattle.fort_tree.specs.declared.declarations.ObjectMember.TheVariants as object_member
use Rattle.fort_tree.specs.declared.declarations.ObjectParameters.{ObjectParameters}
use Rattle.fort_tree.specs.declared.declarations.TraitMember.{TraitMember}
use Rattle.fort_tree.specs.declared.declarations.TraitMember.TheVariants as trait_member
use Rattle.fort_types_builtin.specs.declared.table.BuiltInDeclaration.{BuiltInDeclaration}
use Rattle.fort_types_builtin.specs.Declarations.{declarations, has}
use Rattle.fort_hier.specs.Names.{Spelling, spelling}
use Rattle.fort_hier.specs.Numbers.{number_of}
use Rattle.fort_types_sets.specs.declared.member.Member.{Member}
use Rattle.fort_types_sets.specs.declared.member.MemberKind.TheVariants as a_kind
use Rattle.fort_member_fields.specs.Own.{types_of}
use Rattle.fort_member.specs.declared.entries.Entry.{Entry}
use Rattle.fort_member.specs.BuiltIn.{built_in_member, built_in_entry, built_in_entries}
use Rattle.fort_member.specs.Declarations.{method_kind, method_entry, trait_member_entry, trait_entry, object_member_entry, object_entry, constructor_entry, entries_at, declared_entries, entries_of}
use Rattle.fort_member.specs.Laws.{built_in_of, HasBuiltInFirst, BuiltInsStandFirst}
use Rattle.fort_member.specs.Sets.{Key, belongs, member_of, keys_of, set_of}
use Rattle.fort_member.proofs.BuiltInLaws.{all_joined}
use Rattle.fort_member.proofs.Numbered.{all_join, all_item}
use Rattle.fort_member.proofs.SetLaws.{get_mapped}
use Rattle.fort_member.proofs.WellMadeLaws.{ComesFrom, comes_from, width_is}

-- ---- a set's key and a declaration's name and number of parameters

same_bool : (x y : Bool) → (x ≡ true → y ≡ true) → (y ≡ true → x ≡ true) → x ≡ y
same_bool true y f g = sym (f refl)
same_bool false true f g = g refl
same_bool false false f g = refl

bytes_turned : (a b : List ℕ) → bytes_eq a b ≡ bytes_eq b a
bytes_turned a b =
    same_bool (bytes_eq a b) (bytes_eq b a)
    (λ e. (bytes_decides b a).1 (sym ((bytes_decides a b).0 e)))
    (λ e. (bytes_decides a b).1 (sym ((bytes_decides b a).0 e)))

nat_turned : (m n : ℕ) → nat_eq m n ≡ nat_eq n m
nat_turned m n =
    same_bool (nat_eq m n) (nat_eq n m) (λ e. eq-eqb n m (sym (eqb-true m n e)))
    (λ e. eq-eqb m n (sym (eqb-true n m e)))

no_function : (p q : Bool) → (p && (beq true false && q)) ≡ false
no_function true q = refl
no_function false q = refl

belongs_not : (k : Key) (d : BuiltInDeclaration) → k.dotted ≡ true
    → belongs k (built_in_entry d) ≡ false
belongs_not k d e =
    ap (λ z. bytes_eq k.name d.name && (beq z false && nat_eq k.width (length d.parameters))) e
    ∙ no_function (bytes_eq k.name d.name) (nat_eq k.width (length d.parameters))

belongs_has : (k : Key) (d : BuiltInDeclaration) → k.dotted ≡ false
    → belongs k (built_in_entry d) ≡ has k.name k.width d
belongs_has k d e =
    ap (λ z. bytes_eq k.name d.name && (beq z false && nat_eq k.width (length d.parameters))) e
    ∙ ap (λ z. z && nat_eq k.width (length d.parameters)) (bytes_turned k.name d.name)
    ∙ ap (λ z. bytes_eq d.name k.name && z) (nat_turned k.width (length d.parameters))

-- ---- the built-in declarations of a key

kept : (d : BuiltInDeclaration) (es : List Entry) (ds : List BuiltInDeclaration) (b c : Bool)
    → b ≡ c → map member_of es ≡ map built_in_member ds
    → map member_of (cond b (built_in_entry d ∷ es) es) ≡ map built_in_member (cond c (d ∷ ds) ds)
kept d es ds true true e h = ap (λ l. built_in_member d ∷ l) h
kept d es ds false false e h = h
kept d es ds true false e h = absurd cc
kept d es ds false true e h = absurd cc

functions_are : (k : Key) (ds : List BuiltInDeclaration) → k.dotted ≡ false
    → map member_of (filter (belongs k) (map built_in_entry ds))
    ≡ map built_in_member (filter (has k.name k.width) ds)
functions_are k [] e = refl
functions_are k (d ∷ ds) e =
    kept d (filter (belongs k) (map built_in_entry ds)) (filter (has k.name k.width) ds)
    (belongs k (built_in_entry d)) (has k.name k.width d) (belongs_has k d e) (functions_are k ds e)

left_out : (x : Entry) (es : List Entry) (b : Bool) → b ≡ false → map member_of es ≡ []
    → map member_of (cond b (x ∷ es) es) ≡ []
left_out x es true e h = absurd cc
left_out x es false e h = h

dotted_are : (k : Key) (ds : List BuiltInDeclaration) → k.dotted ≡ true
    → map member_of (filter (belongs k) (map built_in_entry ds)) ≡ []
dotted_are k [] e = refl
dotted_are k (d ∷ ds) e =
    left_out (built_in_entry d) (filter (belongs k) (map built_in_entry ds))
    (belongs k (built_in_entry d)) (belongs_not k d e) (dotted_are k ds e)

built_in_are : (k : Key)
    → map member_of (filter (belongs k) built_in_entries)
    ≡ map built_in_member (built_in_of k.dotted k.name k.width)
built_in_are k = at k.dotted refl
  where
    at : (b : Bool) → k.dotted ≡ b
        → map member_of (filter (belongs k) built_in_entries)
        ≡ map built_in_member (built_in_of b k.name k.width)
    at true e = dotted_are k declarations e
    at false e = functions_are k declarations e

-- ---- what a component declares is not built in

abbrev Own : Entry → Type 0
Own e = e.member.kind ≡ a_kind.BuiltIn → ⊥

no_body : (b : Option MethodBody) → method_kind b ≡ a_kind.BuiltIn → ⊥
no_body None e = absurd cc
no_body (Some b) e = absurd cc

module _ (list names : List Spelling) where
  method_own : (t : ℕ) (m : Method) → Own (method_entry list names t m)
  method_own t m e = no_body m.body e

  trait_own : (t : ℕ) (m : TraitMember) → AllByRecursion Own (trait_member_entry list names t m)
  trait_own t (trait_member.Field name colon ty) = tt
  trait_own t (trait_member.Method m) = (method_own t m, tt)

  object_own : (t : ℕ) (m : ObjectMember) → AllByRecursion Own (object_member_entry list names t m)
  object_own t (object_member.Variable v) = tt
  object_own t (object_member.Method m) = (method_own t m, tt)

  constructor_own : (t : ℕ) (o : Object) (ps : Option ObjectParameters)
      → AllByRecursion Own (constructor_entry list names t o ps)
  constructor_own t o None = tt
  constructor_own t o (Some ps) = ((λ e. absurd cc), tt)

  declared_own : (d : Declaration) → AllByRecursion Own (entries_at list names d)
  declared_own (declaration.Variable v) = tt
  declared_own (declaration.Function f) = ((λ e. absurd cc), tt)
  declared_own (declaration.Trait t) =
      all_joined Own (trait_entry list names (number_of list (spelling names t.name))) t.members
      (λ x. trait_own (number_of list (spelling names t.name)) x.member)
  declared_own (declaration.Object o) =
      all_join Own
      (constructor_entry list names (number_of list (spelling names o.name)) o o.parameters)
      (flat_map (object_entry list names (number_of list (spelling names o.name))) o.members)
      (constructor_own (number_of list (spelling names o.name)) o o.parameters)
      (all_joined Own (object_entry list names (number_of list (spelling names o.name))) o.members
      (λ x. object_own (number_of list (spelling names o.name)) x.member))

-- ---- a set

module _ (c : Component) where
  abbrev rest : List Entry
  rest = flat_map (declared_entries (types_of c) c.names) c.declarations

  all_own : AllByRecursion Own rest
  all_own =
      all_joined Own (declared_entries (types_of c) c.names) c.declarations
      (λ d. declared_own (types_of c) c.names d.declaration)

  own_of : (k : Key) (d : Member) → ComesFrom k rest d → d.kind ≡ a_kind.BuiltIn → ⊥
  own_of k d (e, j, g, b, m) q = all_item Own rest j e all_own g (ap (λ (z : Member). z.kind) m ∙ q)

  first_of_key : (k : Key) → HasBuiltInFirst (set_of (entries_of c) k)
  first_of_key k = record {
    width = k.width;
    all_wide = λ j d a. width_is k (entries_of c) d (comes_from k (entries_of c) d j a);
    others = map member_of (filter (belongs k) rest);
    are = ap (map member_of) (filter-append (belongs k) built_in_entries rest)
        ∙ map-append member_of (filter (belongs k) built_in_entries) (filter (belongs k) rest)
        ∙ ap (λ l. l ++ map member_of (filter (belongs k) rest)) (built_in_are k);
    none_built_in = λ j d a. own_of k d (comes_from k rest d j a);
  }

pub built_ins_first : BuiltInsStandFirst
built_ins_first c m w i s e =
    let k = get_mapped (set_of (entries_of c)) (keys_of (entries_of c)) i s
    (sym (ap (λ z. slice_get z i) w.sets) ∙ e) in subst HasBuiltInFirst k.2 (first_of_key c k.0)
