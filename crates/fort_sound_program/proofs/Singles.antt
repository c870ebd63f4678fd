-- Which objects are single ones, by their names.
use Rattle.std.proofs.Common.{◌≡◌, ◌<◌, ℕ, zero, suc, ◌+◌, Bool, true, false, ◌&&◌, ◌||◌, cond, List, [], ◌∷◌, ◌++◌, length, map, Some, refl, sym, ap, ◌∙◌, eqb-true, arith}
use Rattle.std.specs.Bool.{beq}
use Rattle.std.specs.List.{slice_get, list_any}
use Rattle.std.specs.Str.{bytes_eq}
use Rattle.std.specs.Cmp.Lexicographic.{bytes_decides}
use Rattle.fort_base.specs.declared.ids.TypeId.{TypeId}
use Rattle.fort_tree.specs.declared.declarations.Component.{Component}
use Rattle.fort_tree.specs.declared.declarations.Declaration.TheVariants as declaration
use Rattle.fort_tree.specs.declared.declarations.Object.{Object}
use Rattle.fort_hier.specs.Names.{Spelling, spelling}
use Rattle.fort_hier.specs.Numbers.{number_of}
use Rattle.fort_types_sets.specs.declared.member.Member.{Member}
use Rattle.fort_types_sets.specs.declared.member.MemberKind.{MemberKind}
use Rattle.fort_types_sets.specs.declared.member.MemberKind.TheVariants as a_kind
use Rattle.fort_types_sets.specs.declared.member.MemberSet.{MemberSet}
use Rattle.fort_types_sets.specs.declared.member.Members.{Members}
use Rattle.fort_member_fields.specs.Own.{types_of}
use Rattle.fort_member.specs.declared.entries.Entry.{Entry}
use Rattle.fort_member.specs.Answers.{AreMembers}
use Rattle.fort_member.specs.Declarations.{entries_of}
use Rattle.fort_member.specs.Sets.{Key, key_of, keys_of, set_of}
use Rattle.fort_member.proofs.Numbered.{all_item}
use Rattle.fort_member.proofs.SetLaws.{key_told, get_mapped}
use Rattle.fort_member.proofs.WellMadeLaws.{comes_from}
use Rattle.fort_typing_known.specs.Sets.{has_name, any_set}
use Rattle.fort_elab_law_matched.proofs.Types.{types_in}
use Rattle.fort_elab_meaning.specs.Shapes.{constructs_by, has_constructor}
use Rattle.fort_sound_program.proofs.Order.{type_number}
use Rattle.fort_tree_type_names.specs.TypeNames.{type_names}
use Rattle.fort_tree.specs.declared.declarations.Declaration.{Declaration}
use Rattle.fort_tree.specs.declared.declarations.Declared.{Declared}
use Rattle.fort_types_builtin.specs.declared.types.TheConstants.{TYPE_COUNT}
use Rattle.fort_types_builtin.specs.Types.{declared_spellings}
use Rattle.fort_types_builtin.proofs.PlainTypes.{declared_count}
use Rattle.fort_hier.specs.declared.accepted.Hierarchy.{Hierarchy}
use Rattle.fort_hier.specs.declared.heads.TypeHead.{TypeHead}
use Rattle.fort_hier.specs.Heads.{head_of, heads_from, heads_of}
use Rattle.fort_hier.specs.Hierarchies.{IsHierarchy}
use Rattle.fort_hier.specs.Numbers.{head_spelling}
use Rattle.fort_typing_known.specs.Names.{type_number as number_in_names}
use Rattle.fort_elab_law_matched.proofs.Types.{type_of, type_number as number_at}
use Rattle.fort_elab_law_matched.proofs.Shapes.{get_behind}
use Rattle.fort_member.proofs.SetLaws.{get_of_mapped}
use Rattle.fort_sound_program.proofs.Constructors.{OfObject, IsConstructor, all_constructors}

-- ---- what some item has

any_step : {X : Type 0} (test : X → Bool) (x : X) (xs : List X) (b : Bool) → test x ≡ b
    → (list_any test xs ≡ true → (i : ℕ) × (y : X) × (slice_get xs i ≡ Some y) × (test y ≡ true))
    → (b || list_any test xs) ≡ true
    → (i : ℕ) × (y : X) × (slice_get (x ∷ xs) i ≡ Some y) × (test y ≡ true)
any_step test x xs true q rest e = (0, x, refl, q)
any_step test x xs false q rest e = let w = rest e in (suc w.0, w.1, w.2, w.3)

pub some_there : {X : Type 0} (test : X → Bool) (xs : List X) → list_any test xs ≡ true
    → (i : ℕ) × (y : X) × (slice_get xs i ≡ Some y) × (test y ≡ true)
some_there test [] e = absurd cc
some_there test (x ∷ xs) e = any_step test x xs (test x) refl (some_there test xs) e

or_first : (a b : Bool) → a ≡ true → (a || b) ≡ true
or_first true b e = refl
or_first false b e = absurd cc

or_second : (a b : Bool) → b ≡ true → (a || b) ≡ true
or_second true b e = refl
or_second false b e = e

set_there : (test : MemberSet → Bool) (ss : List MemberSet) (k : ℕ) (s : MemberSet)
    → slice_get ss k ≡ Some s → test s ≡ true → any_set test ss ≡ true
set_there test [] k s e q = absurd cc
set_there test (x ∷ ss) zero s e q =
    let same : x ≡ s = cc in or_first (test x) (any_set test ss) (ap test same ∙ q)
set_there test (x ∷ ss) (suc k) s e q =
    or_second (test x) (any_set test ss) (set_there test ss k s e q)

constructs_told : (k : MemberKind) (t : TypeId) → constructs_by k t ≡ true
    → (u : TypeId) × (k ≡ a_kind.Constructor u) × (u.0 ≡ t.0)
constructs_told a_kind.BuiltIn t e = absurd cc
constructs_told (a_kind.Constructor u) t e = (u, refl, eqb-true u.0 t.0 e)
constructs_told a_kind.Concrete t e = absurd cc
constructs_told a_kind.Abstract t e = absurd cc

-- ---- the names of types

abbrev type_spelling : List Spelling → Declaration → Spelling
type_spelling names (declaration.Variable v) = []
type_spelling names (declaration.Function f) = []
type_spelling names (declaration.Trait t) = spelling names t.name
type_spelling names (declaration.Object o) = spelling names o.name

name_step : (names : List Spelling) (body : ℕ) (d : Declaration) (hs : List TypeHead)
    (ts : List Declaration) → map (head_spelling names) hs ≡ map (type_spelling names) ts
    → map (head_spelling names) (head_of body d ++ hs) ≡ map (type_spelling names) (type_of d ++ ts)
name_step names body (declaration.Variable v) hs ts e = e
name_step names body (declaration.Function f) hs ts e = e
name_step names body (declaration.Trait t) hs ts e = ap (λ z. spelling names t.name ∷ z) e
name_step names body (declaration.Object o) hs ts e = ap (λ z. spelling names o.name ∷ z) e

names_are : (names : List Spelling) (body : ℕ) (ds : List Declared)
    → map (head_spelling names) (heads_from body ds) ≡ map (type_spelling names) (types_in ds)
names_are names body [] = refl
names_are names body (d ∷ ds) =
    name_step names body d.declaration (heads_from (body + 1) ds) (types_in ds)
    (names_are names (body + 1) ds)

number_step : (x s : Spelling) (xs : List Spelling) (n : ℕ) (b : Bool) → bytes_eq x s ≡ b
    → ((n : ℕ) → number_in_names xs s ≡ n → n < length xs → slice_get xs n ≡ Some s)
    → cond b 0 (suc (number_in_names xs s)) ≡ n → n < suc (length xs)
    → slice_get (x ∷ xs) n ≡ Some s
number_step x s xs n true q rest e l =
    ap (slice_get (x ∷ xs)) (sym e) ∙ ap Some ((bytes_decides x s).0 q)
number_step x s xs zero false q rest e l = absurd (omega (arith, e))
number_step x s xs (suc n) false q rest e l = rest n (omega (arith, e)) (omega arith)

-- the name at the number of a name
pub name_there : (xs : List Spelling) (s : Spelling) (n : ℕ) → number_in_names xs s ≡ n
    → n < length xs → slice_get xs n ≡ Some s
name_there [] s n e l = absurd (omega arith)
name_there (x ∷ xs) s n e l = number_step x s xs n (bytes_eq x s) refl (name_there xs s) e l

module _ (c : Component) (h : Hierarchy) (is : IsHierarchy c (type_names c) h) where
  abbrev Stands : ℕ → Object → Type 0
  Stands k o = slice_get (types_in c.declarations) k ≡ Some (declaration.Object o)

  pub name_at : (k : ℕ) (o : Object) → Stands k o
      → slice_get h.names (TYPE_COUNT + k) ≡ Some (spelling c.names o.name)
  name_at k o st = ap (λ z. slice_get z (TYPE_COUNT + k)) is.names
      ∙ get_behind declared_spellings (map (head_spelling c.names) (heads_of c)) (TYPE_COUNT + k) k
      (ap (λ z. z + k) (sym declared_count))
      ∙ ap (λ z. slice_get z k) (names_are c.names 0 c.declarations)
      ∙ get_of_mapped (type_spelling c.names) (types_in c.declarations) k (declaration.Object o) st

  -- ---- without a function of its name an object has no constructor

  one_object : (k l : ℕ) (o u : Object) → Stands k o → Stands l u
      → number_of (types_of c) (spelling c.names u.name)
      ≡ number_of (types_of c) (spelling c.names o.name) → u ≡ o
  one_object k l o u st su e =
      let a = number_at c h is k (declaration.Object o) st in
      let b = number_at c h is l (declaration.Object u) su in
      let same : l ≡ k = omega (arith, a, b, e) in
      let z : Some (declaration.Object u) ≡ Some (declaration.Object o) =
      sym su ∙ ap (slice_get (types_in c.declarations)) same ∙ st in cc

  named_test : (s : MemberSet) (name : Spelling) → s.name ≡ name → s.dotted ≡ false
      → has_name name false s ≡ true
  named_test s name e q =
      ap (λ z. bytes_eq z name && beq s.dotted false) e
      ∙ ap (λ b. b && beq s.dotted false) ((bytes_decides name name).1 refl)
      ∙ ap (λ b. beq b false) q

  module _ (m : Members) (has : AreMembers c m) where
    -- a set of a key has its name
    set_name : (s : MemberSet) (l : Key) (e : Entry) → set_of (entries_of c) l ≡ s → l ≡ key_of e
        → s.name ≡ e.name
    set_name s l e p q = ap (λ (z : MemberSet). z.name) (sym p) ∙ ap (λ (z : Key). z.name) q

    set_plain : (s : MemberSet) (l : Key) (e : Entry) → set_of (entries_of c) l ≡ s → l ≡ key_of e
        → e.dotted ≡ false → s.dotted ≡ false
    set_plain s l e p q r =
        ap (λ (z : MemberSet). z.dotted) (sym p) ∙ ap (λ (z : Key). z.dotted) q ∙ r

    -- the constructor of an object is a function of the object's name
    by_entry : (k : ℕ) (o : Object) → Stands k o → (e : Entry) (u : TypeId) → OfObject c e u
        → u.0 ≡ number_of (types_of c) (spelling c.names o.name) → e.name ≡ spelling c.names o.name
    by_entry k o st e u of n =
        of.name_is ∙ ap (λ
        (z : Object). spelling c.names z.name)
        (one_object k of.k o of.object st of.stands (ap (λ (z : TypeId). z.0) (sym of.type_is) ∙ n))

    by_member : (k : ℕ) (o : Object) → Stands k o → (e : Entry) (j : ℕ)
        → slice_get (entries_of c) j ≡ Some e
        → constructs_by e.member.kind
        (type_number (number_of (types_of c) (spelling c.names o.name))) ≡ true
        → (e.name ≡ spelling c.names o.name) × (e.dotted ≡ false)
    by_member k o st e j g q =
        let kind =
        constructs_told e.member.kind
        (type_number (number_of (types_of c) (spelling c.names o.name))) q in
        let of = all_item (IsConstructor c) (entries_of c) j e (all_constructors c) g kind.0 kind.1
        in
        (by_entry k o st e kind.0 of kind.2, of.plain)

    by_set : (k : ℕ) (o : Object) → Stands k o → (n : ℕ) (s : MemberSet)
        → slice_get m.sets n ≡ Some s → (i : ℕ) (d : Member) → slice_get s.members i ≡ Some d
        → constructs_by d.kind (type_number (number_of (types_of c) (spelling c.names o.name)))
        ≡ true → (s.name ≡ spelling c.names o.name) × (s.dotted ≡ false)
    by_set k o st n s e i d g q =
        let key =
        get_mapped (set_of (entries_of c)) (keys_of (entries_of c)) n s
        (ap (λ z. slice_get z n) (sym has.sets) ∙ e) in
        let w = comes_from key.0 (entries_of c) d i (ap (λ
        (z : MemberSet). slice_get z.members i) key.2 ∙ g) in
        let same_key : key.0 ≡ key_of w.0 = key_told key.0 (key_of w.0) w.3 in
        let v = by_member k o st w.0 w.1 w.2 (ap (λ
        (d : Member). constructs_by d.kind
        (type_number (number_of (types_of c) (spelling c.names o.name)))) w.4 ∙ q) in
        (set_name s key.0 w.0 key.2 same_key ∙ v.0, set_plain s key.0 w.0 key.2 same_key v.1)

    found : (k : ℕ) (o : Object) → Stands k o → (name : Spelling) → spelling c.names o.name ≡ name
        → has_constructor m.sets (type_number (number_of (types_of c) (spelling c.names o.name)))
        ≡ true → any_set (has_name name false) m.sets ≡ true
    found k o st name spelled e =
        let t = type_number (number_of (types_of c) (spelling c.names o.name)) in
        let a = some_there (λ
        (s : MemberSet). list_any (λ
        (d : Member). constructs_by d.kind t) s.members) m.sets e in
        let b = some_there (λ (d : Member). constructs_by d.kind t) a.1.members a.3 in
        let v = by_set k o st a.0 a.1 a.2 b.0 b.1 b.2 b.3 in
        set_there (has_name name false) m.sets a.0 a.1 a.2 (named_test a.1 name (v.0 ∙ spelled) v.1)

    pub no_constructor : (k : ℕ) (o : Object) → Stands k o → (name : Spelling)
        → spelling c.names o.name ≡ name → any_set (has_name name false) m.sets ≡ false
        → has_constructor m.sets (type_number (number_of (types_of c) (spelling c.names o.name)))
        ≡ false
    no_constructor k o st name spelled none =
        go (has_constructor m.sets (type_number (number_of (types_of c) (spelling c.names o.name))))
        refl
      where
        go : (b : Bool)
            → has_constructor m.sets
            (type_number (number_of (types_of c) (spelling c.names o.name))) ≡ b → b ≡ false
        go true e = let z : true ≡ false = sym (found k o st name spelled e) ∙ none in cc
        go false e = refl
