-- The types of a component that keeps the rules of the hierarchy have the numbers of their places
-- among its types.
use Rattle.std.proofs.Common.{◌≡◌, ℕ, zero, suc, ◌+◌, Bool, true, false, ◌&&◌, cond, List, [], ◌∷◌, ◌++◌, length, map, take, Some, refl, sym, ap, ◌∙◌, subst, append_assoc, arith}
use Rattle.std.specs.List.{slice_get, flat_map, Contains, AllByRecursion}
use Rattle.std.specs.Str.{bytes_eq}
use Rattle.std.specs.Cmp.Lexicographic.{bytes_decides}
use Rattle.std.proofs.Math.ListN.{length-append}
use Rattle.std.proofs.lemmas.List.{map-append}
use Rattle.fort_base.specs.declared.refusal.Place.{Place}
use Rattle.fort_types.specs.declared.hierarchy.TypeKind.{TypeKind}
use Rattle.fort_types.specs.declared.hierarchy.TypeKind.TheVariants as a_kind
use Rattle.fort_tree.specs.declared.declarations.Component.{Component}
use Rattle.fort_tree.specs.declared.declarations.Declaration.{Declaration}
use Rattle.fort_tree.specs.declared.declarations.Declaration.TheVariants as declaration
use Rattle.fort_tree.specs.declared.declarations.Declared.{Declared}
use Rattle.fort_tree.specs.declared.declarations.Object.{Object}
use Rattle.fort_tree.specs.declared.spot.Name.{Name}
use Rattle.fort_tree_type_names.specs.TypeNames.{type_names}
use Rattle.fort_types_builtin.specs.declared.types.TheConstants.{TYPE_COUNT}
use Rattle.fort_types_builtin.specs.Declarations.{function_spellings}
use Rattle.fort_types_builtin.specs.Types.{declared_spellings, any_spelling, type_spellings}
use Rattle.fort_types_builtin.proofs.PlainTypes.{declared_count}
use Rattle.fort_hier.specs.declared.accepted.Hierarchy.{Hierarchy}
use Rattle.fort_hier.specs.declared.heads.TypeHead.{TypeHead}
use Rattle.fort_hier.specs.declared.tops.Top.{Top}
use Rattle.fort_hier.specs.Heads.{head_of, heads_from, heads_of}
use Rattle.fort_hier.specs.Hierarchies.{IsHierarchy, duplicate}
use Rattle.fort_hier.specs.Names.{Spelling, spelling, Called, type_called, function_called, built_in, called, IsDuplicate}
use Rattle.fort_hier.specs.Numbers.{number_of, head_spelling}
use Rattle.fort_hier.specs.Tops.{function_top, named_top, trait_top, object_top, top_of, declared_top}
use Rattle.fort_types_sets.specs.declared.field.Field.{Field}
use Rattle.fort_member_fields.specs.Own.{trait_field, parameter_fields, object_field, own_of, declared_own, types_of}
use Rattle.fort_member_fields.proofs.Items.{of_get, get_left, get_end}
use Rattle.fort_member.proofs.Numbered.{all_item, all_items, all_join}
use Rattle.fort_member.proofs.SetLaws.{get_of_mapped}

pub all_weaker : {X : Type 0} (P Q : X → Type 0) (xs : List X) → ((x : X) → P x → Q x)
    → AllByRecursion P xs → AllByRecursion Q xs
all_weaker P Q [] f h = tt
all_weaker P Q (x ∷ xs) f h = (f x h.0, all_weaker P Q xs f h.1)

-- ---- the declarations that declare a type, in their order

abbrev pub type_of : Declaration → List Declaration
type_of (declaration.Variable v) = []
type_of (declaration.Function f) = []
type_of (declaration.Trait t) = declaration.Trait t ∷ []
type_of (declaration.Object o) = declaration.Object o ∷ []

abbrev pub types_in : List Declared → List Declaration
types_in [] = []
types_in (d ∷ ds) = type_of d.declaration ++ types_in ds

-- the type's name, kind and own fields
abbrev pub type_spelling : List Spelling → Declaration → Spelling
type_spelling names (declaration.Variable v) = []
type_spelling names (declaration.Function f) = []
type_spelling names (declaration.Trait t) = spelling names t.name
type_spelling names (declaration.Object o) = spelling names o.name

abbrev pub kind_of_type : Declaration → TypeKind
kind_of_type (declaration.Variable v) = a_kind.Trait
kind_of_type (declaration.Function f) = a_kind.Trait
kind_of_type (declaration.Trait t) = a_kind.Trait
kind_of_type (declaration.Object o) = a_kind.Object

abbrev pub own_of_type : List Spelling → List Spelling → Declaration → List Field
own_of_type list names (declaration.Variable v) = []
own_of_type list names (declaration.Function f) = []
own_of_type list names (declaration.Trait t) = flat_map (trait_field list names) t.members
own_of_type list names (declaration.Object o) =
    parameter_fields list names o.parameters ++ flat_map (object_field list names) o.members

abbrev pub kind_of_head : TypeHead → TypeKind
kind_of_head head = head.kind

name_step : (names : List Spelling) (body : ℕ) (d : Declaration) (hs : List TypeHead)
    (ts : List Declaration) → map (head_spelling names) hs ≡ map (type_spelling names) ts
    → map (head_spelling names) (head_of body d ++ hs) ≡ map (type_spelling names) (type_of d ++ ts)
name_step names body (declaration.Variable v) hs ts e = e
name_step names body (declaration.Function f) hs ts e = e
name_step names body (declaration.Trait t) hs ts e = ap (λ z. spelling names t.name ∷ z) e
name_step names body (declaration.Object o) hs ts e = ap (λ z. spelling names o.name ∷ z) e

names_are : (names : List Spelling) (body : ℕ) (ds : List Declared)
    → map (head_spelling names) (heads_from body ds) ≡ map (type_spelling names) (types_in ds)
names_are names body [] = refl
names_are names body (d ∷ ds) =
    name_step names body d.declaration (heads_from (body + 1) ds) (types_in ds)
    (names_are names (body + 1) ds)

kind_step : (body : ℕ) (d : Declaration) (hs : List TypeHead) (ts : List Declaration)
    → map kind_of_head hs ≡ map kind_of_type ts
    → map kind_of_head (head_of body d ++ hs) ≡ map kind_of_type (type_of d ++ ts)
kind_step body (declaration.Variable v) hs ts e = e
kind_step body (declaration.Function f) hs ts e = e
kind_step body (declaration.Trait t) hs ts e = ap (λ z. a_kind.Trait ∷ z) e
kind_step body (declaration.Object o) hs ts e = ap (λ z. a_kind.Object ∷ z) e

pub kinds_are : (body : ℕ) (ds : List Declared)
    → map kind_of_head (heads_from body ds) ≡ map kind_of_type (types_in ds)
kinds_are body [] = refl
kinds_are body (d ∷ ds) =
    kind_step body d.declaration (heads_from (body + 1) ds) (types_in ds) (kinds_are (body + 1) ds)

own_step : (list names : List Spelling) (d : Declaration) (os : List (List Field))
    (ts : List Declaration) → os ≡ map (own_of_type list names) ts
    → own_of list names d ++ os ≡ map (own_of_type list names) (type_of d ++ ts)
own_step list names (declaration.Variable v) os ts e = e
own_step list names (declaration.Function f) os ts e = e
own_step list names (declaration.Trait t) os ts e =
    ap (λ z. own_of_type list names (declaration.Trait t) ∷ z) e
own_step list names (declaration.Object o) os ts e =
    ap (λ z. own_of_type list names (declaration.Object o) ∷ z) e

pub owns_are : (list names : List Spelling) (ds : List Declared)
    → flat_map (declared_own list names) ds ≡ map (own_of_type list names) (types_in ds)
owns_are list names [] = refl
owns_are list names (d ∷ ds) =
    own_step list names d.declaration (flat_map (declared_own list names) ds) (types_in ds)
    (owns_are list names ds)

-- ---- what each object of a component has

abbrev pub IfObject : (Object → Type 0) → Declaration → Type 0
IfObject P (declaration.Variable v) = Unit {0}
IfObject P (declaration.Function f) = Unit {0}
IfObject P (declaration.Trait t) = Unit {0}
IfObject P (declaration.Object o) = P o

-- the objects of declarations have it
abbrev AtEach : (Object → Type 0) → List Declaration → Type 0
AtEach P ts = (i : ℕ) (o : Object) → slice_get ts i ≡ Some (declaration.Object o) → P o

object_first : (P : Object → Type 0) (d : Declaration) (ts : List Declaration)
    → AtEach P (type_of d ++ ts) → IfObject P d
object_first P (declaration.Variable v) ts h = tt
object_first P (declaration.Function f) ts h = tt
object_first P (declaration.Trait t) ts h = tt
object_first P (declaration.Object o) ts h = h 0 o refl

object_later : (P : Object → Type 0) (d : Declaration) (ts : List Declaration)
    → AtEach P (type_of d ++ ts) → AtEach P ts
object_later P (declaration.Variable v) ts h i o e = h i o e
object_later P (declaration.Function f) ts h i o e = h i o e
object_later P (declaration.Trait t) ts h i o e = h (suc i) o e
object_later P (declaration.Object p) ts h i o e = h (suc i) o e

pub each_object : (P : Object → Type 0) (ds : List Declared)
    → ((i : ℕ) (o : Object) → slice_get (types_in ds) i ≡ Some (declaration.Object o) → P o)
    → AllByRecursion (λ (d : Declared). IfObject P d.declaration) ds
each_object P [] h = tt
each_object P (d ∷ ds) h = (
  object_first P d.declaration (types_in ds) h,
  each_object P ds (object_later P d.declaration (types_in ds) h),
)

-- ---- names

-- A name of a list is spelled so.
abbrev IsIn : List Called → Spelling → Type 0
IsIn before s = (j : ℕ) × (x : Called) × (slice_get before j ≡ Some x) × (x.spelling ≡ s)

-- No name of a list clashes with one before it.
abbrev NoClash : List Called → Type 0
NoClash all = (place : Place) → IsDuplicate all place → ⊥

never : (b : Bool) → (b && false) ≡ false
never true = refl
never false = refl

get_here : {X : Type 0} (xs : List X) (y : X) (ys : List X)
    → slice_get (xs ++ y ∷ ys) (length xs) ≡ Some y
get_here [] y ys = refl
get_here (x ∷ xs) y ys = get_here xs y ys

take_front : {X : Type 0} (xs ys : List X) → take (length xs) (xs ++ ys) ≡ xs
take_front [] [] = refl
take_front [] (y ∷ ys) = refl
take_front (x ∷ xs) ys = ap (λ z. x ∷ z) (take_front xs ys)

fresh : (before : List Called) (x : Called) (behind : List Called) (place : Place)
    → x.place ≡ Some place → x.is_function ≡ false → NoClash (before ++ x ∷ behind)
    → IsIn before x.spelling → ⊥
fresh before x behind place p f none w =
    let c = subst (λ z. Contains z w.1) (sym (take_front before (x ∷ behind)))
    (of_get before w.0 w.1 w.2) in
    none place (
      length before,
      (
        x,
        get_here before x behind,
        (w.1, c, w.3, ap (λ b. w.1.is_function && b) f ∙ never w.1.is_function),
        p,
      ),
    )

number_step : (s x : Spelling) (n m : ℕ) (b : Bool) → bytes_eq s x ≡ b → (x ≡ s → ⊥) → n ≡ m
    → cond b 0 (suc n) ≡ suc m
number_step s x n m true e none q = absurd (none (sym ((bytes_decides s x).0 e)))
number_step s x n m false e none q = ap suc q

number_new : (seen rest : List Spelling) (s : Spelling) → ((j : ℕ) → slice_get seen j ≡ Some s → ⊥)
    → number_of (seen ++ s ∷ rest) s ≡ length seen
number_new [] rest s none = ap (λ b. cond b 0 (suc (number_of rest s))) ((bytes_decides s s).1 refl)
number_new (x ∷ seen) rest s none =
    number_step s x (number_of (seen ++ s ∷ rest) s) (length seen) (bytes_eq s x) refl
    (λ q. none 0 (ap Some q)) (number_new seen rest s (λ j e. none (suc j) e))

module _ (names : List Spelling) where
  -- Among these tops, where none clashes with others or with one before them, types have the
  -- numbers of their places.
  abbrev AreNumbered : List Top → List Declaration → Type 0
  AreNumbered tops ts = (before : List Called) (seen rest : List Spelling)
      → NoClash (before ++ map (called names) tops) → AllByRecursion (IsIn before) seen
      → (i : ℕ) (d : Declaration) → slice_get ts i ≡ Some d
      → number_of (seen ++ (map (type_spelling names) ts ++ rest)) (type_spelling names d)
      ≡ length seen + i

  still_in : (before more : List Called) (s : Spelling) → IsIn before s → IsIn (before ++ more) s
  still_in before more s w = (w.0, w.1, get_left before more w.0 w.1 w.2, w.3)

  pass : (more tops : List Top) (ts : List Declaration) → AreNumbered tops ts
      → AreNumbered (more ++ tops) ts
  pass more tops ts h before seen rest none within = let front = map (called names) more in
      h (before ++ front) seen rest
      (subst NoClash (ap (λ z. before ++ z) (map-append (called names) more tops)
      ∙ sym (append_assoc before front (map (called names) tops))) none)
      (all_weaker (IsIn before) (IsIn (before ++ front)) seen (λ s w. still_in before front s w)
      within)

  add : (name : Name) (tops : List Top) (d : Declaration) (ts : List Declaration)
      → spelling names name ≡ type_spelling names d → AreNumbered tops ts
      → AreNumbered (named_top name ++ tops) (d ∷ ts)
  add name tops d ts q h before seen rest none within zero e f =
      let same : d ≡ e = cc in
      let x : Called = called names (record { name = name; is_function = false }) in
      let behind = map (type_spelling names) ts ++ rest in
      let s = type_spelling names d in
      let n = number_new seen behind s
      (λ j g. fresh before x (map (called names) tops) name.spot.place refl refl none
      (subst (IsIn before) (sym q) (all_item (IsIn before) seen j s within g))) in
      subst (λ (z : Declaration). number_of (seen ++ (s ∷ behind)) (type_spelling names z)
      ≡ length seen + 0) same (n ∙ omega arith)
  add name tops d ts q h before seen rest none within (suc i) e f =
      let x : Called = called names (record { name = name; is_function = false }) in
      let behind = map (type_spelling names) ts ++ rest in
      let s = type_spelling names d in
      let r = h (before ++ x ∷ []) (seen ++ s ∷ []) rest
      (subst NoClash (sym (append_assoc before (x ∷ []) (map (called names) tops))) none)
      (all_join (IsIn (before ++ x ∷ [])) seen (s ∷ [])
      (all_weaker (IsIn before) (IsIn (before ++ x ∷ [])) seen
      (λ s w. still_in before (x ∷ []) s w) within)
      ((length before, x, get_end before x, q), tt)) i e f in
      let l = length-append seen (s ∷ []) in
      ap (λ z. number_of z (type_spelling names e)) (sym (append_assoc seen (s ∷ []) behind)) ∙ r
      ∙ omega arith

  declared_at : (d : Declaration) (tops : List Top) (ts : List Declaration) → AreNumbered tops ts
      → AreNumbered (top_of d ++ tops) (type_of d ++ ts)
  declared_at (declaration.Variable v) tops ts h = pass (named_top v.name) tops ts h
  declared_at (declaration.Function f) tops ts h = pass (function_top f.name) tops ts h
  declared_at (declaration.Trait t) tops ts h =
      add t.name (flat_map trait_top t.members ++ tops) (declaration.Trait t) ts refl
      (pass (flat_map trait_top t.members) tops ts h)
  declared_at (declaration.Object o) tops ts h =
      add o.name (flat_map object_top o.members ++ tops) (declaration.Object o) ts refl
      (pass (flat_map object_top o.members) tops ts h)

  none_numbered : AreNumbered [] []
  none_numbered before seen rest none within i d e = absurd cc

  all_numbered : (ds : List Declared) → AreNumbered (flat_map declared_top ds) (types_in ds)
  all_numbered [] = none_numbered
  all_numbered (d ∷ ds) =
      declared_at d.declaration (flat_map declared_top ds) (types_in ds) (all_numbered ds)

-- ---- a component

-- the names of built-in types
built_in_within : (xs ys : List Spelling) (zs : List Called)
    → AllByRecursion (IsIn (map type_called (xs ++ ys) ++ zs)) xs
built_in_within xs ys zs = all_items (IsIn (map type_called (xs ++ ys) ++ zs)) xs (λ j s e. (
  j,
  type_called s,
  get_left (map type_called (xs ++ ys)) zs j (type_called s)
      (get_of_mapped type_called (xs ++ ys) j s (get_left xs ys j s e)),
  refl,
))

spellings_are : declared_spellings ++ any_spelling ∷ [] ≡ type_spellings
unfolding type_spellings
spellings_are = refl

types_within : AllByRecursion (IsIn built_in) declared_spellings
types_within =
    subst (λ z. AllByRecursion (IsIn (map type_called z ++ map function_called function_spellings))
    declared_spellings) spellings_are
    (built_in_within declared_spellings (any_spelling ∷ [])
    (map function_called function_spellings))

-- The type at a place among a component's types has the number behind the built-in ones.
pub type_number : (c : Component) (h : Hierarchy) → IsHierarchy c (type_names c) h
    → (i : ℕ) (d : Declaration) → slice_get (types_in c.declarations) i ≡ Some d
    → number_of (types_of c) (type_spelling c.names d) ≡ TYPE_COUNT + i
type_number c h is i d e =
    let n = all_numbered c.names c.declarations built_in declared_spellings (any_spelling ∷ [])
    (λ place w. is.kept 401 place (duplicate refl w)) types_within i d e in
    let count = declared_count in
    ap (λ z. number_of z (type_spelling c.names d))
    (append_assoc declared_spellings (map (head_spelling c.names) (heads_of c))
    (any_spelling ∷ [])
    ∙ ap (λ z. declared_spellings ++ (z ++ any_spelling ∷ [])) (names_are c.names 0 c.declarations))
    ∙ n ∙ ap (λ z. z + i) count
