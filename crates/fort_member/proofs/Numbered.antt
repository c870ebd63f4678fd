-- The types that are written have numbers of the hierarchy, where each name in them is a type's.
use Rattle.std.proofs.Common.{◌≡◌, ◌<◌, ℕ, zero, suc, Bool, true, false, cond, List, [], ◌∷◌, ◌++◌, length, map, Some, None, refl, sym, ap, ◌∙◌, subst, rules, arith}
use Rattle.std.specs.List.{slice_get, AllByRecursion}
use Rattle.std.specs.Str.{bytes_eq}
use Rattle.fort_base.specs.declared.ids.TypeId.{TypeId}
use Rattle.fort_base.specs.declared.ty.Ty.{Ty, out-Ty, the_lemmas}
use Rattle.fort_base.specs.declared.ty.Ty.TheOpen.{Ty-F}
use Rattle.fort_base.specs.declared.ty.Ty.TheVariants as a_type
use Rattle.fort_types.specs.Types.{IsNumbered, no_name, name, in_parts, in_sides, in_element, top, declared, parts as tuple_shape, function, elements, shape, shape_of}
use Rattle.fort_tree.specs.declared.spot.Name.{Name}
use Rattle.fort_tree.specs.declared.types.SimpleType.{SimpleType}
use Rattle.fort_tree.specs.declared.types.TypeTree.{TypeTree}
use Rattle.fort_tree.specs.declared.types.NextType.{NextType}
use Rattle.fort_tree.specs.declared.types.TypeList.{TypeList}
use Rattle.fort_tree.specs.declared.types.SimpleType.TheOpen.{SimpleType-F, TypeTree-F, NextType-F, TypeList-F}
use Rattle.fort_tree.specs.declared.types.SimpleType.TheFolds.{fold-roll-SimpleType, map-SimpleType, fold-roll-TypeTree, map-TypeTree, ind-TypeTree, fold-roll-NextType, map-NextType, fold-roll-TypeList, map-TypeList}
use Rattle.fort_tree.specs.declared.types.SimpleType.TheViews.{roll-SimpleType, roll-TypeTree, roll-NextType, roll-TypeList}
use Rattle.fort_tree_type_names.specs.Mentioned.{Mentioned, all_mentioned}
use Rattle.fort_tree_type_names.specs.Mentions.{mentioned_simple_type, mentioned_type, mentioned_next_type, mentioned_type_list, mention_type_tree, mention_simple_type, mention_type_list, mention_next_type}
use Rattle.fort_types_builtin.specs.Types.{any_spelling}
use Rattle.fort_hier.specs.Names.{Spelling, spelling}
use Rattle.fort_hier.specs.Numbers.{number_of}
use Rattle.fort_member_fields.specs.Written.{named, parts, simple_type, type_tree, next_type, type_list, written, written_simple, written_next, written_list}

-- ---- lists all of whose items have a property

pub all_left : {X : Type 0} (P : X → Type 0) (xs ys : List X) → AllByRecursion P (xs ++ ys)
    → AllByRecursion P xs
all_left P [] ys h = tt
all_left P (x ∷ xs) ys h = (h.0, all_left P xs ys h.1)

pub all_right : {X : Type 0} (P : X → Type 0) (xs ys : List X) → AllByRecursion P (xs ++ ys)
    → AllByRecursion P ys
all_right P [] ys h = h
all_right P (x ∷ xs) ys h = all_right P xs ys h.1

pub all_join : {X : Type 0} (P : X → Type 0) (xs ys : List X) → AllByRecursion P xs
    → AllByRecursion P ys → AllByRecursion P (xs ++ ys)
all_join P [] ys h k = k
all_join P (x ∷ xs) ys h k = (h.0, all_join P xs ys h.1 k)

pub all_item : {X : Type 0} (P : X → Type 0) (xs : List X) (i : ℕ) (x : X) → AllByRecursion P xs
    → slice_get xs i ≡ Some x → P x
all_item P [] i x h e = absurd cc
all_item P (y ∷ xs) zero x h e = let s : y ≡ x = cc in subst P s h.0
all_item P (y ∷ xs) (suc i) x h e = all_item P xs i x h.1 e

pub all_items : {X : Type 0} (P : X → Type 0) (xs : List X)
    → ((i : ℕ) (x : X) → slice_get xs i ≡ Some x → P x) → AllByRecursion P xs
all_items P [] h = tt
all_items P (x ∷ xs) h = (h 0 x refl, all_items P xs (λ i y e. h (suc i) y e))

-- ---- types

out_any : out-Ty a_type.Any ≡ Ty-F.Any
out_any = search (rules, the_lemmas)

pub out_named : (i : TypeId) → out-Ty (a_type.Named i) ≡ Ty-F.Named i
out_named i = search (rules, the_lemmas)

out_tuple : (ts : List Ty) → out-Ty (a_type.Tuple ts) ≡ Ty-F.Tuple ts
out_tuple ts = search (rules, the_lemmas)

out_array : (t : Ty) → out-Ty (a_type.Array t) ≡ Ty-F.Array t
out_array t = search (rules, the_lemmas)

out_arrow : (a b : Ty) → out-Ty (a_type.Arrow a b) ≡ Ty-F.Arrow a b
out_arrow a b = search (rules, the_lemmas)

any_is : shape a_type.Any ≡ top
any_is = ap shape_of out_any

pub any_numbered : (n : ℕ) → IsNumbered n a_type.Any
any_numbered n =
    no_name (λ e. let f : top ≡ declared = sym any_is ∙ e
    in cc) (λ e. let f : top ≡ tuple_shape = sym any_is ∙ e in cc)
    (λ e. let f : top ≡ function = sym any_is ∙ e
    in cc) (λ e. let f : top ≡ elements = sym any_is ∙ e in cc)

pub named_numbered : (n : ℕ) (i : TypeId) → i.0 < n → IsNumbered n (a_type.Named i)
named_numbered n i l = name (out_named i) l

pub tuple_numbered : (n : ℕ) (ts : List Ty) → AllByRecursion (IsNumbered n) ts
    → IsNumbered n (a_type.Tuple ts)
tuple_numbered n ts h = in_parts (out_tuple ts) (λ k x e. all_item (IsNumbered n) ts k x h e)

parts_numbered : (n : ℕ) (ts : List Ty) → AllByRecursion (IsNumbered n) ts
    → IsNumbered n (parts (Some ts))
parts_numbered n [] h = tuple_numbered n [] tt
parts_numbered n (t ∷ []) h = h.0
parts_numbered n (t ∷ u ∷ ts) h = tuple_numbered n (t ∷ u ∷ ts) h

-- ---- a type that is named

short_step : (x : Spelling) (xs : List Spelling) (y s : Spelling) (b : Bool)
    → (number_of (xs ++ y ∷ []) s < length (xs ++ y ∷ []) → number_of (xs ++ y ∷ []) s < length xs)
    → cond b 0 (suc (number_of (xs ++ y ∷ []) s)) < suc (length (xs ++ y ∷ []))
    → cond b 0 (suc (number_of (xs ++ y ∷ []) s)) < suc (length xs)
short_step x xs y s true rest l = omega arith
short_step x xs y s false rest l = let r = rest (omega arith) in omega arith

number_short : (xs : List Spelling) (y s : Spelling) → bytes_eq s y ≡ false
    → number_of (xs ++ y ∷ []) s < length (xs ++ y ∷ []) → number_of (xs ++ y ∷ []) s < length xs
number_short [] y s n l = let k : 1 < 1 = subst (λ z. cond z 0 1 < 1) n l in absurd (omega arith)
number_short (x ∷ xs) y s n l = short_step x xs y s (bytes_eq s x) (number_short xs y s n) l

-- the types' names without `Any`, which stands last
pub a_name_numbered : (xs : List Spelling) (s : Spelling)
    → number_of (xs ++ any_spelling ∷ []) s < length (xs ++ any_spelling ∷ [])
    → IsNumbered (length xs) (named (xs ++ any_spelling ∷ []) s)
a_name_numbered xs s l = at (bytes_eq s any_spelling) refl
  where
    at : (b : Bool) → bytes_eq s any_spelling ≡ b
        → IsNumbered (length xs)
        (cond b a_type.Any (a_type.Named (record { 0 = number_of (xs ++ any_spelling ∷ []) s })))
    at true e = any_numbered (length xs)
    at false e =
        named_numbered (length xs) (record { 0 = number_of (xs ++ any_spelling ∷ []) s })
        (number_short xs any_spelling s e l)

-- ---- types that are written

module _ (n : ℕ) (list names : List Spelling) (Known : Name → Type 0)
    (known : (x : Name) → Known x → IsNumbered n (named list (spelling names x))) where
  abbrev Simple : SimpleType → Type 0
  Simple t = AllByRecursion Known (mentioned_simple_type t)
      → IsNumbered n (written_simple list names t)

  abbrev Tree : TypeTree → Type 0
  Tree t = AllByRecursion Known (mentioned_type t) → IsNumbered n (written list names t)

  abbrev Next : NextType → Type 0
  Next t = AllByRecursion Known (mentioned_next_type t) → IsNumbered n (written_next list names t)

  abbrev Types : TypeList → Type 0
  Types t = AllByRecursion Known (mentioned_type_list t)
      → AllByRecursion (IsNumbered n) (written_list list names t)

  abbrev OneSimple : Type 0
  OneSimple = (t : SimpleType) × Simple t

  abbrev OneTree : Type 0
  OneTree = (t : TypeTree) × Tree t

  abbrev OneNext : Type 0
  OneNext = (t : NextType) × Next t

  abbrev OneTypes : Type 0
  OneTypes = (t : TypeList) × Types t

  -- ---- a simple type

  abbrev simple_parts : SimpleType-F OneSimple OneTree OneNext OneTypes
      → SimpleType-F SimpleType TypeTree NextType TypeList
  simple_parts =
      map-SimpleType OneSimple OneTree OneNext OneTypes SimpleType TypeTree NextType TypeList
      (λ e. e.0) (λ e. e.0) (λ e. e.0) (λ e. e.0)

  abbrev simple_mentions : SimpleType-F SimpleType TypeTree NextType TypeList
      → SimpleType-F Mentioned Mentioned Mentioned Mentioned
  simple_mentions =
      map-SimpleType SimpleType TypeTree NextType TypeList Mentioned Mentioned Mentioned Mentioned
      mentioned_simple_type mentioned_type mentioned_next_type mentioned_type_list

  abbrev simple_writes : SimpleType-F SimpleType TypeTree NextType TypeList
      → SimpleType-F Ty Ty Ty (List Ty)
  simple_writes =
      map-SimpleType SimpleType TypeTree NextType TypeList Ty Ty Ty (List Ty)
      (written_simple list names) (written list names) (written_next list names)
      (written_list list names)

  simple_mentioned : (l : SimpleType-F SimpleType TypeTree NextType TypeList)
      → mentioned_simple_type (roll-SimpleType l) ≡ mention_simple_type (simple_mentions l)
  unfolding mentioned_simple_type mentioned_type mentioned_next_type mentioned_type_list
  simple_mentioned l =
      fold-roll-SimpleType Mentioned Mentioned Mentioned Mentioned mention_simple_type
      mention_type_tree mention_next_type mention_type_list l

  simple_written : (l : SimpleType-F SimpleType TypeTree NextType TypeList)
      → written_simple list names (roll-SimpleType l) ≡ simple_type list names (simple_writes l)
  unfolding written_simple written written_next written_list
  simple_written l =
      fold-roll-SimpleType Ty Ty Ty (List Ty) (simple_type list names) type_tree next_type type_list
      l

  simple_level : (y : SimpleType-F OneSimple OneTree OneNext OneTypes)
      → AllByRecursion Known (mention_simple_type (simple_mentions (simple_parts y)))
      → IsNumbered n (simple_type list names (simple_writes (simple_parts y)))
  simple_level (SimpleType-F.Named x) k = known x k.0
  simple_level (SimpleType-F.Array array left element comma index right) k =
      in_element (out_array (written list names element.0)) (element.1 k)
  simple_level (SimpleType-F.Parts left None right) k = tuple_numbered n [] tt
  simple_level (SimpleType-F.Parts left (Some ts) right) k =
      parts_numbered n (written_list list names ts.0) (ts.1 k)

  simple_step : (x : SimpleType-F SimpleType TypeTree NextType TypeList)
      (y : SimpleType-F OneSimple OneTree OneNext OneTypes) → simple_parts y ≡ x
      → Simple (roll-SimpleType x)
  simple_step x y is = subst (λ x. Simple (roll-SimpleType x)) is
      (λ k. subst (IsNumbered n) (sym (simple_written (simple_parts y)))
      (simple_level y (subst (AllByRecursion Known) (simple_mentioned (simple_parts y)) k)))

  -- ---- a type

  abbrev tree_parts : TypeTree-F OneSimple OneTree OneNext OneTypes
      → TypeTree-F SimpleType TypeTree NextType TypeList
  tree_parts =
      map-TypeTree OneSimple OneTree OneNext OneTypes SimpleType TypeTree NextType TypeList
      (λ e. e.0) (λ e. e.0) (λ e. e.0) (λ e. e.0)

  abbrev tree_mentions : TypeTree-F SimpleType TypeTree NextType TypeList
      → TypeTree-F Mentioned Mentioned Mentioned Mentioned
  tree_mentions =
      map-TypeTree SimpleType TypeTree NextType TypeList Mentioned Mentioned Mentioned Mentioned
      mentioned_simple_type mentioned_type mentioned_next_type mentioned_type_list

  abbrev tree_writes : TypeTree-F SimpleType TypeTree NextType TypeList
      → TypeTree-F Ty Ty Ty (List Ty)
  tree_writes =
      map-TypeTree SimpleType TypeTree NextType TypeList Ty Ty Ty (List Ty)
      (written_simple list names) (written list names) (written_next list names)
      (written_list list names)

  tree_mentioned : (l : TypeTree-F SimpleType TypeTree NextType TypeList)
      → mentioned_type (roll-TypeTree l) ≡ mention_type_tree (tree_mentions l)
  unfolding mentioned_simple_type mentioned_type mentioned_next_type mentioned_type_list
  tree_mentioned l =
      fold-roll-TypeTree Mentioned Mentioned Mentioned Mentioned mention_simple_type
      mention_type_tree mention_next_type mention_type_list l

  tree_written : (l : TypeTree-F SimpleType TypeTree NextType TypeList)
      → written list names (roll-TypeTree l) ≡ type_tree (tree_writes l)
  unfolding written_simple written written_next written_list
  tree_written l =
      fold-roll-TypeTree Ty Ty Ty (List Ty) (simple_type list names) type_tree next_type type_list l

  tree_level : (y : TypeTree-F OneSimple OneTree OneNext OneTypes)
      → AllByRecursion Known (mention_type_tree (tree_mentions (tree_parts y)))
      → IsNumbered n (type_tree (tree_writes (tree_parts y)))
  tree_level (TypeTree-F.Simple s) k = s.1 k
  tree_level (TypeTree-F.Arrow a arrow b) k =
      in_sides (out_arrow (written_simple list names a.0) (written_simple list names b.0))
      (a.1 (all_left Known (mentioned_simple_type a.0) (mentioned_simple_type b.0) k))
      (b.1 (all_right Known (mentioned_simple_type a.0) (mentioned_simple_type b.0) k))

  tree_step : (x : TypeTree-F SimpleType TypeTree NextType TypeList)
      (y : TypeTree-F OneSimple OneTree OneNext OneTypes) → tree_parts y ≡ x
      → Tree (roll-TypeTree x)
  tree_step x y is = subst (λ x. Tree (roll-TypeTree x)) is
      (λ k. subst (IsNumbered n) (sym (tree_written (tree_parts y)))
      (tree_level y (subst (AllByRecursion Known) (tree_mentioned (tree_parts y)) k)))

  -- ---- a further type of a list

  abbrev next_parts : NextType-F OneSimple OneTree OneNext OneTypes
      → NextType-F SimpleType TypeTree NextType TypeList
  next_parts =
      map-NextType OneSimple OneTree OneNext OneTypes SimpleType TypeTree NextType TypeList
      (λ e. e.0) (λ e. e.0) (λ e. e.0) (λ e. e.0)

  abbrev next_mentions : NextType-F SimpleType TypeTree NextType TypeList
      → NextType-F Mentioned Mentioned Mentioned Mentioned
  next_mentions =
      map-NextType SimpleType TypeTree NextType TypeList Mentioned Mentioned Mentioned Mentioned
      mentioned_simple_type mentioned_type mentioned_next_type mentioned_type_list

  abbrev next_writes : NextType-F SimpleType TypeTree NextType TypeList
      → NextType-F Ty Ty Ty (List Ty)
  next_writes =
      map-NextType SimpleType TypeTree NextType TypeList Ty Ty Ty (List Ty)
      (written_simple list names) (written list names) (written_next list names)
      (written_list list names)

  next_mentioned : (l : NextType-F SimpleType TypeTree NextType TypeList)
      → mentioned_next_type (roll-NextType l) ≡ mention_next_type (next_mentions l)
  unfolding mentioned_simple_type mentioned_type mentioned_next_type mentioned_type_list
  next_mentioned l =
      fold-roll-NextType Mentioned Mentioned Mentioned Mentioned mention_simple_type
      mention_type_tree mention_next_type mention_type_list l

  next_written : (l : NextType-F SimpleType TypeTree NextType TypeList)
      → written_next list names (roll-NextType l) ≡ next_type (next_writes l)
  unfolding written_simple written written_next written_list
  next_written l =
      fold-roll-NextType Ty Ty Ty (List Ty) (simple_type list names) type_tree next_type type_list l

  next_step : (x : NextType-F SimpleType TypeTree NextType TypeList)
      (y : NextType-F OneSimple OneTree OneNext OneTypes) → next_parts y ≡ x
      → Next (roll-NextType x)
  next_step x y is = subst (λ x. Next (roll-NextType x)) is
      (λ k. subst (IsNumbered n) (sym (next_written (next_parts y)))
      (y.ty.1 (subst (AllByRecursion Known) (next_mentioned (next_parts y)) k)))

  -- ---- a list of types

  abbrev list_parts : TypeList-F OneSimple OneTree OneNext OneTypes
      → TypeList-F SimpleType TypeTree NextType TypeList
  list_parts =
      map-TypeList OneSimple OneTree OneNext OneTypes SimpleType TypeTree NextType TypeList
      (λ e. e.0) (λ e. e.0) (λ e. e.0) (λ e. e.0)

  abbrev list_mentions : TypeList-F SimpleType TypeTree NextType TypeList
      → TypeList-F Mentioned Mentioned Mentioned Mentioned
  list_mentions =
      map-TypeList SimpleType TypeTree NextType TypeList Mentioned Mentioned Mentioned Mentioned
      mentioned_simple_type mentioned_type mentioned_next_type mentioned_type_list

  abbrev list_writes : TypeList-F SimpleType TypeTree NextType TypeList
      → TypeList-F Ty Ty Ty (List Ty)
  list_writes =
      map-TypeList SimpleType TypeTree NextType TypeList Ty Ty Ty (List Ty)
      (written_simple list names) (written list names) (written_next list names)
      (written_list list names)

  list_mentioned : (l : TypeList-F SimpleType TypeTree NextType TypeList)
      → mentioned_type_list (roll-TypeList l) ≡ mention_type_list (list_mentions l)
  unfolding mentioned_simple_type mentioned_type mentioned_next_type mentioned_type_list
  list_mentioned l =
      fold-roll-TypeList Mentioned Mentioned Mentioned Mentioned mention_simple_type
      mention_type_tree mention_next_type mention_type_list l

  list_written : (l : TypeList-F SimpleType TypeTree NextType TypeList)
      → written_list list names (roll-TypeList l) ≡ type_list (list_writes l)
  unfolding written_simple written written_next written_list
  list_written l =
      fold-roll-TypeList Ty Ty Ty (List Ty) (simple_type list names) type_tree next_type type_list l

  others : (es : List OneNext)
      → AllByRecursion Known
      (all_mentioned (map mentioned_next_type (map (λ (e : OneNext). e.0) es)))
      → AllByRecursion (IsNumbered n)
      (map (written_next list names) (map (λ (e : OneNext). e.0) es))
  others [] k = tt
  others (e ∷ es) k = (
    e.1 (all_left Known (mentioned_next_type e.0)
        (all_mentioned (map mentioned_next_type (map (λ (e : OneNext). e.0) es))) k),
    others es
        (all_right Known (mentioned_next_type e.0)
        (all_mentioned (map mentioned_next_type (map (λ (e : OneNext). e.0) es))) k),
  )

  list_level : (y : TypeList-F OneSimple OneTree OneNext OneTypes)
      → AllByRecursion Known (mention_type_list (list_mentions (list_parts y)))
      → AllByRecursion (IsNumbered n) (type_list (list_writes (list_parts y)))
  list_level y k = (
    y.first.1
        (all_left Known (mentioned_type y.first.0)
        (all_mentioned (map mentioned_next_type (map (λ (e : OneNext). e.0) y.others))) k),
    others y.others
        (all_right Known (mentioned_type y.first.0)
        (all_mentioned (map mentioned_next_type (map (λ (e : OneNext). e.0) y.others))) k),
  )

  list_step : (x : TypeList-F SimpleType TypeTree NextType TypeList)
      (y : TypeList-F OneSimple OneTree OneNext OneTypes) → list_parts y ≡ x
      → Types (roll-TypeList x)
  list_step x y is = subst (λ x. Types (roll-TypeList x)) is
      (λ k. subst (AllByRecursion (IsNumbered n)) (sym (list_written (list_parts y)))
      (list_level y (subst (AllByRecursion Known) (list_mentioned (list_parts y)) k)))

  -- a type, where its names are known
  pub written_numbered : (t : TypeTree) → AllByRecursion Known (mentioned_type t)
      → IsNumbered n (written list names t)
  written_numbered = ind-TypeTree Simple Tree Next Types simple_step tree_step next_step list_step
