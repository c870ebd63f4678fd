-- The type that is written, as one level of its tree.
use Rattle.std.proofs.Common.{◌≡◌, List, [], ◌∷◌, ◌++◌, Option, Some, refl, sym, ap, ◌∙◌, rules}
use Rattle.std.specs.Prelude.{map, option_map}
use Rattle.fort_tree.specs.declared.spot.Spot.{Spot}
use Rattle.fort_tree.specs.declared.spot.Name.{Name}
use Rattle.fort_tree.specs.declared.types.SimpleType.{SimpleType, the_lemmas}
use Rattle.fort_tree.specs.declared.types.SimpleType.TheVariants as a_simple_type
use Rattle.fort_tree.specs.declared.types.TypeTree.{TypeTree}
use Rattle.fort_tree.specs.declared.types.TypeTree.TheVariants as a_type_tree
use Rattle.fort_tree.specs.declared.types.NextType.{NextType, out-NextType}
use Rattle.fort_tree.specs.declared.types.TypeList.{TypeList, out-TypeList}
use Rattle.fort_tree.specs.declared.types.SimpleType.TheOpen.{SimpleType-F, TypeTree-F}
use Rattle.fort_base.specs.declared.ty.Ty.{Ty}
use Rattle.fort_base.specs.declared.ty.Ty.TheVariants as a_type
use Rattle.fort_hier.specs.Names.{Spelling}
use Rattle.fort_member_fields.specs.Written.{parts, simple_type, type_tree, next_type, type_list, written, written_simple, written_next, written_list}

pub writes-Simple : (list names : List Spelling) (simple : SimpleType)
    → written list names (a_type_tree.Simple simple)
    ≡ type_tree (TypeTree-F.Simple (written_simple list names simple))
unfolding written written_simple
writes-Simple list names simple = search (rules, the_lemmas)

pub writes-Arrow : (list names : List Spelling) (domain : SimpleType) (arrow : Spot)
    (result : SimpleType)
    → written list names (a_type_tree.Arrow domain arrow result)
    ≡ type_tree
    (TypeTree-F.Arrow (written_simple list names domain) arrow (written_simple list names result))
unfolding written written_simple
writes-Arrow list names domain arrow result = search (rules, the_lemmas)

pub writes-Named : (list names : List Spelling) (name : Name)
    → written_simple list names (a_simple_type.Named name)
    ≡ simple_type list names (SimpleType-F.Named name)
unfolding written_simple
writes-Named list names name = search (rules, the_lemmas)

pub writes-Array : (list names : List Spelling) (array : Name) (left : Spot) (element : TypeTree)
    (comma : Spot) (index : Name) (right : Spot)
    → written_simple list names (a_simple_type.Array array left element comma index right)
    ≡ simple_type list names
    (SimpleType-F.Array array left (written list names element) comma index right)
unfolding written_simple written
writes-Array list names array left element comma index right = search (rules, the_lemmas)

pub writes-Parts : (list names : List Spelling) (left : Spot) (types : Option TypeList)
    (right : Spot)
    → written_simple list names (a_simple_type.Parts left types right)
    ≡ simple_type list names
    (SimpleType-F.Parts left (option_map (written_list list names) types) right)
unfolding written_simple written_list
writes-Parts list names left types right = search (rules, the_lemmas)

pub type_list_writes : (list names : List Spelling) (x : TypeList)
    → written_list list names x
    ≡ type_list
    (record {
      first = written list names (out-TypeList x).first;
      others = map (written_next list names) (out-TypeList x).others;
    })
unfolding written_list written written_next
type_list_writes list names x = search (rules, the_lemmas)

pub next_type_writes : (list names : List Spelling) (x : NextType)
    → written_next list names x
    ≡ next_type
    (record { comma = (out-NextType x).comma; ty = written list names (out-NextType x).ty })
unfolding written_next written
next_type_writes list names x = search (rules, the_lemmas)

-- ---- what the code makes

pub array_written : (list names : List Spelling) (simple : SimpleType) (array : Name) (left : Spot)
    (element : TypeTree) (comma : Spot) (index : Name) (right : Spot) (t : Ty)
    → simple ≡ a_simple_type.Array array left element comma index right
    → t ≡ written list names element → a_type.Array t ≡ written_simple list names simple
array_written list names simple array left element comma index right t e f =
    ap a_type.Array f
    ∙ sym (ap (written_simple list names) e
    ∙ writes-Array list names array left element comma index right)

pub arrow_written : (list names : List Spelling) (tree : TypeTree) (domain : SimpleType)
    (arrow : Spot) (range : SimpleType) (a b : Ty)
    → tree ≡ a_type_tree.Arrow domain arrow range → a ≡ written_simple list names domain
    → b ≡ written_simple list names range → a_type.Arrow a b ≡ written list names tree
arrow_written list names tree domain arrow range a b e f g =
    ap (λ u. a_type.Arrow u b) f ∙ ap (λ u. a_type.Arrow (written_simple list names domain) u) g
    ∙ sym (ap (written list names) e ∙ writes-Arrow list names domain arrow range)

-- ---- types between parentheses

of_one : (f : NextType → Ty) (t : Ty) (others : List NextType) → others ≡ []
    → parts (Some (t ∷ map f others)) ≡ t
of_one f t [] e = refl
of_one f t (x ∷ others) e = absurd cc

of_more : (f : NextType → Ty) (t : Ty) (others : List NextType) → (others ≡ [] → ⊥)
    → parts (Some (t ∷ map f others)) ≡ a_type.Tuple (t ∷ map f others)
of_more f t [] n = absurd (n refl)
of_more f t (x ∷ others) n = refl

pub one_part : (list names : List Spelling) (types : Option TypeList) (l : TypeList) (t : Ty)
    → types ≡ Some l → (out-TypeList l).others ≡ [] → t ≡ written list names (out-TypeList l).first
    → t ≡ parts (option_map (written_list list names) types)
one_part list names types l t e n f =
    sym (ap (λ
    (o : Option TypeList). parts (option_map (written_list list names) o)) e
    ∙ ap (λ ts. parts (Some ts)) (type_list_writes list names l)
    ∙ of_one (written_next list names) (written list names (out-TypeList l).first)
    (out-TypeList l).others n ∙ sym f)

pub more_parts : (list names : List Spelling) (types : Option TypeList) (l : TypeList) (t : Ty)
    (all : List Ty) → types ≡ Some l → ((out-TypeList l).others ≡ [] → ⊥)
    → t ≡ written list names (out-TypeList l).first
    → all ≡ (t ∷ []) ++ map (written_next list names) (out-TypeList l).others
    → a_type.Tuple all ≡ parts (option_map (written_list list names) types)
more_parts list names types l t all e n f g =
    sym (ap (λ
    (o : Option TypeList). parts (option_map (written_list list names) o)) e
    ∙ ap (λ ts. parts (Some ts)) (type_list_writes list names l)
    ∙ of_more (written_next list names) (written list names (out-TypeList l).first)
    (out-TypeList l).others n
    ∙ ap (λ u. a_type.Tuple (u ∷ map (written_next list names) (out-TypeList l).others)) (sym f)
    ∙ ap a_type.Tuple (sym g))
