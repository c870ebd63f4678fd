-- The sets of an accepted component are well made.
use Rattle.std.proofs.Common.{◌≡◌, ◌<◌, ◌+◌, ◌⊎◌, inl, inr, ℕ, zero, suc, Bool, true, false, cond, List, [], ◌∷◌, ◌++◌, length, map, Some, refl, sym, ap, ◌∙◌, subst, arith}
use Rattle.std.specs.Prelude.{filter}
use Rattle.std.specs.List.{slice_get, flat_map, AllByRecursion}
use Rattle.std.specs.Str.{bytes_eq}
use Rattle.std.specs.Cmp.Lexicographic.{bytes_decides}
use Rattle.std.proofs.Math.ListN.{length-append}
use Rattle.fort_base.specs.declared.ids.TypeId.{TypeId}
use Rattle.fort_base.specs.declared.ty.Ty.{Ty}
use Rattle.fort_types.specs.Hierarchy as types
use Rattle.fort_types.specs.Types.{IsNumbered}
use Rattle.fort_tree.specs.declared.declarations.Component.{Component}
use Rattle.fort_tree.specs.declared.spot.Name.{Name}
use Rattle.fort_tree_type_names.specs.TypeNames.{type_names}
use Rattle.fort_hier.specs.declared.accepted.Hierarchy.{Hierarchy}
use Rattle.fort_hier.specs.Heads.{heads_of}
use Rattle.fort_hier.specs.Hierarchies.{declares, IsHierarchy, unknown}
use Rattle.fort_types_builtin.specs.declared.types.TheConstants.{TYPE_COUNT}
use Rattle.fort_types_builtin.specs.Types.{any_spelling, declared_spellings, built_in_declared}
use Rattle.fort_types_builtin.proofs.PlainTypes.{built_in_count, declared_count}
use Rattle.fort_hier.specs.Names.{Spelling, spelling}
use Rattle.fort_hier.specs.Numbers.{number_of, declared_types, declared_by, head_spelling, all_types}
use Rattle.fort_hier.proofs.NamesWalk.{as_long}
use Rattle.fort_hier.proofs.NumberLaws.{unknown_past}
use Rattle.fort_types_sets.specs.declared.member.Member.{Member}
use Rattle.fort_types_sets.specs.declared.member.MemberSet.{MemberSet}
use Rattle.fort_types_sets.specs.declared.member.MemberKind.TheVariants as a_kind
use Rattle.fort_types_sets.specs.Rules.{IsWellMade, HasNamed}
use Rattle.fort_member_fields.specs.Own.{types_of}
use Rattle.fort_member.specs.declared.entries.Entry.{Entry}
use Rattle.fort_member.specs.BuiltIn.{built_in_entries}
use Rattle.fort_member.specs.Declarations.{declared_entries, entries_of}
use Rattle.fort_member.specs.Laws.{SetsAreWellMade}
use Rattle.fort_member.specs.Sets.{Key, key_of, belongs, member_of, keys_of, set_of, sets_of}
use Rattle.fort_member.proofs.SetLaws.{key_told, get_mapped, get_of_mapped}
use Rattle.fort_member.proofs.Numbered.{all_item, all_items, all_join, a_name_numbered}
use Rattle.fort_member.proofs.BuiltInLaws.{IsGood, good_built_in}
use Rattle.fort_member.proofs.EntryLaws.{IsPlaced, good_declared}

-- ---- a declaration of a set

-- A declaration of a set comes of one of all declarations.
abbrev pub ComesFrom : Key → List Entry → Member → Type 0
ComesFrom k es d = (e : Entry) × (j : ℕ) × (slice_get es j ≡ Some e) × (belongs k e ≡ true)
    × (e.member ≡ d)

later : (k : Key) (x : Entry) (es : List Entry) (d : Member) → ComesFrom k es d
    → ComesFrom k (x ∷ es) d
later k x es d (e, j, g, b, m) = (e, suc j, g, b, m)

from_step : (k : Key) (x : Entry) (es : List Entry) (i : ℕ) (d : Member) (b : Bool)
    → belongs k x ≡ b
    → ((i : ℕ) → slice_get (map member_of (filter (belongs k) es)) i ≡ Some d → ComesFrom k es d)
    → slice_get (map member_of (cond b (x ∷ filter (belongs k) es) (filter (belongs k) es))) i
    ≡ Some d → ComesFrom k (x ∷ es) d
from_step k x es zero d true p rest e = let s : x.member ≡ d = cc in (x, 0, refl, p, s)
from_step k x es (suc i) d true p rest e = later k x es d (rest i e)
from_step k x es i d false p rest e = later k x es d (rest i e)

pub comes_from : (k : Key) (es : List Entry) (d : Member) (i : ℕ)
    → slice_get (map member_of (filter (belongs k) es)) i ≡ Some d → ComesFrom k es d
comes_from k [] d i e = absurd cc
comes_from k (x ∷ es) d i e = from_step k x es i d (belongs k x) refl (comes_from k es d) e

pub width_is : (k : Key) (es : List Entry) (d : Member) → ComesFrom k es d
    → length d.parameters ≡ k.width
width_is k es d (e, j, g, b, m) =
    ap (λ (z : Member). length z.parameters) (sym m)
    ∙ sym (ap (λ (z : Key). z.width) (key_told k (key_of e) b))

well_made : (h : types.DeclaredTypes) (k : Key) (es : List Entry)
    → AllByRecursion (IsGood (length h)) es → IsWellMade h (set_of es k)
well_made h k es all = record {
  width = λ i j p q a b. width_is k es p (comes_from k es p i a)
      ∙ sym (width_is k es q (comes_from k es q j b));
  receivers = λ dotted i d a. receivers d dotted (comes_from k es d i a);
  owners = λ i at d t a o. owners d at t o (comes_from k es d i a);
  owned = λ i d a kind. owned d kind (comes_from k es d i a);
  parameters = λ i at d x a g. parameters d at x g (comes_from k es d i a);
  results = λ i d a. results d (comes_from k es d i a);
}
  where
    good : (e : Entry) (j : ℕ) → slice_get es j ≡ Some e → IsGood (length h) e
    good e j g = all_item (IsGood (length h)) es j e all g

    receivers : (d : Member) → k.dotted ≡ true → ComesFrom k es d → (t : TypeId) × HasNamed d 0 t
    receivers d dotted (e, j, g, b, m) =
        subst (λ z.
        (t : TypeId)
        × HasNamed z 0 t) m
        ((good e j g).receiver (sym (ap (λ (z : Key). z.dotted) (key_told k (key_of e) b))
        ∙ dotted))

    owners : (d : Member) (at : ℕ) (t : TypeId) → d.owner ≡ Some (at, t) → ComesFrom k es d
        → HasNamed d at t
    owners d at t o (e, j, g, b, m) =
        subst (λ z. HasNamed z at t) m
        ((good e j g).owner at t (ap (λ (z : Member). z.owner) m ∙ o))

    owned : (d : Member) → d.kind ≡ a_kind.Abstract → ComesFrom k es d
        → (at : ℕ) × (t : TypeId) × (d.owner ≡ Some (at, t))
    owned d kind (e, j, g, b, m) =
        subst (λ (z : Member).
        (at : ℕ) × (t : TypeId)
        × (z.owner ≡ Some (at, t))) m
        ((good e j g).owned (ap (λ (z : Member). z.kind) m ∙ kind))

    parameters : (d : Member) (at : ℕ) (x : Ty) → slice_get d.parameters at ≡ Some x
        → ComesFrom k es d → IsNumbered (length h) x
    parameters d at x p (e, j, g, b, m) =
        all_item (IsNumbered (length h)) e.member.parameters at x (good e j g).parameters (ap (λ
        (z : Member). slice_get z.parameters at) m ∙ p)

    results : (d : Member) → ComesFrom k es d → IsNumbered (length h) d.result
    results d (e, j, g, b, m) =
        subst (λ (z : Member). IsNumbered (length h) z.result) m (good e j g).result

all_well_made : (h : types.DeclaredTypes) (es : List Entry) → AllByRecursion (IsGood (length h)) es
    → (i : ℕ) (s : MemberSet) → slice_get (sets_of es) i ≡ Some s → IsWellMade h s
all_well_made h es all i s g =
    let k = get_mapped (set_of es) (keys_of es) i s g
    in subst (IsWellMade h) k.2 (well_made h k.0 es all)

-- ---- the numbers of names

known_step : (s : Spelling) (list : List Spelling) (b : Bool)
    → (number_of list s < length list) ⊎ (number_of list s ≡ length list)
    → (cond b 0 (suc (number_of list s)) < suc (length list))
    ⊎ (cond b 0 (suc (number_of list s)) ≡ suc (length list))
known_step s list true w = inl (omega arith)
known_step s list false (inl l) = inl (omega arith)
known_step s list false (inr e) = inr (ap suc e)

known_or : (list : List Spelling) (s : Spelling)
    → (number_of list s < length list) ⊎ (number_of list s ≡ length list)
known_or [] s = inr refl
known_or (x ∷ list) s = known_step s list (bytes_eq s x) (known_or list s)

-- a name of a list has a number in it, whatever stands behind
stands_step : (s : Spelling) (xs : List Spelling) (y : Spelling) (b : Bool)
    → number_of (xs ++ y ∷ []) s < length xs
    → cond b 0 (suc (number_of (xs ++ y ∷ []) s)) < suc (length xs)
stands_step s xs y true l = omega arith
stands_step s xs y false l = omega arith

stands : (xs : List Spelling) (y s : Spelling) (i : ℕ) → slice_get xs i ≡ Some s
    → number_of (xs ++ y ∷ []) s < length xs
stands [] y s i e = absurd cc
stands (x ∷ xs) y s zero e = let q : x ≡ s = cc in
    subst (λ (b : Bool). cond b 0 (suc (number_of (xs ++ y ∷ []) s))
    < suc (length xs)) (sym ((bytes_decides s x).1 (sym q))) (omega arith)
stands (x ∷ xs) y s (suc i) e = stands_step s xs y (bytes_eq s x) (stands xs y s i e)

get_right : {X : Type 0} (ws xs : List X) (i : ℕ)
    → (j : ℕ) × (slice_get (ws ++ xs) j ≡ slice_get xs i)
get_right [] xs i = (i, refl)
get_right (w ∷ ws) xs i = let r = get_right ws xs i in (suc r.0, r.1)

-- ---- an accepted component

module _ (c : Component) where
  -- the names of the declared types
  abbrev declared : List Spelling
  declared = declared_types c.names (heads_of c)

  abbrev Known : Name → Type 0
  Known x = number_of (types_of c) (spelling c.names x) < length (types_of c)

  counts : (length declared ≡ TYPE_COUNT + length (heads_of c))
      × (length (declares c) ≡ TYPE_COUNT + length (heads_of c))
  counts = let a = length-append declared_spellings (map (head_spelling c.names) (heads_of c))
      in let b = declared_count in let d = as_long (head_spelling c.names) (heads_of c) in
      let e = length-append built_in_declared
      (map (declared_by (all_types c.names (heads_of c)) c.names) (heads_of c))
      in let f = built_in_count in
      let g = as_long (declared_by (all_types c.names (heads_of c)) c.names) (heads_of c)
      in (omega arith, omega arith)

  placed : AllByRecursion (IsPlaced (length declared) (types_of c) c.names) (heads_of c)
  placed = all_items (IsPlaced (length declared) (types_of c) c.names) (heads_of c) (λ i head e.
      let g = get_of_mapped (head_spelling c.names) (heads_of c) i head e
      in let r = get_right declared_spellings (map (head_spelling c.names) (heads_of c)) i in
      stands declared any_spelling (spelling c.names head.name) r.0 (r.1 ∙ g))

  known_all : (h : Hierarchy) → IsHierarchy c (type_names c) h → AllByRecursion Known (type_names c)
  known_all h a =
      all_items Known (type_names c)
      (λ i x e. told i x e (known_or (types_of c) (spelling c.names x)))
    where
      told : (i : ℕ) (x : Name) → slice_get (type_names c) i ≡ Some x
          → (number_of (types_of c) (spelling c.names x) < length (types_of c))
          ⊎ (number_of (types_of c) (spelling c.names x) ≡ length (types_of c)) → Known x
      told i x e (inl l) = l
      told i x e (inr q) =
          absurd (a.kept 402 x.spot.place
          (unknown refl (i, x, e, unknown_past (types_of c) (spelling c.names x) q, refl)))

  good_entries : (h : Hierarchy) → IsHierarchy c (type_names c) h
      → AllByRecursion (IsGood (length declared)) (entries_of c)
  good_entries h a =
      all_join (IsGood (length declared)) built_in_entries
      (flat_map (declared_entries (types_of c) c.names) c.declarations)
      (good_built_in (length declared) (let k = counts.0 in omega arith))
      (good_declared (length declared) (types_of c) c.names Known
      (λ x l. a_name_numbered declared (spelling c.names x) l) 0 c.declarations placed
      (known_all h a))

pub sets_well_made : SetsAreWellMade
sets_well_made c h a m w i s e = all_well_made (declares c) (entries_of c)
    (subst (λ n. AllByRecursion (IsGood n) (entries_of c)) ((counts c).0
    ∙ sym (counts c).1) (good_entries c h a)) i s (sym (ap (λ z. slice_get z i) w.sets) ∙ e)
