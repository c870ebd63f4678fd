-- Lists all of whose items are types of the component, and below of such types.
use Rattle.std.proofs.Common.{◌≡◌, ◌<◌, ◌↔◌, ℕ, zero, suc, Bool, true, false, ◌&&◌, IsTrue, List, [], ◌∷◌, ◌++◌, length, map, Some, refl, sym, ap, ◌∙◌, subst, rules, arith}
use Rattle.std.specs.List.{slice_get, AllByRecursion}
use Rattle.fort_base.specs.declared.ids.TypeId.{TypeId}
use Rattle.fort_base.specs.declared.ty.Ty.{Ty, out-Ty, the_lemmas}
use Rattle.fort_base.specs.declared.ty.Ty.TheOpen.{Ty-F}
use Rattle.fort_base.specs.declared.ty.Ty.TheVariants as a_type
use Rattle.fort_types.specs.Types.{IsNumbered, no_name, name, in_parts, in_sides, in_element, bottom, declared, parts as tuple_shape, function, elements, shape, shape_of}
use Rattle.fort_types.specs.Relation.{Relation, relation, each_below}
use Rattle.fort_types.proofs.Asked.{relation_below}
use Rattle.fort_types_sets.specs.Applicable.{Along}
use Rattle.fort_types_sets.specs.declared.member.Member.{Member}
use Rattle.fort_types_sets.specs.declared.member.MemberSet.{MemberSet}
use Rattle.fort_typing_known.specs.Known.{Knows}
use Rattle.fort_typing_known.specs.Below.{is_below, are_below}
use Rattle.fort_typing_rules.specs.Types.{IsBelow, unit}
use Rattle.fort_typing_law_rules.specs.Deciding.{IsType, AreTypes, IsAccepted}

-- ---- lists all of whose items have a property

pub all_left : {X : Type 0} (P : X → Type 0) (xs ys : List X) → AllByRecursion P (xs ++ ys)
    → AllByRecursion P xs
all_left P [] ys h = tt
all_left P (x ∷ xs) ys h = (h.0, all_left P xs ys h.1)

pub all_right : {X : Type 0} (P : X → Type 0) (xs ys : List X) → AllByRecursion P (xs ++ ys)
    → AllByRecursion P ys
all_right P [] ys h = h
all_right P (x ∷ xs) ys h = all_right P xs ys h.1

pub all_join : {X : Type 0} (P : X → Type 0) (xs ys : List X) → AllByRecursion P xs
    → AllByRecursion P ys → AllByRecursion P (xs ++ ys)
all_join P [] ys h k = k
all_join P (x ∷ xs) ys h k = (h.0, all_join P xs ys h.1 k)

pub all_item : {X : Type 0} (P : X → Type 0) (xs : List X) (i : ℕ) (x : X) → AllByRecursion P xs
    → slice_get xs i ≡ Some x → P x
all_item P [] i x h e = absurd cc
all_item P (y ∷ xs) zero x h e = let s : y ≡ x = cc in subst P s h.0
all_item P (y ∷ xs) (suc i) x h e = all_item P xs i x h.1 e

pub all_items : {X : Type 0} (P : X → Type 0) (xs : List X)
    → ((i : ℕ) (x : X) → slice_get xs i ≡ Some x → P x) → AllByRecursion P xs
all_items P [] h = tt
all_items P (x ∷ xs) h = (h 0 x refl, all_items P xs (λ i y e. h (suc i) y e))

pub all_first : {X : Type 0} (P : X → Type 0) (x : X) (xs : List X) → AllByRecursion P (x ∷ xs)
    → P x
all_first P x xs h = h.0

pub all_rest : {X : Type 0} (P : X → Type 0) (x : X) (xs : List X) → AllByRecursion P (x ∷ xs)
    → AllByRecursion P xs
all_rest P x xs h = h.1

-- ---- numbered types

pub out_named : (i : TypeId) → out-Ty (a_type.Named i) ≡ Ty-F.Named i
out_named i = search (rules, the_lemmas)

out_tuple : (ts : List Ty) → out-Ty (a_type.Tuple ts) ≡ Ty-F.Tuple ts
out_tuple ts = search (rules, the_lemmas)

out_array : (t : Ty) → out-Ty (a_type.Array t) ≡ Ty-F.Array t
out_array t = search (rules, the_lemmas)

out_arrow : (a b : Ty) → out-Ty (a_type.Arrow a b) ≡ Ty-F.Arrow a b
out_arrow a b = search (rules, the_lemmas)

out_nothing : out-Ty a_type.Nothing ≡ Ty-F.Nothing
out_nothing = search (rules, the_lemmas)

nothing_is : shape a_type.Nothing ≡ bottom
nothing_is = ap shape_of out_nothing

pub nothing_type : (n : ℕ) → IsNumbered n a_type.Nothing
nothing_type n =
    no_name (λ e. let f : bottom ≡ declared = sym nothing_is ∙ e
    in cc) (λ e. let f : bottom ≡ tuple_shape = sym nothing_is ∙ e in cc)
    (λ e. let f : bottom ≡ function = sym nothing_is ∙ e
    in cc) (λ e. let f : bottom ≡ elements = sym nothing_is ∙ e in cc)

pub named_type : (n : ℕ) (i : TypeId) → i.0 < n → IsNumbered n (a_type.Named i)
named_type n i l = name (out_named i) l

pub tuple_type : (n : ℕ) (ts : List Ty) → AllByRecursion (IsNumbered n) ts
    → IsNumbered n (a_type.Tuple ts)
tuple_type n ts h = in_parts (out_tuple ts) (λ k x e. all_item (IsNumbered n) ts k x h e)

pub array_type : (n : ℕ) (t : Ty) → IsNumbered n t → IsNumbered n (a_type.Array t)
array_type n t h = in_element (out_array t) h

pub arrow_type : (n : ℕ) (a b : Ty) → IsNumbered n a → IsNumbered n b
    → IsNumbered n (a_type.Arrow a b)
arrow_type n a b h i = in_sides (out_arrow a b) h i

-- the numbers of a layer's parts are below `n`
abbrev pub NumberedLayer : ℕ → Ty-F Ty → Type 0
NumberedLayer n (Ty-F.Named i) = i.0 < n
NumberedLayer n (Ty-F.Tuple xs) = AllByRecursion (IsNumbered n) xs
NumberedLayer n (Ty-F.Arrow p q) = IsNumbered n p × IsNumbered n q
NumberedLayer n (Ty-F.Array e) = IsNumbered n e
NumberedLayer n _ = Unit {0}

nameless : (n : ℕ) (x : Ty-F Ty) → (shape_of x ≡ declared → ⊥) → (shape_of x ≡ tuple_shape → ⊥)
    → (shape_of x ≡ function → ⊥) → (shape_of x ≡ elements → ⊥) → NumberedLayer n x
nameless n Ty-F.Nothing a b c d = tt
nameless n Ty-F.Any a b c d = tt
nameless n (Ty-F.Named i) a b c d = absurd (a refl)
nameless n (Ty-F.Tuple xs) a b c d = absurd (b refl)
nameless n (Ty-F.Arrow p q) a b c d = absurd (c refl)
nameless n (Ty-F.Array e) a b c d = absurd (d refl)

pub numbered : (n : ℕ) {t : Ty} → IsNumbered n t → NumberedLayer n (out-Ty t)
numbered n (no_name {t = t} a b c d) = nameless n (out-Ty t) a b c d
numbered n (name e l) = subst (NumberedLayer n) (sym e) l
numbered n (in_parts {xs = xs} e q) =
    subst (NumberedLayer n) (sym e) (all_items (IsNumbered n) xs q)
numbered n (in_sides e p q) = subst (NumberedLayer n) (sym e) (p, q)
numbered n (in_element e q) = subst (NumberedLayer n) (sym e) q

pub sides_type : (n : ℕ) (t a b : Ty) → IsNumbered n t → out-Ty t ≡ Ty-F.Arrow a b
    → IsNumbered n a × IsNumbered n b
sides_type n t a b h e = subst (NumberedLayer n) e (numbered n h)

pub element_type : (n : ℕ) (t a : Ty) → IsNumbered n t → out-Ty t ≡ Ty-F.Array a → IsNumbered n a
element_type n t a h e = subst (NumberedLayer n) e (numbered n h)

pub parts_type : (n : ℕ) (t : Ty) (ts : List Ty) → IsNumbered n t → out-Ty t ≡ Ty-F.Tuple ts
    → AllByRecursion (IsNumbered n) ts
parts_type n t ts h e = subst (NumberedLayer n) e (numbered n h)

-- ---- below

both_true : (a b : Bool) → IsTrue (a && b) ↔ (IsTrue a × IsTrue b)
both_true true b = (λ t. (refl, t), λ w. w.1)
both_true false b = (λ t. absurd (let f : false ≡ true = t in cc), λ w. w.0)

-- lists go place by place
lists : (f : Ty → Relation) (up : Bool) (R : Ty → Ty → Type 0) (xs ys : List Ty)
    → ((k : ℕ) (x y : Ty) → slice_get xs k ≡ Some x → slice_get ys k ≡ Some y → IsTrue (f x up y)
    ↔ R x y) → IsTrue (each_below (map f xs) up ys) ↔ Along R xs ys
lists f up R [] [] w = (λ t. (refl, λ k x y e. absurd cc), λ u. refl)
lists f up R [] (y ∷ ys) w =
    (λ t. absurd (let f : false ≡ true = t in cc), λ u. absurd (let n = u.0 in omega arith))
lists f up R (x ∷ xs) [] w =
    (λ t. absurd (let f : false ≡ true = t in cc), λ u. absurd (let n = u.0 in omega arith))
lists f up R (x ∷ xs) (y ∷ ys) w =
    let one = w 0 x y refl refl in let more = lists f up R xs ys (λ k u v a b. w (suc k) u v a b)
    in let two = both_true (f x up y) (each_below (map f xs) up ys) in (
      λ t. let p = two.0 t in let m = more.0 p.1
          in (let n = m.0 in omega arith, places (one.0 p.0) m.1),
      λ u. two.1 (
        one.1 (u.1 0 x y refl refl),
        more.1 (let n = u.0 in omega arith, λ k a b c d. u.1 (suc k) a b c d),
      ),
    )
  where
    places : R x y
        → ((k : ℕ) (a b : Ty) → slice_get xs k ≡ Some a → slice_get ys k ≡ Some b → R a b)
        → (k : ℕ) (a b : Ty) → slice_get (x ∷ xs) k ≡ Some a → slice_get (y ∷ ys) k ≡ Some b → R a b
    places r m zero a b e f =
        let p : x ≡ a = cc in let q : y ≡ b = cc in subst (λ z. R z b) p (subst (R x) q r)
    places r m (suc k) a b e f = m k a b e f

module _ (k : Knows) (A : IsAccepted k) where
  pub below_is : (a b : Ty) → IsType k a → IsType k b → IsTrue (is_below k.facts a b)
      ↔ IsBelow k a b
  unfolding is_below
  below_is a b p q = (relation_below k.declared k.facts.table A.sound A.rows a b p q).0

  pub along_is : (xs ys : List Ty) → AreTypes k xs → AreTypes k ys
      → IsTrue (are_below k.facts xs ys) ↔ Along (IsBelow k) xs ys
  unfolding are_below
  along_is xs ys p q = lists (relation k.facts.table.below) true (IsBelow k) xs ys
      (λ i x y e f. (relation_below k.declared k.facts.table A.sound A.rows x y
      (all_item (IsType k) xs i x p e) (all_item (IsType k) ys i y q f)).0)

  pub parameters_are : (n : ℕ) (s : MemberSet) (i : ℕ) (d : Member)
      → slice_get k.facts.members.sets n ≡ Some s → slice_get s.members i ≡ Some d
      → AreTypes k d.parameters
  parameters_are n s i d e at =
      all_items (IsType k) d.parameters (λ j x f. (A.made n s e).parameters i j d x at f)

  pub result_is : (n : ℕ) (s : MemberSet) (i : ℕ) (d : Member)
      → slice_get k.facts.members.sets n ≡ Some s → slice_get s.members i ≡ Some d
      → IsType k d.result
  result_is n s i d e at = (A.made n s e).results i d at

  -- a built-in type
  pub built_in_type : (n : ℕ) → n < 7 → IsType k (a_type.Named (record { 0 = n }))
  built_in_type n l =
      named_type (length k.declared) (record { 0 = n }) (let b = A.built_in in omega arith)

  pub unit_type : IsType k unit
  unit_type = tuple_type (length k.declared) [] tt
