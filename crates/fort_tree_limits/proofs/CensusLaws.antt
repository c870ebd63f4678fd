-- The chapter "Grammar", limits: counts of two lists of places, one after the other.
use Rattle.std.proofs.Common.{◌≡◌, ℕ, ◌+◌, ◌-◌, ◌<◌, ◌≤◌, List, [], ◌∷◌, ◌++◌, Option, Some, None, get_or, take, length, zero, suc, refl, subst, sym, ap, ◌∙◌, arith, length-append}
use Rattle.std.specs.Prelude.{map}
use Rattle.std.specs.List.{slice_get, flat_map}
use Rattle.std.specs.Option.{option_to_list}
use Rattle.std.proofs.lemmas.List.{take_more, map-append, append-nil}
use Rattle.std.proofs.lemmas.Grind.{flat_map-append}
use Rattle.fort_base.specs.declared.refusal.Place.{Place}
use Rattle.std.proofs.lemmas.Simd.{map-map}
use Rattle.fort_tree.specs.declared.declarations.Declaration.TheVariants as declaration
use Rattle.fort_tree.specs.declared.declarations.Declared.{Declared}
use Rattle.fort_tree.specs.declared.declarations.Function.{Function}
use Rattle.fort_tree.specs.declared.declarations.Object.{Object}
use Rattle.fort_tree.specs.declared.declarations.Trait.{Trait}
use Rattle.fort_tree.specs.declared.declarations.Variable.{Variable}
use Rattle.fort_tree.specs.Limits.{declaration_places, first_behind, measured_declaration, measured_object_member, measured_trait_member, members_of}
use Rattle.fort_tree_limits.specs.declared.census.Count.{Count}
use Rattle.fort_tree_limits.specs.Census.{or_else, counted}

get-append : (n : ℕ) (xs ys : List Place)
    → slice_get (xs ++ ys) n ≡ or_else (slice_get xs n) (slice_get ys (n - length xs))
get-append n [] ys = let e : n ≡ n - length {A = Place} [] = omega arith in ap (slice_get ys) e
get-append zero (x ∷ xs) ys = refl
get-append (suc n) (x ∷ xs) ys =
    let e : suc n - length (x ∷ xs) ≡ n - length xs = omega arith in rw e (get-append n xs ys)

or_else-assoc : (a b c : Option Place) → or_else (or_else a b) c ≡ or_else a (or_else b c)
or_else-assoc None b c = refl
or_else-assoc (Some a) b c = refl

or_else-none : (a : Option Place) → or_else a None ≡ a
or_else-none None = refl
or_else-none (Some a) = refl

-- a count, by its parts
abbrev count_of : ℕ → Option Place → Count
count_of left late = record { left = left; late = late }

same_count : (a b : ℕ) (x y : Option Place) → a ≡ b → x ≡ y → count_of a x ≡ count_of b y
same_count a b x y e f = ap (λ n. count_of n x) e ∙ ap (count_of b) f

pub counted_none : (count : Count) → counted count [] ≡ count
unfolding counted
counted_none count =
    let e : count.left - length {A = Place} [] ≡ count.left = omega arith in
    same_count (count.left - length {A = Place} []) count.left (or_else count.late None) count.late
    e (or_else-none count.late)

pub counted_append : (count : Count) (xs ys : List Place)
    → counted count (xs ++ ys) ≡ counted (counted count xs) ys
unfolding counted
counted_append count xs ys =
    let e : count.left - length (xs ++ ys) ≡ count.left - length xs - length ys =
    omega (arith, length-append xs ys) in
    let f : or_else count.late (slice_get (xs ++ ys) count.left)
    ≡ or_else (or_else count.late (slice_get xs count.left))
    (slice_get ys (count.left - length xs)) =
    ap (or_else count.late) (get-append count.left xs ys)
    ∙ sym (or_else-assoc count.late (slice_get xs count.left)
    (slice_get ys (count.left - length xs))) in
    same_count (count.left - length (xs ++ ys)) (count.left - length xs - length ys)
    (or_else count.late (slice_get (xs ++ ys) count.left))
    (or_else (or_else count.late (slice_get xs count.left)) (slice_get ys (count.left - length xs)))
    e f

-- the places behind so many, as a count finds the first of them
pub late_places : (most : ℕ) (places : List Place)
    → first_behind most places ≡ option_to_list (slice_get places most)
late_places zero [] = refl
late_places (suc most) [] = refl
late_places zero (p ∷ places) = refl
late_places (suc most) (p ∷ places) = late_places most places

-- the count over one more item of a list, by the places of each
pub one_more_of_all : {A : Type 0} (places : A → List Place) (xs : List A) (i : ℕ) (x : A)
    (count at new : Count) → i < length xs → x ≡ get_or xs i x
    → at ≡ counted count (flat_map places (take i xs)) → new ≡ counted at (places x)
    → new ≡ counted count (flat_map places (take (i + 1) xs))
one_more_of_all places xs i x count at new lt is so_far step =
    let more : flat_map places (take (i + 1) xs) ≡ flat_map places (take i xs) ++ places x =
    ap (flat_map places) (take_more xs i x lt ∙ ap (λ y. take i xs ++ y ∷ []) (sym is))
    ∙ flat_map-append places (take i xs) (x ∷ []) ∙ ap (λ
    (u : List Place). flat_map places (take i xs) ++ u) (append-nil (places x)) in
    step ∙ ap (λ u. counted u (places x)) so_far
    ∙ sym (ap (counted count) more
    ∙ counted_append count (flat_map places (take i xs)) (places x))

-- the same, by the place of each
pub one_more_place : {A : Type 0} (place : A → Place) (xs : List A) (i : ℕ) (x : A)
    (count at new : Count) → i < length xs → x ≡ get_or xs i x
    → at ≡ counted count (map place (take i xs)) → new ≡ counted at (place x ∷ [])
    → new ≡ counted count (map place (take (i + 1) xs))
one_more_place place xs i x count at new lt is so_far step =
    let more : map place (take (i + 1) xs) ≡ map place (take i xs) ++ place x ∷ [] =
    ap (map place) (take_more xs i x lt ∙ ap (λ y. take i xs ++ y ∷ []) (sym is))
    ∙ map-append place (take i xs) (x ∷ []) in
    step ∙ ap (λ u. counted u (place x ∷ [])) so_far
    ∙ sym (ap (counted count) more
    ∙ counted_append count (map place (take i xs)) (place x ∷ []))

-- one place that is counted
within : (left : ℕ) (late : Option Place) (at : Place) → 0 < left
    → record { left = left - 1; late = late }
    ≡ counted (record { left = left; late = late }) (at ∷ [])
unfolding counted
within zero late at h = absurd (omega arith)
within (suc n) None at h = refl
within (suc n) (Some p) at h = refl

pub seen_within : (count : Count) (at : Place) → 0 < count.left
    → record { left = count.left - 1; late = count.late } ≡ counted count (at ∷ [])
seen_within count at h = within count.left count.late at h

over-late : (left : ℕ) (at p : Place) → left ≡ 0
    → count_of left (Some p) ≡ counted (count_of left (Some p)) (at ∷ [])
unfolding counted
over-late zero at p e = refl
over-late (suc left) at p e = absurd (omega arith)

pub seen_late : (count : Count) (at p : Place) → count.left ≤ 0 → count.late ≡ Some p
    → count ≡ counted count (at ∷ [])
seen_late count at p h e =
    let z : count.left ≡ 0 = omega arith
    in subst (λ
    (late : Option Place). count_of count.left late
    ≡ counted (count_of count.left late) (at ∷ [])) (sym e) (over-late count.left at p z)

over-first : (left : ℕ) (at : Place) → left ≡ 0
    → count_of left (Some at) ≡ counted (count_of left None) (at ∷ [])
unfolding counted
over-first zero at e = refl
over-first (suc left) at e = absurd (omega arith)

pub seen_first : (count : Count) (at : Place) → count.left ≤ 0 → count.late ≡ None
    → record { left = count.left; late = Some at } ≡ counted count (at ∷ [])
seen_first count at h e =
    let z : count.left ≡ 0 = omega arith
    in subst (λ
    (late : Option Place). count_of count.left (Some at)
    ≡ counted (count_of count.left late) (at ∷ [])) (sym e) (over-first count.left at z)

-- a declaration is counted, and then its members
module _ (count : Count) (d : Declared) where
  of_members : (places : List Place) → map (λ m. m.spot.place) (members_of d.declaration) ≡ places
      → counted count (declaration_places d)
      ≡ counted (counted count ((measured_declaration d.declaration).spot.place ∷ [])) places
  of_members places e =
      counted_append count ((measured_declaration d.declaration).spot.place ∷ [])
      (map (λ m. m.spot.place) (members_of d.declaration))
      ∙ ap (counted (counted count ((measured_declaration d.declaration).spot.place ∷ []))) e

  pub of_variable : (v : Variable) → d.declaration ≡ declaration.Variable v
      → counted count (declaration_places d)
      ≡ counted count ((measured_declaration d.declaration).spot.place ∷ [])
  of_variable v e =
      of_members [] (rw e)
      ∙ counted_none (counted count ((measured_declaration d.declaration).spot.place ∷ []))

  pub of_function : (f : Function) → d.declaration ≡ declaration.Function f
      → counted count (declaration_places d)
      ≡ counted count ((measured_declaration d.declaration).spot.place ∷ [])
  of_function f e =
      of_members [] (rw e)
      ∙ counted_none (counted count ((measured_declaration d.declaration).spot.place ∷ []))

  pub of_trait : (t : Trait) → d.declaration ≡ declaration.Trait t
      → counted count (declaration_places d)
      ≡ counted (counted count ((measured_declaration d.declaration).spot.place ∷ []))
      (map (λ e. (measured_trait_member e.member).spot.place) t.members)
  of_trait t e =
      of_members (map (λ e. (measured_trait_member e.member).spot.place) t.members)
      (rw e (map-map (λ m. m.spot.place) (λ e. measured_trait_member e.member) t.members))

  pub of_object : (o : Object) → d.declaration ≡ declaration.Object o
      → counted count (declaration_places d)
      ≡ counted (counted count ((measured_declaration d.declaration).spot.place ∷ []))
      (map (λ e. (measured_object_member e.member).spot.place) o.members)
  of_object o e =
      of_members (map (λ e. (measured_object_member e.member).spot.place) o.members)
      (rw e (map-map (λ m. m.spot.place) (λ e. measured_object_member e.member) o.members))

-- what a whole count finds late
pub late_is : (most : ℕ) (places : List Place)
    → option_to_list (counted (record { left = most; late = None }) places).late
    ≡ first_behind most places
unfolding counted
late_is most places = sym (late_places most places)
