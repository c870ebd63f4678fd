-- The types of a component and their fields: how many there are, and that the built-in ones have
-- none.
use Rattle.std.proofs.Common.{◌≡◌, ◌<◌, ◌≤◌, ◌+◌, ◌-◌, ◌⊎◌, inl, inr, ℕ, zero, suc, List, [], ◌∷◌, ◌++◌, map, length, Some, refl, sym, ap, ◌∙◌, subst, arith}
use Rattle.std.specs.Prelude.{replicate}
use Rattle.std.specs.List.{slice_get, Contains, flat_map}
use Rattle.std.proofs.lemmas.List.{length-replicate}
use Rattle.std.proofs.Math.ListN.{length-append}
use Rattle.fort_base.specs.declared.refusal.Place.{Place}
use Rattle.fort_tree.specs.declared.declarations.Component.{Component}
use Rattle.fort_tree.specs.declared.declarations.Declaration.{Declaration}
use Rattle.fort_tree.specs.declared.declarations.Declaration.TheVariants as declaration
use Rattle.fort_tree.specs.declared.declarations.Declared as in_tree
use Rattle.fort_types.specs.Hierarchy.{DeclaredTypes}
use Rattle.fort_types_builtin.specs.declared.types.TheConstants.{TYPE_COUNT, TYPE_NAME_COUNT}
use Rattle.fort_types_builtin.specs.Types.{built_in_declared}
use Rattle.fort_types_builtin.proofs.PlainTypes.{plain_at, built_in_count}
use Rattle.fort_hier.specs.declared.heads.TypeHead.{TypeHead}
use Rattle.fort_hier.specs.declared.numbers.Numbers.{Numbers}
use Rattle.fort_hier.specs.Heads.{head_of, heads_from, heads_of, head_place}
use Rattle.fort_hier.specs.Hierarchies.{declares, places_of}
use Rattle.fort_hier.specs.Names.{Spelling}
use Rattle.fort_hier.specs.Numbers.{declared_by, all_types, HoldsNumbers}
use Rattle.fort_hier.proofs.NamesWalk.{as_long}
use Rattle.fort_hier.proofs.NumberLaws.{all_long}
use Rattle.fort_types_sets.specs.declared.field.Field.{Field}
use Rattle.fort_member_fields.specs.Own.{own_of, declared_own, own_fields, types_of}
use Rattle.fort_member_fields.specs.Inherited.{Has, declared, inherited}
use Rattle.fort_member_fields.proofs.Items.{in_none}

-- ---- how many

-- a declaration has a list of fields where it has a head
one_each : (list names : List Spelling) (body : ℕ) (d : Declaration)
    → length (own_of list names d) ≡ length (head_of body d)
one_each list names body (declaration.Variable v) = refl
one_each list names body (declaration.Function f) = refl
one_each list names body (declaration.Trait t) = refl
one_each list names body (declaration.Object o) = refl

lists_long : (list names : List Spelling) (body : ℕ) (ds : List in_tree.Declared)
    → length (flat_map (declared_own list names) ds) ≡ length (heads_from body ds)
lists_long list names body [] = refl
lists_long list names body (d ∷ ds) =
    length-append (declared_own list names d) (flat_map (declared_own list names) ds)
    ∙ ap (λ z. z + length (flat_map (declared_own list names) ds))
    (one_each list names body d.declaration)
    ∙ ap (λ z. length (head_of body d.declaration) + z) (lists_long list names (body + 1) ds)
    ∙ sym (length-append (head_of body d.declaration) (heads_from (body + 1) ds))

module _ (c : Component) where
  types_long : length (declares c) ≡ TYPE_COUNT + length (heads_of c)
  types_long =
      let a = length-append built_in_declared
      (map (declared_by (all_types c.names (heads_of c)) c.names) (heads_of c))
      in let b = built_in_count in
      let m = as_long (declared_by (all_types c.names (heads_of c)) c.names) (heads_of c)
      in omega arith

  places_long : length (places_of c) ≡ length (heads_of c)
  places_long = as_long head_place (heads_of c)

  pub own_long : length (own_fields c) ≡ length (declares c)
  own_long =
      let a = length-append (replicate TYPE_COUNT [])
      (flat_map (declared_own (types_of c) c.names) c.declarations)
      in let b = length-replicate {A = List Field} TYPE_COUNT [] in
      let m = lists_long (types_of c) c.names 0 c.declarations in let n = types_long in omega arith

  pub fewer_places : length (places_of c) ≤ length (declares c)
  fewer_places = let a = types_long in let b = places_long in omega arith

  pub first_place : length (declares c) - length (places_of c) ≡ TYPE_COUNT
  first_place = let a = types_long in let b = places_long in omega arith

  -- ---- what the code's lists are

  module _ {names : List Spelling} {heads : List TypeHead} {numbers : Numbers} {size : ℕ}
      (e : names ≡ c.names) (f : heads ≡ heads_of c)
      (known : HoldsNumbers (all_types c.names heads) numbers)
      (long : size ≡ TYPE_NAME_COUNT + length heads) where
    pub types_are : {types : DeclaredTypes}
        → ((list : List Spelling) → HoldsNumbers list numbers → length list ≡ size
        → types ≡ built_in_declared ++ map (declared_by list names) heads) → types ≡ declares c
    types_are w =
        w (all_types c.names heads) known (all_long c.names heads ∙ sym long)
        ∙ ap (λ z. built_in_declared ++ map (declared_by (all_types c.names heads) z) heads) e
        ∙ ap (λ z. built_in_declared ++ map (declared_by (all_types c.names z) c.names) z) f

    pub own_are : {own : List (List Field)} {declarations : List in_tree.Declared}
        → declarations ≡ c.declarations
        → ((list : List Spelling) → HoldsNumbers list numbers → length list ≡ size
        → own ≡ replicate TYPE_COUNT [] ++ flat_map (declared_own list names) declarations)
        → own ≡ own_fields c
    own_are {declarations = declarations} g w =
        w (all_types c.names heads) known (all_long c.names heads ∙ sym long)
        ∙ ap (λ z. replicate TYPE_COUNT []
        ++ flat_map (declared_own (all_types c.names heads) z) declarations) e
        ∙ ap (λ z. replicate TYPE_COUNT []
        ++ flat_map (declared_own (all_types c.names z) c.names) declarations) f
        ∙ ap (λ z. replicate TYPE_COUNT [] ++ flat_map (declared_own (types_of c) c.names) z) g

  pub places_are : {places : List Place} {heads : List TypeHead} → heads ≡ heads_of c
      → places ≡ map head_place heads → places ≡ places_of c
  places_are f w = w ∙ ap (map head_place) f

-- ---- built-in types

all_same : {X : Type 0} (n : ℕ) (x : X) (k : ℕ) (d : X) → slice_get (replicate n x) k ≡ Some d
    → x ≡ d
all_same zero x k d e = absurd cc
all_same (suc n) x zero d e = let s : x ≡ d = cc in s
all_same (suc n) x (suc k) d e = all_same n x k d e

from_front : {X : Type 0} (xs ys : List X) (k : ℕ) (x : X) → k < length xs
    → slice_get (xs ++ ys) k ≡ Some x → slice_get xs k ≡ Some x
from_front [] ys k x l e = absurd (omega arith)
from_front (z ∷ xs) ys zero x l e = e
from_front (z ∷ xs) ys (suc k) x l e = from_front xs ys k x (omega arith) e

low_or : (a b : ℕ) → (a < b) ⊎ (b ≤ a)
low_or a b = grind arith

module _ (c : Component) where
  -- a built-in type has no field
  has_none : (a : ℕ) (f : Field) → a < TYPE_COUNT → Has (declares c) (own_fields c) a f → ⊥
  has_none a f l (declared w) =
      let e = from_front (replicate TYPE_COUNT [])
      (flat_map (declared_own (types_of c) c.names) c.declarations) a w.0 (let m =
      length-replicate {A = List Field} TYPE_COUNT [] in omega arith) w.1 in
      in_none f (subst (λ z. Contains z f) (sym (all_same TYPE_COUNT [] a w.0 e)) w.2)
  has_none a f l (inherited {b = b} t n x v) =
      let e = from_front built_in_declared
      (map (declared_by (all_types c.names (heads_of c)) c.names) (heads_of c)) a x.0 (let m =
      built_in_count in omega arith) x.1 in
      let m = ((plain_at a x.0 e).upwards b x.2).1 in has_none b f (omega arith) v

  pub has_high : (a : ℕ) (f : Field) → Has (declares c) (own_fields c) a f
      → length (declares c) - length (places_of c) ≤ a
  has_high a f v =
      elim (low_or a TYPE_COUNT) as (λ _. length (declares c) - length (places_of c) ≤ a) [
        | inl l ↦ absurd (has_none a f l v)
        | inr l ↦ (let e = first_place c in omega arith)
      ]
