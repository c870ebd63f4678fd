-- An accepted component's declared types keep the rules of a sound hierarchy, the built-in ones
-- among them.
use Rattle.std.proofs.Common.{◌≡◌, ◌<◌, ◌≤◌, ◌+◌, ◌-◌, ◌⊎◌, inl, inr, ℕ, zero, suc, Bool, true, false, List, [], ◌∷◌, ◌++◌, length, get_or, Some, refl, subst, arith}
use Rattle.std.specs.List.{slice_get, Contains}
use Rattle.std.proofs.lemmas.Option.{slice_get_within, slice_get-get_or}
use Rattle.std.proofs.Math.ListN.{length-append}
use Rattle.fort_base.specs.declared.refusal.Place.{Place}
use Rattle.fort_base.specs.declared.table.TypeTable.{TypeTable}
use Rattle.fort_types.specs.declared.hierarchy.DeclaredType.{DeclaredType}
use Rattle.fort_types.specs.Hierarchy.{DeclaredTypes, Path, stop, along, Extends, Leaf, Excludes, Lists, Sound}
use Rattle.fort_types.specs.Table.{is_set, HasRows}
use Rattle.fort_types.proofs.Paths.{start_inside}
use Rattle.fort_types_builtin.specs.declared.types.TheConstants.{TYPE_COUNT}
use Rattle.fort_types_builtin.specs.Types.{built_in_declared}
use Rattle.fort_types_builtin.proofs.PlainTypes.{IsPlain, plain_at, low_is_trait, built_in_count}
use Rattle.fort_hier.specs.declared.sentences.Sentence.{Sentence}
use Rattle.fort_hier.specs.declared.sentences.Sentence.TheVariants as sentence
use Rattle.fort_hier.specs.Sentences.{Breaks, BreaksAt}
use Rattle.fort_hier.proofs.ByRows.{path_of, set_to}

none : (b : ℕ) → Contains [] b → ⊥
none b w = let l = w.1 in omega arith

from_front : (xs ys : DeclaredTypes) (k : ℕ) (d : DeclaredType) → k < length xs
    → slice_get (xs ++ ys) k ≡ Some d → slice_get xs k ≡ Some d
from_front [] ys k d l e = absurd (omega arith)
from_front (x ∷ xs) ys zero d l e = e
from_front (x ∷ xs) ys (suc k) d l e = from_front xs ys k d (omega arith) e

same_or : (a b : ℕ) → (a ≡ b) ⊎ (a ≡ b → ⊥)
same_or a b = grind arith

low_or : (a b : ℕ) → (a < b) ⊎ (b ≤ a)
low_or a b = grind arith

-- whether a number stands in a list
has_or : (list : List ℕ) (x : ℕ) → Contains list x ⊎ (Contains list x → ⊥)
has_or [] x = inr (none x)
has_or (y ∷ list) x =
    elim (same_or y x) as (λ _. Contains (y ∷ list) x ⊎ (Contains (y ∷ list) x → ⊥)) [
      | inl e ↦ inl (0, omega arith, e)
      | inr n ↦ elim (has_or list x) as (λ _. Contains (y ∷ list) x ⊎ (Contains (y ∷ list) x → ⊥)) [
        | inl w ↦ inl (suc w.0, (let l = w.1 in omega arith), w.2)
        | inr m ↦ inr (other n m)
      ]
    ]
  where
    other : (y ≡ x → ⊥) → (Contains list x → ⊥) → Contains (y ∷ list) x → ⊥
    other n m (zero, l, e) = n e
    other n m (suc k, l, e) = m (k, omega arith, e)

-- ---- a hierarchy of built-in types and others, none of which breaks a sentence

module _ (rest : DeclaredTypes) (places : List Place) (table : TypeTable)
    (long : length places ≡ length rest)
    (rows : HasRows (built_in_declared ++ rest) table)
    (kept : (s : Sentence) (place : Place) → BreaksAt s (built_in_declared ++ rest) places place
    → ⊥) where
  abbrev h : DeclaredTypes
  h = built_in_declared ++ rest

  count : length h ≡ TYPE_COUNT + length rest
  count = let a = length-append built_in_declared rest in let b = built_in_count in omega arith

  built_in_at : (a : ℕ) (d : DeclaredType) → a < TYPE_COUNT → slice_get h a ≡ Some d → IsPlain a d
  built_in_at a d l e =
      let b = built_in_count in plain_at a d (from_front built_in_declared rest a d (omega arith) e)

  -- a path from a built-in type goes to none of a greater number
  falls : (a b : ℕ) → a < TYPE_COUNT → Path h a b → b ≤ a
  falls a b l stop = omega arith
  falls a b l (along {b = x} e p) =
      let u = (built_in_at a e.0 l e.1).upwards x e.2
      in let m = falls x b (let v = u.0 in omega arith) p in let v = u.0 in omega arith

  no_leaf : (b : ℕ) → b < 2 → Leaf h b → ⊥
  no_leaf b l (d, e, n) =
      let c = built_in_count
      in n (low_is_trait b d l (from_front built_in_declared rest b d (omega arith) e))

  -- a type of the component breaks no sentence
  none_breaks : (s : Sentence) (a : ℕ) → TYPE_COUNT ≤ a → a < length h → Breaks s h a → ⊥
  none_breaks s a l m w = let n = count in
      kept s (get_or places (a - TYPE_COUNT) (record { line = 0; column = 0 })) (
        a - TYPE_COUNT,
        slice_get-get_or places (a - TYPE_COUNT) (record { line = 0; column = 0 }) (omega arith),
        subst (Breaks s h) (number a l m) w,
      )
    where
      number : (a : ℕ) → TYPE_COUNT ≤ a → a < length h
          → a ≡ length h - length places + (a - TYPE_COUNT)
      number a l m = let n = count in omega arith

  acyclic : (a b : ℕ) → Extends h a b → Path h b a → ⊥
  acyclic a b e p = elim (low_or a TYPE_COUNT) as (λ _. ⊥) [
    | inl l ↦
        (let u = (built_in_at a e.0 l e.1).upwards b e.2 in let v = u.0
        in let m = falls b a (omega arith) p in omega arith)
    | inr l ↦ none_breaks sentence.Cyclic a l (slice_get_within h a e.0 e.1) (b, e, p)
  ]

  only_traits : (a b : ℕ) → Extends h a b → Leaf h b → ⊥
  only_traits a b e k = elim (low_or a TYPE_COUNT) as (λ _. ⊥) [
    | inl l ↦ no_leaf b ((built_in_at a e.0 l e.1).upwards b e.2).1 k
    | inr l ↦ none_breaks sentence.ExtendsObject a l (slice_get_within h a e.0 e.1) (b, e, k)
  ]

  below_one : (a b x : ℕ) → Excludes h a b → Path h x a → Path h x b → ⊥
  below_one a b x e p q = elim (low_or x TYPE_COUNT) as (λ _. ⊥) [
    | inl l ↦
        (let m = falls x a l p in (built_in_at a e.0 (omega arith) e.1).nothing_excluded b e.2)
    | inr l ↦
        none_breaks sentence.ExtendsExcluded x l (start_inside h x a p (slice_get_within h a e.0 e.1))
        (a, b, e, p, inr q)
  ]

  all_listed : (x t u : ℕ) → Extends h x t → Lists h t u → Lists h t x
  all_listed x t u e k = elim (low_or x TYPE_COUNT) as (λ _. Lists h t x) [
    | inl l ↦
        (let v = (built_in_at x e.0 l e.1).upwards t e.2 in let m = v.1
        in absurd ((built_in_at t k.0 (omega arith) k.1).nothing_listed u k.2))
    | inr l ↦ elim (has_or k.0.comprises x) as (λ _. Lists h t x) [
      | inl w ↦ (k.0, k.1, w)
      | inr n ↦
          absurd (none_breaks sentence.NotComprised x l (slice_get_within h x e.0 e.1) (
            t,
            u,
            e,
            k,
            λ m. n (subst (λ
                (z : DeclaredType). Contains z.comprises x) (one t m.0 k.0 m.1 k.1) m.2),
          ))
    ]
  ]
    where
      one : (t : ℕ) (d f : DeclaredType) → slice_get h t ≡ Some d → slice_get h t ≡ Some f → d ≡ f
      one t d f p q = cc

  path_or : (u t : ℕ) → t < length h → Path h u t ⊎ (Path h u t → ⊥)
  path_or u t l = at (is_set table.below u t) refl
    where
      at : (r : Bool) → is_set table.below u t ≡ r → Path h u t ⊎ (Path h u t → ⊥)
      at true e = inl (path_of h table.below u t rows.below e)
      at false e =
          inr (λ p. let f : is_set table.below u t ≡ true = set_to h table.below u t rows.below l p
          in cc)

  listed_below : (t u : ℕ) → Lists h t u → Path h u t
  listed_below t u k = elim (low_or t TYPE_COUNT) as (λ _. Path h u t) [
    | inl l ↦ absurd ((built_in_at t k.0 l k.1).nothing_listed u k.2)
    | inr l ↦ (let m = slice_get_within h t k.0 k.1 in elim (path_or u t m) as (λ _. Path h u t) [
      | inl p ↦ p
      | inr n ↦ absurd (none_breaks sentence.ComprisedNotBelow t l m (u, k, n))
    ])
  ]

  pub sound : Sound h
  sound = record {
    acyclic = acyclic;
    only_traits = only_traits;
    below_one = below_one;
    all_listed = all_listed;
    listed_below = listed_below;
  }
