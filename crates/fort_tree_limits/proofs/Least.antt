-- The chapter "Grammar", limits: the earliest of some places is one of them, and none of them
-- stands before it.
use Rattle.std.proofs.Common.{◌≡◌, Bool, true, false, cond, List, [], ◌∷◌, ◌++◌, Option, Some, None, ◌⊎◌, inl, inr, ⊎_elim, refl, sym, ap, ◌∙◌, subst, arith}
use Rattle.std.specs.Prelude.{MatchOption}
use Rattle.std.specs.List.{Contains, flat_map}
use Rattle.std.proofs.lemmas.List.Elements.{Contains-push, Contains-append_right, Contains-push_cases, Contains-append_cases}
use Rattle.std.proofs.lemmas.Bool.Decides.{nat_tests}
use Rattle.fort_base.specs.declared.refusal.Place.{Place}
use Rattle.fort_tree.specs.declared.declarations.Component.{Component}
use Rattle.fort_tree.specs.Limits.{BreaksLimit, KeepsLimits, crowded, declaration_places, first_behind, measured_declarations, type_places}
use Rattle.fort_base.specs.Places.{IsBefore, is_before}
use Rattle.fort_tree.specs.Measured.{all_crowded, most_declarations, most_types}
use Rattle.fort_tree_limits.specs.Earliest.{earlier, least, earliest}
use Rattle.fort_tree_limits.proofs.EarliestLaws.{earliest_append}

is_before-yes : (a b : Place) → is_before a b ≡ true → IsBefore a b
is_before-yes a b e = grind (arith, nat_tests)

is_before-no : (a b : Place) → is_before a b ≡ false → ¬ (IsBefore a b)
is_before-no a b e h = grind (arith, nat_tests)

-- no place stands before itself
irreflexive : (a : Place) → ¬ (IsBefore a a)
irreflexive a h = grind arith

asymmetric : (a b : Place) → IsBefore a b → ¬ (IsBefore b a)
asymmetric a b h k = grind arith

-- what stands before the later of two places stands before it, too
goes_on : (o p q : Place) → ¬ (IsBefore q p) → IsBefore o p → IsBefore o q
goes_on o p q n h = grind arith

-- what a list of places with one more at its head has
in_cons : (p : Place) (ps : List Place) (o : Place) → Contains (p ∷ ps) o → (p ≡ o) ⊎ Contains ps o
in_cons p ps o h = ⊎_elim (λ k. inl (only k)) inr (Contains-append_cases (p ∷ []) ps o h) where
  none : Contains [] o → ⊥
  none n = omega arith

  only : Contains (p ∷ []) o → p ≡ o
  only k = ⊎_elim (λ n. absurd (none n)) (λ e. e) (Contains-push_cases [] p o k)

-- of these places this one is the earliest
abbrev IsLeast : List Place → Place → Type 0
IsLeast places at = Contains places at
    × ((other : Place) → Contains places other → ¬ (IsBefore other at))

-- what a test for the earliest of some places finds
abbrev Finds : List Place → Option Place → Type 0
Finds places None = places ≡ []
Finds places (Some at) = IsLeast places at

module _ (p : Place) (ps : List Place) where
  alone : ps ≡ [] → Finds (p ∷ ps) (Some p)
  alone e =
      subst (λ (s : List Place). Finds (p ∷ s) (Some p)) (sym e) (
        Contains-push [] p,
        λ other h. ⊎_elim (λ same. subst (λ o. ¬ (IsBefore o p)) same (irreflexive p))
            (λ n. absurd (none other n)) (in_cons p [] other h),
      ) where
        none : (other : Place) → Contains [] other → ⊥
        none other n = omega arith

  earlier-found : (q : Place) → IsLeast ps q → (b : Bool) → is_before q p ≡ b
      → Finds (p ∷ ps) (Some (cond b q p))
  earlier-found q h true e = (
    Contains-append_right (p ∷ []) ps q h.0,
    λ other k. ⊎_elim
        (λ same. subst (λ o. ¬ (IsBefore o q)) same (asymmetric q p (is_before-yes q p e)))
        (λ n. h.1 other n) (in_cons p ps other k),
  )
  earlier-found q h false e = (
    first,
    λ other k. ⊎_elim (λ same. subst (λ o. ¬ (IsBefore o p)) same (irreflexive p))
        (λ n before. h.1 other n (goes_on other p q (is_before-no q p e) before))
        (in_cons p ps other k),
  ) where
    first : Contains (p ∷ ps) p
    first = (0, omega arith, refl)

  with_more : (rest : Option Place) → Finds ps rest → Finds (p ∷ ps) (earlier (Some p) rest)
  with_more None e = alone e
  with_more (Some q) h = earlier-found q h (is_before q p) refl

finds : (places : List Place) → Finds places (least places)
finds [] = refl
finds (p ∷ ps) = with_more p ps (least ps) (finds ps)

-- the earliest place of what passes a limit answers which component does
module _ (c : Component) where
  answered : (least_one : Option Place) → Finds (crowded c) least_one
      → MatchOption least_one (KeepsLimits c) (λ at. BreaksLimit c at)
  answered None h = h
  answered (Some at) h = h

  pub answers : (found : Option Place) → found ≡ earliest None (crowded c)
      → MatchOption found (KeepsLimits c) (λ at. BreaksLimit c at)
  unfolding earliest
  answers found is =
      subst (λ o. MatchOption o (KeepsLimits c) (λ at. BreaksLimit c at)) (sym is)
      (answered (least (crowded c)) (finds (crowded c)))

  -- the same of the three walks, one after the other
  pub answers_all : (declarations types : List Place) (found : Option Place)
      → declarations ≡ first_behind most_declarations (flat_map declaration_places c.declarations)
      → types ≡ first_behind most_types (flat_map (λ d. type_places d.declaration) c.declarations)
      → found ≡ earliest (earliest (earliest None declarations) types)
      (all_crowded (measured_declarations c))
      → MatchOption found (KeepsLimits c) (λ at. BreaksLimit c at)
  answers_all declarations types found are of_types is =
      answers found (is
      ∙ sym (earliest_append (earliest None declarations) types
      (all_crowded (measured_declarations c)))
      ∙ sym (earliest_append None declarations
      (types ++ all_crowded (measured_declarations c)))
      ∙ ap (λ ds. earliest None (ds ++ (types ++ all_crowded (measured_declarations c)))) are
      ∙ ap (λ ts. earliest None
      (first_behind most_declarations (flat_map declaration_places c.declarations)
      ++ (ts ++ all_crowded (measured_declarations c)))) of_types)
