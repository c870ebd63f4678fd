-- What a walk over an API finds: the earliest place of what passes a limit in it.
use Rattle.std.proofs.Common.{◌≡◌, ℕ, zero, suc, Bool, true, false, cond, List, [], ◌∷◌, ◌++◌, Option, Some, None, ◌⊎◌, inl, inr, ⊎_elim, refl, sym, ap, ◌∙◌, subst, arith}
use Rattle.std.specs.Prelude.{MatchOption, map, option_map}
use Rattle.std.specs.List.{Contains, slice_get}
use Rattle.std.specs.Option.{option_to_list}
use Rattle.std.proofs.lemmas.List.Elements.{Contains-push, Contains-append_right, Contains-push_cases, Contains-append_cases}
use Rattle.std.proofs.lemmas.Bool.Decides.{nat_tests}
use Rattle.fort_base.specs.declared.refusal.Place.{Place}
use Rattle.fort_base.specs.Places.{IsBefore, is_before}
use Rattle.fort_tree.specs.declared.spot.Name.{Name}
use Rattle.fort_tree.specs.declared.spot.Spot.{Spot}
use Rattle.fort_tree.specs.declared.types.TypeTree.{TypeTree}
use Rattle.fort_tree.specs.Types.{parameter_count}
use Rattle.fort_tree.specs.Measured.{all_crowded, made_of, most_declarations, most_parameters, over}
use Rattle.fort_tree.specs.Measures.{measured_type, measured_parameters}
use Rattle.fort_tree.specs.Limits.{first_behind}
use Rattle.fort_tree_limits.specs.Earliest.{earlier, least, earliest}
use Rattle.fort_tree_limits.proofs.EarliestLaws.{all_crowded-append, earliest_append, earliest_none}
use Rattle.fort_link_units.specs.declared.unit.Api.{Api}
use Rattle.fort_link_units.specs.declared.unit.ApiDeclaration.TheVariants as declaration
use Rattle.fort_link_units.specs.declared.unit.FunctionHead.{FunctionHead}
use Rattle.fort_link_units.specs.declared.unit.Unit.TheVariants as a_unit
use Rattle.fort_link_units.specs.Limits.{measured_head, measured_api_declaration, measured_api, api_crowded, BreaksUnitLimit, KeepsUnitLimits}

-- ---- what a walk over each declaration finds

pub head_walks : (found : Option Place) (f : FunctionHead)
    → earliest found (measured_head f).crowded
    ≡ earliest
    (earliest
    (earliest found
    (over most_parameters (parameter_count f.parameters) f.name.spot.place))
    (all_crowded (measured_parameters f.parameters))) (measured_type f.result).crowded
head_walks found f = simp (all_crowded-append, earliest_append, earliest_none)

pub variable_walks : (found : Option Place) (name : Name) (colon : Spot) (ty : TypeTree)
    → earliest found (measured_api_declaration (declaration.Variable name colon ty)).crowded
    ≡ earliest found (measured_type ty).crowded
variable_walks found name colon ty = simp (earliest_append, earliest_none)

pub plain_walks : (found : Option Place) (s : Spot)
    → earliest found (made_of s [] []).crowded ≡ found
plain_walks found s = earliest_none found

-- the place of the first item behind so many
late_of : {A : Type 0} (place : A → Place) (most : ℕ) (xs : List A)
    → option_to_list (option_map place (slice_get xs most)) ≡ first_behind most (map place xs)
late_of place zero [] = refl
late_of place (suc most) [] = refl
late_of place zero (x ∷ xs) = refl
late_of place (suc most) (x ∷ xs) = late_of place most xs

pub late_some : {A : Type 0} (place : A → Place) (most : ℕ) (xs : List A) (x : A) (at : Place)
    → Some x ≡ slice_get xs most → at ≡ place x → at ∷ [] ≡ first_behind most (map place xs)
late_some {A} place most xs x at e f =
    ap (λ (p : Place). p ∷ []) f
    ∙ (ap (λ (o : Option A). option_to_list (option_map place o)) e ∙ late_of place most xs)

pub late_none : {A : Type 0} (place : A → Place) (most : ℕ) (xs : List A)
    → None ≡ slice_get xs most → [] ≡ first_behind most (map place xs)
late_none {A} place most xs e =
    ap (λ (o : Option A). option_to_list (option_map place o)) e ∙ late_of place most xs

-- ---- the earliest of some places

is_before-yes : (a b : Place) → is_before a b ≡ true → IsBefore a b
is_before-yes a b e = grind (arith, nat_tests)

is_before-no : (a b : Place) → is_before a b ≡ false → ¬ (IsBefore a b)
is_before-no a b e h = grind (arith, nat_tests)

-- no place stands before itself
irreflexive : (a : Place) → ¬ (IsBefore a a)
irreflexive a h = grind arith

asymmetric : (a b : Place) → IsBefore a b → ¬ (IsBefore b a)
asymmetric a b h k = grind arith

-- what stands before the later of two places stands before it, too
goes_on : (o p q : Place) → ¬ (IsBefore q p) → IsBefore o p → IsBefore o q
goes_on o p q n h = grind arith

none_in : (p : Place) → Contains [] p → ⊥
none_in p n = omega arith

-- what a list of places with one more at its head has
in_cons : (p : Place) (ps : List Place) (o : Place) → Contains (p ∷ ps) o → (p ≡ o) ⊎ Contains ps o
in_cons p ps o h = ⊎_elim (λ k. inl (only k)) inr (Contains-append_cases (p ∷ []) ps o h) where
  only : Contains (p ∷ []) o → p ≡ o
  only k = ⊎_elim (λ n. absurd (none_in o n)) (λ e. e) (Contains-push_cases [] p o k)

-- of these places this one is the earliest
abbrev IsLeast : List Place → Place → Type 0
IsLeast places at = Contains places at
    × ((other : Place) → Contains places other → ¬ (IsBefore other at))

-- what a test for the earliest of some places finds
abbrev Finds : List Place → Option Place → Type 0
Finds places None = places ≡ []
Finds places (Some at) = IsLeast places at

module _ (p : Place) (ps : List Place) where
  alone : ps ≡ [] → Finds (p ∷ ps) (Some p)
  alone e =
      subst (λ (s : List Place). Finds (p ∷ s) (Some p)) (sym e) (
        Contains-push [] p,
        λ other h. ⊎_elim (λ same. subst (λ o. ¬ (IsBefore o p)) same (irreflexive p))
            (λ n. absurd (none_in other n)) (in_cons p [] other h),
      )

  earlier-found : (q : Place) → IsLeast ps q → (b : Bool) → is_before q p ≡ b
      → Finds (p ∷ ps) (Some (cond b q p))
  earlier-found q h true e = (
    Contains-append_right (p ∷ []) ps q h.0,
    λ other k. ⊎_elim
        (λ same. subst (λ o. ¬ (IsBefore o q)) same (asymmetric q p (is_before-yes q p e)))
        (λ n. h.1 other n) (in_cons p ps other k),
  )
  earlier-found q h false e = (
    first,
    λ other k. ⊎_elim (λ same. subst (λ o. ¬ (IsBefore o p)) same (irreflexive p))
        (λ n before. h.1 other n (goes_on other p q (is_before-no q p e) before))
        (in_cons p ps other k),
  ) where
    first : Contains (p ∷ ps) p
    first = (0, omega arith, refl)

  with_more : (rest : Option Place) → Finds ps rest → Finds (p ∷ ps) (earlier (Some p) rest)
  with_more None e = alone e
  with_more (Some q) h = earlier-found q h (is_before q p) refl

finds : (places : List Place) → Finds places (least places)
finds [] = refl
finds (p ∷ ps) = with_more p ps (least ps) (finds ps)

-- ---- an API

module _ (a : Api) where
  answered : (found : Option Place) → Finds (api_crowded a) found
      → MatchOption found (KeepsUnitLimits (a_unit.Api a)) (λ at. BreaksUnitLimit (a_unit.Api a) at)
  answered None h = h
  answered (Some at) h = h

  answers : (found : Option Place) → found ≡ earliest None (api_crowded a)
      → MatchOption found (KeepsUnitLimits (a_unit.Api a)) (λ at. BreaksUnitLimit (a_unit.Api a) at)
  unfolding earliest
  answers found is =
      subst (λ o. MatchOption o (KeepsUnitLimits (a_unit.Api a))
      (λ at. BreaksUnitLimit (a_unit.Api a) at)) (sym is)
      (answered (least (api_crowded a)) (finds (api_crowded a)))

  -- the earliest of the first declaration too many and of what a walk finds answers whether the API
  -- passes a limit
  pub answers_all : (late : List Place) (found : Option Place)
      → late
      ≡ first_behind most_declarations
      (map (λ d. (measured_api_declaration d.declaration).spot.place) a.declarations)
      → found ≡ earliest (earliest None late) (all_crowded (measured_api a))
      → MatchOption found (KeepsUnitLimits (a_unit.Api a)) (λ at. BreaksUnitLimit (a_unit.Api a) at)
  answers_all late found are is =
      answers found (is ∙ sym (earliest_append None late (all_crowded (measured_api a)))
      ∙ ap (λ (u : List Place). earliest None (u ++ all_crowded (measured_api a))) are)
