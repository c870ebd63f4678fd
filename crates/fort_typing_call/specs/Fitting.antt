-- The chapter "Typing", calls: applicable and widened as truths that are computed. The chapter's
-- own sentences are in fort_types_sets and fort_typing_rules.
use Rattle.std.specs.Prelude.{◌≡◌, ℕ, nat_eq, Bool, true, false, cond, not, ◌&&◌, ◌||◌, List, [], ◌∷◌, Option, Some, None}
use Rattle.fort_base.specs.declared.ty.Ty.{Ty, out-Ty}
use Rattle.fort_base.specs.declared.ty.Ty.TheVariants as a_type
use Rattle.fort_base.specs.declared.ty.Ty.TheOpen.{Ty-F}
use Rattle.fort_types_builtin.specs.declared.types.TheConstants.{ZZ32, ZZ64}
use Rattle.fort_types_sets.specs.declared.member.Member.{Member}
use Rattle.fort_typing_known.specs.Known.{Facts}
use Rattle.fort_typing_known.specs.Below.{is_below, are_below}

-- ---- widening

abbrev pub is_widened_at : Ty-F Ty → Ty-F Ty → Bool
is_widened_at (Ty-F.Named i) (Ty-F.Named j) = nat_eq i.0 ZZ32.0 && nat_eq j.0 ZZ64.0
is_widened_at _ _ = false

-- a type is widened to a parameter: it is ZZ32, and the parameter is ZZ64
unfoldable pub is_widened : Ty → Ty → Bool
is_widened x p = is_widened_at (out-Ty x) (out-Ty p)

-- types are below parameters or widened to them, place by place
abbrev pub all_suit : Facts → List Ty → List Ty → Bool
all_suit k [] [] = true
all_suit k [] (p ∷ ps) = false
all_suit k (x ∷ xs) [] = false
all_suit k (x ∷ xs) (p ∷ ps) = cond (is_below k x p || is_widened x p) (all_suit k xs ps) false

-- each position that is widened for some parameters is widened for others
abbrev pub contained : List Ty → List Ty → List Ty → Bool
contained [] ps qs = true
contained (x ∷ xs) [] qs = true
contained (x ∷ xs) (p ∷ ps) [] = cond (is_widened x p) false (contained xs ps [])
contained (x ∷ xs) (p ∷ ps) (q ∷ qs) =
    cond (is_widened x p && not (is_widened x q)) false (contained xs ps qs)

-- which positions are widened
abbrev pub positions : List Ty → List Ty → List Bool
positions [] ps = []
positions (x ∷ xs) [] = false ∷ positions xs []
positions (x ∷ xs) (p ∷ ps) = is_widened x p ∷ positions xs ps

-- the types of a call that is widened to parameters
abbrev pub widened_types : List Ty → List Ty → List Ty
widened_types [] ps = []
widened_types (x ∷ xs) [] = x ∷ widened_types xs []
widened_types (x ∷ xs) (p ∷ ps) = cond (is_widened x p) (a_type.Named ZZ64) x ∷ widened_types xs ps

-- ---- the first that goes before all that fit, of declarations that are asked with widening or without

-- a declaration is applicable to types, with widening or without
unfoldable pub fits : Facts → Bool → List Ty → Member → Bool
fits k widening types d =
    cond widening (all_suit k types d.parameters) (are_below k types d.parameters)

-- one declaration goes before another: its widened positions are contained in the other's, or its
-- parameters are below the other's
unfoldable pub goes_before : Facts → Bool → List Ty → Member → Member → Bool
goes_before k widening types p q =
    cond widening (contained types p.parameters q.parameters)
    (are_below k p.parameters q.parameters)

-- a declaration goes before each of these that fits
abbrev pub is_over : Facts → Bool → List Ty → Member → List Member → Bool
is_over k widening types d [] = true
is_over k widening types d (e ∷ es) =
    cond (not (fits k widening types e)
    || goes_before k widening types d e) (is_over k widening types d es) false

-- the first of these that fits and goes before each of all that fits
abbrev pub first_best : Facts → Bool → List Ty → List Member → List Member → Option Member
first_best k widening types all [] = None
first_best k widening types all (d ∷ ds) =
    cond (fits k widening types d
    && is_over k widening types d all) (Some d) (first_best k widening types all ds)

-- some of these fits
abbrev pub any_fits : Facts → Bool → List Ty → List Member → Bool
any_fits k widening types [] = false
any_fits k widening types (d ∷ ds) =
    cond (fits k widening types d) true (any_fits k widening types ds)
