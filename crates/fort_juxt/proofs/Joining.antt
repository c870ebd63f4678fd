-- Groupings of neighbouring units, one unit more at an end.
use Rattle.std.proofs.Common.{◌≡◌, ℕ, zero, suc, ◌+◌, ◌-◌, ◌<◌, ◌≤◌, List, [], ◌∷◌, ◌++◌, refl, ap, ◌∙◌, arith}
use Rattle.fort_juxt.specs.declared.elements.Grouping.{Grouping}
use Rattle.fort_juxt.specs.declared.elements.Grouping.TheVariants as a_grouping
use Rattle.fort_juxt.specs.Loose.{units, joined_to, joined, applied_to, applied}

units_last : (i n : ℕ) → units i (suc n) ≡ units i n ++ a_grouping.One (i + n) ∷ []
units_last i zero = ap (λ k. a_grouping.One k ∷ []) (let e : i ≡ i + 0 = omega arith in e)
units_last i (suc n) =
    ap (λ xs. a_grouping.One i ∷ xs) (units_last (i + 1) n
    ∙ ap (λ k. units (i + 1) n ++ a_grouping.One k ∷ [])
    (let e : i + 1 + n ≡ i + suc n = omega arith in e))

-- the units up to one behind a number
pub units_more : (from at : ℕ) → from ≤ at
    → units from (at + 1 - from) ≡ units from (at - from) ++ a_grouping.One at ∷ []
units_more from at h = ap (units from)
    (let e : at + 1 - from ≡ suc (at - from) = omega arith in e) ∙ (units_last from (at - from)
    ∙ ap (λ k. units from (at - from) ++ a_grouping.One k ∷ [])
    (let e : from + (at - from) ≡ at = omega arith in e))

joined_to_last : (g : Grouping) (gs : List Grouping) (h : Grouping)
    → joined_to g (gs ++ h ∷ []) ≡ a_grouping.Pair (joined_to g gs) h
joined_to_last g [] h = refl
joined_to_last g (x ∷ gs) h = joined_to_last (a_grouping.Pair g x) gs h

joined_last : (gs : List Grouping) (g h : Grouping) → joined gs ≡ g ∷ []
    → joined (gs ++ h ∷ []) ≡ a_grouping.Pair g h ∷ []
joined_last [] g h e = absurd cc
joined_last (x ∷ gs) g h e =
    let f : joined_to x gs ≡ g = cc
    in ap (λ k. k ∷ []) (joined_to_last x gs h ∙ ap (λ k. a_grouping.Pair k h) f)

pub joins_more : (from at : ℕ) (g : Grouping) → from ≤ at → joined (units from (at - from)) ≡ g ∷ []
    → joined (units from (at + 1 - from)) ≡ a_grouping.Pair g (a_grouping.One at) ∷ []
joins_more from at g h e =
    ap joined (units_more from at h) ∙ joined_last (units from (at - from)) g (a_grouping.One at) e

applied_first : (g : Grouping) (gs : List Grouping) (h : Grouping) → applied gs ≡ h ∷ []
    → applied (g ∷ gs) ≡ a_grouping.Apply g h ∷ []
applied_first g [] h e = absurd cc
applied_first g (x ∷ gs) h e =
    let f : applied_to x gs ≡ h = cc in ap (λ k. a_grouping.Apply g k ∷ []) f

-- the unit before those that are applied
pub applies_more : (at to : ℕ) (argument g : Grouping) → at < to
    → applied (units (at + 1) (to - (at + 1)) ++ argument ∷ []) ≡ g ∷ []
    → applied (units at (to - at) ++ argument ∷ []) ≡ a_grouping.Apply (a_grouping.One at) g ∷ []
applies_more at to argument g h e = ap (λ n. applied (units at n ++ argument ∷ []))
    (let i : to - at ≡ suc (to - (at + 1)) = omega arith in i)
    ∙ applied_first (a_grouping.One at) (units (at + 1) (to - (at + 1)) ++ argument ∷ []) g e
