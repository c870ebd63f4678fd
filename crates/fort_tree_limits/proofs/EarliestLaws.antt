-- The chapter "Grammar", limits: the earliest of two lists of places is the earlier of both, and
-- what a walk over a list finds.
use Rattle.std.proofs.Common.{◌≡◌, ℕ, suc, ◌+◌, ◌<◌, List, [], ◌∷◌, ◌++◌, Option, Some, None, get_or, take, length, refl, sym, ap, ◌∙◌, append_assoc, arith}
use Rattle.std.specs.Prelude.{map}
use Rattle.std.proofs.lemmas.Bool.Decides.{nat_tests}
use Rattle.std.proofs.lemmas.List.{take_more, map-append}
use Rattle.fort_base.specs.declared.refusal.Place.{Place}
use Rattle.fort_tree.specs.Measured.{Measured, all_crowded}
use Rattle.fort_tree_limits.specs.Earliest.{earlier, least, earliest}

pub earlier-assoc : (a b c : Option Place) → earlier (earlier a b) c ≡ earlier a (earlier b c)
earlier-assoc None b c = refl
earlier-assoc (Some a) None c = refl
earlier-assoc (Some a) (Some b) None = refl
earlier-assoc (Some a) (Some b) (Some c) = grind (arith, nat_tests)

pub earlier-none : (a : Option Place) → earlier a None ≡ a
earlier-none None = refl
earlier-none (Some a) = refl

pub least-append : (xs ys : List Place) → least (xs ++ ys) ≡ earlier (least xs) (least ys)
least-append [] ys = refl
least-append (x ∷ xs) ys =
    ap (earlier (Some x)) (least-append xs ys) ∙ sym (earlier-assoc (Some x) (least xs) (least ys))

pub earliest_none : (found : Option Place) → earliest found [] ≡ found
unfolding earliest
earliest_none found = earlier-none found

pub earliest_append : (found : Option Place) (xs ys : List Place)
    → earliest found (xs ++ ys) ≡ earliest (earliest found xs) ys
unfolding earliest
earliest_append found xs ys =
    ap (earlier found) (least-append xs ys) ∙ sym (earlier-assoc found (least xs) (least ys))

pub all_crowded-append : (xs ys : List Measured)
    → all_crowded (xs ++ ys) ≡ all_crowded xs ++ all_crowded ys
all_crowded-append [] ys = refl
all_crowded-append (x ∷ xs) ys =
    ap (λ (u : List Place). x.crowded ++ u) (all_crowded-append xs ys)
    ∙ sym (append_assoc x.crowded (all_crowded xs) (all_crowded ys))

-- one more than so many, as the code counts
pub one_and : (n : ℕ) → suc n ≡ 1 + n
one_and n = omega arith

-- the walk over one more tree of a list
pub one_more : {A : Type 0} (of : A → Measured) (xs : List A) (i : ℕ) (x : A)
    (found at new : Option Place) → i < length xs → x ≡ get_or xs i x
    → at ≡ earliest found (all_crowded (map of (take i xs))) → new ≡ earliest at (of x).crowded
    → new ≡ earliest found (all_crowded (map of (take (i + 1) xs)))
one_more of xs i x found at new lt is so_far step =
    let more : map of (take (i + 1) xs) ≡ map of (take i xs) ++ of x ∷ [] =
    ap (map of) (take_more xs i x lt ∙ ap (λ y. take i xs ++ y ∷ []) (sym is))
    ∙ map-append of (take i xs) (x ∷ []) in
    step ∙ ap (λ (u : Option Place). earliest u (of x).crowded) so_far
    ∙ sym (ap (λ ms. earliest found (all_crowded ms)) more
    ∙ simp (all_crowded-append, earliest_append, earliest_none))
