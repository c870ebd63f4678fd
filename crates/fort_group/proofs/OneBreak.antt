-- A flat expression is refused in one way.
use Rattle.std.proofs.Common.{◌≡◌, Option, Some, None, refl, subst}
use Rattle.fort_base.specs.declared.refusal.Place.{Place}
use Rattle.fort_group.specs.Spacing.{Agrees}
use Rattle.fort_group.specs.Answers.{OneBreak, mixed_spacing, no_precedence, spacing_contradicts, bad_chain}
use Rattle.fort_group.proofs.Rules.{one}

same_place : (o : Option Place) (p q : Place) → o ≡ Some p → o ≡ Some q → p ≡ q
same_place o p q e f = cc

not_both : (o : Option Place) (p : Place) → o ≡ Some p → o ≡ None → ⊥
not_both o p e f = cc

pub one_break : OneBreak
one_break row _ _ _ _ (mixed_spacing {place = p} e) (mixed_spacing {place = q} f) =
    (refl, same_place _ p q e f)
one_break row _ _ _ _ (mixed_spacing {place = p} e) (no_precedence f none) =
    absurd (not_both _ p e f)
one_break row _ _ _ _ (mixed_spacing {place = p} e) (spacing_contradicts f the bad) =
    absurd (not_both _ p e f)
one_break row _ _ _ _ (mixed_spacing {place = p} e) (bad_chain f the good bad) =
    absurd (not_both _ p e f)
one_break row _ _ _ _ (no_precedence f none) (mixed_spacing {place = p} e) =
    absurd (not_both _ p e f)
one_break row _ _ _ _ (no_precedence e none) (no_precedence f none') = (refl, refl)
one_break row _ _ _ _ (no_precedence e none) (spacing_contradicts {g = g} f the bad) =
    absurd (none g the.0)
one_break row _ _ _ _ (no_precedence e none) (bad_chain {g = g} f the good bad) =
    absurd (none g the.0)
one_break row _ _ _ _ (spacing_contradicts f the bad) (mixed_spacing {place = p} e) =
    absurd (not_both _ p e f)
one_break row _ _ _ _ (spacing_contradicts {g = g} e the bad) (no_precedence f none) =
    absurd (none g the.0)
one_break row _ _ _ _ (spacing_contradicts e the bad) (spacing_contradicts f the' bad') =
    (refl, refl)
one_break row _ _ _ _ (spacing_contradicts {g = g} e the bad) (bad_chain {g = h} f the' good bad') =
    absurd (bad (subst (Agrees row.joints) (one row.joints h g the' the) good))
one_break row _ _ _ _ (bad_chain f the good bad) (mixed_spacing {place = p} e) =
    absurd (not_both _ p e f)
one_break row _ _ _ _ (bad_chain {g = g} e the good bad) (no_precedence f none) =
    absurd (none g the.0)
one_break row _ _ _ _ (bad_chain {g = g} e the good bad) (spacing_contradicts {g = h} f the' bad') =
    absurd (bad' (subst (Agrees row.joints) (one row.joints g h the the') good))
one_break row _ _ _ _ (bad_chain e the good bad) (bad_chain f the' good' bad') = (refl, refl)
