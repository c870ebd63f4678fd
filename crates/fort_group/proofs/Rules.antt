-- The rule that is broken, from what the code has asked.
use Rattle.std.proofs.Common.{◌≡◌, Bool, true, false, not, refl, List, length, Some, None, sym, subst}
use Rattle.fort_base.specs.declared.rules.TheConstants.{MIXED_SPACING, NO_PRECEDENCE, SPACING_CONTRADICTS, BAD_CHAIN}
use Rattle.fort_base.specs.declared.refusal.Place.{Place}
use Rattle.fort_tree.specs.declared.grouped.Joint.{Joint}
use Rattle.fort_tree.specs.declared.grouped.Row.{Row}
use Rattle.fort_tree.specs.declared.grouped.Grouped.{Grouped}
use Rattle.fort_group.specs.Spacing.{first_mixed, Agrees}
use Rattle.fort_group.specs.Chains.{IsSensible}
use Rattle.fort_group.specs.Walks.{spaced, sensible}
use Rattle.fort_group.specs.Joining.{IsTheGrouping}
use Rattle.fort_group.proofs.Agreement as agreement
use Rattle.fort_group.proofs.Senses as senses
use Rattle.fort_group.specs.Answers.{IsOnly, Breaks, IsGrouped, mixed_spacing, no_precedence, spacing_contradicts, bad_chain}
use Rattle.fort_group.specs.Components.{BreaksNone}

pub is_false : (b : Bool) → not b ≡ true → b ≡ false
is_false true e = absurd (cc e)
is_false false e = refl

pub is_true : (b : Bool) → not b ≡ false → b ≡ true
is_true true e = refl
is_true false e = absurd (cc e)

module _ (row : Row) where
  only : (g : Grouped) → IsTheGrouping row.joints 0 (length row.joints) (Some g)
      → IsOnly row.joints g
  only g the = (the.sound, λ h other. let same = the.only h other in cc)

  pub mixed : (place : Place) → Some place ≡ first_mixed row.joints → Breaks row MIXED_SPACING place
  mixed place found = mixed_spacing (sym found)

  pub none_there : None ≡ first_mixed row.joints
      → IsTheGrouping row.joints 0 (length row.joints) None → Breaks row NO_PRECEDENCE row.place
  none_there even the = no_precedence (sym even) (λ h g. let same = the.only h g in absurd cc)

  pub contradicts : (g : Grouped) → None ≡ first_mixed row.joints
      → IsTheGrouping row.joints 0 (length row.joints) (Some g) → (spaced row.joints g).good ≡ false
      → Breaks row SPACING_CONTRADICTS row.place
  contradicts g even the bad =
      spacing_contradicts (sym even) (only g the) (λ all. let z =
      (agreement.tells row.joints g).good all in absurd cc)

  pub senseless : (g : Grouped) → None ≡ first_mixed row.joints
      → IsTheGrouping row.joints 0 (length row.joints) (Some g) → (spaced row.joints g).good ≡ true
      → sensible g ≡ false → Breaks row BAD_CHAIN row.place
  senseless g even the good bad =
      bad_chain (sym even) (only g the) ((agreement.tells row.joints g).agrees good) (λ all. let z =
      (senses.tells g).passes all in absurd cc)

  pub whole : (g : Grouped) → None ≡ first_mixed row.joints
      → IsTheGrouping row.joints 0 (length row.joints) (Some g) → (spaced row.joints g).good ≡ true
      → sensible g ≡ true → IsGrouped row g
  whole g even the good sense =
      record {
        even = sym even;
        only = only g the;
        agrees = (agreement.tells row.joints g).agrees good;
        sensible = (senses.tells g).good sense;
      }

-- two that are the only one are the same
pub one : (joints : List Joint) (g h : Grouped) → IsOnly joints g → IsOnly joints h → g ≡ h
one joints g h a b = a.1 h b.0

-- what has a grouping breaks no rule
pub breaks_none : (row : Row) (g : Grouped) → IsGrouped row g → BreaksNone row
breaks_none row g it _ _ (mixed_spacing found) = let e = it.even in absurd cc
breaks_none row g it _ _ (no_precedence even none) = none g it.only.0
breaks_none row g it _ _ (spacing_contradicts {g = h} even the bad) =
    bad (subst (Agrees row.joints) (one row.joints g h it.only the) it.agrees)
breaks_none row g it _ _ (bad_chain {g = h} even the good bad) =
    bad (subst IsSensible (one row.joints g h it.only the) it.sensible)
