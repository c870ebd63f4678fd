-- Flat expressions have their groupings, or break a rule.
use Rattle.std.proofs.Common.{◌⊎◌, inl, inr, List, [], ◌∷◌, refl, ap}
use Rattle.fort_base.specs.declared.refusal.Place.{Place}
use Rattle.fort_base.specs.declared.refusal.Rule.{Rule}
use Rattle.fort_tree.specs.declared.grouped.FlatGrouping.{FlatGrouping}
use Rattle.fort_tree.specs.declared.grouped.Grouped.{Grouped}
use Rattle.fort_tree.specs.declared.grouped.Row.{Row}
use Rattle.fort_group.specs.Answers.{IsGrouped, Breaks, EachAnswered, NeverBoth}
use Rattle.fort_group.specs.Components.{HasGroups, IsFirstBreak}
use Rattle.fort_front_law_decided.specs.Phases.{GroupingDecides}

abbrev HasOne : List Row → Type 0
HasOne rows = (groups : List FlatGrouping) × HasGroups rows groups

abbrev BreaksOne : List Row → Type 0
BreaksOne rows = (rule : Rule) × (at : Place) × IsFirstBreak rows rule at

module _ (each : EachAnswered) (never : NeverBoth) where
  -- the first one breaks a rule
  first_breaks : (row : Row) (rows : List Row)
      → ((rule : Rule) × (place : Place) × Breaks row rule place) → BreaksOne (row ∷ rows)
  first_breaks row rows b = (
    b.0,
    b.1,
    record {
      earlier = [];
      it = row;
      later = rows;
      order = refl;
      kept = tt;
      breaks = b.2;
    },
  )

  -- a later one does
  later_breaks : (row : Row) (rows : List Row) → ((g : Grouped) × IsGrouped row g)
      → BreaksOne rows → BreaksOne (row ∷ rows)
  later_breaks row rows g b = (
    b.0,
    b.1,
    record {
      earlier = row ∷ b.2.earlier;
      it = b.2.it;
      later = b.2.later;
      order = ap (λ z. row ∷ z) b.2.order;
      kept = (λ rule place x. never row g.0 rule place g.1 x, b.2.kept);
      breaks = b.2.breaks;
    },
  )

  behind : (row : Row) (rows : List Row) → ((g : Grouped) × IsGrouped row g)
      → HasOne rows ⊎ BreaksOne rows → HasOne (row ∷ rows) ⊎ BreaksOne (row ∷ rows)
  behind row rows g (inl gs) =
      inl (record { place = row.place; grouped = g.0 } ∷ gs.0, (refl, g.1, gs.1))
  behind row rows g (inr b) = inr (later_breaks row rows g b)

  step : (row : Row) (rows : List Row) → HasOne rows ⊎ BreaksOne rows
      → ((g : Grouped) × IsGrouped row g) ⊎ ((rule : Rule) × (place : Place) × Breaks row rule place)
      → HasOne (row ∷ rows) ⊎ BreaksOne (row ∷ rows)
  step row rows rest (inl g) = behind row rows g rest
  step row rows rest (inr b) = inr (first_breaks row rows b)

  pub groups_or_break : GroupingDecides
  groups_or_break [] = inl ([], tt)
  groups_or_break (row ∷ rows) = step row rows (groups_or_break rows) (each row)
