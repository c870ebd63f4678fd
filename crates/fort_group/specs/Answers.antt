-- The chapter "Operators", its refusals: what `group` answers. The code asks the four rules in
-- turn.
use Rattle.std.specs.Prelude.{◌≡◌, ℕ, List, length, Some, None, Result, Ok, Err, ◌⊎◌}
use Rattle.fort_base.specs.declared.rules.TheConstants.{MIXED_SPACING, NO_PRECEDENCE, SPACING_CONTRADICTS, BAD_CHAIN}
use Rattle.fort_base.specs.declared.refusal.Place.{Place}
use Rattle.fort_base.specs.declared.refusal.Rule.{Rule}
use Rattle.fort_base.specs.declared.refusal.CheckFault.{CheckFault}
use Rattle.fort_base.specs.declared.refusal.CheckFault.TheVariants.{Refused, Memory}
use Rattle.fort_tree.specs.declared.grouped.Joint.{Joint}
use Rattle.fort_tree.specs.declared.grouped.Row.{Row}
use Rattle.fort_tree.specs.declared.grouped.Grouped.{Grouped}
use Rattle.fort_group.specs.Grouping.{IsGrouping}
use Rattle.fort_group.specs.Spacing.{first_mixed, Agrees}
use Rattle.fort_group.specs.Chains.{IsSensible}

-- a grouping of the whole, and no other is there
abbrev pub IsOnly : List Joint → Grouped → Type 0
IsOnly joints g = IsGrouping joints 0 (length joints) g
    × ((h : Grouped) → IsGrouping joints 0 (length joints) h → g ≡ h)

-- A flat expression breaks one rule, and none of a lower number.
pub data Breaks (row : Row) : Rule → Place → Type 0 where
  mixed_spacing : {place : Place} → first_mixed row.joints ≡ Some place
      → Breaks row MIXED_SPACING place
  no_precedence :
      first_mixed row.joints ≡ None
      → ((h : Grouped) → IsGrouping row.joints 0 (length row.joints) h → ⊥)
      → Breaks row NO_PRECEDENCE row.place
  spacing_contradicts :
      {g : Grouped} → first_mixed row.joints ≡ None → IsOnly row.joints g
      → (Agrees row.joints g → ⊥)
      → Breaks row SPACING_CONTRADICTS row.place
  bad_chain :
      {g : Grouped} → first_mixed row.joints ≡ None → IsOnly row.joints g → Agrees row.joints g
      → (IsSensible g → ⊥)
      → Breaks row BAD_CHAIN row.place

-- A flat expression breaks no rule, and this is its one grouping.
pub record IsGrouped (row : Row) (g : Grouped) : Type 0 where
  pub even : first_mixed row.joints ≡ None
  pub only : IsOnly row.joints g
  pub agrees : Agrees row.joints g
  pub sensible : IsSensible g

-- the one grouping, or the lowest rule that is broken, with its place
abbrev pub Answers : Row → Result Grouped CheckFault → Type 0
Answers row (Ok g) = IsGrouped row g
Answers row (Err (Refused rule place)) = Breaks row rule place
Answers row (Err Memory) = Unit {0}

-- two groupings of the same units are one
abbrev pub OneAtMost : Type 0
OneAtMost = (joints : List Joint) (i j : ℕ) (g h : Grouped) → IsGrouping joints i j g
    → IsGrouping joints i j h → g ≡ h

-- a flat expression has a grouping that breaks no rule, or it breaks one
abbrev pub EachAnswered : Type 0
EachAnswered = (row : Row)
    → ((g : Grouped) × IsGrouped row g) ⊎ ((rule : Rule) × (place : Place) × Breaks row rule place)

-- and never both
abbrev pub NeverBoth : Type 0
NeverBoth = (row : Row) (g : Grouped) (rule : Rule) (place : Place) → IsGrouped row g
    → Breaks row rule place → ⊥

-- and it is refused by one rule, at one place
abbrev pub OneBreak : Type 0
OneBreak = (row : Row) (rule other : Rule) (place at : Place) → Breaks row rule place
    → Breaks row other at → (rule ≡ other) × (place ≡ at)
