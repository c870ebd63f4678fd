-- The chapter "Operators", which refusal comes: what `groups` answers. The code lists the flat
-- expressions and groups one after another.
use Rattle.std.specs.Prelude.{◌≡◌, List, [], ◌∷◌, ◌++◌, Result, Ok, Err}
use Rattle.std.specs.List.{AllByRecursion}
use Rattle.fort_base.specs.declared.refusal.Place.{Place}
use Rattle.fort_base.specs.declared.refusal.Rule.{Rule}
use Rattle.fort_base.specs.declared.refusal.CheckFault.{CheckFault}
use Rattle.fort_base.specs.declared.refusal.CheckFault.TheVariants.{Refused, Memory}
use Rattle.fort_tree.specs.declared.declarations.Component.{Component}
use Rattle.fort_tree.specs.declared.grouped.FlatGrouping.{FlatGrouping}
use Rattle.fort_tree.specs.declared.grouped.Groups.{Groups}
use Rattle.fort_tree.specs.declared.grouped.Row.{Row}
use Rattle.fort_tree.specs.Limits.{flats}
use Rattle.fort_group.specs.Answers.{Breaks, IsGrouped}

-- Each flat expression breaks no rule and has its grouping, by its place, in the same order.
abbrev pub HasGroups : List Row → List FlatGrouping → Type 0
HasGroups [] [] = Unit {0}
HasGroups [] (group ∷ groups) = ⊥
HasGroups (row ∷ rows) [] = ⊥
HasGroups (row ∷ rows) (group ∷ groups) = (group.place ≡ row.place) × IsGrouped row group.grouped
    × HasGroups rows groups

-- A flat expression breaks no rule.
abbrev pub BreaksNone : Row → Type 0
BreaksNone row = (rule : Rule) (place : Place) → Breaks row rule place → ⊥

-- One of the flat expressions breaks this rule there, none of a lower number, and no earlier one
-- breaks any.
pub record IsFirstBreak (rows : List Row) (rule : Rule) (place : Place) : Type 0 where
  pub earlier : List Row
  pub it : Row
  pub later : List Row
  pub order : rows ≡ earlier ++ it ∷ later
  pub kept : AllByRecursion BreaksNone earlier
  pub breaks : Breaks it rule place

-- the groupings of the flat expressions, or the first rule that is broken, with its place
abbrev pub AnswersEach : List Row → Result (List FlatGrouping) CheckFault → Type 0
AnswersEach rows (Ok groups) = HasGroups rows groups
AnswersEach rows (Err (Refused rule place)) = IsFirstBreak rows rule place
AnswersEach rows (Err Memory) = Unit {0}

-- the groupings of a component's flat expressions, or the first rule that one of them breaks, with
-- its place
abbrev pub AnswersAll : Component → Result Groups CheckFault → Type 0
AnswersAll component (Ok groups) = HasGroups (flats component) groups.list
AnswersAll component (Err (Refused rule place)) = IsFirstBreak (flats component) rule place
AnswersAll component (Err Memory) = Unit {0}
