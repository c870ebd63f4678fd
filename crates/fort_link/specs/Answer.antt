-- The chapter "Components and APIs": what linking files answers, the whole that they are or the
-- first broken rule with its file and its place there. The code reads all files first, and then
-- asks the rules on several units.
use Rattle.std.specs.Prelude.{◌≡◌, ℕ, List, ⊤, ◌∷◌, ◌++◌, Some, None, length, Result, Ok, Err}
use Rattle.fort_base.specs.declared.refusal.Rule.{Rule}
use Rattle.fort_tree.specs.declared.declarations.Component.{Component}
use Rattle.fort_spawn.specs.Rewritten.{spawns}
use Rattle.fort_link_table.specs.declared.table.Table.{Table}
use Rattle.fort_link_table.specs.Table.{empty_table}
use Rattle.fort_link_units.specs.declared.unit.Unit.{Unit}
use Rattle.fort_link_rules.specs.declared.reports.Broken.{Broken}
use Rattle.fort_link_rules.specs.Reports.{IsFirstBroken}
use Rattle.fort_link.specs.declared.answer.LinkFault.{LinkFault}
use Rattle.fort_link.specs.declared.answer.LinkFault.TheVariants as a_fault
use Rattle.fort_link.specs.declared.answer.Linked.{Linked}
use Rattle.fort_link.specs.declared.answer.Spot.{Spot}
use Rattle.fort_link.specs.Spots.{StandsIn}
use Rattle.fort_link.specs.Units.{AreUnits, BreaksFile}
use Rattle.fort_link.specs.Whole.{IsWhole}

-- The files are units that break none of the rules 701 to 707, and this component is their whole.
pub record IsLinked (files : List (List ℕ)) (c : Component) : Type 0 where
  pub units : List Unit
  pub table : Table
  pub are : AreUnits empty_table files units table
  pub keep : IsFirstBroken table.names units None
  pub whole : IsWhole table.names table.texts units c

-- The files break this rule, in this file, at this place there: the first file that is no unit
-- breaks it; or, where all are units, it is the one of 701 to 707 that is reported of them.
pub data BreaksLink (files : List (List ℕ)) (rule : Rule) (spot : Spot) : Type 0 where
  one : (front : List (List ℕ)) (file : List ℕ) (back : List (List ℕ)) (units : List Unit)
      (table : Table) → files ≡ front ++ file ∷ back → AreUnits empty_table front units table
      → BreaksFile table file rule spot.place → spot.file ≡ length front
      → BreaksLink files rule spot
  several : (units : List Unit) (table : Table) (broken : Broken)
      → AreUnits empty_table files units table → IsFirstBroken table.names units (Some broken)
      → broken.rule ≡ rule → StandsIn files broken.place spot → BreaksLink files rule spot

-- What is answered is what the files are; want of memory is free.
abbrev pub LinkAnswers : List (List ℕ) → Result Linked LinkFault → Type 0
LinkAnswers files (Ok it) = IsLinked files it.parsed.component
    × (it.spawns ≡ spawns it.parsed.component)
LinkAnswers files (Err (a_fault.Refused rule spot)) = BreaksLink files rule spot
LinkAnswers files (Err a_fault.Memory) = ⊤
