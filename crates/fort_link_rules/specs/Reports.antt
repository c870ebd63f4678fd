-- The chapter "Components and APIs": which rule of 701 to 707 is reported, and where. The code asks
-- one rule after another.
use Rattle.std.specs.Prelude.{ℕ, ◌≡◌, ◌≤◌, List, Option, Some, None}
use Rattle.fort_base.specs.Places.{IsEarliest}
use Rattle.fort_base.specs.declared.refusal.Place.{Place}
use Rattle.fort_base.specs.declared.rules.TheConstants.{DUPLICATE_UNIT, UNKNOWN_API, NOT_ONE_EXPORTER, NOT_PROVIDED, NOT_ONE_MAIN, NOT_IMPORTED, TOO_MUCH}
use Rattle.fort_tree.specs.Tokens.{Spellings}
use Rattle.fort_link_units.specs.declared.unit.Unit.{Unit}
use Rattle.fort_link_rules.specs.declared.reports.Broken.{Broken}
use Rattle.fort_link_rules.specs.Heads.{IsDuplicate, IsUnknown, IsNotOneExporter, IsNotOneMain}
use Rattle.fort_link_rules.specs.Imported.{IsNotImported}
use Rattle.fort_link_rules.specs.Provided.{IsNotProvided}
use Rattle.fort_link_rules.specs.TooMuch.{IsTooMuch}

-- The units of all files break a rule at a place.
pub data Breaks (names : Spellings) (units : List Unit) (rule : ℕ) (place : Place) : Type 0 where
  duplicate : rule ≡ DUPLICATE_UNIT.0 → IsDuplicate names units place
      → Breaks names units rule place
  unknown : rule ≡ UNKNOWN_API.0 → IsUnknown names units place → Breaks names units rule place
  exported : rule ≡ NOT_ONE_EXPORTER.0 → IsNotOneExporter units place
      → Breaks names units rule place
  provided : rule ≡ NOT_PROVIDED.0 → IsNotProvided units place → Breaks names units rule place
  main : rule ≡ NOT_ONE_MAIN.0 → IsNotOneMain names units place → Breaks names units rule place
  imported : rule ≡ NOT_IMPORTED.0 → IsNotImported units place → Breaks names units rule place
  much : rule ≡ TOO_MUCH.0 → IsTooMuch units place → Breaks names units rule place

-- A rule is broken there at the earliest, and no rule of a lower number is broken.
pub record IsReported (names : Spellings) (units : List Unit) (rule : ℕ)
    (place : Place) : Type 0 where
  pub earliest : IsEarliest (Breaks names units rule) place
  pub lowest : (other : ℕ) (at : Place) → Breaks names units other at → rule ≤ other

-- The broken rule of the lowest number at its earliest place, or none where none is broken.
abbrev pub IsFirstBroken : Spellings → List Unit → Option Broken → Type 0
IsFirstBroken names units None =
    (rule : ℕ) (place : Place) → Breaks names units rule place → ⊥
IsFirstBroken names units (Some broken) = IsReported names units broken.rule.0 broken.place

-- ---- of the rules from a number on

-- A rule is broken there at the earliest, and none from the bound on of a lower number.
pub record IsReportedFrom (names : Spellings) (units : List Unit) (bound : ℕ)
    (broken : Broken) : Type 0 where
  pub earliest : IsEarliest (Breaks names units broken.rule.0) broken.place
  pub above : bound ≤ broken.rule.0
  pub lowest : (rule : ℕ) (place : Place) → bound ≤ rule → Breaks names units rule place
      → broken.rule.0 ≤ rule

-- The broken rule of the lowest number from the bound on, or none where none of these is broken.
abbrev pub IsFirstBrokenFrom : Spellings → List Unit → ℕ → Option Broken → Type 0
IsFirstBrokenFrom names units bound None =
    (rule : ℕ) (place : Place) → bound ≤ rule → Breaks names units rule place → ⊥
IsFirstBrokenFrom names units bound (Some broken) = IsReportedFrom names units bound broken
