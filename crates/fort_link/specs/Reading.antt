-- The chapter "Components and APIs", no definition of it: what is held of the files read so far. No
-- public clause cites it.
use Rattle.std.specs.Prelude.{◌≡◌, ℕ, Bool, false, ◌||◌, List, [], ◌∷◌, ◌++◌, ⊤, Result, Ok, Err}
use Rattle.std.specs.List.{list_any}
use Rattle.fort_base.specs.declared.refusal.CheckFault.{CheckFault}
use Rattle.fort_base.specs.declared.refusal.CheckFault.TheVariants as a_check
use Rattle.fort_lex_token.specs.declared.token.Token.{Token}
use Rattle.fort_lex_token.specs.declared.token.Tokens.{Tokens}
use Rattle.fort_spawn.specs.Rewritten.{has_spawn}
use Rattle.fort_link_table.specs.Table.{empty_table, after}
use Rattle.fort_link_units.specs.declared.unit.Unit.{Unit}
use Rattle.fort_link_units.specs.declared.unit.Unit.TheVariants as a_unit
use Rattle.fort_link_units.specs.Said.{component_tokens}
use Rattle.fort_link.specs.declared.answer.LinkFault.{LinkFault}
use Rattle.fort_link.specs.declared.answer.LinkFault.TheVariants as a_fault
use Rattle.fort_link.specs.declared.reading.Read.{Read}
use Rattle.fort_link.specs.Lines.{lines}
use Rattle.fort_link.specs.Units.{IsUnitOf, AreUnits, BreaksFile}
use Rattle.fort_link.specs.Answer.{BreaksLink}

-- whether the word `spawn` stands in a unit that is a component
abbrev pub unit_spawns : Unit → Bool
unit_spawns (a_unit.Component u) = has_spawn (component_tokens u)
unit_spawns (a_unit.Api a) = false

-- the same of a unit with these tokens
abbrev pub spawns_by : Unit → List Token → Bool
spawns_by (a_unit.Component u) ts = has_spawn ts
spawns_by (a_unit.Api a) ts = false

-- a fault of a file by its number
abbrev pub in_file : ℕ → CheckFault → LinkFault
in_file file (a_check.Refused rule place) =
    a_fault.Refused rule (record { file = file; place = place })
in_file file a_check.Memory = a_fault.Memory

-- The files were read as units, and it is known whether `spawn` stands in a component.
pub record HasRead (files : List (List ℕ)) (read : Read) : Type 0 where
  pub units : AreUnits empty_table files read.units read.table
  pub spawns : read.spawns ≡ list_any unit_spawns read.units

-- what a further file adds
pub record Adds (old : Read) (file : List ℕ) (new : Read) : Type 0 where
  pub tokens : Tokens
  pub unit : Unit
  pub is : IsUnitOf old.table file tokens unit
  pub table : new.table ≡ after old.table tokens (lines file)
  pub units : new.units ≡ old.units ++ unit ∷ []
  pub spawns : new.spawns ≡ (old.spawns || unit_spawns unit)

-- what reading a further file answers
abbrev pub AddAnswers : Read → List ℕ → Read → Result ⊤ CheckFault → Type 0
AddAnswers old file new (Ok u) = Adds old file new
AddAnswers old file new (Err (a_check.Refused rule place)) = BreaksFile old.table file rule place
AddAnswers old file new (Err a_check.Memory) = ⊤

-- what reading all files answers
abbrev pub ReadAnswers : List (List ℕ) → Result Read LinkFault → Type 0
ReadAnswers files (Ok read) = HasRead files read
ReadAnswers files (Err (a_fault.Refused rule spot)) = BreaksLink files rule spot
ReadAnswers files (Err a_fault.Memory) = ⊤
