-- The chapter "Components and APIs": files as units over one table of names and texts, and the first
-- file that is none. The code reads one file after another.
use Rattle.std.specs.Prelude.{◌≡◌, ℕ, List, [], ◌∷◌}
use Rattle.fort_base.specs.declared.refusal.Place.{Place}
use Rattle.fort_base.specs.declared.refusal.Rule.{Rule}
use Rattle.fort_lex_token.specs.declared.token.Token.{Token}
use Rattle.fort_lex_token.specs.declared.token.Tokens.{Tokens}
use Rattle.fort_lex.specs.Files.{HasTokens, BreaksRule}
use Rattle.fort_link_table.specs.declared.table.Table.{Table}
use Rattle.fort_link_table.specs.Table.{joined, after}
use Rattle.fort_link_units.specs.declared.unit.Unit.{Unit}
use Rattle.fort_link_units.specs.Answer.{IsUnit, BreaksUnit}
use Rattle.fort_link.specs.Lines.{lines, taken_off}

-- A file has these tokens, and in the whole, behind the files that a table is of, they are this
-- unit.
pub record IsUnitOf (table : Table) (file : List ℕ) (tokens : Tokens) (unit : Unit) : Type 0 where
  pub has : HasTokens file tokens
  pub is : IsUnit (joined table tokens) unit

-- The files are these units, one file behind another, from a table on to a last one.
abbrev pub AreUnits : Table → List (List ℕ) → List Unit → Table → Type 0
AreUnits table [] units last = (units ≡ []) × (last ≡ table)
AreUnits table (file ∷ files) units last = (tokens : Tokens) × (unit : Unit) × (rest : List Unit)
    × (units ≡ unit ∷ rest) × IsUnitOf table file tokens unit
    × AreUnits (after table tokens (lines file)) files rest last

-- where a place of a file's tokens in the whole stands in the file; a file without tokens has no
-- place there but its first
abbrev pub place_in_file : ℕ → List Token → Place → Place
place_in_file before [] at = at
place_in_file before (t ∷ ts) at = taken_off before at

-- A file behind those that a table is of breaks this rule, at this place of its own: one of 101 to
-- 107; or, where it has tokens, one of 202, 201 and 203.
pub data BreaksFile (table : Table) (file : List ℕ) (rule : Rule) (place : Place) : Type 0 where
  lexing : BreaksRule file rule place → BreaksFile table file rule place
  reading : (tokens : Tokens) (at : Place) → HasTokens file tokens
      → BreaksUnit (joined table tokens) rule.0 at
      → place ≡ place_in_file table.lines tokens.list at → BreaksFile table file rule place
