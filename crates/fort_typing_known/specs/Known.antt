-- The chapter "Typing": what is known of a component where its expressions are typed.
use Rattle.std.specs.Prelude.{List, Option}
use Rattle.fort_base.specs.declared.ids.TypeId.{TypeId}
use Rattle.fort_base.specs.declared.table.TypeTable.{TypeTable}
use Rattle.fort_types_sets.specs.declared.member.Members.{Members}
use Rattle.fort_types.specs.Hierarchy.{DeclaredTypes}
use Rattle.fort_typing_known.specs.Spellings.{Spelling}

-- What the program looks up of a component where its expressions are typed.
pub record Facts : Type 0 where
  -- the rows of the declared types, and their names, by their numbers
  pub table : TypeTable
  pub types : List Spelling
  -- the component's names, by their numbers
  pub names : List Spelling
  -- its fields, its overload sets, and its variables at the top
  pub members : Members
  -- the type in whose declaration the expressions stand, where they stand in one
  pub owner : Option TypeId

-- What is known of a component where its expressions are typed: its declared types, and what is
-- looked up.
pub record Knows : Type 0 where
  pub declared : DeclaredTypes
  pub facts : Facts

-- the same in the declaration of another type, or in none
abbrev pub facts_within : Facts → Option TypeId → Facts
facts_within f owner = record f { owner = owner }

abbrev pub within : Knows → Option TypeId → Knows
within k owner = record k { facts = facts_within k.facts owner }
