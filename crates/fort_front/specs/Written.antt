-- The chapter "Programs as written" of docs/MACHINE.md, of the programs that the check of tokens
-- gives.
use Rattle.std.specs.Prelude.{◌≤◌}
use Rattle.std.specs.List.{AllByRecursion}
use Rattle.fort_core.specs.declared.program.Program.{Program}
use Rattle.fort_lex_token.specs.declared.token.Token.{Token}
use Rattle.fort_lex_token.specs.declared.token.Tokens.{Tokens}
use Rattle.fort_tree.specs.Component.{HasTree}
use Rattle.fort_tree.specs.declared.declarations.Component.{Component}
use Rattle.fort_machine.specs.Written.{WrittenProgram}
use Rattle.fort_elab_law_matched.specs.Component.{StandApart}
use Rattle.fort_syntax.specs.Answer.{NamesAreIn}
use Rattle.fort_front.specs.Front.{IsAccepted, IsAcceptedComponent, IsAcceptedTree}

-- Tokens stand at places of their own, on lines from 1 on, and each number of a name among them is
-- in their table; those of a file do.
pub record AreInOrder (tokens : Tokens) : Type 0 where
  pub apart : StandApart tokens.list
  pub lines : AllByRecursion (λ (t : Token). 1 ≤ t.place.line) tokens.list
  pub named : NamesAreIn tokens.names tokens.list

-- The program of a component that keeps the rules behind the grammar is as it is written, where the
-- component is the tree of tokens that stand at places of their own.
abbrev pub AcceptedTreeIsWritten : Type 0
AcceptedTreeIsWritten = (tokens : Tokens) (c : Component) (program : Program)
    → StandApart tokens.list → HasTree tokens c → IsAcceptedTree c program → WrittenProgram program

-- The program of an accepted component is as it is written, where the component is the tree of
-- tokens that are in order.
abbrev pub AcceptedComponentIsWritten : Type 0
AcceptedComponentIsWritten = (tokens : Tokens) (c : Component) (program : Program)
    → AreInOrder tokens → HasTree tokens c → IsAcceptedComponent c program → WrittenProgram program

-- The program of accepted tokens that are in order is as it is written.
abbrev pub AcceptedIsWritten : Type 0
AcceptedIsWritten = (tokens : Tokens) (program : Program) → AreInOrder tokens
    → IsAccepted tokens program → WrittenProgram program
