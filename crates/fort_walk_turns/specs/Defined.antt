-- Chapter "Calls": wherever a machine of a program comes to, each call runs one declaration. The
-- chapter "What is claimed" of docs/SOUNDNESS.md says so of each accepted program.
use Rattle.std.specs.Prelude.{Bool}
use Rattle.fort_core.specs.declared.program.Program.{Program}
use Rattle.fort_core.specs.declared.term.Term.{Term}
use Rattle.fort_machine.specs.Effects.{Store}
use Rattle.fort_machine.specs.OneDefinition.{IsOne}
use Rattle.fort_machine.specs.Proper.{Reached}

-- Wherever a machine of a program comes to, the root's or an attempt's at any depth, each call of
-- values has exactly one most specific applicable declaration, and that one isn't abstract. So it
-- is in each term of a run.
abbrev pub AlwaysOne : Program → Type 0
AlwaysOne p = (inner : Bool) (s : Store) (t : Term) → Reached p inner s t → IsOne p t
