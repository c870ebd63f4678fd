-- The program of a component is as it is written.
use Rattle.std.specs.Prelude.{ℕ, List}
use Rattle.fort_core.specs.declared.program.Program.{Program}
use Rattle.fort_machine.specs.Written.{WrittenProgram}
use Rattle.fort_hier.specs.declared.accepted.Hierarchy.{Hierarchy}
use Rattle.fort_types_sets.specs.declared.member.Members.{Members}
use Rattle.fort_form_typed.specs.declared.component.Typed.{Typed}
use Rattle.fort_elab_meaning.specs.Programs.{IsProgramOf}
use Rattle.fort_elab_law_written.specs.Matching.{Matches}

-- The program of a typed component that matches its members is as it is written.
abbrev pub ProgramIsWritten : Type 0
ProgramIsWritten = (h : Hierarchy) (m : Members) (texts : List (List ℕ)) (typed : Typed)
    (p : Program) → IsProgramOf h m texts typed p → Matches m texts typed → WrittenProgram p
