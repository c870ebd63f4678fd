-- Chapter "Terms and threads": where the marks of steps stand in the terms of a run.
use Rattle.std.specs.Prelude.{◌≡◌, ℕ, Bool, List, [], ◌∷◌, ◌++◌}
use Rattle.fort_core.specs.declared.program.Program.{Program}
use Rattle.fort_core.specs.declared.term.Term.{Term, Stepped}
use Rattle.fort_machine.specs.Effects.{Store}
use Rattle.fort_machine.specs.Ends.{open_yet, standing}
use Rattle.fort_machine.specs.Frames.{Frame, plug, part_number}
use Rattle.fort_machine.specs.Written.{WrittenProgram}
use Rattle.fort_machine.specs.Proper.{Reached}

-- The innermost of frames leaves out a part of a parallel form.
pub record LeavesPart (fs : List Frame) : Type 0 where
  pub outer : List Frame
  pub last : Frame
  pub number : ℕ
  pub are : fs ≡ outer ++ last ∷ []
  pub is_number : part_number last ≡ number ∷ []

-- In the term of each machine of a written program a mark stands round an open part of a parallel
-- form.
abbrev pub MarksStand : Type 0
MarksStand = (p : Program) → WrittenProgram p → (inner : Bool) (s : Store) (t : Term)
    → Reached p inner s t → (fs : List Frame) (a : Term) → t ≡ plug fs (Stepped a)
    → LeavesPart fs × (standing a ≡ open_yet)
