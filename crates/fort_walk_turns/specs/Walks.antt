-- Chapter "Journals": what a walk of a program comes to. Which thread goes on is free, and the code
-- gives each its turn; the definition takes any run.
use Rattle.std.specs.Prelude.{ℕ}
use Rattle.fort_core.specs.declared.program.Program.{Program}
use Rattle.fort_walk_course.specs.Calls.{IsRun}
use Rattle.fort_walk_turns.specs.Stops.{StopsShort}
use Rattle.fort_walk_turns.specs.declared.walked.Walked.{Walked}
use Rattle.fort_walk_turns.specs.declared.walked.Walked.TheVariants as walked

-- A walk of a program with a fuel comes to the end of a run, which is completed, uncaught or out of
-- fuel; or it stops short of one, since a machine of the program can't go on.
abbrev pub Walks : Program → ℕ → Walked → Type 0
Walks p fuel (walked.Ran r) = IsRun p fuel r
Walks p fuel walked.Stuck = StopsShort p
