-- Chapter "Journals": how far the root's output was written, while a walk goes on and at its end.
-- What open attempts printed isn't the root's yet.
use Rattle.std.specs.Prelude.{ℕ, List}
use Rattle.fort_port_output.specs.Written.{Change, HasWritten}
use Rattle.fort_port_output.specs.declared.progress.Progress.{Progress}
use Rattle.fort_store_effects.specs.Levels.{levels_of}
use Rattle.fort_walk_course.specs.declared.course.Course.{Course}
use Rattle.fort_walk_turns.specs.declared.walked.Walked.{Walked}
use Rattle.fort_walk_turns.specs.declared.walked.Walked.TheVariants as walked

-- What the root's run printed so far.
abbrev pub printed_by : Course → List ℕ
printed_by c = (levels_of c.layers).output

-- So far was written what a walk's run printed, where it came to a run's end.
abbrev pub HasWrittenOf : Type 0 → Change → Walked → Progress → Type 0
HasWrittenOf ready sink (walked.Ran r) p = HasWritten ready sink r.output p
HasWrittenOf ready sink walked.Stuck p = Unit {0}
