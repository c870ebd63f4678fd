-- Chapter "Journals": while a run goes on its journal and its output only grow, each at its end.
-- The code keeps the picks of each machine; what open attempts picked and printed isn't the root's
-- yet.
use mathlib.Core.List.{IsPrefix}
use Rattle.fort_store_effects.specs.Levels.{levels_of}
use Rattle.fort_walk_course.specs.Picked.{root_picks}
use Rattle.fort_walk_course.specs.declared.course.Course.{Course}
use Rattle.fort_walk_course.specs.declared.ending.Ran.{Ran}
use Rattle.fort_walk_turns.specs.declared.next.Next.{Next}
use Rattle.fort_walk_turns.specs.declared.next.Next.TheVariants as next
use Rattle.fort_walk_turns.specs.declared.walked.Walked.{Walked}
use Rattle.fort_walk_turns.specs.declared.walked.Walked.TheVariants as walked

-- A run has gone on from a course: what the root's run picked and printed stands, and more of both
-- may stand behind it.
pub record GrowsFrom (old new : Course) : Type 0 where
  pub picks : IsPrefix (root_picks old) (root_picks new)
  pub output : IsPrefix (levels_of old.layers).output (levels_of new.layers).output

-- So has one that is at its end.
pub record EndsFrom (old : Course) (r : Ran) : Type 0 where
  pub picks : IsPrefix (root_picks old) r.journal.picks
  pub output : IsPrefix (levels_of old.layers).output r.output

-- What a walk comes to goes on from a course. Where it stops short of the end there is no run.
abbrev pub Concludes : Course → Walked → Type 0
Concludes old (walked.Ran r) = EndsFrom old r
Concludes old walked.Stuck = Unit {0}

-- What comes next goes on from a course.
abbrev pub Onward : Course → Next → Type 0
Onward old (next.Goes w) = GrowsFrom old w.going.course
Onward old (next.Ends x) = Concludes old x
