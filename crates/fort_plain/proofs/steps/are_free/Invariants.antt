use Rattle.fort_store_effects.specs.Levels.{levels_of, seen}
use Rattle.fort_plain.proofs.Testing.{FreeYet}
use Rattle.fort_plain.proofs.steps.are_free.Given as goal

abbrev pub invariant-loop-at : goal.invariant-loop-at
invariant-loop-at l = FreeYet l.loc.0 l.«at» (seen (levels_of l.course.layers))
