use Rattle.fort_hall_parts.specs.Parts.{AreOpen}
use Rattle.fort_hall_parts.proofs.divide.open_numbers.Given as goal

abbrev pub invariant-loop-at : goal.invariant-loop-at
invariant-loop-at l = AreOpen l.parts l.«at» l.numbers
