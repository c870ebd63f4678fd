use Rattle.fort_frames_moves.specs.Turns.{AreOver}
use Rattle.fort_frames_moves.proofs.across.next_part.Given as goal

abbrev pub invariant-loop-at : goal.invariant-loop-at
invariant-loop-at l = AreOver l.parts l.from l.«at»
