use Rattle.fort_plain.proofs.Replaying.{StandsIn}
use Rattle.fort_plain.proofs.journal.replay.Given as goal

abbrev pub invariant-loop-pick : goal.invariant-loop-pick
invariant-loop-pick l = StandsIn l.program l.journal l.pick-index l.going
