use Rattle.fort_frames.specs.States.{Stands}
use Rattle.fort_plain.specs.Paths.{whole}
use Rattle.fort_plain.proofs.find.find.Given as goal

abbrev pub invariant-loop-turn : goal.invariant-loop-turn
invariant-loop-turn l = Stands l.clock (whole l.clock l.fn.state) l.state
