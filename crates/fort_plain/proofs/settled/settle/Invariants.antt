use Rattle.std.proofs.Common.{length}
use Rattle.fort_frames.specs.Frames.{frames}
use Rattle.fort_plain.specs.Paths.{whole}
use Rattle.fort_plain.proofs.Settling.{SettledSoFar}
use Rattle.fort_plain.proofs.settled.settle.Given as goal

abbrev pub invariant-frames : goal.invariant-frames
invariant-frames l = SettledSoFar l.fn.clock (whole l.fn.clock l.fn.state) l.place l.settled

abbrev pub decreases-frames : goal.decreases-frames
decreases-frames l = length (frames l.place.stack)
