use Rattle.std.proofs.Common.{length}
use Rattle.fort_frames.specs.Frames.{frames, rebuilt}
use Rattle.fort_plain.specs.Paths.{IsOpenAt}
use Rattle.fort_plain.proofs.awake.whole_term.Given as goal

abbrev pub invariant-frames : goal.invariant-frames
invariant-frames l =
    IsOpenAt l.clock (rebuilt l.clock (frames l.fn.place.stack) l.fn.form) l.place l.part

abbrev pub decreases-frames : goal.decreases-frames
decreases-frames l = length (frames l.place.stack)
