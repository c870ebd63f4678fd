use Rattle.std.proofs.Common.{length}
use Rattle.fort_frames.specs.Frames.{frames, rebuilt}
use Rattle.fort_plain.specs.Paths.{IsInside}
use Rattle.fort_plain.proofs.aside.aside.Given as goal

abbrev pub invariant-frames : goal.invariant-frames
invariant-frames l =
    IsInside l.clock (rebuilt l.clock (frames l.fn.place.stack) l.fn.part) l.keep l.path l.place
    l.part

abbrev pub decreases-frames : goal.decreases-frames
decreases-frames l = length (frames l.place.stack)
