use Rattle.std.proofs.Common.{◌≡◌, length}
use Rattle.fort_frames.specs.Frames.{frames, rebuilt}
use Rattle.fort_hall_forms.proofs.after.around.Given as goal

abbrev pub invariant-loop-all : goal.invariant-loop-all
invariant-loop-all l =
    rebuilt 1 (frames l.rest) l.all ≡ rebuilt 1 (frames l.fn.stack) l.fn.part

abbrev pub decreases-loop-all : goal.decreases-loop-all
decreases-loop-all l = length (frames l.rest)
