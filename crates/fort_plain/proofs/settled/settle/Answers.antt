use Rattle.fort_plain.proofs.Settling.{settled_first, settled_out, settled_all, fewer}
use Rattle.fort_plain.proofs.settled.settle.Goals as goal

pub frames-init : goal.frames-init
frames-init c =
    settled_first c.args.clock c.args.state c.in_ok-settled.settled c.in_ok-settled.ensures

pub returns-in-None : goal.returns-in-None
returns-in-None c =
    settled_all _ _ c.frames.place c.frames.settled c.frames.invariant
    (rw c.in-None.is at c.in_ok-leave.ensures)

pub frames-preserved : goal.frames-preserved
frames-preserved c =
    settled_out _ _ c.frames.place c.in-Some.below c.in-Some.frame c.frames.settled _
    c.frames.invariant (rw c.in-Some.is at c.in_ok-leave.ensures)
    c.in_ok-settled-in-Some.ensures

pub frames-smaller : goal.frames-smaller
frames-smaller c =
    fewer c.frames.place c.in-Some.below c.in-Some.frame (rw c.in-Some.is at c.in_ok-leave.ensures)
