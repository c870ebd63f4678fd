use Rattle.std.proofs.Common.{◌<◌, length, sym, subst}
use Rattle.std.proofs.lemmas.Result.{IfOk-weaker}
use Rattle.fort_frames.specs.Frames.{frames}
use Rattle.fort_frames.specs.declared.place.Place.{Place}
use Rattle.fort_plain.proofs.Settling.{fewer}
use Rattle.fort_plain.proofs.aside.leave_frame.Goals as goal

pub returns-clause-shorter : goal.returns-clause-shorter
returns-clause-shorter c =
    IfOk-weaker c.out_of.result _ _
    (λ r e. subst (λ (b : Place). length (frames b.stack) < length (frames c.args.place.stack))
    (sym e)
    (fewer c.args.place c.in-Some.below c.in-Some.frame (rw c.in-Some.is at c.in_ok-leave.ensures)))
    c.out_of.ensures.below
