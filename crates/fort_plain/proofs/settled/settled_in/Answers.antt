use Rattle.std.proofs.Common.{subst, sym}
use Rattle.fort_frames.specs.Frames.{frames_of}
use Rattle.fort_machine.specs.Frames.{plug}
use Rattle.fort_plain.specs.Paths.{IsSettled}
use Rattle.std.proofs.lemmas.Result.{IfOk-weaker}
use Rattle.fort_plain.proofs.Settling.{open_inside, throw_inside}
use Rattle.fort_plain.proofs.settled.settled_in.Goals as goal

pub returns-in-Value : goal.returns-in-Value
returns-in-Value c =
    IfOk-weaker c.value_in.result _ _
    (λ r k clock t h. subst (λ x. IsSettled (plug (frames_of clock c.args.frame) x) r)
    (sym (subst (IsSettled t) c.in-Value.is h)) (k clock)) c.value_in.ensures

pub returns-in-Throw : goal.returns-in-Throw
returns-in-Throw c = λ clock t h.
    throw_inside clock c.args.frame t c.in-Throw._value (subst (IsSettled t) c.in-Throw.is h)

pub returns-in-Open : goal.returns-in-Open
returns-in-Open c = λ clock t h.
    open_inside clock c.args.frame t (subst (IsSettled t) c.in-Open.is h)
