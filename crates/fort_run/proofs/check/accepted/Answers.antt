use Rattle.std.proofs.Common.{refl}
use Rattle.std.proofs.lemmas.Result.{IfOk-weaker}
use Rattle.fort_run.specs.Reply.{Accepts}
use Rattle.fort_run.proofs.Refused.{form_unaccepted}
use Rattle.fort_run.proofs.check.accepted.Goals as goal

pub returns-in-Ok : goal.returns-in-Ok
returns-in-Ok c file has =
    Accepts _ (record { tokens = c.args.tokens.now; has = has; accepted = c.in-Ok.ensures }) refl

pub returns-in-Err : goal.returns-in-Err
returns-in-Err c =
    IfOk-weaker c.refused_by.result _ _
    (λ a e file has. form_unaccepted c.args.name file c.args.tokens.now c.in-Err.fault a has
    c.in-Err.ensures e)
    c.refused_by.ensures
