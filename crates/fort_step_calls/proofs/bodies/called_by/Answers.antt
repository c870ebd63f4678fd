use Rattle.std.proofs.Common.{sym}
use Rattle.std.proofs.lemmas.Result.{IfOk-weaker}
use Rattle.fort_step_calls.proofs.bodies.called_by.Goals as goal

pub returns : goal.returns
returns c =
    IfOk-weaker c.by_its_body.result _ _
    (λ deal e. (
      c.running-decl.ensures.0,
      c.running-decl.result.now,
      c.running-decl.ensures.1,
      sym e,
    )) c.by_its_body.ensures
