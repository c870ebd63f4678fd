use Rattle.std.proofs.lemmas.Result.{IfOk-weaker}
use Rattle.fort_run.specs.Reply.{OfProgram}
use Rattle.fort_run.proofs.Refused.{form_unaudited}
use Rattle.fort_run.proofs.audit.audit_tokens.Goals as goal

pub audit_program-requires : goal.audit_program-requires
audit_program-requires g c =
    c.accepted_is_written.ensures.tokens c.args.tokens.now c.in-Ok.program c.requires
    c.in-Ok.ensures

pub returns-in-Ok-clause-means : goal.returns-in-Ok-clause-means
returns-in-Ok-clause-means g c =
    IfOk-weaker c.audit_program.result _ _
    (λ a means file has. OfProgram c.in-Ok.program
    (record { tokens = c.args.tokens.now; has = has; accepted = c.in-Ok.ensures }) means)
    c.audit_program.ensures.means

pub returns-in-Err-clause-means : goal.returns-in-Err-clause-means
returns-in-Err-clause-means g c =
    IfOk-weaker c.refused_by.result _ _
    (λ a e file has. form_unaudited c.args.name file _ _ c.args.tokens.now c.in-Err.fault a has
    c.in-Err.ensures e)
    c.refused_by.ensures
