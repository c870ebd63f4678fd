use Rattle.std.proofs.Common.{Err, subst}
use Rattle.std.proofs.lemmas.Result.{IfOk-weaker}
use Rattle.fort_lex.specs.Files.{Answers}
use Rattle.fort_run.proofs.Refused.{tokens_unaudited}
use Rattle.fort_run.proofs.audit.audit_file.Goals as goal

pub audit_tokens-requires : goal.audit_tokens-requires
audit_tokens-requires g c =
    c.file_is_in_order.ensures c.args.file.now c.in-Ok.tokens
    (rw c.as_slice.ensures at c.in-Ok.ensures.answer)

pub returns-in-Ok-clause-means : goal.returns-in-Ok-clause-means
returns-in-Ok-clause-means g c =
    IfOk-weaker c.audit_tokens.result _ _
    (λ a means. means c.args.file.now (rw c.as_slice.ensures at c.in-Ok.ensures.answer))
    c.audit_tokens.ensures.means

pub returns-in-Err-clause-means : goal.returns-in-Err-clause-means
returns-in-Err-clause-means g c =
    IfOk-weaker c.refused_by.result _ _
    (λ a e. tokens_unaudited c.args.name c.args.file.now _ _ c.in-Err.fault a
    (subst (λ x. Answers x (Err c.in-Err.fault)) c.as_slice.ensures c.in-Err.ensures.answer)
    e)
    c.refused_by.ensures
