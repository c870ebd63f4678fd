use Rattle.std.proofs.Common.{Err, subst}
use Rattle.std.proofs.lemmas.Result.{IfOk-weaker}
use Rattle.fort_lex.specs.Files.{Answers}
use Rattle.fort_run.proofs.Refused.{tokens_unshown}
use Rattle.fort_run.proofs.show.show_file.Goals as goal

pub returns-in-Ok : goal.returns-in-Ok
returns-in-Ok c =
    IfOk-weaker c.show_tokens.result _ _
    (λ a says. says c.args.file.now (rw c.as_slice.ensures at c.in-Ok.ensures.answer))
    c.show_tokens.ensures

pub returns-in-Err : goal.returns-in-Err
returns-in-Err c =
    IfOk-weaker c.refused_by.result _ _
    (λ a e. tokens_unshown c.args.name c.args.file.now c.in-Err.fault a
    (subst (λ x. Answers x (Err c.in-Err.fault)) c.as_slice.ensures c.in-Err.ensures.answer)
    e)
    c.refused_by.ensures
