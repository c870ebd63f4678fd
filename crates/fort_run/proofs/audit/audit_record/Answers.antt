use Rattle.std.proofs.Common.{refl, subst}
use Rattle.std.proofs.lemmas.Result.{IfOk-weaker}
use Rattle.fort_audit.specs.Audits.{Audits}
use Rattle.fort_audit.specs.declared.answer.Audited.TheVariants.{Yes, NotARun, OtherOutput}
use Rattle.fort_run.proofs.audit.audit_record.Goals as goal

pub returns-in-NotARun : goal.returns-in-NotARun
returns-in-NotARun c =
    IfOk-weaker c.record_refused.result _ _
    (λ a e. (
      NotARun c.in-NotARun.at,
      subst (Audits c.args.program.now c.args.kept) c.in-NotARun.is c.in_ok-at.ensures,
      e,
    ))
    c.record_refused.ensures

pub returns-in-OtherOutput : goal.returns-in-OtherOutput
returns-in-OtherOutput c =
    IfOk-weaker c.record_refused-in-OtherOutput.result _ _
    (λ a e. (
      OtherOutput c.in-OtherOutput.at,
      subst (Audits c.args.program.now c.args.kept) c.in-OtherOutput.is c.in_ok-at.ensures,
      e,
    )) c.record_refused-in-OtherOutput.ensures

pub returns-in-Yes : goal.returns-in-Yes
returns-in-Yes c =
    (Yes, subst (Audits c.args.program.now c.args.kept) c.in-Yes.is c.in_ok-at.ensures, refl)
