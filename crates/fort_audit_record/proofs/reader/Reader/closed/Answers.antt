use Rattle.std.proofs.Common.{sym, ◌∙◌}
use Rattle.std.proofs.lemmas.Result.{IfOk-weaker}
use Rattle.fort_audit_record.proofs.Lasts.{closed_is}
use Rattle.fort_audit_record.proofs.reader.Reader.closed.Goals as goal

pub returns-in-Some : goal.returns-in-Some
returns-in-Some c =
    IfOk-weaker c.put_pick.result _ _ (λ read h. h
    ∙ sym (closed_is c.args.self c.pop.new.self c.in-Some.field-0 c.in-Some.ensures))
    c.put_pick.ensures
