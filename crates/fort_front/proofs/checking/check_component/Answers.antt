use Rattle.std.proofs.Common.{◌≡◌, Ok, Err, rules}
use Rattle.fort_front.proofs.Refused.{of_rewritten}
use Rattle.fort_front.proofs.checking.check_component.Goals as goal

pub returns-in_err-program : goal.returns-in_err-program
returns-in_err-program c =
    let e : c.from_residual-in_err-program.result ≡ Err c.in_err-program.field-0.0 = search rules in
    rw e (of_rewritten c.args.parsed.component c.rewritten.new.parsed.component
    (Err c.in_err-program.field-0.0) c.in_ok-rewritten.ensures c.in_err-program.ensures)

pub returns : goal.returns
returns c =
    of_rewritten c.args.parsed.component c.rewritten.new.parsed.component
    (Ok c.in_ok-program.program) c.in_ok-rewritten.ensures c.in_ok-program.ensures
