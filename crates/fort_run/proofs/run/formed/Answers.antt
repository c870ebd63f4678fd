use Rattle.fort_run.specs.Reply.{Runs}
use Rattle.fort_run.specs.Tasks.{writing_of}
use Rattle.fort_run.proofs.Refused.{form_refused}
use Rattle.fort_run.proofs.run.formed.Goals as goal

pub returns-in-Ok : goal.returns-in-Ok
returns-in-Ok c = (
  record {
    may = c.requires.may c.in-Ok.program c.in-Ok.ensures;
    texts = λ e. c.requires.texts c.in-Ok.program c.in-Ok.ensures;
  },
  λ reply tells file has. Runs c.in-Ok.program
      (record { tokens = c.args.tokens.now; has = has; accepted = c.in-Ok.ensures }) tells,
)

pub returns-in_ok-refused_by-in-Err : goal.returns-in_ok-refused_by-in-Err
returns-in_ok-refused_by-in-Err c file has =
    form_refused (writing_of c.args.writes) c.args.name file c.args.fuel c.args.tokens.now
    c.in-Err.fault _ has c.in-Err.ensures c.in_ok-refused_by-in-Err.ensures
