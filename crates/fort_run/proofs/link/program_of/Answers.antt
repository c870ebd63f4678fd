use Rattle.fort_run.specs.Reply.{in_whole}
use Rattle.fort_run.proofs.Linked.{unlinked}
use Rattle.fort_run.proofs.link.program_of.Goals as goal

pub check_component-requires : goal.check_component-requires
check_component-requires c = c.in_ok-whole.ensures.1

pub returns-in-Ok : goal.returns-in-Ok
returns-in-Ok c = record {
  whole = c.in_ok-whole.whole.parsed.component;
  linked = c.in_ok-whole.ensures.0;
  accepted = c.in-Ok.ensures;
}

pub returns-in-Err-Refused : goal.returns-in-Err-Refused
returns-in-Err-Refused c =
    in_whole c.in_ok-whole.whole.parsed.component c.in-Err-Refused.place
    c.in_ok-whole.ensures.0
    (rw c.in-Err-Refused.field-0-is at c.in-Err-Refused.ensures)
    c.spot.ensures

pub returns-in_err-whole : goal.returns-in_err-whole
returns-in_err-whole c =
    unlinked c.args.files.now c.from_residual.result c.in_err-whole.field-0.0
    c.from_residual.ensures.1 c.in_err-whole.ensures
