use Rattle.std.proofs.Common.{◌≡◌, subst, sym}
use Rattle.std.proofs.lemmas.Result.{IfOk-weaker}
use Rattle.fort_step_deal.specs.Deals.{act_of}
use Rattle.fort_machine.specs.Forms.{act}
use Rattle.fort_frames_moves.specs.Turns.{ready_term}
use Rattle.fort_step_acting.proofs.Acted.{dealt_called, dealt_other}
use Rattle.fort_step_acting.proofs.thread.acting_by.Goals as goal

pub called_by-requires-clause-runs : goal.called_by-requires-clause-runs
called_by-requires-clause-runs c =
    let p = c.args.tables.now.program.now in
    let a = ready_term c.args.ready.now in
    c.requires.runs c.in-Calls.set c.in-Calls.values
    (sym (subst (λ d. act_of d ≡ act p a) c.in-Calls.is c.in_ok-other.ensures))

pub returns-in-Calls : goal.returns-in-Calls
returns-in-Calls c =
    IfOk-weaker c.called_by.result _ _
    (λ d h. dealt_called c.args.tables.now.program.now (ready_term c.args.ready.now) c.in-Calls.set
    c.in-Calls.values d
    (subst (λ x. act_of x
    ≡ act c.args.tables.now.program.now (ready_term c.args.ready.now)) c.in-Calls.is
    c.in_ok-other.ensures) h) c.called_by.ensures

pub returns-in_default : goal.returns-in_default
returns-in_default c =
    dealt_other c.args.tables.now.program.now (ready_term c.args.ready.now) _ c.in_ok-other.ensures
    c.in_default.not-Calls
