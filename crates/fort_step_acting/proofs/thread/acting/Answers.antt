use Rattle.std.proofs.Common.{◌≡◌, subst}
use Rattle.fort_step_deal.specs.Deals.{act_of}
use Rattle.fort_machine.specs.Forms.{act}
use Rattle.fort_frames_moves.specs.Turns.{ready_term}
use Rattle.fort_step_acting.proofs.Acted.{dealt_uncalled, dealt_called, dealt_other}
use Rattle.fort_step_acting.proofs.thread.acting.Goals as goal

pub returns-in-None : goal.returns-in-None
returns-in-None c =
    let a = ready_term c.args.ready.now in
    dealt_uncalled c.args.program.now a c.in-Calls.set c.in-Calls.values
    (subst (λ d. act_of d ≡ act c.args.program.now a) c.in-Calls.is c.in_ok-other.ensures)
    (rw c.in-None.is at c.in_ok-called-in-Calls.ensures)

pub returns-in-Calls : goal.returns-in-Calls
returns-in-Calls c =
    let a = ready_term c.args.ready.now in
    dealt_called c.args.program.now a c.in-Calls.set c.in-Calls.values c.in-Some.deal
    (subst (λ d. act_of d ≡ act c.args.program.now a) c.in-Calls.is c.in_ok-other.ensures)
    (rw c.in-Some.is at c.in_ok-called-in-Calls.ensures)

pub returns : goal.returns
returns c =
    dealt_other c.args.program.now (ready_term c.args.ready.now) _ c.in_ok-other.ensures
    c.in_default.not-Calls
