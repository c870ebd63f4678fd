use Rattle.std.proofs.Common.{subst}
use Rattle.fort_frames_moves.specs.Turns.{ready_term}
use Rattle.fort_step_acting.specs.Only.{IsDealt}
use Rattle.fort_plain.proofs.Dealing.{touches_store}
use Rattle.fort_plain.proofs.Stepping.{turns_only, enters_only}
use Rattle.fort_plain.proofs.steps.goes_on.Goals as goal

pub turns-requires-clause-only : goal.turns-requires-clause-only
turns-requires-clause-only c =
    let h = subst (IsDealt c.args.program.now (ready_term c.args.ready.now)) c.in-Turns.is
    c.requires.dealt in
    turns_only c.args.program.now c.args.course c.args.place (ready_term c.args.ready.now)
    c.in-Turns.next c.in-Turns.output c.in-Turns.cost c.requires.thread h.0 h.1

pub turns-requires-in-Enters-clause-only : goal.turns-requires-in-Enters-clause-only
turns-requires-in-Enters-clause-only c =
    let h = subst (IsDealt c.args.program.now (ready_term c.args.ready.now)) c.in-Enters.is
    c.requires.dealt in
    enters_only c.args.program.now c.args.course c.args.place (ready_term c.args.ready.now) _
    c.in-Enters.next _ c.requires.written c.requires.thread h.0 h.1 c.new-output.ensures

pub touches-requires-clause-store : goal.touches-requires-clause-store
touches-requires-clause-store c =
    touches_store c.args.program.now (ready_term c.args.ready.now) c.args.deal c.requires.dealt
    c.requires.moves c.in_default.not-Turns c.in_default.not-Enters
