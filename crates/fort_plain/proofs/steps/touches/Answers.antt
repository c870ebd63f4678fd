use Rattle.std.proofs.Common.{subst}
use Rattle.fort_frames_moves.specs.Turns.{ready_term}
use Rattle.fort_step_acting.specs.Only.{IsDealt}
use Rattle.fort_plain.proofs.Dealing.{no_other}
use Rattle.fort_plain.proofs.Stepping.{dealt_turns}
use Rattle.fort_plain.proofs.steps.touches.Goals as goal

pub asks-requires-clause-only : goal.asks-requires-clause-only
asks-requires-clause-only c =
    dealt_turns c.args.program.now c.args.course c.args.place (ready_term c.args.ready.now) _
    c.requires.thread
    (subst (IsDealt c.args.program.now (ready_term c.args.ready.now)) c.in-Asks.is c.requires.dealt)

pub sets-requires-clause-only : goal.sets-requires-clause-only
sets-requires-clause-only c =
    dealt_turns c.args.program.now c.args.course c.args.place (ready_term c.args.ready.now) _
    c.requires.thread
    (subst (IsDealt c.args.program.now (ready_term c.args.ready.now)) c.in-Sets.is c.requires.dealt)

pub makes_some-requires-clause-only : goal.makes_some-requires-clause-only
makes_some-requires-clause-only c =
    dealt_turns c.args.program.now c.args.course c.args.place (ready_term c.args.ready.now) _
    c.requires.thread
    (subst (IsDealt c.args.program.now (ready_term c.args.ready.now)) c.in-Makes.is
    c.requires.dealt)

pub aborts-requires-clause-only : goal.aborts-requires-clause-only
aborts-requires-clause-only c =
    dealt_turns c.args.program.now c.args.course c.args.place (ready_term c.args.ready.now) _
    c.requires.thread
    (subst (IsDealt c.args.program.now (ready_term c.args.ready.now)) c.in-Ends.is c.requires.dealt)

pub unreachable-requires : goal.unreachable-requires
unreachable-requires c =
    no_other c.args.deal c.requires.store c.in_default.not-Asks c.in_default.not-Sets
    c.in_default.not-Makes c.in_default.not-Ends
