use Rattle.std.proofs.Common.{subst}
use Rattle.fort_frames_moves.specs.Turns.{ready_term}
use Rattle.fort_step_acting.specs.Only.{IsDealt}
use Rattle.fort_walk_turns.proofs.Dealing.{no_other}
use Rattle.fort_walk_turns.proofs.threads.touches.Goals as goal

pub asks-requires-clause-acts : goal.asks-requires-clause-acts
asks-requires-clause-acts c =
    (subst (IsDealt c.args.program.now (ready_term c.args.ready)) c.in-Asks.is c.requires.dealt).0

pub asks-requires-clause-only : goal.asks-requires-clause-only
asks-requires-clause-only c =
    (subst (IsDealt c.args.program.now (ready_term c.args.ready)) c.in-Asks.is c.requires.dealt).1

pub sets-requires-clause-acts : goal.sets-requires-clause-acts
sets-requires-clause-acts c =
    (subst (IsDealt c.args.program.now (ready_term c.args.ready)) c.in-Sets.is c.requires.dealt).0

pub sets-requires-clause-only : goal.sets-requires-clause-only
sets-requires-clause-only c =
    (subst (IsDealt c.args.program.now (ready_term c.args.ready)) c.in-Sets.is c.requires.dealt).1

pub abort-requires-clause-acts : goal.abort-requires-clause-acts
abort-requires-clause-acts c =
    (subst (IsDealt c.args.program.now (ready_term c.args.ready)) c.in-Ends.is c.requires.dealt).0

pub abort-requires-clause-only : goal.abort-requires-clause-only
abort-requires-clause-only c =
    (subst (IsDealt c.args.program.now (ready_term c.args.ready)) c.in-Ends.is c.requires.dealt).1

pub makes_some-requires-clause-acts : goal.makes_some-requires-clause-acts
makes_some-requires-clause-acts c =
    (subst (IsDealt c.args.program.now (ready_term c.args.ready)) c.in-Makes.is c.requires.dealt).0

pub unreachable-requires : goal.unreachable-requires
unreachable-requires c =
    no_other c.args.deal c.requires.store c.in_default.not-Asks c.in_default.not-Sets
    c.in_default.not-Makes c.in_default.not-Ends
