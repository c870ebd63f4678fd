use Rattle.std.proofs.Common.{subst}
use Rattle.fort_frames_moves.specs.Turns.{ready_term}
use Rattle.fort_step_acting.specs.Only.{IsDealt}
use Rattle.fort_walk_turns.proofs.Dealing.{touches_store}
use Rattle.fort_walk_turns.proofs.Taking.{turns_on, enters_on}
use Rattle.fort_walk_turns.proofs.threads.goes_on.Goals as goal

pub turns-requires : goal.turns-requires
turns-requires c = record {
  may = turns_on c.args.program.now c.args.course c.args.place (ready_term c.args.ready)
      c.in-Turns.next c.in-Turns.output c.in-Turns.cost c.requires.thread.0.stands
      (subst (IsDealt c.args.program.now (ready_term c.args.ready)) c.in-Turns.is
      c.requires.dealt).0;
}

pub turns-requires-in-Enters : goal.turns-requires-in-Enters
turns-requires-in-Enters c = record {
  may = enters_on c.args.program.now c.args.course c.args.place (ready_term c.args.ready) _
      c.in-Enters.next _ c.requires.written c.requires.thread.0.stands
      (subst (IsDealt c.args.program.now (ready_term c.args.ready)) c.in-Enters.is
      c.requires.dealt).0 c.new.ensures;
}

pub touches-requires-clause-store : goal.touches-requires-clause-store
touches-requires-clause-store c =
    touches_store c.args.program.now (ready_term c.args.ready) c.args.deal c.requires.dealt
    c.requires.moves c.in_default.not-Turns c.in_default.not-Enters
