use Rattle.std.proofs.Common.{subst}
use Rattle.fort_frames.specs.Frames.{frames, rebuilt}
use Rattle.fort_frames.specs.States.{term_at}
use Rattle.fort_frames_moves.specs.Turns.{IsTurn}
use Rattle.fort_frames_moves.specs.Sweeps.{Keeps, SweptTo}
use Rattle.fort_frames_moves.proofs.Kept.{on_turn, missed_on, misses_none}
use Rattle.fort_frames_moves.proofs.turn.moved.Goals as goal

pub returns-in-Stops-clause-sweeps : goal.returns-in-Stops-clause-sweeps
returns-in-Stops-clause-sweeps c =
    misses_none _ _ _ c.loop-turn.invariant.1
    (subst (Keeps (λ met. SweptTo met c.loop-turn.state)) c.in-Stops.is c.in_ok-next.ensures.sweeps)

pub loop-turn-preserved : goal.loop-turn-preserved
loop-turn-preserved c = (
  on_turn _ _ c.loop-turn.state _ c.loop-turn.invariant.0
      (subst (IsTurn c.args.clock
      (rebuilt c.args.clock (frames c.loop-turn.state.place.stack)
      (term_at c.loop-turn.state.«at»))) c.in-Moves.is c.in_ok-next.ensures.turns),
  missed_on _ c.loop-turn.state _ c.loop-turn.invariant.1
      (subst (Keeps (λ met. SweptTo met c.loop-turn.state)) c.in-Moves.is
      c.in_ok-next.ensures.sweeps),
)
