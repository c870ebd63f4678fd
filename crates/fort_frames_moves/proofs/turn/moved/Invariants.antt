use Rattle.std.proofs.Common.{List}
use Rattle.fort_core.specs.declared.term.Term.{Term}
use Rattle.fort_frames.specs.Frames.{frames, rebuilt}
use Rattle.fort_frames.specs.States.{term_at, Stands}
use Rattle.fort_frames_moves.specs.Sweeps.{SweptTo}
use Rattle.fort_frames_moves.proofs.turn.moved.Given as goal

abbrev pub invariant-loop-turn : goal.invariant-loop-turn
invariant-loop-turn l =
    Stands l.clock (rebuilt l.clock (frames l.fn.state.place.stack) (term_at l.fn.state.«at»))
    l.state
    × ((met : List Term) → SweptTo met l.fn.state → SweptTo met l.state)
