use Rattle.std.proofs.Common.{subst}
use Rattle.fort_frames_moves.proofs.Kept.{on_turn}
use Rattle.fort_plain.specs.Paths.{IsSought, whole}
use Rattle.fort_plain.proofs.Marks.{same_marks}
use Rattle.fort_plain.proofs.Finding.{found_on}
use Rattle.fort_plain.proofs.find.find.Goals as goal

pub loop-turn-preserved : goal.loop-turn-preserved
loop-turn-preserved c =
    on_turn c.args.clock (whole c.args.clock c.args.state) c.loop-turn.state _ c.loop-turn.invariant
    (subst (IsSought c.args.clock (whole c.args.clock c.loop-turn.state) c.args.path.now)
    c.in-Moves.is c.in_ok-next.ensures)

pub one_thread-requires-clause-reached : goal.one_thread-requires-clause-reached
one_thread-requires-clause-reached c = c.loop-turn.invariant.reached

pub one_thread-requires-clause-marks : goal.one_thread-requires-clause-marks
one_thread-requires-clause-marks c =
    same_marks (whole c.args.clock c.args.state) (whole c.args.clock c.loop-turn.state)
    c.loop-turn.invariant.is_term c.requires.marks

pub returns-in-Stops : goal.returns-in-Stops
returns-in-Stops c =
    found_on c.args.clock _ _ c.args.path.now _ c.loop-turn.invariant.is_term
    (subst (IsSought c.args.clock (whole c.args.clock c.loop-turn.state) c.args.path.now)
    c.in-Stops.is c.in_ok-next.ensures)
