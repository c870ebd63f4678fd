use Rattle.std.proofs.Common.{◌≡◌, true, false, sym, ◌∙◌, subst}
use Rattle.fort_frames_moves.specs.Turns.{ready_term}
use Rattle.fort_step_acting.specs.Only.{IsDealt}
use Rattle.fort_plain.proofs.Stepping.{no_row}
use Rattle.fort_plain.proofs.steps.dealt.Goals as goal

pub returns-then-is_stuck : goal.returns-then-is_stuck
returns-then-is_stuck c =
    no_row c.args.program.now c.args.course c.args.place (ready_term c.args.ready) c.args.turn
    c.args.loc.0 c.requires.thread
    (subst (IsDealt c.args.program.now (ready_term c.args.ready))
    (c.is_stuck.ensures.0 c.if-is_stuck.true) c.requires.dealt)

pub goes_on-requires-clause-moves : goal.goes_on-requires-clause-moves
goes_on-requires-clause-moves c = λ e. let z : true ≡ false =
    sym (c.is_stuck.ensures.1 e) ∙ c.if-is_stuck.false in absurd cc
