use Rattle.std.proofs.Common.{◌≡◌, true, false, subst, sym, ◌∙◌}
use Rattle.fort_frames_moves.specs.Turns.{ready_term}
use Rattle.fort_step_acting.specs.Only.{IsDealt}
use Rattle.fort_walk_turns.proofs.threads.dealt.Goals as goal

pub stays-requires-clause-stuck : goal.stays-requires-clause-stuck
stays-requires-clause-stuck c =
    subst (IsDealt c.args.program.now (ready_term c.args.ready))
    (c.is_stuck.ensures.0 c.if-is_stuck.true) c.requires.dealt

pub goes_on-requires-clause-moves : goal.goes_on-requires-clause-moves
goes_on-requires-clause-moves c = λ e. let z : true ≡ false =
    sym (c.is_stuck.ensures.1 e) ∙ c.if-is_stuck.false in absurd cc
