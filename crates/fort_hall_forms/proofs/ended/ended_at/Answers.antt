use Rattle.std.proofs.Common.{subst}
use Rattle.fort_frames_moves.specs.Stands.{IsStand}
use Rattle.fort_frames_moves.specs.declared.stand.Stand.TheVariants as a_stand
use Rattle.fort_hall_forms.proofs.Ending.{completes, fails}
use Rattle.fort_hall_forms.proofs.ended.ended_at.Goals as goal

pub returns-in_ok-term-in-Value : goal.returns-in_ok-term-in-Value
returns-in_ok-term-in-Value c =
    completes c.args.end.now _ c.in_ok-term-in-Value.ensures
    (subst (λ t. IsStand t a_stand.Value) c.get.ensures
    (subst (IsStand c.get.result.now) c.in-Value.is c.standing_of.ensures))

pub returns-in_ok-term-in-Throw : goal.returns-in_ok-term-in-Throw
returns-in_ok-term-in-Throw c =
    fails c.args.end.now _ c.in_ok-term-in-Throw.ensures
    (subst (λ t. IsStand t a_stand.Throw) c.get.ensures
    (subst (IsStand c.get.result.now) c.in-Throw.is c.standing_of.ensures))
