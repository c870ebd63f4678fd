use Rattle.std.proofs.Common.{sym, subst}
use Rattle.std.specs.Prelude.{IfOk}
use Rattle.fort_plain.specs.Replays.{EndsAt}
use Rattle.fort_plain.proofs.Ending.{no_pick}
use Rattle.fort_plain.proofs.journal.ended.Goals as goal

pub finished-requires-clause-no_pick : goal.finished-requires-clause-no_pick
finished-requires-clause-no_pick c = no_pick c.args.ending.now c.in_default.not-OutOfFuel

pub returns-in-OutOfFuel : goal.returns-in-OutOfFuel
returns-in-OutOfFuel c =
    let g = c.args.going
    in subst (λ e. IfOk c.out_of_fuel.result
    (EndsAt c.args.program.now g.course.fuel g.course.picks e c.args.count))
    (sym c.in-OutOfFuel.is) c.out_of_fuel.ensures
