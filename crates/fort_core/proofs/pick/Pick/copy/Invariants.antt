use Rattle.fort_core.specs.Stack.{Holds, at_turn, turns_left}
use Rattle.fort_core.proofs.pick.Pick.copy.Given as goal

abbrev pub invariant-turns : goal.invariant-turns
invariant-turns l = Holds l.self l.waiting (at_turn l.turn)

abbrev pub decreases-turns : goal.decreases-turns
decreases-turns l = turns_left l.turn l.waiting
