use Rattle.std.proofs.Common.{◌≡◌, ℕ, ◌+◌, [], List, Option, Some, None, MatchOption}
use Rattle.fort_core.specs.declared.pick.Pick.{Pick}
use Rattle.fort_core.specs.Nodes.{work}
use Rattle.fort_core.proofs.pick.drop_all.Given as goal

abbrev pub work_left : Option Pick → List Pick → ℕ
work_left None left = 0
work_left (Some p) left = work p left + 1

abbrev pub invariant-picks : goal.invariant-picks
invariant-picks l = MatchOption l.hand (l.left ≡ []) (λ p. Unit {0})

abbrev pub decreases-picks : goal.decreases-picks
decreases-picks l = work_left l.hand l.left
