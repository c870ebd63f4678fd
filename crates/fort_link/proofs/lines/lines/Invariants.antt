use Rattle.std.proofs.Common.{◌≡◌, ◌+◌, ◌==◌, count_by, take}
use Rattle.fort_link.proofs.lines.lines.Given as goal

abbrev pub invariant-loop-i : goal.invariant-loop-i
invariant-loop-i l = l.lines ≡ 1 + count_by (λ b. b == 10) (take l.i l.file)
