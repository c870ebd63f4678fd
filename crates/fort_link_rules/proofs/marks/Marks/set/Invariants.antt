use Rattle.std.proofs.Common.{ℕ, ◌≡◌, ◌+◌, ◌-◌, length, get_or}
use Rattle.fort_link_rules.proofs.marks.Marks.set.Given as goal

abbrev pub invariant-grow : goal.invariant-grow
invariant-grow l = (k : ℕ) → get_or l.self.marks k 0 ≡ get_or l.initial.self.marks k 0

abbrev pub decreases-grow : goal.decreases-grow
decreases-grow l = l.at + 1 - length l.self.marks
