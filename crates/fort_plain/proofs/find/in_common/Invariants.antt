use Rattle.std.proofs.Common.{◌≡◌, ◌≤◌, length, take}
use Rattle.fort_plain.proofs.find.in_common.Given as goal

abbrev pub invariant-loop-keep : goal.invariant-loop-keep
invariant-loop-keep l = (l.keep ≤ length l.other.0) × (take l.keep l.one.0 ≡ take l.keep l.other.0)
