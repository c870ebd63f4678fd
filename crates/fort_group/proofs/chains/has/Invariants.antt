use Rattle.std.proofs.Common.{◌≡◌, drop}
use Rattle.fort_group.specs.Walks.{has_sense}
use Rattle.fort_group.proofs.chains.has.Given as goal

abbrev pub invariant-loop-op : goal.invariant-loop-op
invariant-loop-op l = has_sense l.wanted l.ops ≡ has_sense l.wanted (drop l.op-index l.ops)
