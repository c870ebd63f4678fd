use Rattle.std.proofs.Common.{◌≡◌, drop}
use Rattle.fort_hier.specs.Tops.{has_self}
use Rattle.fort_hier.proofs.tops.any_self.Given as goal

abbrev pub invariant-loop-next : goal.invariant-loop-next
invariant-loop-next l = has_self (drop l.next-index l.others) ≡ has_self l.others
