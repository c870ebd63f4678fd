use Rattle.std.proofs.Common.{◌≡◌, ◌+◌, drop}
use Rattle.fort_member.specs.Declarations.{self_among}
use Rattle.fort_form_walk.proofs.methods.position_behind.Given as goal

abbrev pub invariant-loop-next : goal.invariant-loop-next
invariant-loop-next l =
    l.position + self_among (drop l.next-index l.others) ≡ 1 + self_among l.others
