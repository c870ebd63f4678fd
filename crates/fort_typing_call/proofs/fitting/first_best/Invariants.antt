use Rattle.std.proofs.Common.{◌≡◌, drop}
use Rattle.fort_typing_known.specs.Read.{facts}
use Rattle.fort_typing_call.specs.Fitting.{first_best}
use Rattle.fort_typing_call.proofs.fitting.first_best.Given as goal

abbrev pub invariant-loop-member : goal.invariant-loop-member
invariant-loop-member l =
    first_best (facts l.known) l.widening l.types l.members l.members
    ≡ first_best (facts l.known) l.widening l.types l.members (drop l.member-index l.members)
