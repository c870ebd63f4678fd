use Rattle.std.proofs.Common.{◌≡◌, drop}
use Rattle.fort_typing_known.specs.Read.{facts}
use Rattle.fort_typing_call.specs.Fitting.{is_over}
use Rattle.fort_typing_call.proofs.fitting.is_over.Given as goal

abbrev pub invariant-loop-other : goal.invariant-loop-other
invariant-loop-other l =
    is_over (facts l.known) l.widening l.types l.one l.members
    ≡ is_over (facts l.known) l.widening l.types l.one (drop l.other-index l.members)
