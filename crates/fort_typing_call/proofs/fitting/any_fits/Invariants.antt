use Rattle.std.proofs.Common.{◌≡◌, drop}
use Rattle.fort_typing_known.specs.Read.{facts}
use Rattle.fort_typing_call.specs.Fitting.{any_fits}
use Rattle.fort_typing_call.proofs.fitting.any_fits.Given as goal

abbrev pub invariant-loop-member : goal.invariant-loop-member
invariant-loop-member l =
    any_fits (facts l.known) l.widening l.types l.members
    ≡ any_fits (facts l.known) l.widening l.types (drop l.member-index l.members)
