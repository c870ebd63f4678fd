use Rattle.std.proofs.Common.{◌≡◌, drop}
use Rattle.fort_typing_known.specs.Read.{facts}
use Rattle.fort_typing_meaning.specs.Tests.{all_below}
use Rattle.fort_typing_parts.proofs.tests.all_below.Given as goal

abbrev pub invariant-loop-other : goal.invariant-loop-other
invariant-loop-other l =
    all_below (facts l.known) l.types l.ty
    ≡ all_below (facts l.known) (drop l.other-index l.types) l.ty
