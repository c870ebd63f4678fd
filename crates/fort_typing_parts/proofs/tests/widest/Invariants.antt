use Rattle.std.proofs.Common.{◌≡◌, drop}
use Rattle.fort_typing_known.specs.Read.{facts}
use Rattle.fort_typing_meaning.specs.Tests.{first_widest}
use Rattle.fort_typing_parts.proofs.tests.widest.Given as goal

abbrev pub invariant-loop-ty : goal.invariant-loop-ty
invariant-loop-ty l =
    first_widest (facts l.known) l.types l.types
    ≡ first_widest (facts l.known) l.types (drop l.ty-index l.types)
