use Rattle.std.proofs.Common.{◌≡◌, drop}
use Rattle.fort_link.specs.Whole.{executable}
use Rattle.fort_link.proofs.whole.executable.Given as goal

abbrev pub invariant-loop-export : goal.invariant-loop-export
invariant-loop-export l =
    executable l.names l.exports ≡ executable l.names (drop l.export-index l.exports)
