use Rattle.std.proofs.Common.{◌≡◌, ◌++◌, drop}
use Rattle.fort_elab_meaning.specs.Calls.{widened}
use Rattle.fort_elab_meaning.specs.Read.{given_of}
use Rattle.fort_elab_constants.proofs.calls.widened.Given as goal

abbrev pub invariant-loop-i : goal.invariant-loop-i
invariant-loop-i l =
    l.all ++ widened (given_of l.known) (drop l.i l.flags) (drop l.i l.terms)
    ≡ widened (given_of l.known) l.flags l.terms
