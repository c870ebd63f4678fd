use Rattle.std.proofs.Common.{◌≡◌, ◌++◌, drop}
use Rattle.fort_hier.specs.Heads.{heads_from}
use Rattle.fort_hier.proofs.heads.heads_in.Given as goal

abbrev pub invariant-loop-body : goal.invariant-loop-body
invariant-loop-body l =
    l.list ++ heads_from l.body (drop l.body l.declarations) ≡ heads_from 0 l.declarations
