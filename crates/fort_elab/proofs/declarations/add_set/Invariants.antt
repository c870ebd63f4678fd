use Rattle.std.proofs.Common.{◌≡◌, ◌++◌, drop, map, Some}
use Rattle.fort_elab_meaning.specs.Programs.{declarations_from}
use Rattle.fort_elab.proofs.declarations.add_set.Given as goal

abbrev pub invariant-loop-at : goal.invariant-loop-at
invariant-loop-at l =
    map Some l.list ++ declarations_from l.terms l.set l.at (drop l.at l.members)
    ≡ map Some l.fn.list ++ declarations_from l.terms l.set 0 l.members
