use Rattle.std.proofs.Common.{◌≡◌, ◌++◌, drop, map, Some}
use Rattle.std.specs.List.{flat_map}
use Rattle.fort_elab_meaning.specs.Programs.{declarations_of_set}
use Rattle.fort_elab.proofs.declarations.declarations.Given as goal

abbrev pub invariant-loop-set : goal.invariant-loop-set
invariant-loop-set l =
    map Some l.list ++ flat_map (declarations_of_set l.terms) (drop l.set-index l.sets)
    ≡ flat_map (declarations_of_set l.terms) l.sets
