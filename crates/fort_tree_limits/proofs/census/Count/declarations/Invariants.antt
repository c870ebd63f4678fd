use Rattle.std.proofs.Common.{◌≡◌, take}
use Rattle.std.specs.List.{flat_map}
use Rattle.fort_tree.specs.Limits.{declaration_places}
use Rattle.fort_tree_limits.specs.Census.{counted}
use Rattle.fort_tree_limits.proofs.census.Count.declarations.Given as goal

abbrev pub invariant-loop-declared : goal.invariant-loop-declared
invariant-loop-declared l =
    l.self ≡ counted l.fn.self
    (flat_map declaration_places (take l.declared-index l.declared-items))
