use Rattle.std.proofs.Common.{◌≡◌, take}
use Rattle.std.specs.List.{flat_map}
use Rattle.fort_tree.specs.Limits.{type_places}
use Rattle.fort_tree_limits.specs.Census.{counted}
use Rattle.fort_tree_limits.proofs.census.Count.types.Given as goal

abbrev pub invariant-loop-declared : goal.invariant-loop-declared
invariant-loop-declared l =
    l.self ≡ counted l.fn.self
    (flat_map (λ d. type_places d.declaration) (take l.declared-index l.declared-items))
