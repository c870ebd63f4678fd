use Rattle.std.proofs.Common.{◌≡◌, take}
use Rattle.std.specs.Prelude.{map}
use Rattle.fort_tree.specs.Limits.{measured_trait_member}
use Rattle.fort_tree_limits.specs.Census.{counted}
use Rattle.fort_tree_limits.proofs.census.Count.trait_members.Given as goal

abbrev pub invariant-loop-entry : goal.invariant-loop-entry
invariant-loop-entry l =
    l.self ≡ counted l.fn.self
    (map (λ e. (measured_trait_member e.member).spot.place) (take l.entry-index l.entry-items))
