use Rattle.std.proofs.Common.{◌≡◌, take}
use Rattle.std.specs.Prelude.{map}
use Rattle.fort_tree.specs.Measured.{all_crowded}
use Rattle.fort_tree.specs.Limits.{measured_trait_member}
use Rattle.fort_tree_limits.specs.Earliest.{earliest}
use Rattle.fort_tree_limits.proofs.walk.Walk.trait_members.Given as goal

abbrev pub invariant-loop-entry : goal.invariant-loop-entry
invariant-loop-entry l =
    l.self.earliest
    ≡ earliest l.fn.self.earliest
    (all_crowded (map (λ e. measured_trait_member e.member) (take l.entry-index l.entry-items)))
