use Rattle.std.proofs.Common.{◌≡◌, ◌+◌, ◌<◌, drop, map}
use Rattle.std.specs.Prelude.{nat_le}
use Rattle.fort_machine.specs.Texts.{depth, greatest}
use Rattle.fort_step_closed.specs.Closed.{depth_of_held}
use Rattle.fort_step_closed.proofs.depths.+shallow.Given as goal

abbrev pub invariant-are_shallow-loop-part : goal.invariant-are_shallow-loop-part
invariant-are_shallow-loop-part l =
    (0 < l.most)
    × (nat_le (1 + greatest (map depth l.part-items)) l.most
    ≡ nat_le (1 + greatest (map depth (drop l.part-index l.part-items))) l.most)

abbrev pub invariant-holds_shallow-loop-pair : goal.invariant-holds_shallow-loop-pair
invariant-holds_shallow-loop-pair l =
    (0 < l.most)
    × (nat_le (1 + greatest (map depth_of_held l.pair-items)) l.most
    ≡ nat_le (1 + greatest (map depth_of_held (drop l.pair-index l.pair-items))) l.most)
