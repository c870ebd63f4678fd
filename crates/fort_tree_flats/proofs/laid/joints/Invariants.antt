use Rattle.std.proofs.Common.{◌≡◌, take}
use Rattle.std.specs.Prelude.{map}
use Rattle.fort_tree.specs.Measured.{Joined}
use Rattle.fort_tree.specs.Measuring.{measured_flat_part}
use Rattle.fort_tree_flats.proofs.laid.joints.Given as goal

abbrev pub invariant-loop-part : goal.invariant-loop-part
invariant-loop-part l =
    l.joints ≡ map (λ
    (part : Joined). part.joint) (map measured_flat_part (take l.part-index l.parts))
