use Rattle.std.proofs.Common.{ap, ◌∙◌}
use Rattle.std.specs.Prelude.{map}
use Rattle.fort_tree.specs.declared.spot.Spot.{Spot}
use Rattle.fort_tree.specs.Measured.{Joined}
use Rattle.fort_tree.specs.Measuring.{measured_flat_part}
use Rattle.fort_tree_flats.proofs.Standing.{laid}
use Rattle.fort_tree_flats.proofs.laid.row.Goals as goal

pub returns : goal.returns
returns c = laid c.args.flat.now _ _ (ap (λ (s : Spot). s.place) c.unit_spot.ensures)
    (c.in_ok-joints.ensures
    ∙ ap (λ parts. map (λ
    (part : Joined). part.joint) (map measured_flat_part parts)) c.as_slice.ensures)
