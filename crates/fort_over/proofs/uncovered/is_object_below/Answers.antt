use Rattle.std.proofs.Common.{List, Bool, refl, ap, ◌∙◌}
use Rattle.fort_types.specs.Table.{is_set}
use Rattle.fort_over.proofs.CoverLaws.{object_told}
use Rattle.fort_over.proofs.uncovered.is_object_below.Goals as goal

pub returns : goal.returns
returns c =
    object_told c.args.table.now c.args.members.now c.args.object c.args.owner _ _
    c.if-not-is_object.ensures refl
    (c.set_at.ensures ∙ ap (λ
    (z : List (List Bool)). is_set z c.args.object.0 c.args.owner.0) c.as_slice.ensures)
