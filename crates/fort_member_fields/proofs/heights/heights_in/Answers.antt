use Rattle.fort_member_fields.proofs.HeightLaws.{heights_told}
use Rattle.fort_member_fields.proofs.heights.heights_in.Goals as goal

pub returns : goal.returns
returns c =
    heights_told c.args.types.now c.args.table.now _ _ c.requires.rows c.requires.sound
    c.as_slice.ensures c.counts_in.ensures
