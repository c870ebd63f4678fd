use Rattle.fort_over.proofs.CoverLaws.{covered_told}
use Rattle.fort_over.proofs.covering.is_covered.Goals as goal

pub returns : goal.returns
returns c =
    λ h t. covered_told h c.args.set.now _ c.args.asked.now c.args.at c.args.object _
    c.as_slice.ensures (c.some_covers.ensures h t)
