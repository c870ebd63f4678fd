use Rattle.std.proofs.Common.{◌∙◌}
use Rattle.fort_hier.proofs.FirstFound.{lowest_by}
use Rattle.fort_hier.proofs.refusals.refuse_broken.Goals as goal

pub returns-clause-ok : goal.returns-clause-ok
returns-clause-ok c =
    lowest_by c.args.types.now (c.as_slice.ensures
    ∙ c.in_ok-places.ensures) c.in-None.is c.lowest_broken.ensures
