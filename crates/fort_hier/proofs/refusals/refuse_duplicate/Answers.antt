use Rattle.std.proofs.Common.{refl, ◌∙◌}
use Rattle.fort_hier.proofs.FirstFound.{duplicate_by}
use Rattle.fort_hier.proofs.refusals.refuse_duplicate.Goals as goal

pub returns-in-Some-clause-err : goal.returns-in-Some-clause-err
returns-in-Some-clause-err c = (
  refl,
  duplicate_by c.as_slice.ensures (c.as_slice-2.ensures
      ∙ c.in_ok-tops.ensures) c.in-Some.is c.in_ok-first.ensures,
)

pub returns-clause-ok : goal.returns-clause-ok
returns-clause-ok c =
    duplicate_by c.as_slice.ensures (c.as_slice-2.ensures
    ∙ c.in_ok-tops.ensures) c.in-None.is c.in_ok-first.ensures
