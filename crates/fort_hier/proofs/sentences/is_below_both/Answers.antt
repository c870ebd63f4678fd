use Rattle.std.proofs.Common.{◌↔◌, IsTrue, subst}
use Rattle.fort_hier.specs.Walks.{SomeExcluding}
use Rattle.fort_hier.proofs.ByRows.{both_told}
use Rattle.fort_hier.proofs.sentences.is_below_both.Goals as goal

pub returns : goal.returns
returns c =
    both_told _ _ _ _ c.requires.rows c.requires.inside (subst (λ z. IsTrue c.any_excluding.result
    ↔ SomeExcluding c.args.types.now z c.args.a) c.as_slice.ensures c.any_excluding.ensures)
