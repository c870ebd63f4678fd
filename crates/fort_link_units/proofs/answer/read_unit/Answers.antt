use Rattle.std.proofs.Common.{subst}
use Rattle.fort_tree.specs.Openers.{FirstDeep}
use Rattle.fort_link_units.specs.Answer.{TooDeep, opened}
use Rattle.fort_link_units.proofs.answer.read_unit.Goals as goal

pub returns-in-Some : goal.returns-in-Some
returns-in-Some c =
    let deep = rw c.in-Some.is at c.in_ok-place.ensures in
    TooDeep (subst (λ l. FirstDeep (opened l) c.in-Some.place) c.as_slice.ensures deep)
