use Rattle.fort_over.proofs.pairs.judged.Goals as goal

pub returns-in-Some : goal.returns-in-Some
returns-in-Some c = λ h s t l. let w = rw c.in-Some.is at (c.in_ok-rule.ensures h s t l)
    in (w, c.standing.ensures, c.standing-in-Some.ensures)
