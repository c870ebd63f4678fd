use Rattle.fort_core.proofs.Weighing.{lifts-many}
use Rattle.fort_core.proofs.release.many.Goals as goal

pub returns-in-Some : goal.returns-in-Some
returns-in-Some c =
    let s = c.replace_last-last.ensures in
    rw c.in-Some.is
    (lifts-many c.args.parts s.0 _ _ _ c.in-Some.waiting c.put.result s.1 s.2
    c.last_to_front.ensures c.put.ensures)
