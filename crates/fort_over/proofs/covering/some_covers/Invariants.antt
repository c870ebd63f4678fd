use Rattle.fort_over.proofs.CoverLaws.{NoneCovers}
use Rattle.fort_over.proofs.covering.some_covers.Given as goal

abbrev pub invariant-loop-member : goal.invariant-loop-member
invariant-loop-member l = NoneCovers l.table l.members l.asked l.at l.object l.member-index
