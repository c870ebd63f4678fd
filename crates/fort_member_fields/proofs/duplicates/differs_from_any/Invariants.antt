use Rattle.fort_member_fields.specs.Walks.{DifferAt}
use Rattle.fort_member_fields.proofs.Searches.{NoneTo}
use Rattle.fort_member_fields.proofs.duplicates.differs_from_any.Given as goal

abbrev pub invariant-loop-c : goal.invariant-loop-c
invariant-loop-c l = NoneTo (DifferAt l.own l.all l.b) l.extends l.c-index
