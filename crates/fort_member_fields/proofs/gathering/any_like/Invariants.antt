use Rattle.fort_member_fields.specs.Walks.{IsLike}
use Rattle.fort_member_fields.proofs.Searches.{NoneTo}
use Rattle.fort_member_fields.proofs.gathering.any_like.Given as goal

abbrev pub invariant-loop-other : goal.invariant-loop-other
invariant-loop-other l = NoneTo (IsLike l.field) l.fields l.other-index
