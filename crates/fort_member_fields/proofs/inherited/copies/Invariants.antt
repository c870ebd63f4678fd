use Rattle.std.proofs.Common.{◌≡◌, take}
use Rattle.fort_member_fields.proofs.inherited.copies.Given as goal

abbrev pub invariant-loop-list : goal.invariant-loop-list
invariant-loop-list l = l.made ≡ take l.list-index l.lists
