use Rattle.std.proofs.Common.{◌≡◌, ◌+◌, drop}
use Rattle.fort_typing_known.specs.Sets.{first_set, is_set_of}
use Rattle.fort_typing_known.proofs.sets.first_among.Given as goal

abbrev pub invariant-loop-set : goal.invariant-loop-set
invariant-loop-set l = (l.number ≡ l.set-index)
    × (first_set (is_set_of l.name l.dotted l.width) l.sets
    ≡ l.number + first_set (is_set_of l.name l.dotted l.width) (drop l.set-index l.sets))
