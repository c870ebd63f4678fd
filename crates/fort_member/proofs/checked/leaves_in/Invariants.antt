use Rattle.std.proofs.Common.{◌≡◌, map, take}
use Rattle.fort_types_sets.specs.Leaves.{is_leaf}
use Rattle.fort_member.proofs.checked.leaves_in.Given as goal

abbrev pub invariant-loop-declared : goal.invariant-loop-declared
invariant-loop-declared l = l.leaves ≡ map is_leaf (take l.declared-index l.types)
