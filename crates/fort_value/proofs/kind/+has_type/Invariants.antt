use Rattle.std.proofs.Common.{◌≡◌, true, length, drop, map}
use Rattle.fort_types.specs.Relation.{each_below, relation}
use Rattle.fort_machine.specs.Types.{type_of}
use Rattle.fort_value.proofs.kind.+has_type.Given as goal

abbrev pub invariant-all_have-loop-i : goal.invariant-all_have-loop-i
invariant-all_have-loop-i l =
    (length l.left ≡ length l.right)
    × (each_below (map (relation l.program.types.below) (map (type_of l.program) l.parts)) true
    l.types
    ≡ each_below (map (relation l.program.types.below) (map (type_of l.program) (drop l.i l.left)))
    true (drop l.i l.right))
