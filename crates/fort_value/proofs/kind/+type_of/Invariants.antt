use Rattle.std.proofs.Common.{◌≡◌, ◌++◌, drop, map}
use Rattle.fort_machine.specs.Types.{type_of}
use Rattle.fort_value.proofs.kind.+type_of.Given as goal

abbrev pub invariant-types_of-loop-value : goal.invariant-types_of-loop-value
invariant-types_of-loop-value l =
    l.types ++ map (type_of l.program) (drop l.value-index l.value-items)
    ≡ map (type_of l.program) l.value-items
