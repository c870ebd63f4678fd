use Rattle.std.proofs.Common.{◌≡◌, ◌++◌, map, take}
use Rattle.fort_machine.specs.Texts.{text, with_commas}
use Rattle.fort_value.proofs.texts.+write.Given as goal

abbrev pub invariant-write_parts-loop-i : goal.invariant-write_parts-loop-i
invariant-write_parts-loop-i l =
    l.out ≡ l.initial.out ++ with_commas (map (text l.program) (take l.i l.values))
