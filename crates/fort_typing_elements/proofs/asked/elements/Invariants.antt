use Rattle.std.proofs.Common.{◌≡◌, take, map}
use Rattle.fort_typing_rules.specs.Elements.{element}
use Rattle.fort_typing_elements.proofs.asked.elements.Given as goal

abbrev pub invariant-loop-part : goal.invariant-loop-part
invariant-loop-part l = l.all ≡ map element (take l.part-index l.parts)
