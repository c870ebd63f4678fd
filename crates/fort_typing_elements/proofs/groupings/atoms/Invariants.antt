use Rattle.std.proofs.Common.{◌≡◌, take, map}
use Rattle.fort_typing_elements.specs.Groupings.{atom}
use Rattle.fort_typing_elements.proofs.groupings.atoms.Given as goal

abbrev pub invariant-loop-element : goal.invariant-loop-element
invariant-loop-element l = l.all ≡ map atom (take l.element-index l.elements)
