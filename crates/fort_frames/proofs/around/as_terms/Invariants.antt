use Rattle.std.proofs.Common.{◌≡◌, take}
use Rattle.std.specs.Prelude.{map}
use Rattle.fort_core.specs.declared.term.Term as term
use Rattle.fort_frames.proofs.around.as_terms.Given as goal

abbrev pub invariant-loop-item : goal.invariant-loop-item
invariant-loop-item l = l.all ≡ map term.Value (take l.item-index l.item-items)
