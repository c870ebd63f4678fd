use Rattle.std.proofs.Common.{◌≡◌, take}
use Rattle.std.specs.Prelude.{map}
use Rattle.fort_core.specs.declared.term.Term as term
use Rattle.fort_frames_moves.proofs.turn.as_terms.Given as goal

abbrev pub invariant-loop-value : goal.invariant-loop-value
invariant-loop-value l = l.all ≡ map term.Value (take l.value-index l.value-items)
