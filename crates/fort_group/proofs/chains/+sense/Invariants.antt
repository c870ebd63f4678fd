use Rattle.std.proofs.Common.{◌≡◌, drop}
use Rattle.fort_group.specs.Walks.{all_sensible}
use Rattle.fort_group.proofs.chains.+sense.Given as goal

abbrev pub invariant-are_sensible-loop-part : goal.invariant-are_sensible-loop-part
invariant-are_sensible-loop-part l = all_sensible l.parts ≡ all_sensible (drop l.part-index l.parts)
