use Rattle.fort_ops.proofs.spellings.operator_in.Given as goal
use Rattle.fort_ops.proofs.Words.{IsNoneOf}

abbrev pub invariant-loop-spelling : goal.invariant-loop-spelling
invariant-loop-spelling l = IsNoneOf l.spelling-index l.table l.text
