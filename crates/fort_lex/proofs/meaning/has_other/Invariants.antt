use Rattle.std.proofs.Common.{◌≡◌, drop}
use Rattle.fort_lex.specs.Spellings.{has_other}
use Rattle.fort_lex.proofs.meaning.has_other.Given as goal

abbrev pub invariant-loop-i : goal.invariant-loop-i
invariant-loop-i l = has_other l.letter (drop l.i l.word) ≡ has_other l.letter l.word
