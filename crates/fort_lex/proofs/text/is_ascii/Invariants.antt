use Rattle.std.proofs.Common.{◌≡◌, drop}
use Rattle.fort_lex_scan.specs.Lists.{same}
use Rattle.fort_lex.proofs.text.is_ascii.Given as goal

abbrev pub invariant-loop-i : goal.invariant-loop-i
invariant-loop-i l = same (drop l.i l.bytes) (drop l.i l.word) ≡ same l.bytes l.word
