use Rattle.std.proofs.Common.{◌≡◌, drop, false}
use Rattle.fort_lex_scan.specs.Words.{text_fault}
use Rattle.fort_lex_scan.proofs.word.text_fault.Given as goal

abbrev pub invariant-loop-i : goal.invariant-loop-i
invariant-loop-i l = text_fault l.i l.escaped (drop l.i l.text) ≡ text_fault 0 false l.text
