use Rattle.std.proofs.Common.{◌≡◌, drop}
use Rattle.fort_lex.specs.Spellings.{mark_in}
use Rattle.fort_lex.proofs.marks.mark_in.Given as goal

abbrev pub invariant-loop-mark : goal.invariant-loop-mark
invariant-loop-mark l = mark_in (drop l.mark-index l.marks) l.text ≡ mark_in l.marks l.text
