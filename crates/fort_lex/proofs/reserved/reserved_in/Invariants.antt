use Rattle.std.proofs.Common.{◌≡◌, drop}
use Rattle.fort_lex.specs.Spellings.{reserved_in}
use Rattle.fort_lex.proofs.reserved.reserved_in.Given as goal

abbrev pub invariant-loop-word : goal.invariant-loop-word
invariant-loop-word l = reserved_in (drop l.word-index l.words) l.text ≡ reserved_in l.words l.text
