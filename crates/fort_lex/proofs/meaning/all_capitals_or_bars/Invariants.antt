use Rattle.std.proofs.Common.{◌≡◌, drop}
use Rattle.fort_lex_scan.specs.Lists.{every}
use Rattle.fort_lex.specs.Spellings.{is_capital_or_bar}
use Rattle.fort_lex.proofs.meaning.all_capitals_or_bars.Given as goal

abbrev pub invariant-loop-i : goal.invariant-loop-i
invariant-loop-i l = every is_capital_or_bar (drop l.i l.word) ≡ every is_capital_or_bar l.word
