use Rattle.std.proofs.Common.{◌≡◌, ◌≤◌, drop, true}
use Rattle.std.specs.Char.{is_ascii_digit}
use Rattle.fort_lex_scan.specs.Lists.{every}
use Rattle.fort_lex_scan.specs.Spelling.{decimal}
use Rattle.fort_lex_scan.proofs.word.number.Given as goal

abbrev pub invariant-loop-i : goal.invariant-loop-i
invariant-loop-i l = (decimal l.n (drop l.i l.digits) ≡ decimal 0 l.digits)
    × (every is_ascii_digit (drop l.i l.digits) ≡ true) × (l.n ≤ 9223372036854775807)
