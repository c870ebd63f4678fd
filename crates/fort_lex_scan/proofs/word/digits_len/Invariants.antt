use Rattle.std.proofs.Common.{◌≡◌, ◌+◌, drop, take, true}
use Rattle.std.specs.List.{prefix_len}
use Rattle.std.specs.Char.{is_ascii_digit}
use Rattle.fort_lex_scan.specs.Lists.{every}
use Rattle.fort_lex_scan.proofs.word.digits_len.Given as goal

abbrev pub invariant-loop-i : goal.invariant-loop-i
invariant-loop-i l =
    (l.i + prefix_len is_ascii_digit (drop l.i l.text) ≡ prefix_len is_ascii_digit l.text)
    × (every is_ascii_digit (take l.i l.text) ≡ true)
