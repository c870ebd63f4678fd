use Rattle.std.proofs.Common.{◌≡◌, ◌+◌, drop, false}
use Rattle.std.specs.Option.{option_map}
use Rattle.fort_lex_scan.specs.Scan.{text_end}
use Rattle.fort_lex_scan.proofs.word.text_end.Given as goal

abbrev pub invariant-loop-i : goal.invariant-loop-i
invariant-loop-i l =
    option_map (λ n. l.i + n) (text_end l.escaped (drop l.i l.text)) ≡ text_end false l.text
