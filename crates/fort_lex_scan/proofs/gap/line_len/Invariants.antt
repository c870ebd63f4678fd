use Rattle.std.proofs.Common.{◌≡◌, ◌+◌, drop}
use Rattle.std.specs.List.{prefix_len}
use Rattle.fort_lex_scan.specs.Gaps.{is_no_line_feed}
use Rattle.fort_lex_scan.proofs.gap.line_len.Given as goal

abbrev pub invariant-loop-i : goal.invariant-loop-i
invariant-loop-i l =
    l.i + prefix_len is_no_line_feed (drop l.i l.text) ≡ prefix_len is_no_line_feed l.text
