use Rattle.std.proofs.Common.{◌≡◌, drop}
use Rattle.fort_lex_scan.specs.Places.{has_line_feed}
use Rattle.fort_lex_scan.proofs.place.gap_kind.Given as goal

abbrev pub invariant-loop-i : goal.invariant-loop-i
invariant-loop-i l = has_line_feed (drop l.i l.gap) ≡ has_line_feed l.gap
