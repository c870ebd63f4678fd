use Rattle.std.proofs.Common.{◌≡◌, ◌≤◌, ◌<◌, ◌+◌, drop}
use Rattle.fort_lex_scan.specs.Places.{place_after}
use Rattle.fort_lex_scan.proofs.place.place_after.Given as goal

abbrev pub invariant-loop-i : goal.invariant-loop-i
invariant-loop-i l =
    (place_after (record { line = l.line; column = l.column }) (drop l.i l.text)
    ≡ place_after l.fn.from l.text)
    × (l.line + l.column ≤ l.fn.from.line + l.fn.from.column + l.i) × (0 < l.column)
