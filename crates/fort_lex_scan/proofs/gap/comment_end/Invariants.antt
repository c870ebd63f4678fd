use Rattle.std.proofs.Common.{◌≡◌, ◌+◌, ◌≤◌, drop}
use Rattle.std.specs.Option.{option_map}
use Rattle.fort_lex_scan.specs.Scan.{comment_end}
use Rattle.fort_lex_scan.specs.declared.gap.Before.TheVariants.{Other}
use Rattle.fort_lex_scan.proofs.gap.comment_end.Given as goal

abbrev pub invariant-loop-i : goal.invariant-loop-i
invariant-loop-i l =
    (option_map (λ n. l.i + n) (comment_end l.depth l.mark (drop l.i l.text))
    ≡ comment_end 0 Other l.text) × (l.depth ≤ l.i)
