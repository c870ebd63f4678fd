use Rattle.std.proofs.Common.{◌≤◌, ◌-◌, List, ℕ, length, drop}
use Rattle.fort_lex_scan.specs.Chain.{Chain}
use Rattle.fort_lex_scan.specs.Gaps.{Part}
use Rattle.fort_lex_scan.proofs.gap.gap_len.Given as goal

abbrev pub invariant-loop-len : goal.invariant-loop-len
invariant-loop-len l = ((parts : List (List ℕ)) × Chain Part parts l.text (drop l.len l.text))
    × (l.len ≤ length l.text)

abbrev pub decreases-loop-len : goal.decreases-loop-len
decreases-loop-len l = length l.text - l.len
