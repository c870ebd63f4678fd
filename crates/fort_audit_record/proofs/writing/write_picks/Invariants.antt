use Rattle.std.proofs.Common.{◌≡◌, ◌++◌}
use Rattle.fort_audit_record.specs.Text.{picks_text, FitPicks}
use Rattle.fort_audit_record.proofs.Texts.{left_text, left_work, FitLeft}
use Rattle.fort_audit_record.proofs.writing.write_picks.Given as goal

abbrev pub invariant-picks : goal.invariant-picks
invariant-picks l = (l.out ++ left_text l.rest l.waiting ≡ l.initial.out ++ picks_text l.picks)
    × (FitLeft l.rest l.waiting → FitPicks l.picks)

abbrev pub decreases-picks : goal.decreases-picks
decreases-picks l = left_work l.rest l.waiting
