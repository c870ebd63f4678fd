use Rattle.std.proofs.Common.{◌≡◌, ◌++◌, length}
use Rattle.fort_audit_record.specs.Text.{further, FitPath}
use Rattle.fort_audit_record.proofs.writing.write_further.Given as goal

abbrev pub invariant-numbers : goal.invariant-numbers
invariant-numbers l = (l.out ++ further l.rest ≡ l.initial.out ++ further l.numbers)
    × (FitPath l.rest → FitPath l.numbers)

abbrev pub decreases-numbers : goal.decreases-numbers
decreases-numbers l = length l.rest
