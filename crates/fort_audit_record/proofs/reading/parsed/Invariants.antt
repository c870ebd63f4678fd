use Rattle.std.proofs.Common.{◌≡◌, ℕ, List, ◌++◌, length, Some}
use Rattle.fort_audit_record.specs.declared.reader.Reader.{Reader}
use Rattle.fort_audit_record.specs.Reading.{begun, read_on}
use Rattle.fort_audit_record.proofs.reading.parsed.Given as goal

-- what was read, and what is left
pub record HasRead (bytes rest : List ℕ) (r : Reader) : Type 0 where
  pub front : List ℕ
  pub parts : bytes ≡ front ++ rest
  pub is_read : read_on (Some begun) front ≡ Some r

abbrev pub invariant-bytes : goal.invariant-bytes
invariant-bytes l = HasRead l.bytes l.rest l.reader

abbrev pub decreases-bytes : goal.decreases-bytes
decreases-bytes l = length l.rest
