use Rattle.std.proofs.Common.{◌≡◌, map, take}
use Rattle.fort_member_fields.specs.Walks.{count_of}
use Rattle.fort_member_fields.proofs.heights.counts_in.Given as goal

abbrev pub invariant-loop-row : goal.invariant-loop-row
invariant-loop-row l = l.counts ≡ map count_of (take l.row-index l.rows)
