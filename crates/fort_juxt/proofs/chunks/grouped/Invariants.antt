use Rattle.std.proofs.Common.{◌≡◌, ◌≤◌, length, ◌-◌, ◌∷◌}
use Rattle.fort_juxt.specs.Loose.{joined as joined_left}
use Rattle.fort_juxt.specs.Walks.{groups_from}
use Rattle.fort_juxt.proofs.chunks.grouped.Given as goal

-- what is joined so far and the chunks that are left are joined to what all chunks are
abbrev pub invariant-loop-at : goal.invariant-loop-at
invariant-loop-at l = record {
  within : l.at ≤ length l.elements;
  joins : joined_left (groups_from l.elements 0)
      ≡ joined_left (l.grouping ∷ groups_from l.elements l.at);
}

abbrev pub decreases-loop-at : goal.decreases-loop-at
decreases-loop-at l = length l.elements - l.at
