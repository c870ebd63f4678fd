use Rattle.std.proofs.Common.{take}
use Rattle.fort_group.specs.Components.{HasGroups}
use Rattle.fort_group.proofs.components.group_each.Given as goal

abbrev pub invariant-loop-row : goal.invariant-loop-row
invariant-loop-row l = HasGroups (take l.row-index l.rows) l.list
