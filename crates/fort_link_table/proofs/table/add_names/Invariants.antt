use Rattle.std.proofs.Common.{◌≡◌, take}
use Rattle.fort_link_table.specs.Names.{grown}
use Rattle.fort_link_table.specs.Numbers.{HoldsNumbers}
use Rattle.fort_link_table.proofs.table.add_names.Given as goal

abbrev pub invariant-loop-i : goal.invariant-loop-i
invariant-loop-i l =
    (l.names ≡ grown l.fn.names (take l.i l.more)) × HoldsNumbers l.names l.known
