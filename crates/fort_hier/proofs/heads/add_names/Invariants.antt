use Rattle.std.proofs.Common.{◌≡◌, ◌++◌, drop, map}
use Rattle.fort_hier.specs.Heads.{name_of}
use Rattle.fort_hier.proofs.heads.add_names.Given as goal

abbrev pub invariant-loop-next : goal.invariant-loop-next
invariant-loop-next l =
    l.list ++ map name_of (drop l.next-index l.others) ≡ l.initial.list ++ map name_of l.others
