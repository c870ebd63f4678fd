use Rattle.std.proofs.Common.{◌≡◌, drop}
use Rattle.std.specs.List.{list_any}
use Rattle.fort_spawn.specs.Starts.{is_start}
use Rattle.fort_spawn.proofs.starts.starts.Given as goal

abbrev pub invariant-loop-declared : goal.invariant-loop-declared
invariant-loop-declared l =
    list_any (is_start l.names) l.declared-items
    ≡ list_any (is_start l.names) (drop l.declared-index l.declared-items)
