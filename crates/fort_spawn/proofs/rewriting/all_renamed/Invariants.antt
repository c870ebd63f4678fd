use Rattle.std.proofs.Common.{◌≡◌, ◌++◌, map, take, drop}
use Rattle.fort_spawn.specs.Rewritten.{declared_as}
use Rattle.fort_spawn.proofs.rewriting.all_renamed.Given as goal

abbrev pub invariant-loop-declared : goal.invariant-loop-declared
invariant-loop-declared l =
    l.declared-items
    ≡ map (declared_as l.run l.names) (take l.declared-index l.fn.declarations)
    ++ drop l.declared-index l.fn.declarations
