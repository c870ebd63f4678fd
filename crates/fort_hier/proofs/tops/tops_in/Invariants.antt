use Rattle.std.proofs.Common.{◌≡◌, ◌++◌, drop}
use Rattle.std.specs.List.{flat_map}
use Rattle.fort_hier.specs.Tops.{declared_top}
use Rattle.fort_hier.proofs.tops.tops_in.Given as goal

abbrev pub invariant-loop-declared : goal.invariant-loop-declared
invariant-loop-declared l =
    l.list ++ flat_map declared_top (drop l.declared-index l.declarations)
    ≡ flat_map declared_top l.declarations
