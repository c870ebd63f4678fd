use Rattle.std.proofs.Common.{◌≡◌, drop}
use Rattle.fort_link.specs.Whole.{components, main_head}
use Rattle.fort_link.proofs.whole.main_head.Given as goal

abbrev pub invariant-loop-unit : goal.invariant-loop-unit
invariant-loop-unit l =
    main_head l.names (components l.units)
    ≡ main_head l.names (components (drop l.unit-index l.units))
