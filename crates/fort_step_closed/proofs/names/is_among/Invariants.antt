use Rattle.std.proofs.Common.{◌≡◌, drop}
use Rattle.fort_machine.specs.Scopes.{is_among}
use Rattle.fort_step_closed.proofs.names.is_among.Given as goal

abbrev pub invariant-loop-name : goal.invariant-loop-name
invariant-loop-name l =
    is_among l.variable l.name-items ≡ is_among l.variable (drop l.name-index l.name-items)
