use Rattle.std.proofs.Common.{◌≡◌, take}
use Rattle.std.specs.Prelude.{map}
use Rattle.fort_tree.specs.Measured.{all_crowded}
use Rattle.fort_link_units.specs.Limits.{measured_api_declaration}
use Rattle.fort_tree_limits.specs.Earliest.{earliest}
use Rattle.fort_link_units.proofs.limits.Walk.declarations.Given as goal

abbrev pub invariant-loop-declared : goal.invariant-loop-declared
invariant-loop-declared l =
    l.self.earliest
    ≡ earliest l.fn.self.earliest
    (all_crowded
    (map (λ d. measured_api_declaration d.declaration) (take l.declared-index l.declared-items)))
