use Rattle.std.proofs.Common.{◌≡◌, take}
use Rattle.std.specs.List.{flat_map}
use Rattle.fort_tree.specs.Limits.{declaration_places}
use Rattle.fort_link_rules.specs.TooMuch.{whole_declarations}
use Rattle.fort_link_rules.proofs.whole.declarations_in.Given as goal

abbrev pub invariant-loop-unit : goal.invariant-loop-unit
invariant-loop-unit l =
    l.places ≡ flat_map declaration_places (whole_declarations (take l.unit-index l.units))
