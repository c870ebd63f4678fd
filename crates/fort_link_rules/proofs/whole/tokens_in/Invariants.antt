use Rattle.std.proofs.Common.{◌≡◌, take}
use Rattle.fort_link_rules.specs.TooMuch.{token_places, whole_declarations}
use Rattle.fort_link_rules.proofs.whole.tokens_in.Given as goal

abbrev pub invariant-loop-unit : goal.invariant-loop-unit
invariant-loop-unit l =
    l.places ≡ token_places (whole_declarations (take l.unit-index l.units))
