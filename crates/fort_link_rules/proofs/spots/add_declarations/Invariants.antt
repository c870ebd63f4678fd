use Rattle.std.proofs.Common.{◌≡◌, ◌++◌, take}
use Rattle.std.specs.List.{flat_map}
use Rattle.fort_tree.specs.Limits.{declaration_places}
use Rattle.fort_link_rules.proofs.spots.add_declarations.Given as goal

abbrev pub invariant-loop-declared : goal.invariant-loop-declared
invariant-loop-declared l =
    l.places ≡ l.initial.places
    ++ flat_map declaration_places (take l.declared-index l.declarations)
