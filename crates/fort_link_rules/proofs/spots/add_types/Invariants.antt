use Rattle.std.proofs.Common.{◌≡◌, ◌++◌, take}
use Rattle.std.specs.List.{flat_map}
use Rattle.fort_tree.specs.declared.declarations.Declared.{Declared}
use Rattle.fort_tree.specs.Limits.{type_places}
use Rattle.fort_link_rules.proofs.spots.add_types.Given as goal

abbrev pub invariant-loop-declared : goal.invariant-loop-declared
invariant-loop-declared l =
    l.places ≡ l.initial.places ++ flat_map (λ
    (d : Declared). type_places d.declaration) (take l.declared-index l.declarations)
