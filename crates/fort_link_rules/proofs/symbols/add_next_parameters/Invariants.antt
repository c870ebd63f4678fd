use Rattle.std.proofs.Common.{◌≡◌, ◌++◌, take}
use Rattle.std.specs.List.{flat_map}
use Rattle.fort_tree.specs.declared.declarations.NextParameter.{NextParameter}
use Rattle.fort_link_rules.specs.Symbols.{type_symbols}
use Rattle.fort_link_rules.proofs.symbols.add_next_parameters.Given as goal

abbrev pub invariant-loop-next : goal.invariant-loop-next
invariant-loop-next l =
    l.out ≡ l.initial.out ++ flat_map (λ
    (x : NextParameter). type_symbols x.parameter.ty) (take l.next-index l.parameters)
