use Rattle.std.proofs.Common.{◌≡◌, ◌++◌, take}
use Rattle.std.specs.List.{flat_map}
use Rattle.fort_tree.specs.declared.declarations.Declared.{Declared}
use Rattle.fort_tree_atoms.specs.AtomNames.{atoms_of_declaration}
use Rattle.fort_tree_atoms.proofs.declarations.add_declarations.Given as goal

abbrev pub invariant-loop-declared : goal.invariant-loop-declared
invariant-loop-declared l =
    l.names ≡ l.initial.names ++ flat_map (λ
    (x : Declared). atoms_of_declaration x.declaration) (take l.declared-index l.declarations)
