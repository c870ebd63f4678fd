use Rattle.std.proofs.Common.{◌≡◌, ◌++◌, take}
use Rattle.std.specs.Prelude.{map}
use Rattle.fort_tree.specs.declared.declarations.Declared.{Declared}
use Rattle.fort_tree.specs.Limits.{measured_declaration}
use Rattle.fort_tree.specs.Measured.{all_flats}
use Rattle.fort_tree_flats.proofs.declarations.add_declarations.Given as goal

abbrev pub invariant-loop-declared : goal.invariant-loop-declared
invariant-loop-declared l =
    l.rows ≡ l.fn.rows
    ++ all_flats (map (λ
    (e : Declared). measured_declaration e.declaration) (take l.declared-index l.declarations))
