use Rattle.std.proofs.Common.{◌≡◌, ◌++◌, take}
use Rattle.std.specs.Prelude.{map}
use Rattle.fort_tree.specs.declared.declarations.ObjectEntry.{ObjectEntry}
use Rattle.fort_tree.specs.Limits.{measured_object_member}
use Rattle.fort_tree.specs.Measured.{all_flats}
use Rattle.fort_tree_flats.proofs.declarations.add_object_members.Given as goal

abbrev pub invariant-loop-entry : goal.invariant-loop-entry
invariant-loop-entry l =
    l.rows ≡ l.fn.rows
    ++ all_flats (map (λ
    (e : ObjectEntry). measured_object_member e.member) (take l.entry-index l.members))
