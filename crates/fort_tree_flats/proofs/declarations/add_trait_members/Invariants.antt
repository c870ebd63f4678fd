use Rattle.std.proofs.Common.{◌≡◌, ◌++◌, take}
use Rattle.std.specs.Prelude.{map}
use Rattle.fort_tree.specs.declared.declarations.TraitEntry.{TraitEntry}
use Rattle.fort_tree.specs.Limits.{measured_trait_member}
use Rattle.fort_tree.specs.Measured.{all_flats}
use Rattle.fort_tree_flats.proofs.declarations.add_trait_members.Given as goal

abbrev pub invariant-loop-entry : goal.invariant-loop-entry
invariant-loop-entry l =
    l.rows ≡ l.fn.rows
    ++ all_flats (map (λ
    (e : TraitEntry). measured_trait_member e.member) (take l.entry-index l.members))
