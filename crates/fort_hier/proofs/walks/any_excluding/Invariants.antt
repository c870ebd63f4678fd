use Rattle.std.proofs.Common.{◌≡◌, ◌<◌, ℕ, IsTrue, Some, length}
use Rattle.std.specs.List.{slice_get}
use Rattle.fort_types.specs.declared.hierarchy.DeclaredType.{DeclaredType}
use Rattle.fort_types.specs.Table.{is_set}
use Rattle.fort_hier.specs.Walks.{ExcludesAbove}
use Rattle.fort_hier.proofs.walks.any_excluding.Given as goal

abbrev pub invariant-loop-t : goal.invariant-loop-t
invariant-loop-t l = (k : ℕ) (d : DeclaredType) → k < l.t → slice_get l.types k ≡ Some d
    → IsTrue (is_set l.rows l.a k) × ExcludesAbove l.rows d.excludes l.a (length l.types) → ⊥
