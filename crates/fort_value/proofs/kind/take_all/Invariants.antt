use Rattle.std.proofs.Common.{◌≡◌, ℕ, false, length, drop, map}
use Rattle.fort_base.specs.declared.ty.Ty.{Ty}
use Rattle.fort_types.specs.Relation.{each_below, relation}
use Rattle.fort_value.proofs.kind.take_all.Given as goal

abbrev pub invariant-loop-i : goal.invariant-loop-i
invariant-loop-i l =
    (length l.left ≡ length l.right)
    × (each_below (map (relation l.program.types.below) (map (λ (x : ℕ × Ty). x.1) l.parameters))
    false l.types
    ≡ each_below
    (map (relation l.program.types.below) (map (λ (x : ℕ × Ty). x.1) (drop l.i l.left))) false
    (drop l.i l.right))
