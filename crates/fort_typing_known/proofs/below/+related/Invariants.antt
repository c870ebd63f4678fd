use Rattle.std.proofs.Common.{◌≡◌, length, drop, map}
use Rattle.fort_types.specs.Relation.{each_below, relation}
use Rattle.fort_typing_known.proofs.below.+related.Given as goal

abbrev pub invariant-all_related-loop-i : goal.invariant-all_related-loop-i
invariant-all_related-loop-i l =
    (length l.left ≡ length l.right)
    × (each_below (map (relation l.rows) l.xs) l.up l.ys
    ≡ each_below (map (relation l.rows) (drop l.i l.left)) l.up (drop l.i l.right))
