-- The chapter "Operators": the nodes of a grouping. The code walks over them once for each rule.
use Rattle.std.specs.Prelude.{List, Contains}
use Rattle.fort_ops.specs.declared.op.Op.{Op}
use Rattle.fort_tree.specs.declared.grouped.Grouped.{Grouped, out-Grouped}
use Rattle.fort_tree.specs.declared.grouped.Grouped as tree
use Rattle.fort_tree.specs.declared.grouped.Grouped.TheOpen.{Grouped-F}

-- the second tree is the first one, or stands in it
pub data Has : Grouped → Grouped → Type 0 where
  itself : (t : Grouped) → Has t t
  in_left : (op : Op) (left right t : Grouped) → Has left t → Has (tree.Binary op left right) t
  in_right : (op : Op) (left right t : Grouped) → Has right t → Has (tree.Binary op left right) t
  in_part : (ops : List Op) (parts : List Grouped) (part t : Grouped) → Contains parts part
      → Has part t → Has (tree.Chain ops parts) t

-- the fact holds of each node of the tree
abbrev pub Everywhere : (Grouped-F Grouped → Type 0) → Grouped → Type 0
Everywhere P tree = (t : Grouped) → Has tree t → P (out-Grouped t)
