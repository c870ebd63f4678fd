-- Chapter "Machine": one level of a pick. The definitions of the machine are by cases on it, and so
-- is code that takes one apart by value.
use Rattle.fort_core.specs.declared.pick.Pick.{Pick, out-Pick}
use Rattle.fort_core.specs.declared.pick.Pick.TheOpen.{Pick-F}
use Rattle.fort_core.specs.declared.node.PickNode.{PickNode}
use Rattle.fort_core.specs.declared.node.PickNode.TheVariants as a_pick

-- a pick, as its node
abbrev pub opened_pick : Pick → PickNode
opened_pick p =
    elim (out-Pick p) [
      | Pick-F.Step path loc ↦ a_pick.Step path loc
      | Pick-F.Attempt path inner ↦ a_pick.Attempt path inner
    ]
