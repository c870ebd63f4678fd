-- The chapter "Operators", its rule of chains. The code asks it in one walk.
use Rattle.std.specs.Prelude.{◌≡◌, ◌<◌, List, length, Any}
use Rattle.fort_ops.specs.declared.op.Op.{Op}
use Rattle.fort_ops.specs.declared.op.Sense.{Sense}
use Rattle.fort_ops.specs.declared.op.Sense.TheVariants.{Unequal, Rising, Falling}
use Rattle.fort_ops.specs.Senses.{sense_of}
use Rattle.fort_tree.specs.declared.grouped.Grouped.{Grouped}
use Rattle.fort_tree.specs.declared.grouped.Grouped.TheOpen.{Grouped-F}
use Rattle.fort_group.specs.Nodes.{Everywhere}

-- one of the operators has this sense
abbrev pub HasSense : Sense → List Op → Type 0
HasSense sense ops = Any (λ op. sense_of op ≡ sense) ops

-- not both rising and falling ones, and of two or more none that is unequal
abbrev pub IsGoodChain : List Op → Type 0
IsGoodChain ops = (HasSense Rising ops → HasSense Falling ops → ⊥)
    × (1 < length ops → HasSense Unequal ops → ⊥)

-- a chain is good
abbrev pub IsGoodNode : Grouped-F Grouped → Type 0
IsGoodNode (Grouped-F.Unit n) = Unit {0}
IsGoodNode (Grouped-F.Juxt units) = Unit {0}
IsGoodNode (Grouped-F.Binary op left right) = Unit {0}
IsGoodNode (Grouped-F.Chain ops parts) = IsGoodChain ops

-- each chain of the tree is good
abbrev pub IsSensible : Grouped → Type 0
IsSensible tree = Everywhere IsGoodNode tree
