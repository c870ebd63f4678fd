-- The chapter "Typing": below as a truth that is computed from the rows of the declared types.
use Rattle.std.specs.Prelude.{Bool, true, List, map}
use Rattle.fort_base.specs.declared.ty.Ty.{Ty}
use Rattle.fort_types.specs.Relation.{relation, each_below}
use Rattle.fort_typing_known.specs.Known.{Facts}

-- the first type is below the second
unfoldable pub is_below : Facts → Ty → Ty → Bool
is_below k a b = relation k.table.below a true b

-- types are below others, place by place
unfoldable pub are_below : Facts → List Ty → List Ty → Bool
are_below k ts us = each_below (map (relation k.table.below) ts) true us
