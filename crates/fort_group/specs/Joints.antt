-- The chapter "Operators": what stands between the units of a flat expression. The code reads the
-- same list by index.
use Rattle.std.specs.Prelude.{ℕ, List, slice_get, Option, Some, None}
use Rattle.fort_ops.specs.declared.op.Op.{Op}
use Rattle.fort_ops.specs.declared.op.Op.TheVariants.{Juxt}
use Rattle.fort_ops.specs.Precedence.{group_of, rank}
use Rattle.fort_tree.specs.declared.grouped.Joint.{Joint}
use Rattle.fort_tree.specs.declared.grouped.Joint.TheVariants.{Beside, Behind}

-- the operator of a joint; where none is written it is juxtaposition
abbrev pub operator_of : Joint → Op
operator_of Beside = Juxt
operator_of (Behind sign after) = sign.op

-- the operator of a joint that is there
abbrev pub operator_in : Option Joint → Option Op
operator_in (Some joint) = Some (operator_of joint)
operator_in None = None

-- the operator between unit n and the next one
abbrev pub between : List Joint → ℕ → Option Op
between joints n = operator_in (slice_get joints n)

-- the rank of an operator that is there
abbrev pub rank_in : Option Op → ℕ
rank_in (Some op) = rank (group_of op)
rank_in None = 0

-- the rank of the operator between unit n and the next one
abbrev pub strength : List Joint → ℕ → ℕ
strength joints n = rank_in (between joints n)
