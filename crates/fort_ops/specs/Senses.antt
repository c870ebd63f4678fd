-- The chapter "Operators", the sense of the relational operators. The code asks the same table.
use Rattle.fort_ops.specs.declared.op.Op.{Op}
use Rattle.fort_ops.specs.declared.op.Op.TheVariants as an_op
use Rattle.fort_ops.specs.declared.op.Sense.{Sense}
use Rattle.fort_ops.specs.declared.op.Sense.TheVariants.{Equal, Unequal, Rising, Falling, Other}

-- the way that a relational operator points, and Other for the rest
abbrev pub sense_of : Op → Sense
sense_of an_op.Eq = Equal
sense_of an_op.Same = Equal
sense_of an_op.Ne = Unequal
sense_of an_op.Lt = Rising
sense_of an_op.Le = Rising
sense_of an_op.Gt = Falling
sense_of an_op.Ge = Falling
sense_of _ = Other
