-- The code's table is computed to the table of spellings.
use lib.Utf8
use Rattle.std.proofs.Common.{refl}
use Rattle.fort_ops.proofs.spellings.spelling_of.Goals as goal

pub operator_in-requires : goal.operator_in-requires
unfolding lib.Utf8.encode
operator_in-requires c = refl
