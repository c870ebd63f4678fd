use Rattle.std.proofs.Common.{refl}
use Rattle.fort_types_builtin.specs.Types.{declared_spellings, types}
use Rattle.fort_types_builtin.proofs.laws.numbers_name_types.Goals as goal

pub returns : goal.returns
unfolding declared_spellings types
returns c = refl
