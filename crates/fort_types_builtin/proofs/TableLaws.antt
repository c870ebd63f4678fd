-- The table of declarations has the rows of the language.
use Rattle.std.proofs.Common.{refl}
use Rattle.fort_types_builtin.specs.Declarations.{declarations}
use Rattle.fort_types_builtin.specs.Laws.{TableHasRows}

pub has_rows : TableHasRows
unfolding declarations
has_rows = refl
