use Rattle.fort_types_builtin.proofs.TableLaws.{has_rows}
use Rattle.fort_types_builtin.proofs.laws.table_has_rows.Goals as goal

pub returns : goal.returns
returns c = has_rows
