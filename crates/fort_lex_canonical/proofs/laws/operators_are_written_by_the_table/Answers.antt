use Rattle.fort_lex_canonical.proofs.Writing.{writes_spelling, writes_last}
use Rattle.fort_lex_canonical.proofs.laws.operators_are_written_by_the_table.Goals as goal

pub returns : goal.returns
returns c = record { spelled = writes_spelling; unicode = writes_last }
