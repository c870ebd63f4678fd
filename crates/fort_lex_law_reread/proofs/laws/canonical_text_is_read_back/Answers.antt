use Rattle.fort_lex_law_reread.proofs.Reading.{read_back, read_each}
use Rattle.fort_lex_law_reread.proofs.laws.canonical_text_is_read_back.Goals as goal

pub returns : goal.returns
returns c = record { some = read_back; each = read_each }
