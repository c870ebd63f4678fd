use Rattle.fort_lex_law_reread.proofs.Reading.{shown_once}
use Rattle.fort_lex_law_reread.proofs.laws.showing_twice_is_showing_once.Goals as goal

pub returns : goal.returns
returns c = shown_once
