use Rattle.fort_lex_canonical.proofs.Writing.{alike_shown}
use Rattle.fort_lex_canonical.proofs.laws.places_play_no_part.Goals as goal

pub returns : goal.returns
returns c = alike_shown
