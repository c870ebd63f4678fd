use Rattle.fort_lex_canonical.proofs.Showing.{numbered}
use Rattle.fort_rows.proofs.shown.shown_again.Goals as goal

pub shown-requires : goal.shown-requires
shown-requires g c = numbered c.in-Ok.all c.in-Ok.ensures.numbers
