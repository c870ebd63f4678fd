use Rattle.std.proofs.Common.{sym, ap}
use Rattle.fort_syntax.specs.Answer.{place_or_first}
use Rattle.fort_link_units.proofs.FaultPlaces.{last_at}
use Rattle.fort_link_units.proofs.places.last_place.Goals as goal

pub returns-in-len1-up : goal.returns-in-len1-up
returns-in-len1-up c = ap place_or_first (sym (last_at c.args.list.now _ c.in-len1-up.len_at_least))
