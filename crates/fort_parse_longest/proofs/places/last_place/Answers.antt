use Rattle.std.proofs.Common.{refl}
use Rattle.fort_parse_longest.proofs.TokenPlaces.{last_at}
use Rattle.fort_parse_longest.proofs.places.last_place.Goals as goal

pub returns-in-len1-up : goal.returns-in-len1-up
returns-in-len1-up c = last_at c.args.list.now _ _ c.in-len1-up.len_at_least refl
