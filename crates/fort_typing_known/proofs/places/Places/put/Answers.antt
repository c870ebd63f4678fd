use Rattle.std.proofs.Common.{Some}
use Rattle.std.proofs.lemmas.Map.Text.{hash_map_updates_str}
use Rattle.fort_typing_known.proofs.places.Places.put.Goals as goal

pub returns-clause-has : goal.returns-clause-has
returns-clause-has c =
    λ v. hash_map_updates_str c.args.spelling.now c.args.self.now.known c.insert.new.self
    (Some c.args.place) c.in_ok-insert.ensures.updates v
