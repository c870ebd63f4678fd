use Rattle.std.proofs.Common.{refl}
use Rattle.fort_walk_turns.proofs.Growing.{grows_same}
use Rattle.fort_walk.proofs.beside.as_before.Goals as goal

pub returns-clause-goes_on : goal.returns-clause-goes_on
returns-clause-goes_on c = record {
  walking = c.requires;
  fuel = refl;
  grows = grows_same c.args.walking.going.course;
}
