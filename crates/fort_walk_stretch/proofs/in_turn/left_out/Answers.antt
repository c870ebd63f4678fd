use Rattle.std.proofs.Common.{true}
use Rattle.fort_store_effects.specs.Levels.{levels_of, seen}
use Rattle.fort_walk_stretch.proofs.Stopping.{flags_on}
use Rattle.fort_walk_stretch.proofs.in_turn.left_out.Goals as goal

pub passed-requires : goal.passed-requires
passed-requires c =
    flags_on c.args.program.now c.args.inner (seen (levels_of c.args.view.now)) c.args.room
    c.args.stretch c.args.place c.args.form _ true c.requires
