use Rattle.fort_store_effects.specs.Levels.{levels_of, seen}
use Rattle.fort_frames.specs.States.{term_at}
use Rattle.fort_walk_stretch.proofs.Stopping.{whole_goes}
use Rattle.fort_walk_stretch.proofs.in_turn.ended.Goals as goal

pub returns : goal.returns
returns c =
    whole_goes c.args.program.now c.args.inner (seen (levels_of c.args.view.now)) c.args.room
    c.args.stretch (term_at c.args.«at») c.in_ok-term.term c.requires c.in_ok-term.ensures
