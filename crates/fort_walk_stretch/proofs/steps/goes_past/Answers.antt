use Rattle.fort_store_effects.specs.Levels.{levels_of, seen}
use Rattle.fort_frames_moves.specs.Turns.{ready_term}
use Rattle.fort_walk_stretch.proofs.Stepping.{same_on}
use Rattle.fort_walk_stretch.proofs.steps.goes_past.Goals as goal

pub left_out-requires : goal.left_out-requires
left_out-requires c =
    let a = c.args in
    same_on a.program.now a.inner (seen (levels_of a.view.now)) a.room a.stretch a.place
    (ready_term a.ready) c.in_ok-form.form c.in_ok-form.ensures c.requires.on
