use Rattle.fort_machine.specs.Effects.{afterwards}
use Rattle.fort_store_effects.specs.Levels.{effect_of, levels_of, seen}
use Rattle.fort_frames_moves.specs.Turns.{ready_term}
use Rattle.fort_walk_stretch.proofs.Stepping.{some_seen}
use Rattle.fort_walk_stretch.proofs.Taking.{sets_on}
use Rattle.fort_walk_stretch.proofs.steps.sets.Goals as goal

pub writes-requires-clause-may : goal.writes-requires-clause-may
writes-requires-clause-may c =
    let a = c.args in
    sets_on a.program.now a.inner (seen (levels_of a.view.now)) a.room a.stretch a.place
    (ready_term a.ready) a.loc.0 a.value c.in_ok-next.next c.requires.on c.requires.acts
    c.in_ok-next.ensures

pub writes-requires-clause-there : goal.writes-requires-clause-there
writes-requires-clause-there c =
    let a = c.args in
    some_seen c.look.result
    (afterwards (effect_of a.stretch.done) (seen (levels_of a.view.now)) a.loc.0)
    c.is_none.result c.look.ensures c.is_none.ensures c.if-is_none.false
