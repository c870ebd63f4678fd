use Rattle.std.proofs.Common.{subst}
use Rattle.fort_store_effects.specs.Levels.{levels_of, seen}
use Rattle.fort_frames_moves.specs.Turns.{ready_term}
use Rattle.fort_step_acting.specs.Only.{IsDealt}
use Rattle.fort_walk_stretch.proofs.Stepping.{afforded}
use Rattle.fort_walk_stretch.proofs.Taking.{enters_on, turns_on}
use Rattle.fort_walk_stretch.proofs.steps.take.Goals as goal

pub prints-requires-clause-may : goal.prints-requires-clause-may
prints-requires-clause-may c =
    let a = c.args in
    turns_on a.program.now a.inner (seen (levels_of a.view.now)) a.room a.stretch a.place
    (ready_term a.ready) c.in-Turns.next c.in-Turns.output c.in-Turns.cost c.requires.on
    (subst (IsDealt a.program.now (ready_term a.ready)) c.in-Turns.is c.requires.dealt).0

pub prints-requires-clause-affords : goal.prints-requires-clause-affords
prints-requires-clause-affords c =
    afforded (seen (levels_of c.args.view.now)) c.args.room c.args.stretch c.args.deal _
    c.in-Turns.is c.requires.room

pub prints-requires-in-Enters-clause-may : goal.prints-requires-in-Enters-clause-may
prints-requires-in-Enters-clause-may c =
    let a = c.args in
    enters_on a.program.now a.inner (seen (levels_of a.view.now)) a.room a.stretch a.place
    (ready_term a.ready) _ c.in-Enters.next _ c.requires.written c.requires.on
    (subst (IsDealt a.program.now (ready_term a.ready)) c.in-Enters.is c.requires.dealt).0
    c.new-text.ensures

pub prints-requires-in-Enters-clause-affords : goal.prints-requires-in-Enters-clause-affords
prints-requires-in-Enters-clause-affords c =
    afforded (seen (levels_of c.args.view.now)) c.args.room c.args.stretch c.args.deal _
    c.in-Enters.is c.requires.room
