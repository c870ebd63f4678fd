use Rattle.std.proofs.Common.{subst}
use Rattle.fort_step_deal.specs.Deals.{made_by, making_cost, new_values}
use Rattle.fort_store_effects.specs.Levels.{levels_of, seen}
use Rattle.fort_frames_moves.specs.Turns.{ready_term}
use Rattle.fort_step_acting.specs.Only.{IsDealt}
use Rattle.fort_walk_stretch.proofs.Stepping.{afforded, numbered}
use Rattle.fort_walk_stretch.proofs.Taking.{makes_on}
use Rattle.fort_walk_stretch.proofs.steps.touches.Goals as goal

pub asks-requires-clause-acts : goal.asks-requires-clause-acts
asks-requires-clause-acts c =
    (subst (IsDealt c.args.program.now (ready_term c.args.ready)) c.in-Asks.is c.requires.dealt).0

pub asks-requires-clause-affords : goal.asks-requires-clause-affords
asks-requires-clause-affords c =
    afforded (seen (levels_of c.args.view.now)) c.args.room c.args.stretch c.args.deal _
    c.in-Asks.is c.requires.room

pub sets-requires-clause-acts : goal.sets-requires-clause-acts
sets-requires-clause-acts c =
    (subst (IsDealt c.args.program.now (ready_term c.args.ready)) c.in-Sets.is c.requires.dealt).0

pub sets-requires-clause-affords : goal.sets-requires-clause-affords
sets-requires-clause-affords c =
    afforded (seen (levels_of c.args.view.now)) c.args.room c.args.stretch c.args.deal _
    c.in-Sets.is c.requires.room

pub makes_some-requires-clause-on : goal.makes_some-requires-clause-on
makes_some-requires-clause-on c =
    let a = c.args in
    let m = c.in-Makes.makes in
    makes_on a.program.now a.inner (seen (levels_of a.view.now)) a.room a.stretch a.place
    (ready_term a.ready) (new_values m) (λ l. made_by m l) (making_cost m) c.requires.on
    (subst (IsDealt a.program.now (ready_term a.ready)) c.in-Makes.is c.requires.dealt).0

pub makes_some-requires-clause-affords : goal.makes_some-requires-clause-affords
makes_some-requires-clause-affords c =
    afforded (seen (levels_of c.args.view.now)) c.args.room c.args.stretch c.args.deal _
    c.in-Makes.is c.requires.room

pub makes_some-requires-clause-numbers : goal.makes_some-requires-clause-numbers
makes_some-requires-clause-numbers c =
    (numbered (seen (levels_of c.args.view.now)) c.args.room c.args.stretch c.args.deal _
    c.in-Makes.is c.requires.room).0

pub makes_some-requires-clause-free : goal.makes_some-requires-clause-free
makes_some-requires-clause-free c =
    (numbered (seen (levels_of c.args.view.now)) c.args.room c.args.stretch c.args.deal _
    c.in-Makes.is c.requires.room).1
