use Rattle.fort_machine.specs.Effects.{afterwards}
use Rattle.fort_store_effects.specs.Levels.{effect_of, levels_of, seen}
use Rattle.fort_walk_stretch.proofs.Stepping.{made_numbers, no_numbers, room_is}
use Rattle.fort_walk_stretch.proofs.steps.wants_room.Goals as goal

pub returns-in-Makes : goal.returns-in-Makes
returns-in-Makes c =
    let a = c.args in
    let s = seen (levels_of a.view.now) in
    let now = afterwards (effect_of a.stretch.now.done) s in
    λ has. room_is s a.room a.stretch.now a.deal.now c.price_of.result c.affords.result
    c.affords.ensures c.price_of.ensures c.if-not-affords.false
    (made_numbers now a.stretch.now.fresh a.room.until a.deal.now c.in-Makes.makes
    c.makes_count.result c.has_numbers.result c.in-Makes.is c.makes_count.ensures
    c.has_numbers.ensures has)

pub returns-in_default : goal.returns-in_default
returns-in_default c =
    let a = c.args in
    let s = seen (levels_of a.view.now) in
    let now = afterwards (effect_of a.stretch.now.done) s in
    λ has. room_is s a.room a.stretch.now a.deal.now c.price_of.result c.affords.result
    c.affords.ensures c.price_of.ensures c.if-not-affords.false
    (no_numbers now a.stretch.now.fresh a.room.until a.deal.now c.in_default.not-Makes)
