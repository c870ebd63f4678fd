use Rattle.std.proofs.Common.{subst, sym}
use Rattle.fort_walk_course.specs.Picked.{PicksStep}
use Rattle.fort_frames_moves.specs.Turns.{ready_term}
use Rattle.fort_plain.proofs.Stepping.{wrong_place, turn_last, turn_passes, may_turn, went_on}
use Rattle.fort_plain.proofs.Testing.{none_named, too_dear}
use Rattle.fort_plain.proofs.steps.turns.Goals as goal

pub returns-then-names_one : goal.returns-then-names_one
returns-then-names_one c =
    wrong_place c.args.program.now c.args.course c.args.place (ready_term c.args.ready.now)
    c.args.next c.args.output c.args.cost c.args.loc.0 c.args.turn c.requires.only
    (c.names_one.ensures.0 c.if-names_one.true)

pub returns-then-turn : goal.returns-then-turn
returns-then-turn c =
    turn_last c.args.program.now c.args.course c.args.place (ready_term c.args.ready.now)
    c.args.next c.args.output c.args.cost c.args.loc.0 c.cost_with-all.result c.args.turn
    c.requires.only
    (none_named c.args.loc.0 c.names_one.result c.names_one.ensures c.if-names_one.false)
    c.if-turn.true c.requires.turn c.cost_with-all.ensures

pub returns-then-not-affords : goal.returns-then-not-affords
returns-then-not-affords c =
    turn_passes c.args.program.now c.args.course c.args.place (ready_term c.args.ready.now)
    c.args.next c.args.output c.args.cost c.args.loc.0 c.args.turn c.requires.only
    (too_dear c.args.course.spent c.args.cost c.args.course.fuel c.affords.result c.affords.ensures
    c.if-not-affords.true)

pub print-requires-clause-may : goal.print-requires-clause-may
print-requires-clause-may c =
    may_turn c.args.program.now c.args.course c.args.place (ready_term c.args.ready.now) c.args.next
    c.args.output c.args.cost c.requires.only

pub returns : goal.returns
returns c =
    went_on c.args.program.now c.args.course c.in_ok-course.course c.args.place
    (ready_term c.args.ready.now) c.args.next c.args.turn c.args.loc.0
    c.in_ok-course.ensures.stands c.in_ok-course.ensures.fuel
    (subst (λ n. PicksStep c.args.course c.args.place n c.in_ok-course.course)
    (sym (none_named c.args.loc.0 c.names_one.result c.names_one.ensures
    c.if-names_one.false)) c.in_ok-course.ensures.picks) c.if-turn.false
