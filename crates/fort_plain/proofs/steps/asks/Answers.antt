use Rattle.std.proofs.Common.{subst, sym, ap, ◌∙◌, Some}
use Rattle.fort_step_deal.specs.Deals.{next_by}
use Rattle.fort_walk_course.specs.Picked.{PicksStep}
use Rattle.fort_frames_moves.specs.Turns.{ready_term}
use Rattle.fort_plain.proofs.Stepping.{asks_gone, asks_wrong, asks_last, asks_passes, may_ask, went_on}
use Rattle.fort_plain.proofs.Testing.{none_named, too_dear}
use Rattle.fort_plain.proofs.steps.asks.Goals as goal

pub returns-in-None : goal.returns-in-None
returns-in-None c =
    asks_gone c.args.program.now c.args.course c.args.place (ready_term c.args.ready.now)
    c.args.from.0 (λ v. next_by c.args.goes_by v) c.args.turn c.args.loc.0 c.requires.only
    (sym c.in-None.ensures)

pub returns-then-names_one : goal.returns-then-names_one
returns-then-names_one c =
    asks_wrong c.args.program.now c.args.course c.args.place (ready_term c.args.ready.now)
    c.args.from.0 (λ v. next_by c.args.goes_by v) c.args.turn c.args.loc.0 c.requires.only
    (c.names_one.ensures.0 c.if-names_one.true)

pub returns-then-turn : goal.returns-then-turn
returns-then-turn c =
    asks_last c.args.program.now c.args.course c.args.place (ready_term c.args.ready.now)
    c.args.from.0 (λ v. next_by c.args.goes_by v) c.in_ok-value-in-Some.value c.args.loc.0
    c.cost_with-all.result c.args.turn c.requires.only
    (sym c.in-Some.ensures
    ∙ ap Some (sym c.in_ok-value-in-Some.ensures))
    (none_named c.args.loc.0 c.names_one.result c.names_one.ensures c.if-names_one.false)
    c.if-turn.true c.requires.turn c.cost_with-all.ensures

pub returns-then-not-affords : goal.returns-then-not-affords
returns-then-not-affords c =
    asks_passes c.args.program.now c.args.course c.args.place (ready_term c.args.ready.now)
    c.args.from.0 (λ v. next_by c.args.goes_by v) c.args.turn c.args.loc.0 c.requires.only
    (too_dear c.args.course.spent 1 c.args.course.fuel c.affords.result c.affords.ensures
    c.if-not-affords.true)

pub read-requires-clause-may : goal.read-requires-clause-may
read-requires-clause-may c =
    may_ask c.args.program.now c.args.course c.args.place (ready_term c.args.ready.now)
    c.args.from.0 (λ v. next_by c.args.goes_by v) c.in_ok-value-in-Some.value c.in_ok-next.next
    c.requires.only c.in_ok-next.ensures

pub read-requires-clause-there : goal.read-requires-clause-there
read-requires-clause-there c = sym c.in-Some.ensures ∙ ap Some (sym c.in_ok-value-in-Some.ensures)

pub returns : goal.returns
returns c =
    went_on c.args.program.now c.args.course c.in_ok-course.course c.args.place
    (ready_term c.args.ready.now) c.in_ok-next.next c.args.turn c.args.loc.0
    c.in_ok-course.ensures.stands c.in_ok-course.ensures.fuel
    (subst (λ n. PicksStep c.args.course c.args.place n c.in_ok-course.course)
    (sym (none_named c.args.loc.0 c.names_one.result c.names_one.ensures
    c.if-names_one.false)) c.in_ok-course.ensures.picks) c.if-turn.false
