use Rattle.std.proofs.Common.{subst, sym, ap, ◌∙◌}
use Rattle.fort_core.specs.declared.term.Term as term
use Rattle.fort_core.specs.declared.value.Value.{Value}
use Rattle.fort_store_effects.specs.Levels.{levels_of, seen}
use Rattle.fort_walk_course.specs.Picked.{PicksStep}
use Rattle.fort_frames_moves.specs.Turns.{ready_term}
use Rattle.fort_plain.proofs.Stepping.{sets_gone, sets_wrong, sets_last, sets_passes, may_set, went_on}
use Rattle.fort_plain.proofs.Testing.{none_named, too_dear, some_seen, none_seen}
use Rattle.fort_plain.proofs.steps.sets.Goals as goal

pub returns-then-names_one : goal.returns-then-names_one
returns-then-names_one c =
    sets_wrong c.args.program.now c.args.course c.args.place (ready_term c.args.ready.now)
    c.args.to.0 c.args.value c.args.turn c.args.loc.0 c.requires.only
    (c.names_one.ensures.0 c.if-names_one.true)

pub returns-then-is_none : goal.returns-then-is_none
returns-then-is_none c =
    sets_gone c.args.program.now c.args.course c.args.place (ready_term c.args.ready.now)
    c.args.to.0 c.args.value c.args.turn c.args.loc.0 c.requires.only
    (none_seen c.look.result (seen (levels_of c.args.course.layers) c.args.to.0) c.is_none.result
    c.look.ensures c.is_none.ensures c.if-is_none.true)

pub returns-then-turn : goal.returns-then-turn
returns-then-turn c =
    sets_last c.args.program.now c.args.course c.args.place (ready_term c.args.ready.now)
    c.args.to.0 c.args.value c.args.loc.0 c.cost_with-all.result c.args.turn c.requires.only
    (some_seen c.look.result (seen (levels_of c.args.course.layers) c.args.to.0) c.is_none.result
    c.look.ensures c.is_none.ensures c.if-is_none.false)
    (none_named c.args.loc.0 c.names_one.result c.names_one.ensures c.if-names_one.false)
    c.if-turn.true c.requires.turn c.cost_with-all.ensures

pub returns-then-not-affords : goal.returns-then-not-affords
returns-then-not-affords c =
    sets_passes c.args.program.now c.args.course c.args.place (ready_term c.args.ready.now)
    c.args.to.0 c.args.value c.args.turn c.args.loc.0 c.requires.only
    (too_dear c.args.course.spent 1 c.args.course.fuel c.affords.result c.affords.ensures
    c.if-not-affords.true)

pub write-requires-clause-may : goal.write-requires-clause-may
write-requires-clause-may c =
    may_set c.args.program.now c.args.course c.args.place (ready_term c.args.ready.now) c.args.to.0
    c.args.value c.in_ok-next.next c.requires.only (c.in_ok-next.ensures ∙ ap (λ
    (v : Value). term.Value v) c.in_ok-unit.ensures)

pub write-requires-clause-there : goal.write-requires-clause-there
write-requires-clause-there c =
    some_seen c.look.result (seen (levels_of c.args.course.layers) c.args.to.0) c.is_none.result
    c.look.ensures c.is_none.ensures c.if-is_none.false

pub returns : goal.returns
returns c =
    went_on c.args.program.now c.args.course c.in_ok-course.course c.args.place
    (ready_term c.args.ready.now) c.in_ok-next.next c.args.turn c.args.loc.0
    c.in_ok-course.ensures.stands c.in_ok-course.ensures.fuel
    (subst (λ n. PicksStep c.args.course c.args.place n c.in_ok-course.course)
    (sym (none_named c.args.loc.0 c.names_one.result c.names_one.ensures
    c.if-names_one.false)) c.in_ok-course.ensures.picks) c.if-turn.false
