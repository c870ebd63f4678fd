use Rattle.std.proofs.Common.{inl, inr}
use Rattle.fort_frames_moves.specs.Turns.{ready_term}
use Rattle.fort_plain.proofs.Stepping.{abort_wrong, abort_last, abort_passes, stops_here, abort_unclosed, abort_leaves}
use Rattle.fort_plain.proofs.Testing.{is_so, none_named, not_so, too_dear}
use Rattle.fort_plain.proofs.steps.abort_attempt.Goals as goal

pub returns-then-names_one : goal.returns-then-names_one
returns-then-names_one c =
    abort_wrong c.args.program.now c.args.course c.args.place (ready_term c.args.ready.now)
    c.args.turn c.args.loc.0 c.requires.only c.requires.inside
    (inl (c.names_one.ensures.0 c.if-names_one.true))

pub returns-then-not-turn : goal.returns-then-not-turn
returns-then-not-turn c =
    abort_wrong c.args.program.now c.args.course c.args.place (ready_term c.args.ready.now)
    c.args.turn c.args.loc.0 c.requires.only c.requires.inside
    (inr (not_so c.args.turn.is_last c.if-not-turn.true))

pub returns-then-turn : goal.returns-then-turn
returns-then-turn c =
    abort_last c.args.program.now c.args.course c.args.place (ready_term c.args.ready.now)
    c.args.turn c.args.loc.0 c.cost_with-all.result c.requires.only c.requires.inside
    (none_named c.args.loc.0 c.names_one.result c.names_one.ensures c.if-names_one.false)
    c.if-turn.true c.requires.turn c.cost_with-all.ensures

pub returns-then-not-affords : goal.returns-then-not-affords
returns-then-not-affords c =
    abort_passes c.args.program.now c.args.course c.args.place (ready_term c.args.ready.now)
    c.args.turn c.args.loc.0 c.requires.only c.requires.inside
    (too_dear c.args.course.spent 1 c.args.course.fuel c.affords.result c.affords.ensures
    c.if-not-affords.true)

pub abort-requires-clause-may : goal.abort-requires-clause-may
abort-requires-clause-may c =
    stops_here c.args.program.now c.args.course c.args.place (ready_term c.args.ready.now)
    c.requires.only c.requires.inside

pub returns-in-None : goal.returns-in-None
returns-in-None c =
    abort_unclosed c.args.program.now c.args.course c.args.place (ready_term c.args.ready.now)
    c.args.turn c.args.loc.0 c.requires.only
    (rw c.in-None.is at c.in_ok-abort.ensures.going)
    (none_named c.args.loc.0 c.names_one.result c.names_one.ensures c.if-names_one.false)
    (is_so c.args.turn.is_last c.if-not-turn.false) c.if-turn.false

pub returns : goal.returns
returns c =
    abort_leaves c.args.program.now c.args.course c.args.place c.args.turn c.args.loc.0
    c.in-Some.going (rw c.in-Some.is at c.in_ok-abort.ensures.going)
    (rw c.in-Some.is at c.in_ok-abort.ensures.fuel)
    (rw c.in-Some.is at c.in_ok-abort.ensures.picks)
    (none_named c.args.loc.0 c.names_one.result c.names_one.ensures c.if-names_one.false)
    (is_so c.args.turn.is_last c.if-not-turn.false) c.if-turn.false
