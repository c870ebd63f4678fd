use Rattle.std.proofs.Common.{sym, ap, ◌∙◌}
use Rattle.fort_core.specs.declared.term.Term.{Term, Throw}
use Rattle.fort_frames_moves.specs.Turns.{ready_term}
use Rattle.fort_plain.proofs.Stepping.{abort_unthrown, throws_only}
use Rattle.fort_plain.proofs.steps.aborts.Goals as goal

pub abort_attempt-requires-clause-inside : goal.abort_attempt-requires-clause-inside
abort_attempt-requires-clause-inside c = c.in-Some.ensures

pub returns-in-None-single : goal.returns-in-None-single
returns-in-None-single c =
    abort_unthrown c.args.program.now c.args.course c.args.place (ready_term c.args.ready.now)
    c.args.turn c.args.loc.0 c.requires.only c.in-None.ensures (sym c.in-None-single.ensures)

pub turns-requires-clause-only : goal.turns-requires-clause-only
turns-requires-clause-only c =
    throws_only c.args.program.now c.args.course c.args.place (ready_term c.args.ready.now)
    c.in_ok-next-in-Some-single.next c.in-Some-single.value c.new-output.result c.requires.only
    c.in-None.ensures (sym c.in-Some-single.ensures)
    (c.in_ok-next-in-Some-single.ensures ∙ ap (λ
    (v : Term). Throw v) c.in_ok-value-in-Some-single.ensures) c.new-output.ensures
