use Rattle.std.proofs.Common.{◌∙◌, sym}
use Rattle.fort_frames.specs.States.{term_at}
use Rattle.fort_frames.specs.declared.state.At.TheVariants as at
use Rattle.fort_machine.specs.Attempts.{goes}
use Rattle.fort_walk.proofs.Ending.{all_over, left_stuck}
use Rattle.fort_walk.proofs.ends.again.Goals as goal

pub returns-then-all_passed-clause-follows : goal.returns-then-all_passed-clause-follows
returns-then-all_passed-clause-follows c =
    let over =
    all_over c.args.sweep.idle c.args.sweep.stuck c.args.sweep.wakes (sym c.all_passed.ensures
    ∙ c.if-all_passed.true) in
    left_stuck c.args.program.now c.args.course c.args.sweep c.args.term c.requires over.0 over.1

pub leave-requires-clause-kept : goal.leave-requires-clause-kept
leave-requires-clause-kept c = c.is_left.ensures c.if-is_left.true

pub next_sweep-requires-clause-more : goal.next_sweep-requires-clause-more
next_sweep-requires-clause-more c = sym c.all_passed.ensures ∙ c.if-all_passed.false

pub leave-requires-clause-come : goal.leave-requires-clause-come
leave-requires-clause-come c = (goes (term_at (at.Left c.args.term)), c.requires.come)
