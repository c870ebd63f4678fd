use Rattle.std.proofs.Common.{refl}
use Rattle.fort_walk_turns.proofs.Past.{form_entered}
use Rattle.fort_walk_turns.proofs.Growing.{grows_same}
use Rattle.fort_walk_turns.proofs.next.at_form.Goals as goal

pub returns-clause-follows : goal.returns-clause-follows
returns-clause-follows c = (
  form_entered c.args.program.now c.args.course c.args.sweep c.args.place c.args.form c.requires,
  refl,
)

pub returns-clause-grows : goal.returns-clause-grows
returns-clause-grows c = grows_same c.args.course
