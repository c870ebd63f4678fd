use Rattle.fort_hall_program.proofs.Attempting.{tried}
use Rattle.fort_hall_program.proofs.attempt.tried.Goals as goal

pub after_form-requires : goal.after_form-requires
after_form-requires c = c.requires.good.form.stands.leads

pub returns : goal.returns
returns c =
    tried c.args.program.now c.args.most c.args.state c.args.form c.args.closed c.args.became
    _ _ _ _ _ _ c.requires.good c.requires.gone c.requires.ends c.replace-watched.ensures.value
    c.in_ok-done.ensures c.in_ok-path.ensures c.in_ok-picks.ensures c.in_ok-term.ensures
    c.leg_of.ensures
