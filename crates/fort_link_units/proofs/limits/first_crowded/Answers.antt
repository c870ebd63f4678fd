use Rattle.fort_link_units.proofs.ApiLimits.{answers_all}
use Rattle.fort_link_units.proofs.limits.first_crowded.Goals as goal

pub returns : goal.returns
returns c = answers_all c.args.api.now _ _ c.late_declaration.ensures (cc)
