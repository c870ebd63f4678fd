use Rattle.fort_link_rules.proofs.Reporting.{first_of_all, if_ok}
use Rattle.fort_link_rules.proofs.reports.first_broken.Goals as goal

pub returns : goal.returns
returns c =
    if_ok c.from_701.result (first_of_all c.args.names.now c.args.units.now) c.from_701.ensures
