use Rattle.fort_link_rules.proofs.Reporting.{if_ok, found_703, passed_703}
use Rattle.fort_link_rules.proofs.reports.from_703.Goals as goal

pub returns-in-Some : goal.returns-in-Some
returns-in-Some c =
    found_703 c.args.names.now c.args.units.now _ c.in-Some.place c.in-Some.is c.in_ok-first.ensures

pub returns-in-None : goal.returns-in-None
returns-in-None c =
    if_ok c.from_704.result (passed_703 c.args.names.now c.args.units.now _ c.in-None.is
    c.in_ok-first.ensures) c.from_704.ensures
