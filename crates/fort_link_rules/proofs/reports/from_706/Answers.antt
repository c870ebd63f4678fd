use Rattle.fort_link_rules.proofs.Reporting.{if_ok, found_706, passed_706}
use Rattle.fort_link_rules.proofs.reports.from_706.Goals as goal

pub returns-in-Some : goal.returns-in-Some
returns-in-Some c =
    found_706 c.args.names.now c.args.units.now _ c.in-Some.place c.in-Some.is c.in_ok-first.ensures

pub returns-in-None : goal.returns-in-None
returns-in-None c =
    if_ok c.from_707.result (passed_706 c.args.names.now c.args.units.now _ c.in-None.is
    c.in_ok-first.ensures) c.from_707.ensures
