use Rattle.fort_link_rules.proofs.Reporting.{if_ok, found_705, passed_705}
use Rattle.fort_link_rules.proofs.reports.from_705.Goals as goal

pub returns-in-Some : goal.returns-in-Some
returns-in-Some c =
    found_705 c.args.names.now c.args.units.now _ c.in-Some.place c.in-Some.is c.first_not_one_main-first.ensures

pub returns-in-None : goal.returns-in-None
returns-in-None c =
    if_ok c.from_706.result (passed_705 c.args.names.now c.args.units.now _ c.in-None.is
    c.first_not_one_main-first.ensures) c.from_706.ensures
