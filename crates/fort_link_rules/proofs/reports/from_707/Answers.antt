use Rattle.fort_link_rules.proofs.Reporting.{found_707, passed_707}
use Rattle.fort_link_rules.proofs.reports.from_707.Goals as goal

pub returns-in-Some : goal.returns-in-Some
returns-in-Some c =
    found_707 c.args.names.now c.args.units.now _ c.in-Some.place c.in-Some.is c.in_ok-first.ensures

pub returns-in-None : goal.returns-in-None
returns-in-None c =
    passed_707 c.args.names.now c.args.units.now _ c.in-None.is c.in_ok-first.ensures
