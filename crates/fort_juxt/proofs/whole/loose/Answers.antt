use Rattle.fort_juxt.proofs.LooseLaws.{refuses_name, groups}
use Rattle.fort_juxt.proofs.whole.loose.Goals as goal

pub returns-in-Some : goal.returns-in-Some
returns-in-Some c = refuses_name c.args.elements.now c.in-Some.at _ c.in-Some.ensures

pub returns : goal.returns
returns c =
    groups c.args.elements.now c.in_ok-grouped.field-0 c.in_default.ensures c.in_ok-grouped.ensures
