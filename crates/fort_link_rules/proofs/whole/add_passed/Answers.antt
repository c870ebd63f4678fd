use Rattle.std.proofs.Common.{sym, ap, ◌∙◌}
use Rattle.std.specs.Option.{option_copied}
use Rattle.fort_link_rules.proofs.Gathering.{on_ok}
use Rattle.fort_link_rules.proofs.WholeLaws.{passed_one, passed_none}
use Rattle.fort_link_rules.proofs.whole.add_passed.Goals as goal

pub returns-in-Some : goal.returns-in-Some
returns-in-Some c =
    on_ok c.push.result (passed_one c.args.most c.args.list.now c.in-Some.place.now _ _
    (sym c.get.ensures.value ∙ ap (λ o. option_copied o) c.in-Some.is)) c.push.ensures.ok

pub returns-in-None : goal.returns-in-None
returns-in-None c =
    passed_none c.args.most c.args.list.now _
    (sym c.get.ensures.value ∙ ap (λ o. option_copied o) c.in-None.is)
