use Rattle.std.proofs.Common.{sym, ap, ◌∙◌}
use Rattle.std.specs.Option.{option_copied}
use Rattle.fort_link_rules.proofs.HeadLaws.{one_main, no_main_place, main_place}
use Rattle.fort_link_rules.proofs.heads.first_not_one_main.Goals as goal

pub returns-then-one : goal.returns-then-one
returns-then-one c =
    one_main c.args.names.now c.args.units.now c.has_one_main-one.result c.has_one_main-one.ensures
    c.if-one.true

pub returns-in-Some : goal.returns-in-Some
returns-in-Some c =
    main_place c.args.names.now c.args.units.now c.has_one_main-one.result c.in-Some.first.now _
    c.has_one_main-one.ensures c.if-one.false
    (sym c.first.ensures.value ∙ ap (λ o. option_copied o) c.in-Some.is) (sym c.first_place.ensures)

pub returns-in-None : goal.returns-in-None
returns-in-None c =
    no_main_place c.args.names.now c.args.units.now
    (sym c.first.ensures.value ∙ ap (λ o. option_copied o) c.in-None.is)
