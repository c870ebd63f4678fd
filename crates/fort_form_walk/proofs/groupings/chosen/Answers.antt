use Rattle.std.proofs.Common.{sym, ◌∙◌}
use Rattle.fort_form_walk.proofs.Orders.{found_same}
use Rattle.fort_form_walk.proofs.groupings.chosen.Goals as goal

pub returns-then-eq : goal.returns-then-eq
returns-then-eq c =
    sym (found_same c.args.groups.now c.args.group.now c.args.place c.requires (sym c.eq.ensures
    ∙ c.if-eq.true))
