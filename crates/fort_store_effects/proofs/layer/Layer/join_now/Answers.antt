use Rattle.std.proofs.Common.{Some, refl, ap, subst, ◌∙◌}
use Rattle.std.specs.Prelude.{IsSome}
use Rattle.fort_machine.specs.Cells.{joined}
use Rattle.fort_store_effects.specs.Cells.{cell, cell_of}
use Rattle.fort_store_effects.proofs.Touched.{joins_here}
use Rattle.fort_store_effects.proofs.layer.Layer.join_now.Goals as goal

pub returns-in-Some-clause-cells : goal.returns-in-Some-clause-cells
returns-in-Some-clause-cells c =
    let more = cell c.args.more in
    let there = subst IsSome c.in-Some.ensures.value refl in
    let updates = (c.get_mut.follows.holds c.then.result).3 there in
    joins_here c.args.loc.0 c.args.self.now
    (record c.args.self.now { cells = c.get_mut.follows.lender c.then.result }) c.then.result more
    updates.0
    (c.then.ensures ∙ (ap (λ x. joined (cell x) more) c.replace-was.ensures.value
    ∙ ap (λ o. joined (cell_of o) more) c.in-Some.ensures.value))
