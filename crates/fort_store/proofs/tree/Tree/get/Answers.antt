use Rattle.std.proofs.Common.{◌∙◌, ap, sym}
use Rattle.std.specs.Option.{option_copied}
use Rattle.fort_store.proofs.Trees.{no_branch, next_branch}
use Rattle.fort_store.proofs.tree.Tree.get.Goals as goal

pub returns-in_err-placed : goal.returns-in_err-placed
returns-in_err-placed c =
    ap option_copied c.from_residual.ensures
    ∙ (sym (no_branch c.loop-number.tree.now c.loop-number.number c.way.result c.deref.result.now
    c.deref.ensures.value c.way.ensures c.in_err-placed.ensures c.loop-number-test.true)
    ∙ c.loop-number.invariant)

pub loop-number-preserved : goal.loop-number-preserved
loop-number-preserved c =
    next_branch c.loop-number.tree.now c.in_ok-placed.field-0.now c.get-tree.result.now
    c.loop-number.number c.way.result c.rest-number.result c.deref.result.now
    c.deref.ensures.value c.way.ensures c.rest-number.ensures c.in_ok-placed.ensures
    c.get-tree.ensures c.loop-number-test.true
    ∙ c.loop-number.invariant
