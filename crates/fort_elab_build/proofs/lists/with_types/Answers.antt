use Rattle.std.proofs.Common.{arith}
use Rattle.fort_elab_build.proofs.Rows.{no_types}
use Rattle.fort_elab_build.proofs.lists.with_types.Goals as goal

pub returns-then-types-at : goal.returns-then-types-at
returns-then-types-at c =
    no_types c.loop-at.at c.args.terms.now c.args.types.now c.loop-at.list (omega arith)
    c.loop-at.invariant
