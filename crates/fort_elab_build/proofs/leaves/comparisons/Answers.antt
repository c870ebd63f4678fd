use Rattle.std.proofs.Common.{arith}
use Rattle.fort_elab_meaning.specs.Read.{given_of}
use Rattle.fort_elab_build.proofs.Rows.{no_sides}
use Rattle.fort_elab_build.proofs.leaves.comparisons.Goals as goal

pub returns-then-sides-next : goal.returns-then-sides-next
returns-then-sides-next c =
    no_sides (given_of c.args.known.now) c.loop-at.at c.args.calls.now c.args.sides.now
    c.loop-at.list (omega arith) c.loop-at.invariant
