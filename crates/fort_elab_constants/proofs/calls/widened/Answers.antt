use Rattle.std.proofs.Common.{arith}
use Rattle.fort_elab_meaning.specs.Read.{given_of}
use Rattle.fort_elab_constants.proofs.Widening.{all_widened}
use Rattle.fort_elab_constants.proofs.calls.widened.Goals as goal

pub returns : goal.returns
returns c =
    all_widened (given_of c.args.known.now) c.args.flags.now c.args.terms.now c.loop-i.all
    c.loop-i.i (omega arith) c.loop-i.invariant
