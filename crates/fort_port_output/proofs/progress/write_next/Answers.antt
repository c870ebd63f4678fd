use Rattle.std.proofs.Common.{refl}
use Rattle.fort_port_output.proofs.Next.{next_failed, next_taken}
use Rattle.fort_port_output.proofs.progress.write_next.Goals as goal

pub returns-in-Ok-clause-written : goal.returns-in-Ok-clause-written
returns-in-Ok-clause-written g c was faults text next before =
    next_taken was _ _ faults _ _ text c.args.piece.now c.args.progress _ next c.if-progress.false
    c.in-Ok.ensures.ok c.in-Ok.ensures.ready refl refl before

pub returns-in-Err-clause-written : goal.returns-in-Err-clause-written
returns-in-Err-clause-written g c was faults text next before =
    next_failed was _ _ faults _ _ text c.args.piece.now c.args.progress _ next c.if-progress.false
    c.in-Err.ensures.err refl before
