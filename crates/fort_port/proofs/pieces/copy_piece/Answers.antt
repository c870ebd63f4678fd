use Rattle.std.proofs.Common.{length}
use Rattle.fort_port.proofs.Taken.{gives_taken}
use Rattle.fort_port.proofs.pieces.copy_piece.Goals as goal

pub returns-clause-gives : goal.returns-clause-gives
returns-clause-gives c =
    gives_taken c.args.file.now _ c.args.at c.copy_front.result (length c.copy_front.new.into)
    (rw c.rest_from.ensures at c.copy_front.ensures.copied)
    (rw c.rest_from.ensures at c.copy_front.ensures.within)
    (rw c.rest_from.ensures at c.copy_front.ensures.none)
