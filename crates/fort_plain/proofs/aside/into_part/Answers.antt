use Rattle.std.proofs.Common.{subst}
use Rattle.fort_frames_moves.specs.Turns.{IsFoundAt}
use Rattle.fort_plain.proofs.Paths.{none_beside}
use Rattle.fort_plain.proofs.aside.into_part.Goals as goal

pub returns-in-None : goal.returns-in-None
returns-in-None c =
    none_beside c.args.clock c.args.keep c.args.below c.args.path.now c.args.head c.args.parts
    c.args.number c.requires.suits c.requires.beside.is_open c.requires.here
    c.requires.beside.same_first c.requires.number
    (subst (IsFoundAt c.args.parts c.args.number) c.in-None.is c.in_ok-part_at.ensures)
