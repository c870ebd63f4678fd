use Rattle.std.proofs.Common.{◌≡◌, subst}
use Rattle.fort_core.specs.declared.term.Term.{Term}
use Rattle.fort_machine.specs.Ends.{open_yet, standing}
use Rattle.fort_frames_moves.proofs.Found.{marked_found, mark_alone_found}
use Rattle.fort_frames_moves.proofs.across.marked_at.Goals as goal

pub returns-in_ok-share-in-Open : goal.returns-in_ok-share-in-Open
returns-in_ok-share-in-Open c =
    marked_found _ _ _ _ _ c.requires.own c.requires.marked (subst (λ
    (t : Term). standing t ≡ open_yet) c.get.ensures c.in-Open.ensures)
    c.in_ok-share-in-Open.ensures

pub returns-in_ok-share-in_default : goal.returns-in_ok-share-in_default
returns-in_ok-share-in_default c =
    mark_alone_found _ _ _ _ _ c.requires.own c.requires.marked c.in_ok-share-in_default.ensures
