use Rattle.std.proofs.Common.{◌∙◌}
use Rattle.fort_frames_moves.proofs.Parts.{left_form}
use Rattle.fort_frames_moves.proofs.Kept.{left_kept}
use Rattle.fort_frames_moves.proofs.across.left_again.Goals as goal

pub returns-clause-turns : goal.returns-clause-turns
returns-clause-turns c =
    left_form c.args.clock c.args.place c.args.head c.args.parts c.args.next _ c.requires.next
    (c.in_ok-form.ensures ∙ c.in_ok-open_form.ensures) c.requires.reached

pub returns-clause-sweeps : goal.returns-clause-sweeps
returns-clause-sweeps c =
    left_kept c.args.place c.args.head c.args.parts c.args.next _ c.requires.suits c.requires.next
    (c.in_ok-form.ensures ∙ c.in_ok-open_form.ensures)
