use Rattle.std.proofs.Common.{◌∙◌}
use Rattle.fort_frames.specs.Frames.{frames, rebuilt}
use Rattle.fort_machine.specs.Ends.{group}
use Rattle.fort_plain.proofs.Finding.{group_stands}
use Rattle.fort_plain.proofs.find.at_group.Goals as goal

pub returns : goal.returns
returns c =
    λ path. group_stands c.args.clock
    (rebuilt c.args.clock (frames c.args.place.stack) (group c.args.parts)) c.args.place
    c.args.parts c.in_ok-form.form c.requires (c.in_ok-form.ensures ∙ c.in_ok-group.ensures)
