use Rattle.std.proofs.Common.{◌∙◌, ap, sym}
use Rattle.fort_store_effects.specs.Levels.{levels_of, seen}
use Rattle.fort_frames.specs.States.{term_at}
use Rattle.fort_hall_forms.proofs.Seeking.{ends_at}
use Rattle.fort_hall_forms.proofs.first.out_of.Goals as goal

pub returns-in-Form : goal.returns-in-Form
returns-in-Form c =
    (c.at_whole.ensures.sought, c.at_whole.ensures.same ∙ ap term_at (sym c.in-Form.is))

pub returns : goal.returns
returns c =
    ends_at c.args.«at» (seen (levels_of c.args.view.now)) c.requires c.in_default.not-Form
