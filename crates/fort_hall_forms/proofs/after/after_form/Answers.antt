use Rattle.std.proofs.Common.{◌≡◌, subst}
use Rattle.std.specs.Prelude.{IfOk}
use Rattle.fort_core.specs.declared.term.Term.{Term}
use Rattle.fort_frames.specs.Frames.{frames}
use Rattle.fort_hall_forms.proofs.Trodden.{with_marks}
use Rattle.fort_hall_forms.proofs.after.after_form.Goals as goal

pub returns : goal.returns
returns c =
    subst (λ t. IfOk c.around.result (λ (part : Term). part ≡ t))
    (with_marks (frames c.args.«at».place.stack) c.args.«at».form c.args.becomes c.requires)
    c.around.ensures
