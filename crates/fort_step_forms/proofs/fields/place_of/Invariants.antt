use Rattle.std.proofs.Common.{◌≡◌, drop}
use Rattle.fort_step_forms.specs.Rows.{place_from}
use Rattle.fort_step_forms.proofs.fields.place_of.Given as goal

abbrev pub invariant-loop-other : goal.invariant-loop-other
invariant-loop-other l =
    place_from l.field (drop l.other-index l.other-items) l.place
    ≡ place_from l.field l.other-items 0
