use Rattle.fort_form_build.proofs.Splitting.{form_more}
use Rattle.fort_form_build.proofs.taking.take_forms.Goals as goal

pub loop-at-preserved : goal.loop-at-preserved
loop-at-preserved c =
    form_more c.loop-at.taken c.loop-at.invariant.0 c.loop-at.invariant.1 c.in_ok-take.ensures
    c.in_ok-push.ensures.ok
