use Rattle.fort_form_build.proofs.Splitting.{branch_more}
use Rattle.fort_form_build.proofs.taking.take_branches.Goals as goal

pub loop-at-preserved : goal.loop-at-preserved
loop-at-preserved c =
    branch_more c.loop-at.taken _ c.loop-at.invariant.0 c.loop-at.invariant.1
    c.in_ok-take_branch.ensures c.in_ok-push.ensures.ok
