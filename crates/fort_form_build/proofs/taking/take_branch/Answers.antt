use Rattle.fort_form_build.proofs.Splitting.{branch_taken}
use Rattle.fort_form_build.proofs.taking.take_branch.Goals as goal

pub returns : goal.returns
returns c = branch_taken c.in_ok-test.ensures c.in_ok-value.ensures
