use Rattle.std.proofs.Common.{refl}
use Rattle.fort_form_tasks.proofs.Steps.{two_seen}
use Rattle.fort_form_tasks.proofs.blocks.see_in_case_clause.Goals as goal

pub returns : goal.returns
returns c = λ k. two_seen k _ _ (c.in_ok-see.ensures k) (c.in_ok-see-2.ensures k) refl
