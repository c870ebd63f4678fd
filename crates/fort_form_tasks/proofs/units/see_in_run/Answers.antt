use Rattle.std.proofs.Common.{List, refl}
use Rattle.std.specs.Prelude.{map}
use Rattle.fort_tree.specs.declared.expr.RunPart.{RunPart}
use Rattle.fort_form_meaning.specs.Formed.{formed_run_part}
use Rattle.fort_form_tasks.proofs.Steps.{by, two_seen}
use Rattle.fort_form_tasks.proofs.units.see_in_run.Goals as goal

pub returns : goal.returns
returns c =
    λ k. two_seen k _ _ (c.in_ok-see.ensures k) (by k (λ
    (l : List RunPart). map (formed_run_part k) l) c.as_slice.ensures
    (c.in_ok-see_run_parts.ensures k)) refl
