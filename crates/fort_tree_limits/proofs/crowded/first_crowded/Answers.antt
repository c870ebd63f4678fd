use Rattle.std.proofs.Common.{ap, ◌∙◌}
use Rattle.std.specs.Option.{option_to_list}
use Rattle.fort_tree_limits.proofs.CensusLaws.{late_is}
use Rattle.fort_tree_limits.proofs.Least.{answers_all}
use Rattle.fort_tree_limits.proofs.crowded.first_crowded.Goals as goal

pub returns : goal.returns
returns c =
    answers_all c.args.component.now _ _ _ (ap (λ n. option_to_list n.late) c.declarations.ensures
    ∙ late_is _ _) (ap (λ n. option_to_list n.late) c.types.ensures ∙ late_is _ _) (cc)
