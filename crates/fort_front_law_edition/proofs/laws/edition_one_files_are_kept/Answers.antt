use Rattle.fort_front_law_edition.proofs.Kept.{tree_kept, component_kept, tokens_kept}
use Rattle.fort_front_law_edition.proofs.laws.edition_one_files_are_kept.Goals as goal

pub returns-clause-tree : goal.returns-clause-tree
returns-clause-tree c = tree_kept

pub returns-clause-component : goal.returns-clause-component
returns-clause-component c = component_kept

pub returns-clause-tokens : goal.returns-clause-tokens
returns-clause-tokens c = tokens_kept
