use Rattle.fort_front.proofs.Apart.{never, never_of_component, never_of_tree}
use Rattle.fort_front.proofs.laws.never_both.Goals as goal

pub returns-clause-tokens : goal.returns-clause-tokens
returns-clause-tokens c = never

pub returns-clause-component : goal.returns-clause-component
returns-clause-component c = never_of_component

pub returns-clause-tree : goal.returns-clause-tree
returns-clause-tree c = never_of_tree
