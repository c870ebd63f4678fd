use Rattle.fort_front.proofs.Same as same
use Rattle.fort_front.proofs.laws.one_program.Goals as goal

pub returns-clause-tokens : goal.returns-clause-tokens
returns-clause-tokens c = same.one_program

pub returns-clause-component : goal.returns-clause-component
returns-clause-component c = same.one_program_of_component

pub returns-clause-tree : goal.returns-clause-tree
returns-clause-tree c = same.one_program_of_tree
