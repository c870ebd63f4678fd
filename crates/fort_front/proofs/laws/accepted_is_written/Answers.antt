use Rattle.fort_front.proofs.Programs.{accepted_written, component_written, tree_written}
use Rattle.fort_front.proofs.laws.accepted_is_written.Goals as goal

pub returns-clause-tokens : goal.returns-clause-tokens
returns-clause-tokens c =
    accepted_written
    (component_written c.component_is_written.ensures c.rewritten_obeys.ensures
    c.rewritten_stands_apart.ensures)

pub returns-clause-component : goal.returns-clause-component
returns-clause-component c =
    component_written c.component_is_written.ensures c.rewritten_obeys.ensures
    c.rewritten_stands_apart.ensures

pub returns-clause-tree : goal.returns-clause-tree
returns-clause-tree c = tree_written c.component_is_written.ensures
