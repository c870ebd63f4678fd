use Rattle.std.proofs.Common.{◌∷◌, ap, ◌∙◌}
use Rattle.fort_frames.specs.Frames.{frames}
use Rattle.fort_plain.proofs.Outside.{out_node, out_node_whole}
use Rattle.fort_plain.proofs.aside.out_of.Goals as goal

pub returns-in_ok-head-in-Node-clause-inside : goal.returns-in_ok-head-in-Node-clause-inside
returns-in_ok-head-in-Node-clause-inside c = λ t keep path place e h.
    out_node c.args.clock t keep path place c.args.below c.in-Node.node c.args.part
    c.in_ok-head-in-Node.head c.in_ok-head-in-Node.parts (e
    ∙ ap (λ f. f ∷ frames c.args.below.stack) c.in-Node.is)
    c.in_ok-head-in-Node.ensures.head c.in_ok-head-in-Node.ensures.parts h

pub returns-in_ok-head-in-Node-clause-whole : goal.returns-in_ok-head-in-Node-clause-whole
returns-in_ok-head-in-Node-clause-whole c = λ t place e h.
    out_node_whole c.args.clock t place c.args.below c.in-Node.node c.args.part
    c.in_ok-head-in-Node.head c.in_ok-head-in-Node.parts (e
    ∙ ap (λ f. f ∷ frames c.args.below.stack) c.in-Node.is)
    c.in_ok-head-in-Node.ensures.head c.in_ok-head-in-Node.ensures.parts h
