use Rattle.std.proofs.Common.{ap, ◌∙◌}
use Rattle.std.specs.Prelude.{slice_set}
use Rattle.std.proofs.lemmas.Result.{IfOk-weaker}
use Rattle.fort_plain.proofs.Settling.{value_in_group, value_in_other}
use Rattle.fort_plain.proofs.settled.value_in_node.Goals as goal

pub returns-in_ok-form-in-Group : goal.returns-in_ok-form-in-Group
returns-in_ok-form-in-Group c =
    IfOk-weaker c.settled_term.result _ _
    (λ r k clock. value_in_group clock c.args.node c.args.value _ _ r c.in-Group.is
    (c.set.ensures ∙ ap (slice_set c.args.node.parts c.args.node.«at») c.in_ok-new-in-Group.ensures)
    c.in_ok-form-in-Group.ensures k) c.settled_term.ensures

pub returns-in_default : goal.returns-in_default
returns-in_default c = λ clock.
    value_in_other clock c.args.node c.args.value c.in_default.not-Group
