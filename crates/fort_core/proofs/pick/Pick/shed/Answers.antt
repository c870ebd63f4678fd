use Rattle.std.proofs.Common.{ap, ◌∙◌, ◌+◌}
use Rattle.fort_core.specs.Nodes.{all_nodes}
use Rattle.fort_core.proofs.Falls.{nodes-Step, nodes-Attempt, work-popped, work-swap, work-next}
use Rattle.fort_core.proofs.pick.Pick.shed.Goals as goal

pub returns-then-is_empty-2 : goal.returns-then-is_empty-2
returns-then-is_empty-2 c =
    rw c.in-Attempt.is
    (work-popped _ c.in-Attempt.inner _ c.args.left _
    (nodes-Attempt c.in-Attempt.path c.in-Attempt.inner)
    (c.is_empty-else-is_empty.ensures.0 c.if-is_empty-2.true)
    c.pop-next-then-is_empty-2.ensures)

pub returns-else-is_empty-2 : goal.returns-else-is_empty-2
returns-else-is_empty-2 c =
    let s = c.replace_last-next.ensures in
    rw c.in-Attempt.is
    (work-swap _ _ _ c.in-Attempt.inner s.0 _ _ c.args.left
    (nodes-Attempt c.in-Attempt.path c.in-Attempt.inner)
    (nodes-Attempt c.in-Attempt.path c.args.left) s.1 s.2 c.last_to_front-rest.ensures)

pub returns-in-Step : goal.returns-in-Step
returns-in-Step c =
    rw c.in-Step.is
    (work-next _ c.args.left _ _ (nodes-Step c.in-Step._path c.in-Step.field-1) c.pop-next.ensures)

pub returns-then-is_empty : goal.returns-then-is_empty
returns-then-is_empty c =
    let none = c.is_empty.ensures.0 c.if-is_empty.true in
    rw c.in-Attempt.is
    (work-next _ c.args.left _ _ (nodes-Attempt c.in-Attempt.path c.in-Attempt.inner
    ∙ ap (λ ps. 1 + all_nodes ps) none) c.pop-next-then-is_empty.ensures)
