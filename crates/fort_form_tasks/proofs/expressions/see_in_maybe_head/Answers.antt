use Rattle.std.proofs.Common.{Option, ap}
use Rattle.fort_tree.specs.declared.expr.Head.{Head}
use Rattle.fort_form_tasks.specs.Tasks.{inside_head, inside_maybe_head}
use Rattle.fort_form_tasks.proofs.Steps.{by, one_seen}
use Rattle.fort_form_tasks.proofs.expressions.see_in_maybe_head.Goals as goal

pub returns-in_ok-see_in_head : goal.returns-in_ok-see_in_head
returns-in_ok-see_in_head c =
    λ k. one_seen k (by k (λ
    (x : Head). inside_head k x) c.get.ensures (c.in_ok-see_in_head.ensures k)) (ap (λ
    (o : Option Head). inside_maybe_head k o) c.in-Some.is)
