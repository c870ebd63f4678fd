use Rattle.std.proofs.Common.{refl}
use Rattle.std.proofs.lemmas.Result.{IfOk-weaker}
use Rattle.fort_run.specs.Reply.{Means}
use Rattle.fort_run.specs.Said.{said}
use Rattle.fort_run.proofs.Leads.{one_of_kind}
use Rattle.fort_run.proofs.top.answered.Goals as goal

pub returns-in-Says-clause-written : goal.returns-in-Says-clause-written
returns-in-Says-clause-written g c =
    c.nothing_was_written.ensures c.args.out.now _ _ _ _ c.requires.out refl refl

pub returns-in-Runs-clause-means : goal.returns-in-Runs-clause-means
returns-in-Runs-clause-means g c =
    IfOk-weaker c.run_task.result _ _
    (λ both tells. one_of_kind (Means _ _ _ _) c.in_ok-answer.field-0 c.in-Runs.task
    (said both.0) c.in-Runs.is c.in_ok-answer.ensures.means tells)
    c.run_task.ensures.tells
