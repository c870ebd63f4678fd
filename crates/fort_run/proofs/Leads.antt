-- What a call leads to.
use Rattle.std.proofs.Common.{◌≡◌, Result, Ok, Err, IfOk, subst}
use Rattle.fort_base.specs.declared.refusal.Memory.{Memory}
use Rattle.fort_run.specs.Reply.{Reply, TellsRun}
use Rattle.fort_run.specs.Said.{said}
use Rattle.fort_run.specs.Tasks.{LeadsTo, writing_of}
use Rattle.fort_run.specs.declared.meant.Meant.{Meant}
use Rattle.fort_run.specs.declared.meant.Meant.TheVariants.{Says, Runs}
use Rattle.fort_run.specs.declared.meant.Task.{Task}

-- Where replies of one kind are of another, a call that leads to the one leads to the other.
pub leads_on : (Kind Other : Reply → Type 0) (m : Meant)
    → ((reply : Reply) → Kind reply → Other reply) → LeadsTo Kind m → LeadsTo Other m
leads_on Kind Other (Says answer) are is = are (said answer) is
leads_on Kind Other (Runs task) are is = (is.0, λ reply tells. are reply (is.1 reply tells))

pub leads_on_if : (Kind Other : Reply → Type 0) (r : Result Meant Memory)
    → ((reply : Reply) → Kind reply → Other reply) → IfOk r (LeadsTo Kind)
    → IfOk r (LeadsTo Other)
leads_on_if Kind Other (Ok m) are is = leads_on Kind Other m are is
leads_on_if Kind Other (Err e) are is = tt

-- What tells a run of the task that a call leads to is a reply of its kind.
pub one_of_kind : (Kind : Reply → Type 0) (m : Meant) (task : Task) (reply : Reply)
    → m ≡ Runs task → LeadsTo Kind m
    → TellsRun (writing_of task.writes) task.program task.fuel reply → Kind reply
one_of_kind Kind m task reply e leads tells = (subst (LeadsTo Kind) e leads).1 reply tells
