use Rattle.std.proofs.Common.{◌∷◌, subst}
use Rattle.fort_form_tasks.specs.declared.task.Task.{Task}
use Rattle.fort_form_tasks.specs.Tasks.{Leads}
use Rattle.fort_form_walk.proofs.Walking.{does_see, does_build}
use Rattle.fort_form_walk.proofs.walk.step.Goals as goal

pub returns-in_ok-open-in-See : goal.returns-in_ok-open-in-See
returns-in_ok-open-in-See g c =
    let k = g.L.Lookup.source c.args.lookup.now in
    λ end h. does_see k c.in-See.part c.args.forms.now end c.in_ok-open-in-See.ensures (subst (λ
    (t : Task). Leads k (t ∷ c.args.tasks.now) c.args.forms.now end) c.in-See.is h)

pub returns-in_ok-push-in-Build : goal.returns-in_ok-push-in-Build
returns-in_ok-push-in-Build g c =
    let k = g.L.Lookup.source c.args.lookup.now in
    λ end h. does_build k c.in-Build.part c.args.tasks.now end c.in_ok-made-in-Build.ensures
    c.in_ok-push-in-Build.ensures (subst (λ
    (t : Task). Leads k (t ∷ c.args.tasks.now) c.args.forms.now end) c.in-Build.is h)
