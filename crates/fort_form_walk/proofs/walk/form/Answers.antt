use Rattle.std.proofs.Common.{List, [], ◌∷◌, subst}
use Rattle.fort_form_meaning.specs.Formed.{formed_expr}
use Rattle.fort_form_tasks.specs.declared.task.Task.{Task}
use Rattle.fort_form_tasks.specs.Tasks.{Leads}
use Rattle.fort_form_walk.proofs.Walking.{start, ended}
use Rattle.fort_form_walk.proofs.walk.form.Goals as goal

pub loop-turn-init : goal.loop-turn-init
loop-turn-init g c =
    let k = g.L.Lookup.source c.args.lookup.now in
    start k _ c.in_ok-push.ensures c.new-tasks.ensures c.new-forms.ensures

pub loop-turn-preserved : goal.loop-turn-preserved
loop-turn-preserved g c =
    let k = g.L.Lookup.source c.args.lookup.now in
    c.in_ok-step-in-Some.ensures (formed_expr k c.args.expr.now ∷ []) (subst (λ
    (tasks : List Task). Leads k tasks c.loop-turn.forms
    (formed_expr k c.args.expr.now ∷ [])) c.in-Some.ensures c.loop-turn.invariant)

pub returns-in-None : goal.returns-in-None
returns-in-None g c =
    let k = g.L.Lookup.source c.args.lookup.now in
    ended k c.in-None.ensures.0 c.in_ok-form-in-None.ensures c.loop-turn.invariant
