use Rattle.std.proofs.Common.{[], ◌∷◌}
use Rattle.fort_form_meaning.specs.Formed.{formed_expr}
use Rattle.fort_form_tasks.specs.Tasks.{Leads}
use Rattle.fort_form_walk.proofs.walk.form.Given as goal

abbrev pub invariant-loop-turn : goal.invariant-loop-turn
invariant-loop-turn g l =
    Leads (g.L.Lookup.source l.lookup) l.tasks l.forms
    (formed_expr (g.L.Lookup.source l.lookup) l.expr ∷ [])
