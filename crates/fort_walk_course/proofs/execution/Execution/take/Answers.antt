use Rattle.std.proofs.lemmas.Result.{IfOk-weaker}
use Rattle.fort_walk_course.proofs.Taken.{legs_fit, take_stands}
use Rattle.fort_walk_course.proofs.execution.Execution.take.Goals as goal

pub taken-requires-clause-fits : goal.taken-requires-clause-fits
taken-requires-clause-fits c =
    let a = c.args in
    legs_fit _ _ _ _ _ _ c.requires.may

pub taken-requires-clause-bounded : goal.taken-requires-clause-bounded
taken-requires-clause-bounded c = c.requires.may.bounded

pub returns-clause-stands : goal.returns-clause-stands
returns-clause-stands c =
    IfOk-weaker c.taken.result _ _
    (λ n t. take_stands _ _ n _ _ _ _ c.requires.may c.requires.affords t) c.taken.ensures

pub returns-clause-fuel : goal.returns-clause-fuel
returns-clause-fuel c = IfOk-weaker c.taken.result _ _ (λ n t. t.fuel) c.taken.ensures

pub returns-clause-picks : goal.returns-clause-picks
returns-clause-picks c =
    IfOk-weaker c.taken.result _ _ (λ n t. record { picks = t.picks; outer = t.outer })
    c.taken.ensures

pub returns-clause-done : goal.returns-clause-done
returns-clause-done c = IfOk-weaker c.taken.result _ _ (λ n t. t.layers) c.taken.ensures
