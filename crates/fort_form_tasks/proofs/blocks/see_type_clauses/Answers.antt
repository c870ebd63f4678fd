use Rattle.fort_form_tasks.specs.Tasks.{type_clause_value}
use Rattle.fort_form_tasks.proofs.Steps.{one_more}
use Rattle.fort_form_tasks.proofs.blocks.see_type_clauses.Goals as goal

pub loop-clause-preserved : goal.loop-clause-preserved
loop-clause-preserved c =
    λ k. one_more k (type_clause_value k) c.args.clauses.now c.loop-clause.clause-index
    c.clause-item.result c.loop-clause-test.true c.clause-item.is (c.loop-clause.invariant k)
    (c.in_ok-see.ensures k)
