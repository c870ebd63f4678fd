use Rattle.fort_form_tasks.specs.Tasks.{inside_case_clause}
use Rattle.fort_form_tasks.proofs.Steps.{some_more}
use Rattle.fort_form_tasks.proofs.blocks.see_in_case_clauses.Goals as goal

pub loop-clause-preserved : goal.loop-clause-preserved
loop-clause-preserved c =
    λ k. some_more k (inside_case_clause k) c.args.clauses.now c.loop-clause.clause-index
    c.clause-item.result c.loop-clause-test.true c.clause-item.is (c.loop-clause.invariant k)
    (c.in_ok-see_in_case_clause.ensures k)
