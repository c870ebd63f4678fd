use Rattle.fort_form_meaning.specs.Formed.{formed_type_clause}
use Rattle.fort_form_tasks.specs.Tasks.{type_clause_value}
use Rattle.fort_form_build.proofs.Giving.{none_yet, one_more, all_made}
use Rattle.fort_form_build.proofs.blocks.type_branches.Goals as goal

pub loop-clause-init : goal.loop-clause-init
loop-clause-init g c = let k = g.L.Lookup.source c.args.lookup.now in
    none_yet (type_clause_value k) (formed_type_clause k) c.args.clauses.now _ c.new-made.ensures

pub loop-clause-preserved : goal.loop-clause-preserved
loop-clause-preserved g c = let k = g.L.Lookup.source c.args.lookup.now in
    one_more (type_clause_value k) (formed_type_clause k) c.args.clauses.now
    c.loop-clause.clause-index c.clause-item.result c.loop-clause-test.true c.clause-item.is
    c.loop-clause.invariant c.in_ok-type_branch.ensures c.in_ok-push.ensures.ok

pub returns : goal.returns
returns g c = let k = g.L.Lookup.source c.args.lookup.now in
    all_made (type_clause_value k) (formed_type_clause k) c.args.clauses.now
    c.loop-clause.clause-index c.loop-clause-test.false c.loop-clause.invariant
