use Rattle.std.proofs.Common.{sym}
use Rattle.fort_tree.specs.Limits.{declaration_places}
use Rattle.fort_tree_limits.proofs.CensusLaws.{counted_none, one_more_of_all}
use Rattle.fort_tree_limits.proofs.census.Count.declarations.Goals as goal

pub loop-declared-init : goal.loop-declared-init
loop-declared-init c = sym (counted_none _)

pub loop-declared-preserved : goal.loop-declared-preserved
loop-declared-preserved c =
    one_more_of_all declaration_places c.as_slice-declared-items.result.now
    c.loop-declared.declared-index c.declared-item.result c.args.self.now c.loop-declared.self
    c.declaration.new.self c.loop-declared-test.true c.declared-item.is c.loop-declared.invariant
    c.declaration.ensures
