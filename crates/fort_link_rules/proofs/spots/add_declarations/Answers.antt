use Rattle.fort_tree.specs.Limits.{declaration_places}
use Rattle.fort_link_rules.proofs.Steps.{one_more}
use Rattle.fort_link_rules.proofs.spots.add_declarations.Goals as goal

pub loop-declared-preserved : goal.loop-declared-preserved
loop-declared-preserved c =
    one_more declaration_places c.args.declarations.now c.loop-declared.declared-index
    c.declared-item.result c.args.places.now c.loop-declared.places _ c.loop-declared-test.true
    c.declared-item.is c.loop-declared.invariant c.in_ok-add_declaration.ensures
