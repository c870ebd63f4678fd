use Rattle.fort_link_rules.specs.Provided.{IsMissingAt}
use Rattle.fort_link_rules.proofs.Gathering.{gathers_none, gathers_more, gathers_all}
use Rattle.fort_link_rules.proofs.Missing.{missing_where}
use Rattle.fort_link_rules.proofs.provided.add_missing.Goals as goal

pub loop-declared-init : goal.loop-declared-init
loop-declared-init c =
    gathers_none (IsMissingAt c.args.catalogue.now.signatures) c.args.declarations.now _

pub loop-declared-preserved : goal.loop-declared-preserved
loop-declared-preserved c =
    gathers_more (IsMissingAt c.args.catalogue.now.signatures) c.args.declarations.now
    c.loop-declared.declared-index c.declared-item.result _ c.loop-declared.places _
    c.loop-declared-test.true c.declared-item.is c.loop-declared.invariant
    (missing_where c.args.catalogue.now.signatures c.declared-item.result c.has-there.result _ _ _ _
    c.in_ok-signature.ensures c.promised_at.ensures c.has-there.ensures c.in_ok-add_where.ensures)

pub returns : goal.returns
returns c =
    gathers_all (IsMissingAt c.args.catalogue.now.signatures) c.args.declarations.now
    c.loop-declared.declared-index _ _ c.loop-declared-test.false c.loop-declared.invariant
