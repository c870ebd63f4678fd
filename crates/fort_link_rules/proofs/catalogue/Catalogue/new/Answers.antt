use Rattle.fort_link_rules.proofs.Chains.{tied_none}
use Rattle.fort_link_rules.proofs.catalogue.Catalogue.new.Goals as goal

pub returns-clause-tied : goal.returns-clause-tied
returns-clause-tied c = tied_none _ c.new.ensures c.new-2.ensures c.new-3.ensures
