use Rattle.fort_link_rules.proofs.Chains.{Passed}
use Rattle.fort_link_rules.proofs.catalogue.Catalogue.has.Given as goal

abbrev pub invariant-back : goal.invariant-back
invariant-back l = Passed l.self.signatures l.wanted l.at

abbrev pub decreases-back : goal.decreases-back
decreases-back l = l.at
