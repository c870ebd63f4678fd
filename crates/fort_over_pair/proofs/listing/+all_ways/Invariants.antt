use Rattle.std.proofs.Common.{length}
use Rattle.fort_over_pair.proofs.listing.+all_ways.Given as goal

abbrev pub decreases-all_ways : goal.decreases-all_ways
decreases-all_ways l = length l.lists.now
