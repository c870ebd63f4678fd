use Rattle.std.proofs.Common.{sym}
use Rattle.std.proofs.lemmas.List.{length-map}
use Rattle.fort_tree_limits.proofs.EarliestLaws.{one_and}
use Rattle.fort_tree_limits.proofs.declarations.listed_parameter_count.Goals as goal

pub returns-in-Some : goal.returns-in-Some
returns-in-Some c = rw (c.as_slice.ensures, c.in-Some.is, length-map) (sym (one_and _))
