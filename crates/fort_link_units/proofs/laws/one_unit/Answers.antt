use Rattle.fort_link_units.proofs.UnitLaws.{one_unit_of}
use Rattle.fort_link_units.proofs.laws.one_unit.Goals as goal

pub returns : goal.returns
returns c = one_unit_of c.at_most_one_tree.ensures
