use Rattle.fort_tree_limits.proofs.DeclarationWalks.{field_walks}
use Rattle.fort_tree_limits.proofs.walk.Walk.trait_member.Goals as goal

pub returns-in-Field : goal.returns-in-Field
returns-in-Field c = rw (c.in-Field.is, field_walks) (cc)
