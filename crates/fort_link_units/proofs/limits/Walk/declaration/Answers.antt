use Rattle.fort_link_units.proofs.ApiLimits.{variable_walks, plain_walks}
use Rattle.fort_link_units.proofs.limits.Walk.declaration.Goals as goal

pub returns-in-Variable : goal.returns-in-Variable
returns-in-Variable c = rw (c.in-Variable.is, variable_walks) (cc)

pub returns-in-Trait : goal.returns-in-Trait
returns-in-Trait c = rw (c.in-Trait.is, plain_walks)

pub returns-in-Object : goal.returns-in-Object
returns-in-Object c = rw (c.in-Object.is, plain_walks)
