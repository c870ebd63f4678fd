use Rattle.fort_tree.proofs.MeasuresFlats.{measures-ArrayFill, measures-Delimited, measures-False, measures-Name, measures-Number, measures-Parens, measures-Self_, measures-Text, measures-True}
use Rattle.fort_tree_limits.proofs.places.place_of_atom.Goals as goal

pub returns-in-Name : goal.returns-in-Name
returns-in-Name c = rw (c.in-Name.is, measures-Name)

pub returns-in-Number : goal.returns-in-Number
returns-in-Number c = rw (c.in-Number.is, measures-Number)

pub returns-in-Text : goal.returns-in-Text
returns-in-Text c = rw (c.in-Text.is, measures-Text)

pub returns-in-True : goal.returns-in-True
returns-in-True c = rw (c.in-True.is, measures-True)

pub returns-in-False : goal.returns-in-False
returns-in-False c = rw (c.in-False.is, measures-False)

pub returns-in-Self_ : goal.returns-in-Self_
returns-in-Self_ c = rw (c.in-Self_.is, measures-Self_)

pub returns-in-Parens : goal.returns-in-Parens
returns-in-Parens c = rw (c.in-Parens.is, measures-Parens)

pub returns-in-Delimited : goal.returns-in-Delimited
returns-in-Delimited c = rw (c.in-Delimited.is, measures-Delimited) (cc)

pub returns-in-ArrayFill : goal.returns-in-ArrayFill
returns-in-ArrayFill c = rw (c.in-ArrayFill.is, measures-ArrayFill) (cc)
