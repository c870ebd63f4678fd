use Rattle.fort_tree.proofs.MeasuresBlocks.{measures-Case, measures-Do, measures-For, measures-If, measures-Try, measures-Typecase, measures-While}
use Rattle.fort_tree_limits.proofs.places.place_of_delimited.Goals as goal

pub returns-in-Do : goal.returns-in-Do
returns-in-Do c = rw (c.in-Do.is, measures-Do)

pub returns-in-If : goal.returns-in-If
returns-in-If c = rw (c.in-If.is, measures-If)

pub returns-in-While : goal.returns-in-While
returns-in-While c = rw (c.in-While.is, measures-While)

pub returns-in-For : goal.returns-in-For
returns-in-For c = rw (c.in-For.is, measures-For)

pub returns-in-Case : goal.returns-in-Case
returns-in-Case c = rw (c.in-Case.is, measures-Case)

pub returns-in-Typecase : goal.returns-in-Typecase
returns-in-Typecase c = rw (c.in-Typecase.is, measures-Typecase)

pub returns-in-Try : goal.returns-in-Try
returns-in-Try c = rw (c.in-Try.is, measures-Try)
