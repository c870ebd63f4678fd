use Rattle.std.proofs.Common.{sym, ◌∙◌, arith}
use Rattle.fort_juxt.proofs.TightLaws.{at_takes, takes_argument, refuses_argument}
use Rattle.fort_juxt.proofs.rewriting.applied.Goals as goal

pub bounds-elements-at : goal.bounds-elements-at
bounds-elements-at c = let w = at_takes c.args.elements.now c.args.at c.requires in omega arith

pub slice_bounds-is_argument-count : goal.slice_bounds-is_argument-count
slice_bounds-is_argument-count c =
    let w = at_takes c.args.elements.now c.args.at c.requires in omega arith

pub slice_bounds-is_argument-start : goal.slice_bounds-is_argument-start
slice_bounds-is_argument-start c =
    let w = at_takes c.args.elements.now c.args.at c.requires in omega arith

pub returns-then-is_argument : goal.returns-then-is_argument
returns-then-is_argument c =
    takes_argument c.args.elements.now c.args.at _ c.requires (sym c.is_argument.ensures
    ∙ c.if-is_argument.true)

pub returns : goal.returns
returns c =
    refuses_argument c.args.elements.now c.args.at _ c.requires (sym c.is_argument.ensures
    ∙ c.if-is_argument.false)
