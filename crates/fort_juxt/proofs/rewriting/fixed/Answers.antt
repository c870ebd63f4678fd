use Rattle.fort_juxt.proofs.TightLaws.{fixes, refuses_fixed}
use Rattle.fort_juxt.proofs.rewriting.fixed.Goals as goal

pub returns-then-before : goal.returns-then-before
returns-then-before c =
    refuses_fixed c.args.elements.now c.args.at _ c.requires.none c.requires.first c.requires.behind
    c.if-before.true

pub returns : goal.returns
returns c =
    fixes c.args.elements.now c.args.at _ c.requires.none c.requires.first c.requires.behind
    c.if-before.false
