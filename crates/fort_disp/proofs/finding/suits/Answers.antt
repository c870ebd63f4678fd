use Rattle.std.proofs.Common.{◌∙◌, sym}
use Rattle.fort_disp.proofs.Fitting.{short, broken}
use Rattle.fort_disp.proofs.finding.suits.Goals as goal

pub returns-then-len : goal.returns-then-len
returns-then-len c =
    short c.args.program.now c.args.values.now c.args.decl.now.parameters c.args.count
    (λ e. c.if-len.true (c.len.ensures ∙ e ∙ sym c.len-2.ensures))

pub returns-then-not-takes : goal.returns-then-not-takes
returns-then-not-takes c =
    broken c.args.program.now c.args.values.now c.args.decl.now.parameters c.args.count
    c.loop-place.place c.loop-place-test.true c.if-not-takes.ensures
