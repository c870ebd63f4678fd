use Rattle.std.proofs.Common.{◌∙◌, sym, ap}
use Rattle.fort_prim.specs.Answers.{reply}
use Rattle.fort_prim.proofs.applied.answered.Goals as goal

pub returns : goal.returns
returns c =
    c.in_ok-answer.ensures
    ∙ sym (ap reply (c.operation.ensures c.args.program.now c.args.arguments.now))
