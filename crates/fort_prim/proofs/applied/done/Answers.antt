use Rattle.std.proofs.Common.{◌∙◌, ap, sym}
use Rattle.fort_prim.specs.Answers.{reply}
use Rattle.fort_prim.specs.Operations.{answer_by}
use Rattle.fort_prim.specs.declared.operation.Operation.{Operation}
use Rattle.fort_prim.proofs.applied.done.Goals as goal

pub returns-in-TextsEqual : goal.returns-in-TextsEqual
returns-in-TextsEqual c =
    c.texts_equal.ensures c.args.program.now ∙ ap (λ
    (o : Operation). reply (answer_by c.args.program.now o c.args.arguments.now))
    (sym c.in-TextsEqual.is)

pub returns-in-Truths : goal.returns-in-Truths
returns-in-Truths c =
    c.truths.ensures c.args.program.now ∙ ap (λ
    (o : Operation). reply (answer_by c.args.program.now o c.args.arguments.now))
    (sym c.in-Truths.is)

pub returns-in-Not : goal.returns-in-Not
returns-in-Not c =
    c.negation.ensures c.args.program.now ∙ ap (λ
    (o : Operation). reply (answer_by c.args.program.now o c.args.arguments.now))
    (sym c.in-Not.is)

pub returns-in-Same : goal.returns-in-Same
returns-in-Same c =
    c.are_same.ensures c.args.program.now ∙ ap (λ
    (o : Operation). reply (answer_by c.args.program.now o c.args.arguments.now))
    (sym c.in-Same.is)

pub returns-in-RangeTo : goal.returns-in-RangeTo
returns-in-RangeTo c =
    c.range_to.ensures c.args.program.now ∙ ap (λ
    (o : Operation). reply (answer_by c.args.program.now o c.args.arguments.now))
    (sym c.in-RangeTo.is)

pub returns-in-Abort : goal.returns-in-Abort
returns-in-Abort c =
    c.aborted.ensures c.args.program.now ∙ ap (λ
    (o : Operation). reply (answer_by c.args.program.now o c.args.arguments.now))
    (sym c.in-Abort.is)

pub returns-in-Widen : goal.returns-in-Widen
returns-in-Widen c =
    c.widen.ensures c.args.program.now ∙ ap (λ
    (o : Operation). reply (answer_by c.args.program.now o c.args.arguments.now))
    (sym c.in-Widen.is)
