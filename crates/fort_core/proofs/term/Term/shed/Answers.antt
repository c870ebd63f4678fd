use Rattle.std.proofs.Common.{ap, ◌∙◌}
use Rattle.fort_core.specs.Weights.{waits, weight, value_weight}
use Rattle.fort_core.proofs.Weighing.{weight-Group, weight-Call, weight-Operator, weight-Also, popped, typecase_popped, try_popped, asleep_popped}
use Rattle.fort_core.proofs.term.Term.shed.Goals as goal

pub returns-in-Group : goal.returns-in-Group
returns-in-Group c = rw (c.in-Group.is, weight-Group c.in-Group.parts) c.many.ensures

pub returns-in-Call : goal.returns-in-Call
returns-in-Call c =
    rw (c.in-Call.is, weight-Call c.in-Call.field-0 c.in-Call.arguments) c.many-in-Call.ensures

pub returns-in-Operator : goal.returns-in-Operator
returns-in-Operator c =
    rw (c.in-Operator.is, weight-Operator c.in-Operator.field-0 c.in-Operator.operands)
    c.many-in-Operator.ensures

pub returns-in-Also : goal.returns-in-Also
returns-in-Also c = rw (c.in-Also.is, weight-Also c.in-Also.parts) c.many-in-Also.ensures

pub returns-in-Some : goal.returns-in-Some
returns-in-Some c =
    let f = c.in-Typecase in
    popped (weight c.in-Some.clause) _ _ (waits c.args.waiting) (ap weight f.is
    ∙ typecase_popped f.variable f.subject f.other c.in-Some.clause f.clauses c.pop.new.self
    c.in-Some._ty c.in-Some.ensures)

pub returns-in-Some-pop : goal.returns-in-Some-pop
returns-in-Some-pop c =
    let f = c.in-Try in
    popped (weight c.in-Some-pop.clause) _ _ (waits c.args.waiting) (ap weight f.is
    ∙ try_popped f.body f.variable c.in-Some-pop.clause f.clauses c.pop-in-Try.new.self
    f.last c.in-Some-pop._ty c.in-Some-pop.ensures)

pub returns-in-Some-pop-2 : goal.returns-in-Some-pop-2
returns-in-Some-pop-2 c =
    let f = c.in-Asleep in
    popped (value_weight c.in-Some-pop-2.mark) _ _ (waits c.args.waiting) (ap weight f.is
    ∙ asleep_popped f.body c.in-Some-pop-2.mark f.marks c.pop-in-Asleep.new.self
    c.in-Some-pop-2._loc c.in-Some-pop-2.ensures)
