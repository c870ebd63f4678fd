use Rattle.std.proofs.Common.{sym, ◌∙◌, arith}
use Rattle.fort_typing_elements.proofs.Places.{steps_on, drops_on, ended_next}
use Rattle.fort_typing_elements.proofs.rewritings.behind_postfix.Goals as goal

pub loop-at-preserved : goal.loop-at-preserved
loop-at-preserved c =
    let is = c.in-Some.ensures.cases.0 in
    record {
      found = c.loop-at.invariant.found
          ∙ steps_on c.loop-at.at c.loop-at.rest.now c.in-Some.more.now c.in-Some.field-0-0.now is
          (sym c.takes.ensures ∙ c.if-takes.false);
      left = drops_on c.loop-at.at c.args.elements.now c.loop-at.rest.now c.in-Some.more.now
          c.in-Some.field-0-0.now c.loop-at.invariant.left is;
    }

pub returns : goal.returns
returns c =
    sym (ended_next c.args.elements.now c.loop-at.at c.loop-at.rest.now c.loop-at.invariant.found
    c.loop-at.invariant.left (omega (arith, c.loop-at-test.false)) c.requires)
