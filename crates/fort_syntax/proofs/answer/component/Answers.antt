use Rattle.std.proofs.Common.{◌≡◌, Err, rules, subst}
use Rattle.fort_tree.specs.Openers.{AllShallow, FirstDeep}
use Rattle.fort_syntax.specs.Answer.{TooDeep, TooMany}
use Rattle.fort_syntax.proofs.Answering.{refused}
use Rattle.fort_syntax.proofs.answer.component.Goals as goal

pub returns-in-Some : goal.returns-in-Some
returns-in-Some c =
    TooDeep (subst (λ l. FirstDeep l c.in-Some.place) c.as_slice.ensures c.in-Some.ensures)

pub returns-in_err-parsed : goal.returns-in_err-parsed
returns-in_err-parsed c =
    let is : c.from_residual.result ≡ Err c.in_err-parsed.field-0.0 = search rules in
    rw is (refused c.args.tokens.now c.in_err-parsed.field-0.0
    (subst AllShallow c.as_slice.ensures c.in_default.ensures) c.in_err-parsed.ensures)

pub returns-in-Some-first_crowded : goal.returns-in-Some-first_crowded
returns-in-Some-first_crowded c =
    TooMany (subst AllShallow c.as_slice.ensures c.in_default.ensures)
    c.in_ok-parsed.parsed.component c.in_ok-parsed.ensures.0
    c.in-Some-first_crowded.ensures
