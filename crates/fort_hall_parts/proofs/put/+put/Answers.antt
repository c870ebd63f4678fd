use Rattle.std.proofs.Common.{rules, IfNone, ◌≡◌, ◌∷◌, subst}
use Rattle.fort_core.specs.declared.term.Term.{Term}
use Rattle.fort_hall_parts.specs.Parts.{LeadsNowhere}
use Rattle.fort_hall_parts.proofs.Finds.{not_onward}
use Rattle.fort_hall_parts.proofs.put.+put.Goals as goal

pub put_in-returns-in-None-clause-none : goal.put_in-returns-in-None-clause-none
put_in-returns-in-None-clause-none t c =
    let n = c.in-Some.number.now in
    let is_path : c.args.path.now ≡ n ∷ c.in-Some.rest.now = search rules in
    let nowhere : LeadsNowhere c.get-2.result.now n =
    subst (λ o. IfNone o (LeadsNowhere c.get-2.result.now n)) c.in-None.is
    c.in_ok-step_down.ensures.none in
    not_onward c.args.whole.now c.args.part.now c.args.path.now n c.in-Some.rest.now c.args.depth
    is_path (subst (λ x. LeadsNowhere x n) c.get-2.ensures nowhere)
