use Rattle.std.proofs.Common.{rules, arith, IfNone, IfSome, ◌≡◌, ◌-◌, ◌∷◌, subst}
use Rattle.fort_core.specs.declared.term.Term.{Term}
use Rattle.fort_hall_parts.specs.Parts.{IsGoing, IsOnward, LeadsNowhere}
use Rattle.fort_hall_parts.specs.declared.node.Onward.{Onward}
use Rattle.fort_hall_parts.proofs.Finds.{found_through_all, none_onward, none_through_all}
use Rattle.fort_hall_parts.proofs.find.+find.Goals as goal

pub returns-in-None-clause-none : goal.returns-in-None-clause-none
returns-in-None-clause-none t c =
    let n = c.in-Some.number.now in
    let is_path : c.args.path.now ≡ n ∷ c.in-Some.rest.now = search rules in
    let nowhere : LeadsNowhere c.get-2.result.now n =
    subst (λ o. IfNone o (LeadsNowhere c.get-2.result.now n)) c.in-None.is
    c.in_ok-step_down.ensures.none in
    none_onward c.args.whole.now c.args.path.now n c.in-Some.rest.now c.args.depth is_path
    (subst (λ x. LeadsNowhere x n) c.get-2.ensures nowhere)

pub returns-in-Some-Through-clause-part : goal.returns-in-Some-Through-clause-part
returns-in-Some-Through-clause-part t c =
    let n = c.in-Some.number.now in
    let is_path : c.args.path.now ≡ n ∷ c.in-Some.rest.now = search rules in
    let onward : IsOnward c.get-2.result.now n c.in-Some-Through.field-0 =
    subst (λ o. IfSome o (IsOnward c.get-2.result.now n)) c.in-Some-Through.is
    c.in_ok-step_down.ensures.onward in
    let going : IsGoing c.get-2.result.now c.in-Some-Through.form =
    subst (IsOnward c.get-2.result.now n) c.in-Some-Through.field-0-is onward in
    found_through_all c.part_at.result c.args.whole.now c.in-Some-Through.form c.args.path.now n
    c.in-Some.rest.now (subst (λ x. IsGoing x c.in-Some-Through.form) c.get-2.ensures going) is_path
    c.part_at.ensures.part

pub returns-in-Some-Through-clause-none : goal.returns-in-Some-Through-clause-none
returns-in-Some-Through-clause-none t c =
    let n = c.in-Some.number.now in
    let is_path : c.args.path.now ≡ n ∷ c.in-Some.rest.now = search rules in
    let deep = c.if-depth-eq0.false in
    let onward : IsOnward c.get-2.result.now n c.in-Some-Through.field-0 =
    subst (λ o. IfSome o (IsOnward c.get-2.result.now n)) c.in-Some-Through.is
    c.in_ok-step_down.ensures.onward in
    let going : IsGoing c.get-2.result.now c.in-Some-Through.form =
    subst (IsOnward c.get-2.result.now n) c.in-Some-Through.field-0-is onward in
    none_through_all c.part_at.result c.args.whole.now c.in-Some-Through.form c.args.path.now n
    c.in-Some.rest.now c.args.depth (c.args.depth - 1)
    (subst (λ x. IsGoing x c.in-Some-Through.form) c.get-2.ensures going) is_path
    (omega (arith, deep)) c.part_at.ensures.none
