use Rattle.std.proofs.Common.{◌≡◌, false, true, sym, ◌∙◌}
use Rattle.std.proofs.lemmas.Option.{slice_get-get_or}
use Rattle.fort_member_fields.proofs.DuplicateLaws.{duplicate_first, duplicate_same, duplicate_more, duplicate_all}
use Rattle.fort_member_fields.proofs.duplicates.first_duplicate.Goals as goal

pub loop-number-init : goal.loop-number-init
loop-number-init c =
    duplicate_first c.args.types.now c.args.own.now c.args.places.now c.in_ok-best.best
    c.in_ok-best.ensures

pub loop-number-preserved-then-not-branch : goal.loop-number-preserved-then-not-branch
loop-number-preserved-then-not-branch c =
    duplicate_same c.args.types.now c.args.own.now c.args.places.now c.loop-number.number
    c.loop-number.best
    (λ w. let q = c.in_ok-gets_two.ensures.1 w
    in let f : false ≡ true = sym c.if-not-branch.true ∙ q in cc) c.loop-number.invariant

pub loop-number-preserved : goal.loop-number-preserved
loop-number-preserved c =
    duplicate_more c.args.types.now c.args.own.now c.args.places.now c.loop-number.number
    c.loop-number.best _ _ (slice_get-get_or _ _ _ c.loop-number-test.true)
    (c.in_ok-gets_two.ensures.0 c.if-not-branch.false) c.earlier-best.ensures
    c.loop-number.invariant

pub returns : goal.returns
returns c =
    duplicate_all c.args.types.now c.args.own.now c.args.places.now c.loop-number.number
    c.loop-number.best c.loop-number-test.false c.loop-number.invariant
