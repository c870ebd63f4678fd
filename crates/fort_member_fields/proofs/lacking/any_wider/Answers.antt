use Rattle.std.proofs.Common.{◌≡◌, false, true, refl}
use Rattle.std.proofs.lemmas.Option.{slice_get_read}
use Rattle.fort_member_fields.specs.Walks.{IsWiderThan}
use Rattle.fort_member_fields.proofs.Searches.{none_first, none_more, found_told, none_told}
use Rattle.fort_member_fields.proofs.lacking.any_wider.Goals as goal

pub loop-other-init : goal.loop-other-init
loop-other-init c = λ h r. none_first (IsWiderThan h c.args.field.now) c.args.own.now

pub loop-other-preserved : goal.loop-other-preserved
loop-other-preserved c =
    λ h r. none_more (IsWiderThan h c.args.field.now) c.args.own.now c.loop-other.other-index
    c.other-item.result (slice_get_read _ _ _ _ refl c.loop-other-test.true c.other-item.is)
    (λ p. let f : false ≡ true = (c.if-is_wider.ensures h r).1 p in cc) (c.loop-other.invariant h r)

pub returns-then-is_wider : goal.returns-then-is_wider
returns-then-is_wider c =
    λ h r. found_told (IsWiderThan h c.args.field.now) c.args.own.now c.loop-other.other-index
    c.other-item.result (slice_get_read _ _ _ _ refl c.loop-other-test.true c.other-item.is)
    ((c.if-is_wider.ensures h r).0 refl)

pub returns : goal.returns
returns c =
    λ h r. none_told (IsWiderThan h c.args.field.now) c.args.own.now c.loop-other.other-index
    c.loop-other-test.false (c.loop-other.invariant h r)
