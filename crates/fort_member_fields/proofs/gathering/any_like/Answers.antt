use Rattle.std.proofs.Common.{◌≡◌, false, true, refl}
use Rattle.std.proofs.lemmas.Option.{slice_get_read}
use Rattle.fort_member_fields.specs.Walks.{IsLike}
use Rattle.fort_member_fields.proofs.Searches.{none_first, none_more, found_told, none_told}
use Rattle.fort_member_fields.proofs.gathering.any_like.Goals as goal

pub loop-other-init : goal.loop-other-init
loop-other-init c = none_first (IsLike c.args.field.now) c.args.fields.now

pub loop-other-preserved : goal.loop-other-preserved
loop-other-preserved c =
    none_more (IsLike c.args.field.now) c.args.fields.now c.loop-other.other-index
    c.other-item.result (slice_get_read _ _ _ _ refl c.loop-other-test.true c.other-item.is)
    (λ p. let f : false ≡ true = c.if-same_field.ensures.1 p in cc) (c.loop-other.invariant)

pub returns-then-same_field : goal.returns-then-same_field
returns-then-same_field c =
    found_told (IsLike c.args.field.now) c.args.fields.now c.loop-other.other-index
    c.other-item.result (slice_get_read _ _ _ _ refl c.loop-other-test.true c.other-item.is)
    (c.if-same_field.ensures.0 refl)

pub returns : goal.returns
returns c =
    none_told (IsLike c.args.field.now) c.args.fields.now c.loop-other.other-index
    c.loop-other-test.false (c.loop-other.invariant)
