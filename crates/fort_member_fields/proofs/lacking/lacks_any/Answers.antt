use Rattle.std.proofs.Common.{◌≡◌, false, true, refl}
use Rattle.std.proofs.lemmas.Option.{slice_get_read}
use Rattle.fort_member_fields.specs.Walks.{Lacks}
use Rattle.fort_member_fields.proofs.Searches.{none_first, none_more, found_told, none_told}
use Rattle.fort_member_fields.proofs.lacking.lacks_any.Goals as goal

pub loop-field-init : goal.loop-field-init
loop-field-init c = λ h r. none_first (Lacks h c.args.must c.args.own.now) c.args.fields.now

pub loop-field-preserved : goal.loop-field-preserved
loop-field-preserved c =
    λ h r. none_more (Lacks h c.args.must c.args.own.now) c.args.fields.now c.loop-field.field-index
    c.field-item.result (slice_get_read _ _ _ _ refl c.loop-field-test.true c.field-item.is)
    (λ p. let f : false ≡ true = (c.if-lacks.ensures h r).1 p in cc) (c.loop-field.invariant h r)

pub returns-then-lacks : goal.returns-then-lacks
returns-then-lacks c =
    λ h r. found_told (Lacks h c.args.must c.args.own.now) c.args.fields.now
    c.loop-field.field-index c.field-item.result
    (slice_get_read _ _ _ _ refl c.loop-field-test.true c.field-item.is)
    ((c.if-lacks.ensures h r).0 refl)

pub returns : goal.returns
returns c =
    λ h r. none_told (Lacks h c.args.must c.args.own.now) c.args.fields.now c.loop-field.field-index
    c.loop-field-test.false (c.loop-field.invariant h r)
