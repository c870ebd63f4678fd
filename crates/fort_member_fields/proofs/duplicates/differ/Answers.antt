use Rattle.std.proofs.Common.{◌≡◌, false, true, refl}
use Rattle.std.proofs.lemmas.Option.{slice_get_read}
use Rattle.fort_member_fields.specs.Walks.{HasOther}
use Rattle.fort_member_fields.proofs.Searches.{none_first, none_more, found_told, none_told}
use Rattle.fort_member_fields.proofs.duplicates.differ.Goals as goal

pub loop-field-init : goal.loop-field-init
loop-field-init c = none_first (HasOther c.args.own.now c.args.others.now) c.args.fields.now

pub loop-field-preserved : goal.loop-field-preserved
loop-field-preserved c =
    none_more (HasOther c.args.own.now c.args.others.now) c.args.fields.now c.loop-field.field-index
    c.field-item.result (slice_get_read _ _ _ _ refl c.loop-field-test.true c.field-item.is)
    (λ p. let f : false ≡ true = c.if-has_other.ensures.1 p in cc) c.loop-field.invariant

pub returns-then-has_other : goal.returns-then-has_other
returns-then-has_other c =
    found_told (HasOther c.args.own.now c.args.others.now) c.args.fields.now
    c.loop-field.field-index c.field-item.result
    (slice_get_read _ _ _ _ refl c.loop-field-test.true c.field-item.is)
    (c.if-has_other.ensures.0 refl)

pub returns : goal.returns
returns c =
    none_told (HasOther c.args.own.now c.args.others.now) c.args.fields.now c.loop-field.field-index
    c.loop-field-test.false c.loop-field.invariant
