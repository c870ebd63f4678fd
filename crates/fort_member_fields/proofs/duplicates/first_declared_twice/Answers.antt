use Rattle.std.proofs.Common.{refl, subst}
use Rattle.std.proofs.lemmas.Option.{slice_get_read}
use Rattle.fort_base.specs.Places.{IsFirst}
use Rattle.fort_member_fields.specs.Rules.{IsRepeated}
use Rattle.fort_member_fields.proofs.DuplicateLaws.{twice_step, twice_all}
use Rattle.fort_member_fields.proofs.duplicates.first_declared_twice.Goals as goal

pub loop-fields-preserved : goal.loop-fields-preserved
loop-fields-preserved c =
    twice_step c.args.own.now c.loop-fields.fields-index c.fields-item.result c.loop-fields.best
    c.in_ok-first_repeated.field-0 c.earlier_of-best.result
    (slice_get_read c.args.own.now _ c.loop-fields.fields-index c.fields-item.result refl
    c.loop-fields-test.true c.fields-item.is)
    (subst (λ z. IsFirst (IsRepeated z) c.in_ok-first_repeated.field-0) c.as_slice.ensures
    c.in_ok-first_repeated.ensures) c.earlier_of-best.ensures c.loop-fields.invariant

pub returns : goal.returns
returns c =
    twice_all c.args.own.now c.loop-fields.fields-index _ c.loop-fields-test.false
    c.loop-fields.invariant
