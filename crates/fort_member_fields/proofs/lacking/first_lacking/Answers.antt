use Rattle.std.proofs.Common.{◌≡◌, ◌+◌, ◌-◌, Some, false, true, refl, length, arith}
use Rattle.std.specs.List.{slice_get}
use Rattle.std.proofs.lemmas.Option.{slice_get-get_or, slice_get_within}
use Rattle.fort_hier.proofs.First.{first_same, first_more, first_all, same_place}
use Rattle.fort_member_fields.specs.Rules.{LacksField, IsNotBelow}
use Rattle.fort_member_fields.proofs.lacking.first_lacking.Goals as goal

pub loop-number-preserved-then-not-lacks_field : goal.loop-number-preserved-then-not-lacks_field
loop-number-preserved-then-not-lacks_field c =
    first_same (λ k place. (slice_get c.args.places.now k ≡ Some place)
    × LacksField c.args.types.now c.args.own.now
    (length c.args.types.now - length c.args.places.now + k)) _ _
    (λ place w. let f : false ≡ true = c.if-not-lacks_field.ensures.1 w.1
    in cc) c.loop-number.invariant

pub loop-number-preserved : goal.loop-number-preserved
loop-number-preserved c =
    first_more (λ k place. (slice_get c.args.places.now k ≡ Some place)
    × LacksField c.args.types.now c.args.own.now
    (length c.args.types.now - length c.args.places.now + k)) _ _ _ _
    (slice_get-get_or _ _ _ c.loop-number-test.true, c.if-not-lacks_field.ensures.0 refl)
    (λ other w. same_place c.args.places.now c.loop-number.number _ _
    (slice_get-get_or _ _ _ c.loop-number-test.true) w.0) c.earlier-best.ensures
    c.loop-number.invariant

pub returns : goal.returns
returns c =
    first_all (λ k place. (slice_get c.args.places.now k ≡ Some place)
    × LacksField c.args.types.now c.args.own.now
    (length c.args.types.now - length c.args.places.now + k))
    (IsNotBelow c.args.types.now c.args.own.now c.args.places.now) _ _
    (λ place w. (
      w.0,
      let l = slice_get_within c.args.places.now w.0 place w.1
          in omega arith,
      (w.1, w.2),
    )) (λ place w. (w.0, w.2.0, w.2.1)) c.loop-number.invariant
