use Rattle.std.proofs.Common.{◌≡◌, false, true, refl, length, subst, arith}
use Rattle.fort_base.specs.declared.ids.TypeId.{TypeId}
use Rattle.fort_over.specs.Walks.{ObjectsFirst}
use Rattle.fort_over.proofs.PlaceLaws.{objects_none, objects_other, objects_covered, objects_more}
use Rattle.fort_over.proofs.uncovered.first_below.Goals as goal

pub loop-number-init : goal.loop-number-init
loop-number-init c =
    objects_none c.args.table.now c.args.members.now c.args.set.now c.args.member.now c.args.at
    c.args.owner

pub loop-number-preserved-then-not-is_object_below : goal.loop-number-preserved-then-not-is_object_below
loop-number-preserved-then-not-is_object_below c =
    let o : TypeId = record { 0 = c.loop-number.number } in
    objects_other _ _ _ _ _ _ o _ c.if-not-is_object_below.ensures c.loop-number.invariant

pub loop-number-preserved-then-is_covered : goal.loop-number-preserved-then-is_covered
loop-number-preserved-then-is_covered c = let o : TypeId = record { 0 = c.loop-number.number } in
    objects_covered _ _ _ _ _ _ o _ (λ h t. (c.if-is_covered.ensures h t).0 refl)
    c.loop-number.invariant

pub loop-number-preserved : goal.loop-number-preserved
loop-number-preserved c = let o : TypeId = record { 0 = c.loop-number.number } in
    objects_more _ _ _ _ _ _ o _ _ _ c.if-not-is_object_below.ensures (λ h t w. let f : false
    ≡ true = (c.if-is_covered.ensures h t).1 w in cc)
    c.object_place.ensures c.earlier-best.ensures c.loop-number.invariant

pub returns : goal.returns
returns c = let e : c.loop-number.number ≡ length c.args.table.now.below = omega arith in
    subst (λ n. ObjectsFirst c.args.table.now c.args.members.now c.args.set.now c.args.member.now
    c.args.at c.args.owner n c.loop-number.best) e c.loop-number.invariant
