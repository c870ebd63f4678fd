use Rattle.std.proofs.Common.{◌≡◌, ◌+◌, false, true, refl, sym, subst}
use Rattle.std.proofs.lemmas.Option.{slice_get_read}
use Rattle.fort_member_fields.specs.Gathering.{HasTo}
use Rattle.fort_member_fields.proofs.GatherLaws.{gathers_of}
use Rattle.fort_member_fields.proofs.InheritLaws.{passed_by, put_in, gathered_has, known_above, next_height}
use Rattle.fort_member_fields.proofs.inherited.gather_at.Goals as goal

pub loop-a-preserved-then-not-is_asked : goal.loop-a-preserved-then-not-is_asked
loop-a-preserved-then-not-is_asked c =
    passed_by c.args.types.now c.args.own.now c.args.heights.now c.args.height c.loop-a.a _
    (λ q. (
      c.index-types-a.result,
      slice_get_read _ _ _ _ refl c.loop-a-test.true c.index-types-a.is,
      λ k. let f : false
          ≡ true = c.if-not-is_asked.ensures.1 (k, q) in cc,
    )) c.loop-a.invariant

pub loop-a-preserved : goal.loop-a-preserved
loop-a-preserved c = let is = c.if-not-is_asked.ensures.0 refl in
    subst (λ z. HasTo c.args.types.now c.args.own.now c.args.heights.now c.args.height
    (c.loop-a.a + 1) z) (sym c.set.ensures)
    (put_in c.args.types.now c.args.own.now c.args.heights.now c.args.height c.loop-a.a _ _
    (gathered_has c.args.types.now c.args.own.now _ c.loop-a.a c.index-types-a.result _
    (slice_get_read _ _ _ _ refl c.loop-a-test.true c.index-types-a.is) is.0 c.requires.own
    c.loop-a.invariant.number
    (known_above c.args.types.now c.args.own.now c.args.heights.now c.args.height c.loop-a.a _
    c.requires.heights is.1 c.loop-a.invariant)
    (gathers_of c.args.own.now _ c.loop-a.a c.index-types-a.result.extends _ c.fields_at.ensures
    c.as_slice.ensures c.in_ok-fields.ensures)) c.loop-a.invariant)

pub returns : goal.returns
returns c =
    next_height c.args.types.now c.args.own.now c.args.heights.now c.args.height _ _
    c.loop-a-test.false c.loop-a.invariant
