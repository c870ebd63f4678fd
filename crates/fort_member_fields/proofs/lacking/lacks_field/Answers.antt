use Rattle.std.proofs.Common.{◌≡◌, false, true, get_or, refl}
use Rattle.std.proofs.lemmas.Option.{slice_get_read, slice_get-get_or}
use Rattle.fort_member_fields.proofs.LackLaws.{must_is, lacks_found, lacks_more, lacks_all}
use Rattle.fort_member_fields.proofs.lacking.lacks_field.Goals as goal

pub loop-t-preserved : goal.loop-t-preserved
loop-t-preserved c =
    lacks_more c.args.types.now c.args.table.now _ c.args.own.now c.args.a c.loop-t.t
    c.index-types-t.result (slice_get_read _ _ _ _ refl c.loop-t-test.true c.index-types-t.is)
    (λ w. let f : false ≡ true = (c.if-lacks_of.ensures c.args.types.now c.requires.rows).1 w
    in cc) c.loop-t.invariant

pub returns-then-lacks_of : goal.returns-then-lacks_of
returns-then-lacks_of c =
    lacks_found c.args.types.now c.args.table.now _ c.args.own.now c.args.a _ c.loop-t.t
    c.index-types-t.result c.requires.rows
    (slice_get-get_or c.args.types.now c.args.a c.index-types-a.result c.requires.inside)
    (must_is _ (get_or c.args.types.now c.args.a c.index-types-a.result)
    c.is_trait-must.ensures)
    (slice_get_read _ _ _ _ refl c.loop-t-test.true c.index-types-t.is)
    ((c.if-lacks_of.ensures c.args.types.now c.requires.rows).0 refl)

pub returns : goal.returns
returns c =
    lacks_all c.args.types.now c.args.table.now _ c.args.own.now c.args.a _ c.loop-t.t
    c.requires.rows
    (slice_get-get_or c.args.types.now c.args.a c.index-types-a.result c.requires.inside)
    (must_is _ (get_or c.args.types.now c.args.a c.index-types-a.result)
    c.is_trait-must.ensures) c.loop-t-test.false c.loop-t.invariant
