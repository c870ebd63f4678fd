use Rattle.std.proofs.Common.{◌≡◌, false, true, refl}
use Rattle.std.proofs.lemmas.Option.{slice_get-get_or}
use Rattle.fort_member_fields.specs.Walks.{DiffersFrom}
use Rattle.fort_member_fields.proofs.Searches.{none_first, none_more, found_told, none_told}
use Rattle.fort_member_fields.proofs.duplicates.any_differ.Goals as goal

pub loop-b-init : goal.loop-b-init
loop-b-init c =
    none_first (DiffersFrom c.args.own.now c.args.all.now c.args.extends.now) c.args.extends.now

pub loop-b-preserved : goal.loop-b-preserved
loop-b-preserved c =
    none_more (DiffersFrom c.args.own.now c.args.all.now c.args.extends.now) c.args.extends.now
    c.loop-b.b-index _ (slice_get-get_or _ _ _ c.loop-b-test.true) (λ p. let f : false ≡ true =
    c.if-differs_from_any.ensures.1 p in cc) (c.loop-b.invariant)

pub returns-then-differs_from_any : goal.returns-then-differs_from_any
returns-then-differs_from_any c =
    found_told (DiffersFrom c.args.own.now c.args.all.now c.args.extends.now) c.args.extends.now
    c.loop-b.b-index _ (slice_get-get_or _ _ _ c.loop-b-test.true)
    (c.if-differs_from_any.ensures.0 refl)

pub returns : goal.returns
returns c =
    none_told (DiffersFrom c.args.own.now c.args.all.now c.args.extends.now) c.args.extends.now
    c.loop-b.b-index c.loop-b-test.false (c.loop-b.invariant)
