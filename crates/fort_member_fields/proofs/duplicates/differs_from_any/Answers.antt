use Rattle.std.proofs.Common.{◌≡◌, false, true, refl}
use Rattle.std.proofs.lemmas.Option.{slice_get-get_or}
use Rattle.fort_member_fields.specs.Walks.{DifferAt}
use Rattle.fort_member_fields.proofs.Searches.{none_first, none_more, found_told, none_told}
use Rattle.fort_member_fields.proofs.duplicates.differs_from_any.Goals as goal

pub loop-c-init : goal.loop-c-init
loop-c-init c = none_first (DifferAt c.args.own.now c.args.all.now c.args.b) c.args.extends.now

pub loop-c-preserved : goal.loop-c-preserved
loop-c-preserved c =
    none_more (DifferAt c.args.own.now c.args.all.now c.args.b) c.args.extends.now c.loop-c.c-index
    _ (slice_get-get_or _ _ _ c.loop-c-test.true)
    (λ p. let f : false ≡ true = c.if-differ_at.ensures.1 p in cc) c.loop-c.invariant

pub returns-then-differ_at : goal.returns-then-differ_at
returns-then-differ_at c =
    found_told (DifferAt c.args.own.now c.args.all.now c.args.b) c.args.extends.now c.loop-c.c-index
    _ (slice_get-get_or _ _ _ c.loop-c-test.true) (c.if-differ_at.ensures.0 refl)

pub returns : goal.returns
returns c =
    none_told (DifferAt c.args.own.now c.args.all.now c.args.b) c.args.extends.now c.loop-c.c-index
    c.loop-c-test.false c.loop-c.invariant
