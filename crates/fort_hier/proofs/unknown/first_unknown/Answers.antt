use Rattle.std.proofs.Common.{◌≡◌, false, true, refl}
use Rattle.std.proofs.lemmas.Option.{slice_get-get_or}
use Rattle.fort_hier.proofs.First.{first_none}
use Rattle.fort_hier.proofs.NumberLaws.{UnknownAt, unknown_same, unknown_more, unknown_all}
use Rattle.fort_hier.proofs.unknown.first_unknown.Goals as goal

pub loop-name-init : goal.loop-name-init
loop-name-init c = λ list h. first_none (UnknownAt list c.args.names.now c.args.mentioned.now)

pub loop-name-preserved-then-is_known : goal.loop-name-preserved-then-is_known
loop-name-preserved-then-is_known c =
    λ list h. unknown_same list c.args.names.now c.args.mentioned.now c.loop-name.name-index _ _
    (slice_get-get_or _ _ _ c.loop-name-test.true) ((c.if-is_known.ensures list h).0 refl)
    (c.loop-name.invariant list h)

pub loop-name-preserved : goal.loop-name-preserved
loop-name-preserved c =
    λ list h. unknown_more list c.args.names.now c.args.mentioned.now c.loop-name.name-index _ _ _
    (slice_get-get_or _ _ _ c.loop-name-test.true)
    (λ w. let f : false ≡ true = (c.if-is_known.ensures list h).1 w
    in cc) c.earlier-best.ensures (c.loop-name.invariant list h)

pub returns : goal.returns
returns c =
    λ list h. unknown_all list c.args.names.now c.args.mentioned.now _ _ c.loop-name-test.false
    (c.loop-name.invariant list h)
