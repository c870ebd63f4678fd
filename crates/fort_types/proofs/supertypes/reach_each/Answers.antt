use Rattle.std.proofs.lemmas.Option.{slice_get-get_or}
use Rattle.fort_types.proofs.Upwards.{one_reached}
use Rattle.fort_types.proofs.supertypes.reach_each.Goals as goal

-- src/supertypes.rt:48:5
pub loop-b-preserved : goal.loop-b-preserved
loop-b-preserved c =
    one_reached _ _ _ _ _ _ _ _ _
    (slice_get-get_or c.args.list.now c.loop-b.b-index 0 c.loop-b-test.true) c.loop-b.invariant
    c.in_ok-reach.ensures
