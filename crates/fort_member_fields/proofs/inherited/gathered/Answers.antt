use Rattle.std.proofs.lemmas.Option.{slice_get-get_or}
use Rattle.fort_member_fields.proofs.GatherLaws.{gathers_next}
use Rattle.fort_member_fields.proofs.inherited.gathered.Goals as goal

pub loop-b-preserved : goal.loop-b-preserved
loop-b-preserved c = (
  c.in_ok-inherit.ensures.knows,
  gathers_next c.args.own.now c.args.all.now _ c.loop-b.b-index _ _ _
      (slice_get-get_or _ _ _ c.loop-b-test.true) c.fields_at.ensures
      (c.in_ok-inherit.ensures.gathers _ c.loop-b.invariant.1),
)
