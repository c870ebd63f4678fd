use Rattle.std.proofs.Common.{◌∙◌, ap}
use Rattle.fort_link_table.specs.Names.{with_spelling}
use Rattle.fort_link_table.proofs.Steps.{grown_more}
use Rattle.fort_link_table.proofs.table.add_names.Goals as goal

pub loop-i-preserved : goal.loop-i-preserved
loop-i-preserved c = (
  grown_more c.args.names.now c.loop-i.names _ c.args.more.now c.loop-i.i _ c.loop-i-test.true
      c.loop-i.invariant.0
      (c.in_ok-add_name.ensures.names
      ∙ ap (with_spelling c.loop-i.names) (c.as_slice.ensures ∙ c.index-more-i.is)),
  c.in_ok-add_name.ensures.known,
)
