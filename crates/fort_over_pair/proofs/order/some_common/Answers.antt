use Rattle.fort_over_pair.proofs.Commons.{common_rows}
use Rattle.fort_over_pair.proofs.order.some_common.Goals as goal

pub returns : goal.returns
returns c = common_rows _ _ _ _ _ c.as_slice.ensures c.some_both.ensures
