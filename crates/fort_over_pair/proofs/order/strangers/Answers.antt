use Rattle.std.proofs.Common.{sym}
use Rattle.fort_over_pair.proofs.Commons.{strangers_by}
use Rattle.fort_over_pair.proofs.order.strangers.Goals as goal

pub returns-in-Some-Some : goal.returns-in-Some-Some
returns-in-Some-Some c h k =
    strangers_by h _ _ _ _ _ (sym c.in-Some-Some.ensures.value) (sym c.in-Some-Some.ensures'.value)
    (c.layer_common.ensures h k)
