use Rattle.fort_store_effects.proofs.Closed.{closes_root}
use Rattle.fort_store_effects.proofs.close.close_root.Goals as goal

pub returns : goal.returns
returns c =
    closes_root c.args.closing c.args.store c.in_ok-settled.field-0 c.args.layer c.args.output
    c.in_ok-printed.field-0 c.args.cost c.in_ok-settled.ensures c.in_ok-printed.ensures
