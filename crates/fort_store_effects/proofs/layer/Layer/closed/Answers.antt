use Rattle.fort_store_effects.proofs.Behind.{from_nothing}
use Rattle.fort_store_effects.proofs.layer.Layer.closed.Goals as goal

pub returns : goal.returns
returns c =
    from_nothing c.args.closing c.new.result c.args.self c.in_ok-whole.whole c.new.ensures
    c.in_ok-whole.ensures
