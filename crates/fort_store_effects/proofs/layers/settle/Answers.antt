use Rattle.fort_store.specs.Held.{held}
use Rattle.fort_store_effects.proofs.Seen.{found_by, made_by, map_ok}
use Rattle.fort_store_effects.proofs.layers.settle.Goals as goal

pub returns-in-Found-clause-ok : goal.returns-in-Found-clause-ok
returns-in-Found-clause-ok c =
    map_ok c.settle_now.result
    (found_by c.args.loc.0 c.args.change c.in-Found.field-0 c.in-Found.now
    (held c.args.store.now) (held c.settle_now.new.store) c.in-Found.is)
    c.settle_now.ensures.ok

pub returns-clause-ok : goal.returns-clause-ok
returns-clause-ok c =
    map_ok c.settle_now-in-Made.result
    (made_by c.args.loc.0 c.args.change c.in-Made.now (held c.args.store.now)
    (held c.settle_now-in-Made.new.store) c.requires c.in-Made.is)
    c.settle_now-in-Made.ensures.ok
