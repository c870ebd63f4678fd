use Rattle.fort_store.specs.Held.{held}
use Rattle.fort_store_effects.proofs.Made.{store_at}
use Rattle.fort_store_effects.proofs.make.make_in_store.Goals as goal

pub loop-i-preserved : goal.loop-i-preserved
loop-i-preserved c =
    store_at (held c.args.store.now) (held c.loop-i.store) (held c.put_value.new.store) c.args.«at»
    c.args.values.now c.loop-i.i c.loop-i.invariant c.in_ok-put_value.ensures
