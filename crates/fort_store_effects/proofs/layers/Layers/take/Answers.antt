use Rattle.fort_store_effects.proofs.Taken.{taken_root}
use Rattle.fort_store_effects.proofs.layers.Layers.take.Goals as goal

pub returns-in_ok-settled-in-None : goal.returns-in_ok-settled-in-None
returns-in_ok-settled-in-None c =
    taken_root c.args.self c.args.next c.in_ok-settled-in-None.field-0 c.append.new.self
    c.in-None.is c.requires.fits c.in_ok-settled-in-None.ensures c.in_ok-append-in-None.ensures.ok
