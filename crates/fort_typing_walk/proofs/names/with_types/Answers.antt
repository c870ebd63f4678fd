use Rattle.std.proofs.Common.{rules}
use Rattle.fort_typing_walk.proofs.Named.{all_named}
use Rattle.fort_typing_walk.proofs.names.with_types.Goals as goal

pub returns-in-None : goal.returns-in-None
returns-in-None c = all_named _ _ _ _ (search rules) c.loop-name.invariant
