-- Chapter "Store and effects": a store with nothing else, and what was done to a store alone.
use Rattle.std.specs.Prelude.{[]}
use Rattle.fort_machine.specs.Effects.{Store, Effect}
use Rattle.fort_store_effects.specs.Levels.{Levels}

-- A run that comes to a store, with nothing printed and nothing paid, and no attempt open.
abbrev pub only_store : Store → Levels
only_store s = record { store = s; output = []; cost = 0; attempts = [] }

-- What was done to the store alone.
abbrev pub silent : Effect → Effect
silent d = record { cells = d.cells; output = []; cost = 0 }
