-- The chapter "Books" of docs/THREADS.md: a book is a run of its machine, the root's or an
-- attempt's, from where this began.
use Rattle.std.specs.Prelude.{Bool, true, false, List}
use Rattle.fort_core.specs.declared.pick.Pick.{Pick}
use Rattle.fort_core.specs.declared.program.Program.{Program}
use Rattle.fort_core.specs.declared.term.Term.{Term}
use Rattle.fort_machine.specs.Attempts.{Ended}
use Rattle.fort_machine.specs.Effects.{Store, Effect, afterwards}
use Rattle.fort_machine.specs.Journals.{opening_store, MakesWithinBounds}
use Rattle.fort_machine.specs.Proper.{Reached}
use Rattle.fort_machine.specs.Runs.{Runs}

-- Where a machine began: whether it is an attempt's, its store, and its first term.
pub record Origin : Type 0 where
  pub inner : Bool
  pub store : Store
  pub first : Term

-- The root's machine begins at the program's first term, on its opening store.
abbrev pub root_of : Program → Origin
root_of p = record { inner = false; store = opening_store p; first = p.first }

-- A machine of a program began at an origin, and its picks so far are a run from there to this end
-- or term, and did this.
pub record IsBook (p : Program) (o : Origin) (picks : List Pick) (r : Ended)
    (d : Effect) : Type 0 where
  pub reached : Reached p o.inner o.store o.first
  pub runs : Runs p o.inner true o.store picks o.first r d
  pub bounded : MakesWithinBounds d

-- The store to which a book has come.
abbrev pub store_after : Origin → Effect → Store
store_after o d = afterwards d o.store
