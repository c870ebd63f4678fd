-- The chapter "Books" of docs/THREADS.md: legs one after the other, each on the store that those
-- before it left. A form that is tried doesn't sleep then, whatever other threads of its machine
-- do.
use Rattle.std.specs.Prelude.{◌≡◌, ◌≢◌, Bool, List, [], ◌++◌}
use Rattle.fort_core.specs.declared.pick.Pick.{Pick}
use Rattle.fort_core.specs.declared.program.Program.{Program}
use Rattle.fort_core.specs.declared.term.Term.{Term}
use Rattle.fort_machine.specs.Attempts.{Sleeps, goes}
use Rattle.fort_machine.specs.Effects.{Store, Effect, idle, both, afterwards}
use Rattle.fort_hall_law_books.specs.Taken.{IsStepped, IsTried}

-- Legs lead from a term to another one on a store, in a machine, an attempt's or the root's: no
-- leg; or some steps, and then legs; or an attempt of a form that doesn't sleep, and then legs.
pub data Legs (p : Program) (inner : Bool) : (s : Store) (t : Term) (picks : List Pick) (u : Term)
    (d : Effect) → Type 0 where
  no_leg : {s : Store} {t u : Term} {picks : List Pick} {d : Effect}
      → picks ≡ [] → t ≡ u → d ≡ idle → Legs p inner s t picks u d
  by_steps : {s : Store} {t v u : Term} {picks first rest : List Pick} {d e f : Effect}
      → first ≢ [] → IsStepped p inner s t first (goes v) e
      → Legs p inner (afterwards e s) v rest u f → picks ≡ first ++ rest → d ≡ both e f
      → Legs p inner s t picks u d
  by_attempt : {s : Store} {t form v u : Term} {picks first rest : List Pick} {d e f : Effect}
      → IsTried p s t form first v e → (Sleeps s form → ⊥)
      → Legs p inner (afterwards e s) v rest u f → picks ≡ first ++ rest → d ≡ both e f
      → Legs p inner s t picks u d
