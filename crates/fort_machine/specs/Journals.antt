-- Chapter "Journals": the runs of a program, how they end, and what a journal of one is. The code
-- replays a journal pick by pick.
use Rattle.std.specs.Prelude.{◌≡◌, ℕ, ◌+◌, ◌^◌, ◌==◌, ◌<◌, ◌≤◌, true, false, if◌then◌else◌, List, [], ◌∷◌, Option, Some, None, ◌⊎◌}
use Rattle.fort_base.specs.declared.ids.Loc.{Loc}
use Rattle.fort_core.specs.declared.journal.Ending.{Ending}
use Rattle.fort_core.specs.declared.journal.Ending.TheVariants.{NotRun, Completed, Uncaught, OutOfFuel}
use Rattle.fort_core.specs.declared.journal.Journal.{Journal}
use Rattle.fort_core.specs.declared.pick.Pick.{Pick}
use Rattle.fort_core.specs.declared.program.Program.{Program}
use Rattle.fort_core.specs.declared.term.Term.{Term}
use Rattle.fort_core.specs.declared.term.Term as term
use Rattle.fort_core.specs.declared.value.Value.{Value}
use Rattle.fort_machine.specs.Cells.{made}
use Rattle.fort_machine.specs.Effects.{Store, Effect, afterwards}
use Rattle.fort_machine.specs.Ends.{throw_of}
use Rattle.fort_machine.specs.Acts.{unit}
use Rattle.fort_machine.specs.Attempts.{Ended, goes}
use Rattle.fort_machine.specs.Runs.{Runs, Begun}

-- The value of a location in a list of locations with values.
abbrev pub value_in : List (Loc × Value) → ℕ → Option Value
value_in [] l = None
value_in (e ∷ es) l = if e.0.0 == l then Some e.1 else value_in es l

-- The store that a program begins with.
abbrev pub opening_store : Program → Store
opening_store p = value_in p.opening

-- Every location that is made has a number below 2 to the 64.
abbrev pub MakesWithinBounds : Effect → Type 0
MakesWithinBounds d = (l : ℕ) (v : Option Value) → d.cells l ≡ made v → l < 2 ^ 64

-- A run of a program: picks from its first term and its opening store, with the term, and what was
-- done.
pub record IsRun (p : Program) (picks : List Pick) (t : Term) (d : Effect) : Type 0 where
  pub runs : Runs p false true (opening_store p) picks p.first (goes t) d
  pub bounded : MakesWithinBounds d

-- What comes next where the fuel is out: a legal pick, or an attempt that isn't finished, with what
-- it does.
abbrev pub IsNext : Program → Store → Term → Pick → Effect → Type 0
IsNext p s t pick e = ((r : Ended) × Runs p false true s (pick ∷ []) t r e)
    ⊎ Begun p true s pick t e

-- The pick that was next, and whose cost passes the fuel that was left.
pub record PassesFuel (p : Program) (fuel : ℕ) (t : Term) (d : Effect) (pick : Pick) : Type 0 where
  pub effect : Effect
  pub is_next : IsNext p (afterwards d (opening_store p)) t pick effect
  pub bounded : MakesWithinBounds effect
  pub passes : fuel < d.cost + effect.cost

-- How a run ends that came to a term: completed at `()`, uncaught at a throw, out of fuel before a
-- pick that passes it. No run at all is no ending of one.
abbrev pub Ends : Program → ℕ → Term → Effect → Ending → Type 0
Ends p fuel t d NotRun = ⊥
Ends p fuel t d Completed = t ≡ term.Value unit
Ends p fuel t d (Uncaught v) = t ≡ throw_of v
Ends p fuel t d (OutOfFuel pick) = PassesFuel p fuel t d pick

-- A journal is that of a run where its picks are one within its fuel, and end as it says; with the
-- term to which they came, and what was done.
pub record Records (p : Program) (j : Journal) (t : Term) (d : Effect) : Type 0 where
  pub is_run : IsRun p j.picks t d
  pub within_fuel : d.cost ≤ j.fuel
  pub ends : Ends p j.fuel t d j.ending

-- A journal is a run of a program.
abbrev pub IsJournal : Program → Journal → Type 0
IsJournal p j = (t : Term) × ((d : Effect) × Records p j t d)
