-- Chapter "Worked runs": run 6, of `run(): () = do throw E also do println("b") end`. Nothing in
-- the code is like it.
use Rattle.std.specs.Prelude.{◌≡◌, ℕ, true, List, [], ◌∷◌}
use Rattle.fort_base.specs.declared.ty.Ty.{Tuple}
use Rattle.fort_core.specs.declared.journal.Ending.{Ending}
use Rattle.fort_core.specs.declared.journal.Ending.TheVariants.{Uncaught}
use Rattle.fort_core.specs.declared.journal.Journal.{Journal}
use Rattle.fort_core.specs.declared.pick.Pick.{Pick}
use Rattle.fort_core.specs.declared.program.CoreKind.TheVariants as kind
use Rattle.fort_core.specs.declared.program.Program.{Program}
use Rattle.fort_core.specs.declared.term.Term.{Term, Call, Also}
use Rattle.fort_machine.specs.Effects.{Effect}
use Rattle.fort_machine.specs.Ends.{throw_of}
use Rattle.fort_machine.specs.Acts.{unit}
use Rattle.fort_machine.specs.Runs.{location}
use Rattle.fort_machine.specs.Journals.{Records, IsJournal}
use Rattle.fort_machine.specs.Worked.{set, decl, numbered, println_decl}
use Rattle.fort_machine_law_worked.specs.Picks.{step_at}
use Rattle.fort_machine_law_worked.specs.Pieces.{plain_decl}
use Rattle.fort_machine_law_worked.specs.Failing.{exception}
use Rattle.fort_machine_law_worked.specs.TwoThreads.{printing}

-- Two blocks beside each other, which are the body of `run`: `throw E` and `println("b")`.
abbrev pub passing_body : Term
passing_body = Also (throw_of exception ∷ printing (98 ∷ []) ∷ [])

-- The program, with E a single object.
abbrev pub passing : Program
passing = record {
  types = record { below = (true ∷ []) ∷ []; apart = [] };
  built_in = numbered;
  type_names = (69 ∷ []) ∷ [];
  shapes = record { kind = kind.Single (location 8); fields = [] } ∷ [];
  sets = record { decls = decl 0 ∷ [] } ∷ record { decls = decl 1 ∷ [] } ∷ [];
  decls = plain_decl passing_body ∷ println_decl ∷ [];
  first = Call (set 0) [];
  opening = (location 8, unit) ∷ [];
  opening_types = (location 8, Tuple []) ∷ [];
}

-- Two steps of the root thread, with a fuel of 2.
abbrev pub two_picks : Journal
two_picks = record { fuel = 2; picks = step_at [] ∷ step_at [] ∷ []; ending = Uncaught exception }

-- It is a run of that program, ends at the throw of E, prints nothing, and costs 2: block 0 is a
-- throw from the start, so block 1 is passed over.
abbrev pub ThrowPasses : Type 0
ThrowPasses = (d : Effect) × Records passing two_picks (throw_of exception) d × (d.output ≡ [])
    × (d.cost ≡ 2)

-- Picks that begin block 1 are those of no run, whatever comes behind.
abbrev pub PassedIsNoThread : Type 0
PassedIsNoThread = (fuel : ℕ) (more : List Pick) (ending : Ending)
    → IsJournal passing
    (record { fuel = fuel; picks = step_at [] ∷ step_at (1 ∷ []) ∷ more; ending = ending }) → ⊥
