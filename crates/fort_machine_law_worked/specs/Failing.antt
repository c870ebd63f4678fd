-- Chapter "Worked runs", the fourth: a failure inside an atomic. Nothing in the code is like it.
use Rattle.std.specs.Prelude.{◌≡◌, true, false, List, [], ◌∷◌, Some, None}
use Rattle.fort_base.specs.declared.ty.Ty.{Ty, Tuple}
use Rattle.fort_base.specs.declared.ty.Ty.TheVariants.{Named}
use Rattle.fort_core.specs.declared.form.Mode.TheVariants as mode
use Rattle.fort_core.specs.declared.form.Slot.{Slot}
use Rattle.fort_core.specs.declared.journal.Ending.TheVariants.{Completed}
use Rattle.fort_core.specs.declared.journal.Journal.{Journal}
use Rattle.fort_core.specs.declared.pick.Pick.{Pick, Attempt}
use Rattle.fort_core.specs.declared.program.CoreKind.TheVariants as kind
use Rattle.fort_core.specs.declared.program.Program.{Program}
use Rattle.fort_core.specs.declared.term.Term.{Term, Call, Mutable, Write, Then, Try, Atomic}
use Rattle.fort_core.specs.declared.term.Term as term
use Rattle.fort_core.specs.declared.value.Value.{Value, Object}
use Rattle.fort_machine.specs.Cells.{found, made}
use Rattle.fort_machine.specs.Effects.{Store, Effect, afterwards}
use Rattle.fort_machine.specs.Ends.{throw_of}
use Rattle.fort_machine.specs.Acts.{unit}
use Rattle.fort_machine.specs.Attempts.{goes}
use Rattle.fort_machine.specs.Runs.{Runs, location}
use Rattle.fort_machine.specs.Journals.{IsRun, Records}
use Rattle.fort_machine.specs.Worked.{type, set, decl, numbered}
use Rattle.fort_machine_law_worked.specs.Pieces.{number, number_type, plain_decl, written, nine, thread, onward, makes_nine}

-- The exception E: a single object, whose location is 8.
abbrev pub exception : Value
exception = Object (type 0) (location 8)

-- The clause `catch e E => ()`.
abbrev pub clauses : List (Term × Ty)
clauses = (term.Value unit, Named (type 0)) ∷ []

-- `x := 5; throw E`, with the variable or its location for x.
abbrev pub inner_body : Slot → Term
inner_body x = Then (Write x (term.Value (number 5))) (throw_of exception)

-- The inner atomic form.
abbrev pub inner : Slot → Term
inner x = Atomic mode.Atomic (inner_body x)

-- `try atomic do x := 5; throw E end catch e E => () end`
abbrev pub catching : Slot → Term
catching x = Try (inner x) 1 clauses None

-- `x := 1`, then that.
abbrev pub outer_body : Slot → Term
outer_body x = Then (Write x (term.Value (number 1))) (catching x)

-- The outer atomic form.
abbrev pub outer : Slot → Term
outer x = Atomic mode.Atomic (outer_body x)

-- The body of `run`.
abbrev pub failing_body : Term
failing_body = Mutable 0 number_type (term.Value (number 0)) (outer written)

-- The program. E is the type 0 and below itself.
abbrev pub failing : Program
failing = record {
  types = record { below = (true ∷ []) ∷ []; apart = [] };
  built_in = numbered;
  type_names = (69 ∷ []) ∷ [];
  shapes = record { kind = kind.Single (location 8); fields = [] } ∷ [];
  sets = record { decls = decl 0 ∷ [] } ∷ [];
  decls = plain_decl failing_body ∷ [];
  first = Call (set 0) [];
  opening = (location 8, unit) ∷ [];
  opening_types = (location 8, Tuple []) ∷ [];
}

-- The inner attempt: it writes, and goes on to the throw.
abbrev pub inner_picks : List Pick
inner_picks = onward ∷ onward ∷ []

-- The outer attempt, with some picks of the inner one: it writes, goes on to the `try`, makes the
-- inner attempt, and goes on to the clause.
abbrev pub outer_picks : List Pick → List Pick
outer_picks within = onward ∷ onward ∷ Attempt (thread []) within ∷ onward ∷ []

-- The run's picks, with some of the inner attempt, and some behind them.
abbrev pub all_picks : List Pick → List Pick → List Pick
all_picks within more = onward ∷ makes_nine ∷ Attempt (thread []) (outer_picks within) ∷ more

-- The journal, with a fuel of 9.
abbrev pub nested : Journal
nested = record { fuel = 9; picks = all_picks inner_picks []; ending = Completed }

-- The inner attempt, from a store that has the location 9: it fails with the throw of E, costs 3,
-- and the location has the value that it had.
abbrev pub InnerFails : Type 0
InnerFails = (s : Store) (v : Value) → s 9 ≡ Some v
    → (d : Effect)
    × Runs failing true true s (Attempt (thread []) inner_picks ∷ []) (inner nine)
    (goes (throw_of exception)) d
    × (d.cells 9 ≡ found None None) × (d.cost ≡ 3) × (afterwards d s 9 ≡ Some v)

-- The outer attempt, from such a store: it is one pick of cost 7, whose effect is that 9 was there
-- and holds 1.
abbrev pub OuterCompletes : Type 0
OuterCompletes = (s : Store) (v : Value) → s 9 ≡ Some v
    → (d : Effect)
    × Runs failing false true s (Attempt (thread []) (outer_picks inner_picks) ∷ []) (outer nine)
    (goes (term.Value unit)) d
    × (d.cells 9 ≡ found None (Some (number 1))) × (d.output ≡ []) × (d.cost ≡ 7)

-- The journal is a run of the program, ends at `()`, prints nothing, costs 9, and leaves 1 in the
-- location 9.
abbrev pub Recovers : Type 0
Recovers = (d : Effect) × Records failing nested (term.Value unit) d × (d.output ≡ [])
    × (d.cost ≡ 9) × (d.cells 9 ≡ made (Some (number 1)))

-- An inner attempt that is left before its throw hasn't ended: with its last pick left out the
-- picks are none of a run, whatever comes behind.
abbrev pub InnerMustEnd : Type 0
InnerMustEnd = (more : List Pick) (t : Term) (d : Effect)
    → IsRun failing (all_picks (onward ∷ []) more) t d → ⊥
