-- Chapter "Worked runs": run 2, of `run(): () = println(2147483647 + 1)`. Nothing in the code is
-- like it.
use Rattle.std.specs.Prelude.{◌≡◌, ℕ, true, false, List, [], ◌∷◌, pos}
use Rattle.fort_base.specs.declared.ty.Ty.{Tuple}
use Rattle.fort_base.specs.declared.ty.Ty.TheVariants.{Named}
use Rattle.fort_core.specs.declared.journal.Ending.{Ending}
use Rattle.fort_core.specs.declared.journal.Ending.TheVariants.{Uncaught}
use Rattle.fort_core.specs.declared.journal.Journal.{Journal}
use Rattle.fort_core.specs.declared.pick.Pick.{Pick}
use Rattle.fort_core.specs.declared.primitive.Primitive.TheVariants.{AddSmall}
use Rattle.fort_core.specs.declared.program.CoreBody.TheVariants as body
use Rattle.fort_core.specs.declared.program.CoreDecl.{CoreDecl}
use Rattle.fort_core.specs.declared.program.CoreKind.{CoreKind}
use Rattle.fort_core.specs.declared.program.CoreKind.TheVariants.{Trait, Leaf, Single}
use Rattle.fort_core.specs.declared.program.CoreShape.{CoreShape}
use Rattle.fort_core.specs.declared.program.Program.{Program}
use Rattle.fort_core.specs.declared.term.Term.{Term, Call, Operator}
use Rattle.fort_core.specs.declared.term.Term as term
use Rattle.fort_core.specs.declared.value.Value.{Value, Small, Object}
use Rattle.fort_machine.specs.Effects.{Effect}
use Rattle.fort_machine.specs.Ends.{throw_of}
use Rattle.fort_machine.specs.Acts.{unit}
use Rattle.fort_machine.specs.Runs.{location}
use Rattle.fort_machine.specs.Journals.{Records, IsJournal}
use Rattle.fort_machine.specs.Worked.{set, decl, numbered, println_decl}
use Rattle.fort_machine_law_worked.specs.Picks.{step_at}

-- The sum of the greatest ZZ32 and 1.
abbrev pub sum : Term
sum = Operator (set 2) (term.Value (Small (pos 2147483647)) ∷ term.Value (Small (pos 1)) ∷ [])

-- The call of `println`, which is the body of `run`.
abbrev pub printing_sum : Term
printing_sum = Call (set 1) (sum ∷ [])

-- The declaration of `run`.
abbrev pub run_decl : CoreDecl
run_decl = record { parameters = []; result = Tuple []; body = body.Plain printing_sum }

-- The declaration of `+` on two ZZ32.
abbrev pub plus_decl : CoreDecl
plus_decl =
    record {
      parameters = Named numbered.small ∷ Named numbered.small ∷ [];
      result = Named numbered.small;
      body = body.Primitive AddSmall;
    }

-- The object `IntegerOverflow`.
abbrev pub overflow : Value
overflow = Object numbered.integer_overflow (location 0)

-- A declared type of a kind, without fields.
abbrev pub plain : CoreKind → CoreShape
plain kind = record { kind = kind; fields = [] }

-- The program `run(): () = println(2147483647 + 1)`. Two traits and the five leaves come before
-- `IntegerOverflow`, which is a single object; of the leaves ZZ32 is asked for, and is below
-- itself.
abbrev pub overflowing : Program
overflowing = record {
  types = record { below = [] ∷ [] ∷ (false ∷ false ∷ true ∷ []) ∷ []; apart = [] };
  built_in = numbered;
  type_names = [];
  shapes = plain Trait ∷ plain Trait ∷ plain Leaf ∷ plain Leaf ∷ plain Leaf ∷ plain Leaf
      ∷ plain Leaf ∷ plain (Single (location 0)) ∷ [];
  sets = record { decls = decl 0 ∷ [] } ∷ record { decls = decl 1 ∷ [] }
      ∷ record { decls = decl 2 ∷ [] } ∷ [];
  decls = run_decl ∷ println_decl ∷ plus_decl ∷ [];
  first = Call (set 0) [];
  opening = (location 0, unit) ∷ [];
  opening_types = (location 0, Tuple []) ∷ [];
}

-- A step of the root thread, one of part 0, one of the root thread, with a fuel of 3; it ends with
-- the object uncaught.
abbrev pub three_steps : Journal
three_steps =
    record {
      fuel = 3;
      picks = step_at [] ∷ step_at (0 ∷ []) ∷ step_at [] ∷ [];
      ending = Uncaught overflow;
    }

-- It is a run of that program, ends at a throw of `IntegerOverflow`, prints nothing, and costs 3.
abbrev pub Overflows : Type 0
Overflows = (d : Effect) × Records overflowing three_steps (throw_of overflow) d × (d.output ≡ [])
    × (d.cost ≡ 3)

-- The same picks but for the second one, which is the root thread.
abbrev pub all_at_root : List Pick
all_at_root = step_at [] ∷ step_at [] ∷ step_at [] ∷ []

-- Those picks are those of no run of that program, whatever the fuel and the ending: the root
-- thread waits for the sum.
abbrev pub SumIsPartZero : Type 0
SumIsPartZero = (fuel : ℕ) (ending : Ending)
    → IsJournal overflowing (record { fuel = fuel; picks = all_at_root; ending = ending }) → ⊥
