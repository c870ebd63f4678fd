-- Chapter "Worked runs", the fifth: an abort that sleeps. Nothing in the code is like it.
use Rattle.std.specs.Prelude.{◌≡◌, true, false, List, [], ◌∷◌, Some}
use Rattle.fort_base.specs.declared.ty.Ty.{Tuple}
use Rattle.fort_base.specs.declared.ty.Ty.TheVariants.{Named}
use Rattle.fort_core.specs.declared.form.Mode.TheVariants as mode
use Rattle.fort_core.specs.declared.form.Slot.{Slot}
use Rattle.fort_core.specs.declared.journal.Ending.TheVariants.{Completed}
use Rattle.fort_core.specs.declared.journal.Journal.{Journal}
use Rattle.fort_core.specs.declared.pick.Pick.{Pick, Attempt}
use Rattle.fort_core.specs.declared.primitive.Primitive.TheVariants.{EqualSmall, Abort}
use Rattle.fort_core.specs.declared.program.CoreBody.TheVariants as body
use Rattle.fort_core.specs.declared.program.CoreDecl.{CoreDecl}
use Rattle.fort_core.specs.declared.program.Program.{Program}
use Rattle.fort_core.specs.declared.term.Term.{Term, Call, Operator, Mutable, Write, If, Also, Atomic, Asleep}
use Rattle.fort_core.specs.declared.term.Term as term
use Rattle.fort_core.specs.declared.term.Term.TheVariants.{Read}
use Rattle.fort_machine.specs.Cells.{made}
use Rattle.fort_machine.specs.Ends.{stepped}
use Rattle.fort_machine.specs.Effects.{Effect, afterwards}
use Rattle.fort_machine.specs.Acts.{unit}
use Rattle.fort_machine.specs.Marked.{Marks}
use Rattle.fort_machine.specs.Runs.{location}
use Rattle.fort_machine.specs.Journals.{opening_store, IsRun, IsNext, Records}
use Rattle.fort_machine.specs.Worked.{type, set, decl, numbered}
use Rattle.fort_machine_law_worked.specs.Pieces.{number, number_type, plain_decl, written, nine, thread, onward, makes_nine}

-- `flag = 0`, with the variable or its location for flag.
abbrev pub test : Slot → Term
test x = Operator (set 1) (Read x ∷ term.Value (number 0) ∷ [])

-- `if flag = 0 then abort() end`
abbrev pub waiting_body : Slot → Term
waiting_body x = If (test x) (Call (set 2) []) (term.Value unit)

-- `flag := 1`
abbrev pub setting_body : Slot → Term
setting_body x = Write x (term.Value (number 1))

-- The second block.
abbrev pub setting : Slot → Term
setting x = Atomic mode.Atomic (setting_body x)

-- Both blocks.
abbrev pub blocks : Slot → Term
blocks x = Also (Atomic mode.Atomic (waiting_body x) ∷ setting x ∷ [])

-- The body of `run`.
abbrev pub sleeping_body : Term
sleeping_body = Mutable 0 number_type (term.Value (number 0)) (blocks written)

-- The declaration of `=` on ZZ32.
abbrev pub equal_decl : CoreDecl
equal_decl =
    record {
      parameters = number_type ∷ number_type ∷ [];
      result = Named (type 5);
      body = body.Primitive EqualSmall;
    }

-- The declaration of `abort`.
abbrev pub abort_decl : CoreDecl
abort_decl = record { parameters = []; result = Tuple []; body = body.Primitive Abort }

-- The program. ZZ32, which is the type 2, is below itself.
abbrev pub sleeping : Program
sleeping = record {
  types = record { below = [] ∷ [] ∷ (false ∷ false ∷ true ∷ []) ∷ []; apart = [] };
  built_in = numbered;
  type_names = [];
  shapes = [];
  sets = record { decls = decl 0 ∷ [] } ∷ record { decls = decl 1 ∷ [] }
      ∷ record { decls = decl 2 ∷ [] } ∷ [];
  decls = plain_decl sleeping_body ∷ equal_decl ∷ abort_decl ∷ [];
  first = Call (set 0) [];
  opening = [];
  opening_types = [];
}

-- The first attempt of the first block: it reads 0, finds it equal to 0, goes on to `abort()`, and
-- that ends it.
abbrev pub aborted : Pick
aborted = Attempt (thread (0 ∷ [])) (onward ∷ onward ∷ onward ∷ onward ∷ [])

-- The attempt of the second block: it writes 1.
abbrev pub set_to_one : Pick
set_to_one = Attempt (thread (1 ∷ [])) (onward ∷ [])

-- The second attempt of the first block: it reads 1, finds it unequal to 0, and goes on to `()`.
abbrev pub completed : Pick
completed = Attempt (thread (0 ∷ [])) (onward ∷ onward ∷ onward ∷ [])

-- The run's picks up to the sleep, and some behind them.
abbrev pub up_to_sleep : List Pick → List Pick
up_to_sleep more = onward ∷ makes_nine ∷ aborted ∷ more

-- The journal, with a fuel of 14.
abbrev pub woken : Journal
woken = record {
  fuel = 14;
  picks = up_to_sleep (set_to_one ∷ completed ∷ onward ∷ []);
  ending = Completed;
}

-- The mark: the location 9 held 0.
abbrev pub marks : Marks
marks = (location 9, number 0) ∷ []

-- Both blocks, the first one asleep.
abbrev pub one_asleep : Term
one_asleep = Also (stepped (Asleep marks (waiting_body nine)) ∷ setting nine ∷ [])

-- After the aborted attempt the first block sleeps with that mark; nothing was printed, it cost 7
-- in all, and the location 9 holds 0.
abbrev pub FallsAsleep : Type 0
FallsAsleep = (d : Effect) × IsRun sleeping (up_to_sleep []) one_asleep d × (d.output ≡ [])
    × (d.cost ≡ 7) × (d.cells 9 ≡ made (Some (number 0)))

-- The journal is a run of the program, ends at `()`, prints nothing, costs 14, and leaves 1 in the
-- location 9.
abbrev pub Wakes : Type 0
Wakes = (d : Effect) × Records sleeping woken (term.Value unit) d × (d.output ≡ []) × (d.cost ≡ 14)
    × (d.cells 9 ≡ made (Some (number 1)))

-- The first block is tried again, with some inner picks.
abbrev pub again : List Pick → Pick
again within = Attempt (thread (0 ∷ [])) within

-- While the first block sleeps and the second one is awake, the first one may not be tried: a
-- second attempt before the write is none of a run, whatever its inner picks and those behind it.
abbrev pub SleeperWaits : Type 0
SleeperWaits = (within more : List Pick) (t : Term) (d : Effect)
    → IsRun sleeping (up_to_sleep (again within ∷ more)) t d → ⊥

-- Nor is it next where the fuel is out, not even begun.
abbrev pub SleeperIsNotNext : Type 0
SleeperIsNotNext = (within : List Pick) (t : Term) (d e : Effect)
    → IsRun sleeping (up_to_sleep []) t d
    → IsNext sleeping (afterwards d (opening_store sleeping)) t (again within) e → ⊥
