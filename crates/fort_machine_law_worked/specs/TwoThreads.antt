-- Chapter "Worked runs": run 3, of `run(): () = do print("a") also do print("b") end`. Nothing in
-- the code is like it.
use Rattle.std.specs.Prelude.{◌≡◌, ℕ, List, [], ◌∷◌}
use Rattle.fort_base.specs.declared.ty.Ty.{Tuple}
use Rattle.fort_base.specs.declared.ty.Ty.TheVariants.{Any}
use Rattle.fort_core.specs.declared.journal.Ending.{Ending}
use Rattle.fort_core.specs.declared.journal.Ending.TheVariants.{Completed}
use Rattle.fort_core.specs.declared.pick.Pick.{Pick}
use Rattle.fort_core.specs.declared.primitive.Primitive.TheVariants.{Print}
use Rattle.fort_core.specs.declared.program.CoreBody.TheVariants as body
use Rattle.fort_core.specs.declared.program.CoreDecl.{CoreDecl}
use Rattle.fort_core.specs.declared.program.Program.{Program}
use Rattle.fort_core.specs.declared.term.Term.{Term, Call, Also}
use Rattle.fort_core.specs.declared.term.Term as term
use Rattle.fort_core.specs.declared.value.Value.{Text}
use Rattle.fort_machine.specs.Effects.{Effect}
use Rattle.fort_machine.specs.Acts.{unit}
use Rattle.fort_machine.specs.Journals.{Records, IsJournal}
use Rattle.fort_machine.specs.Worked.{set, decl, numbered}
use Rattle.fort_machine_law_worked.specs.Picks.{step_at}

-- The call of `print` with a text.
abbrev pub printing : List ℕ → Term
printing text = Call (set 1) (term.Value (Text text) ∷ [])

-- Two blocks beside each other, which are the body of `run`: `print("a")` and `print("b")`.
abbrev pub two_blocks : Term
two_blocks = Also (printing (97 ∷ []) ∷ printing (98 ∷ []) ∷ [])

-- The declaration of `run`.
abbrev pub run_decl : CoreDecl
run_decl = record { parameters = []; result = Tuple []; body = body.Plain two_blocks }

-- The declaration of `print`.
abbrev pub print_decl : CoreDecl
print_decl = record { parameters = Any ∷ []; result = Tuple []; body = body.Primitive Print }

-- The program `run(): () = do print("a") also do print("b") end`.
abbrev pub two_threads : Program
two_threads = record {
  types = record { below = []; apart = [] };
  built_in = numbered;
  type_names = [];
  shapes = [];
  sets = record { decls = decl 0 ∷ [] } ∷ record { decls = decl 1 ∷ [] } ∷ [];
  decls = run_decl ∷ print_decl ∷ [];
  first = Call (set 0) [];
  opening = [];
  opening_types = [];
}

-- The root thread, two blocks by their numbers, and the root thread again.
abbrev pub picking : ℕ → ℕ → List Pick
picking first second = step_at [] ∷ step_at (first ∷ []) ∷ step_at (second ∷ []) ∷ step_at [] ∷ []

-- Picks, with a fuel of 6, are a run of that program that ends at `()`, prints this text, and costs
-- 6.
abbrev pub Prints : List Pick → List ℕ → Type 0
Prints picks text = (d : Effect)
    × Records two_threads (record { fuel = 6; picks = picks; ending = Completed }) (term.Value unit)
    d × (d.output ≡ text) × (d.cost ≡ 6)

-- Where block 1 is picked first the program prints `ba`.
abbrev pub PrintsRightFirst : Type 0
PrintsRightFirst = Prints (picking 1 0) (98 ∷ 97 ∷ [])

-- Where block 0 is picked first it prints `ab`.
abbrev pub PrintsLeftFirst : Type 0
PrintsLeftFirst = Prints (picking 0 1) (97 ∷ 98 ∷ [])

-- The picks that name block 1 twice, in place of each block once, are those of no run of that
-- program, whatever the fuel and the ending: the block is finished after one step.
abbrev pub FinishedIsNoThread : Type 0
FinishedIsNoThread = (fuel : ℕ) (ending : Ending)
    → IsJournal two_threads (record { fuel = fuel; picks = picking 1 1; ending = ending }) → ⊥
