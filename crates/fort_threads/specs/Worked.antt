-- Chapter "The machine with threads": a worked run, in which a thread is spawned, begins, ends, and
-- is waited for. Nothing in the code is like it.
use Rattle.std.specs.Prelude.{◌≡◌, ℕ, List, [], ◌∷◌, Some, None}
use Rattle.fort_base.specs.declared.ids.NameId.{NameId}
use Rattle.fort_base.specs.declared.ty.Ty.{Tuple}
use Rattle.fort_base.specs.declared.ty.Ty.TheVariants.{Any}
use Rattle.fort_core.specs.declared.pick.Pick.{Pick, Step}
use Rattle.fort_core.specs.declared.program.CoreBody.TheVariants as body
use Rattle.fort_core.specs.declared.program.CoreDecl.{CoreDecl}
use Rattle.fort_core.specs.declared.program.Program.{Program}
use Rattle.fort_core.specs.declared.term.Term.{Term, Call, Then, Size, ReadField}
use Rattle.fort_core.specs.declared.term.Term as term
use Rattle.fort_core.specs.declared.term.Term.TheVariants.{Variable}
use Rattle.fort_core.specs.declared.value.Closure.{Closure}
use Rattle.fort_core.specs.declared.value.Value.{Value, Function}
use Rattle.fort_machine.specs.Acts.{unit}
use Rattle.fort_machine.specs.Effects.{Effect}
use Rattle.fort_machine.specs.Runs.{path_to, location}
use Rattle.fort_machine.specs.Worked.{type, set, decl, numbered}
use Rattle.fort_threads.specs.Known.{Known, object_at}
use Rattle.fort_threads.specs.Threads.{over, Thread, thread}
use Rattle.fort_threads.specs.Machine.{Event, takes, begins, ends, IsRun, HaveEnded}

-- What is known of the program: `spawn'` and `wait` are its two declarations.
abbrev pub two_known : Known
two_known =
    record {
      spawn = decl 0;
      wait = decl 1;
      val = decl 2;
      ready = decl 3;
      run = decl 4;
      own_run = decl 5;
      thread = type 20;
      too_many = unit;
    }

-- The declaration of `spawn'`. The parameter stands in its body; what that would do plays no part.
abbrev pub spawn_decl : CoreDecl
spawn_decl = record { parameters = Any ∷ []; result = Any; body = body.Plain (Size (Variable 0)) }

-- The field that the body of `wait` reads.
abbrev pub state : NameId
state = record { 0 = 0 }

-- The declaration of `wait`.
abbrev pub wait_decl : CoreDecl
wait_decl =
    record {
      parameters = Any ∷ [];
      result = Tuple [];
      body = body.Plain (ReadField (Variable 0) state);
    }

-- The function `fn () => ()`.
abbrev pub nothing : Closure
nothing =
    record {
      number = 0;
      parameters = [];
      result = Tuple [];
      body = term.Value unit;
      held = [];
    }

-- The object of the thread, at the location 9.
abbrev pub spawned : Value
spawned = object_at two_known 9

-- `spawn'(fn () => ()); t.wait()`, with the object in the place of t.
abbrev pub waiting_for_it : Term
waiting_for_it = Call (set 1) (term.Value spawned ∷ [])

-- The program with these two declarations, whose first term is that block.
abbrev pub spawning_program : Program
spawning_program = record {
  types = record { below = []; apart = [] };
  built_in = numbered;
  type_names = [];
  shapes = [];
  sets = record { decls = decl 0 ∷ [] } ∷ record { decls = decl 1 ∷ [] } ∷ [];
  decls = spawn_decl ∷ wait_decl ∷ [];
  first = Then (Call (set 0) (term.Value (Function nothing) ∷ [])) waiting_for_it;
  opening = [];
  opening_types = [];
}

-- A step of a thread at its root, that makes locations from this one on, or none.
abbrev pub at_root : ℕ → Pick
at_root l = Step (path_to []) (location l)

-- Thread 0 calls `spawn'`, adds thread 1, goes on behind the `;`, and calls `wait`; thread 1
-- begins, comes to `()` and ends; then thread 0 has waited, and ends.
abbrev pub nine_events : List Event
nine_events = takes 0 (at_root 0) ∷ takes 0 (at_root 9) ∷ takes 0 (at_root 0) ∷ takes 0 (at_root 0)
    ∷ begins 1 ∷ takes 1 (at_root 0) ∷ ends 1 ∷ takes 0 (at_root 0) ∷ ends 0 ∷ []

-- The two threads at the end.
abbrev pub both_over : List Thread
both_over =
    thread None (over (term.Value unit)) ∷ thread (Some 9) (over (term.Value unit)) ∷ []

-- That is a run, in which both threads end at `()`; it prints nothing and costs 6.
abbrev pub SpawnsAndWaits : Type 0
SpawnsAndWaits = (d : Effect) × IsRun spawning_program two_known nine_events both_over d
    × HaveEnded both_over (term.Value unit) × (d.output ≡ []) × (d.cost ≡ 6)
