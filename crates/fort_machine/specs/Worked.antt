-- Chapter "Journals": a worked run, of `run(): () = println("a")`. Nothing in the code is like it.
use Rattle.std.specs.Prelude.{◌≡◌, ℕ, [], ◌∷◌}
use Rattle.fort_base.specs.declared.ids.DeclId.{DeclId}
use Rattle.fort_base.specs.declared.ids.SetId.{SetId}
use Rattle.fort_base.specs.declared.ids.TypeId.{TypeId}
use Rattle.fort_base.specs.declared.ty.Ty.{Tuple}
use Rattle.fort_base.specs.declared.ty.Ty.TheVariants.{Any}
use Rattle.fort_core.specs.declared.journal.Ending.TheVariants.{Completed}
use Rattle.fort_core.specs.declared.journal.Journal.{Journal}
use Rattle.fort_core.specs.declared.pick.Pick.{Step}
use Rattle.fort_core.specs.declared.primitive.Primitive.TheVariants.{Println}
use Rattle.fort_core.specs.declared.program.BuiltIn.{BuiltIn}
use Rattle.fort_core.specs.declared.program.CoreBody.TheVariants as body
use Rattle.fort_core.specs.declared.program.CoreDecl.{CoreDecl}
use Rattle.fort_core.specs.declared.program.Program.{Program}
use Rattle.fort_core.specs.declared.term.Term.{Term, Call}
use Rattle.fort_core.specs.declared.term.Term as term
use Rattle.fort_core.specs.declared.value.Value.{Value, Text}
use Rattle.fort_machine.specs.Effects.{Effect}
use Rattle.fort_machine.specs.Acts.{unit}
use Rattle.fort_machine.specs.Runs.{path_to, location}
use Rattle.fort_machine.specs.Journals.{Records}

-- A type by its number.
abbrev pub type : ℕ → TypeId
type n = record { 0 = n }

-- A set by its number.
abbrev pub set : ℕ → SetId
set n = record { 0 = n }

-- A declaration by its number.
abbrev pub decl : ℕ → DeclId
decl n = record { 0 = n }

-- The built-in types by numbers of their own.
abbrev pub numbered : BuiltIn
numbered =
    record {
      object = type 0;
      exception = type 1;
      small = type 2;
      large = type 3;
      text = type 4;
      truth = type 5;
      range = type 6;
      integer_overflow = type 7;
      division_by_zero = type 8;
      negative_exponent = type 9;
      index_out_of_range = type 10;
      negative_size = type 11;
      depth_exceeded = type 14;
      try_atomic_failure = type 15;
      abort_outside = type 16;
    }

-- The text `a`.
abbrev pub letter : Value
letter = Text (97 ∷ [])

-- The call of `println`, which is the body of `run`.
abbrev pub printing : Term
printing = Call (set 1) (term.Value letter ∷ [])

-- The declaration of `run`.
abbrev pub run_decl : CoreDecl
run_decl = record { parameters = []; result = Tuple []; body = body.Plain printing }

-- The declaration of `println`.
abbrev pub println_decl : CoreDecl
println_decl = record { parameters = Any ∷ []; result = Tuple []; body = body.Primitive Println }

-- The program `run(): () = println("a")`.
abbrev pub hello : Program
hello = record {
  types = record { below = []; apart = [] };
  built_in = numbered;
  type_names = [];
  shapes = [];
  sets = record { decls = decl 0 ∷ [] } ∷ record { decls = decl 1 ∷ [] } ∷ [];
  decls = run_decl ∷ println_decl ∷ [];
  first = Call (set 0) [];
  opening = [];
  opening_types = [];
}

-- Two steps of the root thread, with a fuel of 4.
abbrev pub two_steps : Journal
two_steps =
    record {
      fuel = 4;
      picks = Step (path_to []) (location 0) ∷ Step (path_to []) (location 0) ∷ [];
      ending = Completed;
    }

-- It is a run of that program, ends at `()`, prints `a` with a line feed, and costs 4.
abbrev pub PrintsLetter : Type 0
PrintsLetter = (d : Effect) × Records hello two_steps (term.Value unit) d
    × (d.output ≡ 97 ∷ 10 ∷ []) × (d.cost ≡ 4)
