-- Chapter "The machine with threads": a worked program, in which a thread is spawned and its value
-- is printed: it has all that the laws on runs with threads take of a program.
use Rattle.std.specs.Prelude.{[], map, List, None}
use Rattle.fort_core.specs.declared.pick.Pick.{Pick}
use Rattle.fort_core.specs.declared.program.Program.{Program}
use Rattle.fort_core.specs.declared.term.Term.{Term, Call}
use Rattle.fort_machine.specs.Effects.{Effect}
use Rattle.fort_machine.specs.Journals as machine
use Rattle.fort_machine.specs.Scopes.{is_among}
use Rattle.fort_machine.specs.Worked.{type, set, decl, numbered}
use Rattle.fort_sound_typed.specs.Sound.{Sound}
use Rattle.fort_sound_typed.specs.Goes.{Complete}
use Rattle.fort_threads.specs.Known.{Known}
use Rattle.fort_threads_law_servers.specs.Prelude.{Names}
use Rattle.fort_threads_law_servers.specs.Roots.{Start, Starts}
use Rattle.fort_threads_law_private.specs.Grounds.{Ground}
use Rattle.fort_threads_law_worlds.specs.Known.{Own}
use Rattle.fort_threads_law_runs.specs.Premises.{IsThreaded}
use Rattle.fort_threads_law_whole.specs.Early.{IsBeginning}
use Rattle.fort_threads_law_whole.specs.Whole.{IsThreadedRun}
use Rattle.fort_threads_law_thrown.specs.Tables.{Tables}
use Rattle.fort_threads_law_worked.specs.Types.{type_numbers, rows, apart_row, names, shapes, locations, opening, opening_types, exception_type, body_name, state_name, value_name, next_name}
use Rattle.fort_threads_law_worked.specs.Builtin.{sets}
use Rattle.fort_threads_law_worked.specs.Bodies.{too_many, own_run, own_body, decls}

-- The program.
abbrev pub worked : Program
worked = record {
  types = record { below = rows; apart = map apart_row type_numbers };
  built_in = numbered;
  type_names = names;
  shapes = shapes;
  sets = sets;
  decls = decls;
  first = Call (set 46) [];
  opening = opening;
  opening_types = opening_types;
}

-- Its numbers of what the prelude declares and calls; of what its start needs; of the component's
-- own `run`; and of the declarations whose calls lead to forms of their own.
abbrev pub worked_names : Names
worked_names =
    record {
      serve = set 44;
      take = set 42;
      go = set 43;
      make = set 40;
      wait = set 37;
      val = set 39;
      abort = set 33;
      plus = set 0;
      minus = set 1;
      equal = set 19;
      differs = set 20;
      greater = set 23;
      hash = set 30;
      body = body_name;
      state = state_name;
      value = value_name;
      next = next_name;
      queue = 0;
      unended = 1;
      count = 2;
      thread = type 19;
      exception = exception_type;
      too_many = too_many;
    }

abbrev pub worked_start : Start
worked_start = record { run = set 46; main = set 45; started = 3; own = own_run }

abbrev pub worked_own : Own
worked_own = record { set = set 47; text = own_body; body = own_body }

abbrev pub worked_known : Known
worked_known =
    record {
      spawn = decl 76;
      wait = decl 70;
      val = decl 74;
      ready = decl 72;
      run = decl 81;
      own_run = decl 82;
      thread = type 19;
      too_many = too_many;
    }

-- Open to it are the locations of the single objects; no object of a thread is there yet.
abbrev pub worked_ground : Ground
worked_ground = record { is_open = λ l. is_among l locations; function = λ l. None }

-- It is as the check of a component finds it: sound and complete.
abbrev pub WorkedIsSound : Type 0
WorkedIsSound = Sound worked × Complete worked

-- It has these tables, and all that is taken of a program with spawned threads.
abbrev pub WorkedIsThreaded : Type 0
WorkedIsThreaded = Tables worked worked_names worked_start worked_own
    × IsThreaded worked worked_names worked_start worked_own worked_known worked_ground
    × IsBeginning worked worked_names worked_start worked_known worked_ground
    × Starts worked worked_names worked_start

-- So each of its runs is one of the machine with threads.
abbrev pub WorkedRunsAreThreaded : Type 0
WorkedRunsAreThreaded = (picks : List Pick) (t : Term) (d : Effect)
    → machine.IsRun worked picks t d → IsThreadedRun worked worked_known t d
