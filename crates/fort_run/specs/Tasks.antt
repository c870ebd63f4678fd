-- What a call's words and files lead to: something to say, or a program to run. It restates the
-- chapter "The command line" of docs/LANGUAGE.md.
use Rattle.std.specs.Prelude.{◌≡◌}
use Rattle.fort_core.specs.declared.journal.Journal.{Journal}
use Rattle.fort_core.specs.declared.program.Program.{Program}
use Rattle.fort_machine.specs.Journals.{IsJournal}
use Rattle.fort_machine.specs.Written.{WrittenProgram}
use Rattle.fort_audit_record.specs.Text.{HasText}
use Rattle.fort_disp.specs.Rows.{GoesThrough}
use Rattle.fort_walk_turns.specs.Defined.{AlwaysOne}
use Rattle.fort_walk_turns.specs.Stops.{StopsShort}
use Rattle.fort_run.specs.Reply.{Reply, TellsRun, Writing, its_output, its_record}
use Rattle.fort_run.specs.Said.{said}
use Rattle.fort_run.specs.declared.meant.Meant.{Meant}
use Rattle.fort_run.specs.declared.meant.Meant.TheVariants.{Says, Runs}
use Rattle.fort_run.specs.declared.meant.Task.{Task}
use Rattle.fort_run.specs.declared.meant.Written.{Written}
use Rattle.fort_run.specs.declared.meant.Written.TheVariants.{Output, Record}

-- What is written of a run.
abbrev pub writing_of : Written → Writing
writing_of Output = its_output
writing_of Record = its_record

-- What a run asks of its program: it is a written one, no run of it stops short of its end, each of
-- its calls has its one declaration, and below goes through a third type.
pub record MayRun (p : Program) : Type 0 where
  pub written : WrittenProgram p
  pub never : StopsShort p → ⊥
  pub one : AlwaysOne p
  pub through : GoesThrough p

-- The ending of each journal of a program has a text.
abbrev pub HaveTexts : Program → Type 0
HaveTexts p = (j : Journal) → IsJournal p j → HasText j.ending

-- A task's program may run, and where the record of its run is to be written there is one.
pub record IsReady (task : Task) : Type 0 where
  pub may : MayRun task.program
  pub texts : task.writes ≡ Record → HaveTexts task.program

-- The call leads to a reply of this kind: it says one; or it has a task that is ready, and what
-- tells a run of it is one.
abbrev pub LeadsTo : (Reply → Type 0) → Meant → Type 0
LeadsTo Kind (Says answer) = Kind (said answer)
LeadsTo Kind (Runs task) = IsReady task
    × ((reply : Reply) → TellsRun (writing_of task.writes) task.program task.fuel reply
    → Kind reply)
