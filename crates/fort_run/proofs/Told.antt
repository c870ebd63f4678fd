-- What is said of a run tells it.
use Rattle.std.proofs.Common.{◌≢◌, ℕ, true, false, List, subst, sym}
use Rattle.fort_core.specs.declared.journal.Ending.TheVariants.{NotRun}
use Rattle.fort_core.specs.declared.program.Program.{Program}
use Rattle.fort_core.specs.declared.term.Term.{Term}
use Rattle.fort_machine.specs.Effects.{Effect}
use Rattle.fort_machine.specs.Attempts.{goes}
use Rattle.fort_machine.specs.Journals.{Ends, Records, opening_store}
use Rattle.fort_machine_law_attempts.proofs.Attempts.{goes_on, give_back}
use Rattle.fort_walk_course.specs.Calls.{IsRun}
use Rattle.fort_walk_course.specs.declared.ending.Ran.{Ran}
use Rattle.fort_walk_turns.specs.Defined.{AlwaysOne}
use Rattle.fort_audit_record.specs.Text.{HasText, IsRecordText}
use Rattle.fort_run.specs.Reply.{TellsEnding, TellsRun, its_output, its_record}
use Rattle.fort_run.specs.Said.{said, status_of, note_of}
use Rattle.fort_run.specs.Tasks.{HaveTexts}
use Rattle.fort_run.specs.declared.answer.Answer.TheVariants as answer
use Rattle.fort_run.specs.declared.answer.Told.{Told}

no_end : (p : Program) (fuel : ℕ) (t : Term) (d : Effect) → Ends p fuel t d NotRun → ⊥
no_end p fuel t d none = none

-- A run has an ending.
pub has_end : (p : Program) (fuel : ℕ) (ran : Ran) → IsRun p fuel ran → ran.journal.ending ≢ NotRun
has_end p fuel ran is none =
    no_end p fuel is.run.term is.run.effect
    (subst (λ e. Ends p fuel is.run.term is.run.effect e) none is.run.records.ends)

-- Its journal is a record of it.
records_of : (p : Program) (fuel : ℕ) (ran : Ran) (is : IsRun p fuel ran)
    → Records p ran.journal is.run.term is.run.effect
records_of p fuel ran is =
    subst (λ n. Records p
    (record { fuel = n; picks = ran.journal.picks; ending = ran.journal.ending }) is.run.term
    is.run.effect) (sym is.is_fuel) is.run.records

-- What is said of a run, where it tells how that ended.
pub run_told : (p : Program) (fuel : ℕ) (ran : Ran) (end : Told) → IsRun p fuel ran → AlwaysOne p
    → TellsEnding p ran.journal.ending (status_of end) (note_of end)
    → TellsRun its_output p fuel (said (answer.Ran ran.journal ran.output end))
run_told p fuel ran end is one tells =
    let records = records_of p fuel ran is in
    record {
      term = is.run.term;
      effect = is.run.effect;
      records = records;
      is_fuel = is.is_fuel;
      is_written = is.run.is_output;
      tells = tells;
      one = one;
      whole = goes_on p;
      gives_back =
          give_back p false true (opening_store p) ran.journal.picks p.first (goes is.run.term)
          is.run.effect records.is_run.runs;
    }

-- The ending of a run has a text, where those of all journals of its program do.
pub run_has_text : (p : Program) (fuel : ℕ) (ran : Ran) → IsRun p fuel ran → HaveTexts p
    → HasText ran.journal.ending
run_has_text p fuel ran is have =
    have ran.journal (is.run.term, (is.run.effect, records_of p fuel ran is))

-- The same with the run's record in the place of its output.
pub run_recorded : (p : Program) (fuel : ℕ) (ran : Ran) (end : Told) (text : List ℕ)
    → IsRun p fuel ran → AlwaysOne p
    → TellsEnding p ran.journal.ending (status_of end) (note_of end)
    → IsRecordText text ran.journal ran.output
    → TellsRun its_record p fuel (said (answer.Ran ran.journal text end))
run_recorded p fuel ran end text is one ends is_text =
    let tells = run_told p fuel ran end is one ends in
    record {
      term = tells.term;
      effect = tells.effect;
      records = tells.records;
      is_fuel = tells.is_fuel;
      is_written = subst (IsRecordText text ran.journal) tells.is_written is_text;
      tells = tells.tells;
      one = tells.one;
      whole = tells.whole;
      gives_back = tells.gives_back;
    }
