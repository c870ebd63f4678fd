-- What an audit finds out is what is meant to say.
use Rattle.std.proofs.Common.{◌≡◌, ℕ, ◌≤◌, List, length, Result, Ok, Err, IfOk, subst, refl}
use Rattle.fort_base.specs.declared.refusal.Memory.{Memory}
use Rattle.fort_core.specs.declared.program.Program.{Program}
use Rattle.fort_port.specs.Outside.{Holding}
use Rattle.fort_cmd.specs.declared.command.Command.{Command}
use Rattle.fort_cmd.specs.declared.command.Command.TheVariants.{Check, Show, Run, Bench, Record, Audit, Link}
use Rattle.fort_cmd.specs.Words.{IsCommand}
use Rattle.fort_audit_record.specs.Text.{IsRecordText, IsFormFault}
use Rattle.fort_audit_record.specs.declared.reading.Record as a_record
use Rattle.fort_audit.specs.Audits.{Audits}
use Rattle.fort_audit.specs.declared.answer.Audited.{Audited}
use Rattle.fort_audit.specs.declared.refusal.Why.TheVariants as why
use Rattle.fort_run.specs.Reply.{Reply, IsFile, IsText, IsOfOneFile, Means, JudgedBoth, AuditMeans, RecordMeans, RecordRead, RecordSays, IsKept, Formless, audited, refused_record, file_limit, record_limit}
use Rattle.fort_run.specs.Said.{said}
use Rattle.fort_run.specs.declared.answer.Answer.{Answer}

-- A command of a text that isn't an audit is about one file.
pub of_one_file : (holding : List ℕ → Holding) (command : Command) (text : List ℕ)
    → IsText holding command text → ((name kept : List ℕ) → command ≡ Audit name kept → ⊥)
    → IsOfOneFile command
of_one_file holding (Check name) text is differs = tt
of_one_file holding (Show name) text is differs = tt
of_one_file holding (Run name workers fuel) text is differs = tt
of_one_file holding (Bench accounts) text is differs = tt
of_one_file holding (Record name workers fuel) text is differs = tt
of_one_file holding (Audit name kept) text is differs = absurd (differs name kept refl)
of_one_file holding (Link names workers fuel) text is differs = absurd is

-- What is meant to say of both files is what the call means to say.
pub both_mean : (holding : List ℕ → Holding) (before after : ℕ) (command : Command)
    (name kept file : List ℕ) (reply : Reply)
    → command ≡ Audit name kept → IsText holding command file → length file ≤ file_limit
    → AuditMeans name file (holding kept) before after reply
    → (words : List (List ℕ)) → IsCommand words command → Means words holding before after reply
both_mean holding before after command name kept file reply e read within means words is =
    JudgedBoth name kept file (subst (IsCommand words) e is)
    (subst (λ c. IsText holding c file) e read) within means

-- What is said of a record that was read whole.
pub record_means : (p : Program) (holding : Holding) (before after : ℕ) (bytes : List ℕ)
    (r : Result Answer Memory) → IsFile holding bytes → length bytes ≤ record_limit → after ≡ before
    → IfOk r (λ a. RecordSays p bytes (said a))
    → IfOk r (λ a. RecordMeans p holding before after (said a))
record_means p holding before after bytes (Ok a) read within calm says =
    RecordRead bytes read within calm says
record_means p holding before after bytes (Err m) read within calm says = tt

pub record_says : (p : Program) (bytes : List ℕ) (kept : a_record.Record) (r : Result Answer Memory)
    → IsRecordText bytes kept.journal kept.output
    → IfOk r (λ a. (answer : Audited) × Audits p kept answer × (said a ≡ audited kept answer))
    → IfOk r (λ a. RecordSays p bytes (said a))
record_says p bytes kept (Ok a) text says = IsKept kept says.0 text says.1 says.2
record_says p bytes kept (Err m) text says = tt

pub formless : (p : Program) (bytes : List ℕ) (at : ℕ) (r : Result Answer Memory)
    → IsFormFault bytes at → IfOk r (λ a. said a ≡ refused_record (why.Form at))
    → IfOk r (λ a. RecordSays p bytes (said a))
formless p bytes at (Ok a) fault e = Formless at fault e
formless p bytes at (Err m) fault e = tt
