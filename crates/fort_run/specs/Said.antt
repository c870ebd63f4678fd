-- The replies that the code tells apart. It restates the chapter "Statuses and notes" of
-- docs/LANGUAGE.md.
use Rattle.std.specs.Prelude.{◌≡◌, ℕ, List, [], Result, Ok, Err}
use Rattle.fort_core.specs.declared.program.Program.{Program}
use Rattle.fort_base.specs.declared.refusal.CheckFault.{CheckFault}
use Rattle.fort_base.specs.declared.refusal.CheckFault.TheVariants as a_fault
use Rattle.fort_link.specs.declared.answer.LinkFault.{LinkFault}
use Rattle.fort_link.specs.declared.answer.LinkFault.TheVariants as a_link_fault
use Rattle.fort_diag.specs.Notes.{usage, read_fault, too_large, out_of_fuel, refusal}
use Rattle.fort_run.specs.Reply.{Reply, AreAcceptedAs, BreakOne, no_run, accepted}
use Rattle.fort_run.specs.declared.answer.Answer.{Answer}
use Rattle.fort_run.specs.declared.answer.Answer.TheVariants.{Ran, Accepted, Shown, Refused, NoCommand, Unread, TooLarge, RecordRefused}
use Rattle.fort_run.specs.declared.answer.Told.{Told}
use Rattle.fort_run.specs.declared.answer.Told.TheVariants as told

-- How a run ended, as a status and a note.
abbrev pub status_of : Told → ℕ
status_of told.Completed = 0
status_of (told.Uncaught note) = 5
status_of told.OutOfFuel = 6

abbrev pub note_of : Told → List ℕ
note_of told.Completed = []
note_of (told.Uncaught note) = note
note_of told.OutOfFuel = out_of_fuel

abbrev pub said : Answer → Reply
said (Ran journal text end) =
    record { status = status_of end; out = text; note = note_of end; journal = journal }
said Accepted = record { status = 0; out = accepted; note = []; journal = no_run }
said (Shown text) = record { status = 0; out = text; note = []; journal = no_run }
said (Refused note) = record { status = 1; out = []; note = note; journal = no_run }
said NoCommand = record { status = 2; out = []; note = usage; journal = no_run }
said Unread = record { status = 3; out = []; note = read_fault; journal = no_run }
said TooLarge = record { status = 8; out = []; note = too_large; journal = no_run }
said (RecordRefused note) = record { status = 9; out = []; note = note; journal = no_run }

-- The refusal of a file by the fault of its check; want of memory is no refusal.
abbrev pub RefusedBy : List ℕ → CheckFault → Answer → Type 0
RefusedBy name (a_fault.Refused rule place) answer = answer ≡ Refused (refusal name rule place)
RefusedBy name a_fault.Memory answer = ⊥

-- The files are accepted with this program, or this is the rule that they break; want of memory
-- needs no cause.
abbrev pub LinkChecks : List (List ℕ) → Result Program LinkFault → Type 0
LinkChecks files (Ok program) = AreAcceptedAs files program
LinkChecks files (Err (a_link_fault.Refused rule spot)) = BreakOne files rule spot
LinkChecks files (Err a_link_fault.Memory) = Unit {0}
