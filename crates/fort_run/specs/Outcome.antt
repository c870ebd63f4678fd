-- How a call ends: its status, and what stands on both outputs. It restates the chapter "Statuses
-- and notes" of docs/LANGUAGE.md.
use Rattle.std.specs.Prelude.{◌≡◌, ℕ, ◌*◌, ◌<◌, ◌≤◌, List, [], ◌∷◌, ◌++◌, ◌⊎◌, length}
use Rattle.fort_base.specs.declared.refusal.Rule.{Rule}
use Rattle.fort_base.specs.declared.refusal.Place.{Place}
use Rattle.fort_core.specs.declared.program.Program.{Program}
use Rattle.fort_port.specs.Outside.{Holding, Held, Rose}
use Rattle.fort_cmd.specs.declared.command.Command.{Command}
use Rattle.fort_cmd.specs.declared.command.Command.TheVariants.{Check, Show, Run, Bench, Record, Audit, Link}
use Rattle.fort_cmd.specs.Words.{IsCommand, IsNoCommand}
use Rattle.fort_bench.specs.Bank.{bank}
use Rattle.fort_core.specs.declared.term.Term.{Term}
use Rattle.fort_machine.specs.Effects.{Effect}
use Rattle.fort_machine.specs.Journals.{Records}
use Rattle.fort_audit_record.specs.Text.{IsRecordText}
use Rattle.fort_core.specs.declared.journal.Journal.{Journal}
use Rattle.fort_audit.specs.Audits.{Prints}
use Rattle.fort_diag.specs.Notes.{want_of_memory}
use Rattle.fort_run.specs.Reply.{Reply, Means, IsAcceptedAs, AreAcceptedAs, BreaksOne, BreakOne, Writing, Writes, its_output, its_record, TellsEnding, IsShownAs, IsNoComponent, accepted, bench_fuel, file_limit, record_limit, size_of, no_run}
use Rattle.fort_link.specs.declared.answer.Spot.{Spot}
use Rattle.fort_port_output.specs.Written.{Change, Takes, TakesOrFails}
use Rattle.fort_run.specs.Delivery.{Delivers}
use Rattle.fort_run.specs.declared.top.Finish.{Finish}

-- The outside of a call: its words, what the shelf tells and its counts of faults, and both sinks.
pub record Outside : Type 0 where
  pub words : List (List ℕ)
  pub holding : List ℕ → Holding
  pub faults_were : ℕ
  pub faults_are : ℕ
  pub out : Change
  pub notes : Change

abbrev pub MeansToSay : Outside → Reply → Type 0
MeansToSay o reply = Means o.words o.holding o.faults_were o.faults_are reply

-- How a call ends: it delivered what it means to say, whose journal it answers; or memory was
-- wanting, 7, there was no run, and the note says so as far as it came.
pub data Ends (o : Outside) (finish : Finish) : Type 0 where
  Said : (reply : Reply) → MeansToSay o reply
      → Delivers reply.status reply.out reply.note o.out o.notes finish.status
      → finish.journal ≡ reply.journal → Ends o finish
  WantsMemory : TakesOrFails o.notes want_of_memory → finish.status ≡ 7 → finish.journal ≡ no_run
      → Ends o finish

-- No count of faults rose.
pub record IsCalm (o : Outside) : Type 0 where
  pub shelf : Rose o.faults_were o.faults_are → ⊥
  pub out : Rose o.out.faults_were o.out.faults_are → ⊥
  pub notes : Rose o.notes.faults_were o.notes.faults_are → ⊥

-- The text that a command is about: the component's file that the shelf has under its name; or the
-- bank. A link is about no single text.
abbrev pub IsAbout : (List ℕ → Holding) → Command → List ℕ → Type 0
IsAbout holding (Check name) text = holding name ≡ Held text
IsAbout holding (Show name) text = holding name ≡ Held text
IsAbout holding (Run name workers fuel) text = holding name ≡ Held text
IsAbout holding (Bench accounts) text = text ≡ bank accounts (4 * accounts)
IsAbout holding (Record name workers fuel) text = holding name ≡ Held text
IsAbout holding (Audit name kept) text = holding name ≡ Held text
IsAbout holding (Link names workers fuel) text = ⊥

-- The words are this command, and this is the text that it is about.
pub record Asks (o : Outside) (command : Command) (text : List ℕ) : Type 0 where
  pub is : IsCommand o.words command
  pub about : IsAbout o.holding command text

-- The command runs its text, with this fuel, and writes this of the run.
abbrev pub RunsWith : Command → ℕ → Writing → Type 0
RunsWith (Check name) fuel writes = ⊥
RunsWith (Show name) fuel writes = ⊥
RunsWith (Run name workers given) fuel writes = (fuel ≡ given) × (writes ≡ its_output)
RunsWith (Bench accounts) fuel writes = (fuel ≡ bench_fuel) × (writes ≡ its_output)
RunsWith (Record name workers given) fuel writes = (fuel ≡ given) × (writes ≡ its_record)
RunsWith (Audit name kept) fuel writes = ⊥
RunsWith (Link names workers given) fuel writes = ⊥

-- The command asks all the rules of its text.
abbrev pub AsksAll : Command → Type 0
AsksAll (Show name) = ⊥
AsksAll other = Unit {0}

-- A run of a program with this fuel, whole: the journal is its, all that is written of it was
-- written, and the status says how it ended.
pub record IsWhole (o : Outside) (finish : Finish) (writes : Writing) (p : Program)
    (fuel : ℕ) : Type 0 where
  pub term : Term
  pub effect : Effect
  pub records : Records p finish.journal term effect
  pub is_fuel : finish.journal.fuel ≡ fuel
  pub written : List ℕ
  pub is_of_run : Writes writes finish.journal effect.output written
  pub is_written : Takes o.out written
  pub note : List ℕ
  pub is_noted : Takes o.notes note
  pub tells : TellsEnding p finish.journal.ending finish.status note

-- The words ask for an audit of an accepted component's program, and the shelf has the record.
pub record AsksAudit (o : Outside) (p : Program) (bytes : List ℕ) : Type 0 where
  pub name : List ℕ
  pub kept : List ℕ
  pub file : List ℕ
  pub asks : Asks o (Audit name kept) file
  pub within : length file ≤ file_limit
  pub accepted : IsAcceptedAs file p
  pub held : o.holding kept ≡ Held bytes

-- The shelf has these files, under these names.
abbrev pub AreHeld : (List ℕ → Holding) → List (List ℕ) → List (List ℕ) → Type 0
AreHeld holding [] [] = Unit {0}
AreHeld holding (name ∷ names) (file ∷ files) =
    (holding name ≡ Held file) × AreHeld holding names files
AreHeld holding names files = ⊥

-- The words ask to link files and run the whole with this fuel, and the shelf has these under the
-- first of their names.
pub record AsksLink (o : Outside) (first rest files : List (List ℕ)) (fuel : ℕ) : Type 0 where
  pub workers : ℕ
  pub is : IsCommand o.words (Link (first ++ rest) workers fuel)
  pub held : AreHeld o.holding first files

-- Bytes are the record of a run of a program, which printed this output.
pub record Keeps (p : Program) (bytes output : List ℕ) : Type 0 where
  pub journal : Journal
  pub is_text : IsRecordText bytes journal output
  pub prints : Prints p journal output

-- Where no count rose and the shelf tells its bytes, the words and the files that they are about
-- decide the status; want of memory aside.
pub record IsComplete (o : Outside) (finish : Finish) : Type 0 where
  pub no_command : IsNoCommand o.words → (finish.status ≡ 2) ⊎ (finish.status ≡ 7)
  pub runs : (command : Command) (file : List ℕ) (fuel : ℕ) (writes : Writing) (program : Program)
      → Asks o command file → RunsWith command fuel writes
      → length file ≤ file_limit → IsAcceptedAs file program
      → IsWhole o finish writes program fuel ⊎ (finish.status ≡ 7)
  pub refused : (command : Command) (file : List ℕ) (rule : Rule) (place : Place)
      → Asks o command file → AsksAll command → length file ≤ file_limit
      → BreaksOne file rule place → (finish.status ≡ 1) ⊎ (finish.status ≡ 7)
  pub accepts : (name file : List ℕ) (program : Program) → Asks o (Check name) file
      → length file ≤ file_limit → IsAcceptedAs file program
      → ((finish.status ≡ 0) × Takes o.out accepted) ⊎ (finish.status ≡ 7)
  pub shown : (name file text : List ℕ) → Asks o (Show name) file → length file ≤ file_limit
      → IsShownAs file text → (finish.status ≡ 0) ⊎ (finish.status ≡ 7)
  pub no_component : (name file : List ℕ) (rule : Rule) (place : Place) → Asks o (Show name) file
      → length file ≤ file_limit
      → IsNoComponent file rule place → (finish.status ≡ 1) ⊎ (finish.status ≡ 7)
  pub too_large : (command : Command) (file : List ℕ) → Asks o command file
      → file_limit < length file → (finish.status ≡ 8) ⊎ (finish.status ≡ 7)
  pub audits : (p : Program) (bytes output : List ℕ) → AsksAudit o p bytes
      → length bytes ≤ record_limit → Keeps p bytes output
      → ((finish.status ≡ 0) × Takes o.out output) ⊎ (finish.status ≡ 7)
  pub audits_none : (p : Program) (bytes : List ℕ) → AsksAudit o p bytes
      → length bytes ≤ record_limit → ((output : List ℕ) → Keeps p bytes output → ⊥)
      → (finish.status ≡ 9) ⊎ (finish.status ≡ 7)
  pub record_too_large : (p : Program) (bytes : List ℕ) → AsksAudit o p bytes
      → record_limit < length bytes → (finish.status ≡ 8) ⊎ (finish.status ≡ 7)
  pub links : (names files : List (List ℕ)) (fuel : ℕ) (program : Program)
      → AsksLink o names [] files fuel → size_of files ≤ file_limit
      → AreAcceptedAs files program
      → IsWhole o finish its_output program fuel ⊎ (finish.status ≡ 7)
  pub links_none : (names files : List (List ℕ)) (fuel : ℕ) (rule : Rule) (spot : Spot)
      → AsksLink o names [] files fuel → size_of files ≤ file_limit
      → BreakOne files rule spot → (finish.status ≡ 1) ⊎ (finish.status ≡ 7)
  pub files_too_large : (first rest files : List (List ℕ)) (fuel : ℕ)
      → AsksLink o first rest files fuel → file_limit < size_of files
      → (finish.status ≡ 8) ⊎ (finish.status ≡ 7)

-- What is promised of a call.
pub record Answers (o : Outside) (finish : Finish) : Type 0 where
  pub ends : Ends o finish
  pub complete : IsCalm o → IsComplete o finish
