-- What a call means to say. It restates the chapters "The command line" and "Statuses and notes" of
-- docs/LANGUAGE.md. The code finds the reply by reading in pieces; the words below speak of whole
-- files.
use Rattle.std.specs.Prelude.{◌≡◌, ℕ, ◌*◌, ◌<◌, ◌≤◌, List, [], ◌∷◌, ◌++◌, codes, get_or, length, map, sum}
use Rattle.fort_audit.specs.Audits.{Audits}
use Rattle.fort_audit.specs.Notes.{note_of}
use Rattle.fort_audit.specs.declared.answer.Audited.{Audited}
use Rattle.fort_audit.specs.declared.answer.Audited.TheVariants.{Yes, NotARun, OtherOutput}
use Rattle.fort_audit.specs.declared.refusal.Why.{Why}
use Rattle.fort_audit.specs.declared.refusal.Why.TheVariants as why
use Rattle.fort_base.specs.declared.refusal.Rule.{Rule}
use Rattle.fort_base.specs.declared.refusal.Place.{Place}
use Rattle.fort_lex_token.specs.declared.token.Tokens.{Tokens}
use Rattle.fort_lex.specs.Files.{HasTokens, BreaksRule}
use Rattle.fort_tree.specs.declared.declarations.Component.{Component}
use Rattle.fort_front.specs.Front.{IsGrammatical, BreaksGrammar, IsAccepted, IsAcceptedComponent, Breaks, BreaksComponent}
use Rattle.fort_link.specs.Answer.{IsLinked, BreaksLink}
use Rattle.fort_link.specs.Spots.{StandsIn}
use Rattle.fort_link.specs.declared.answer.Spot.{Spot}
use Rattle.fort_lex_canonical.specs.Canonical.{canonical}
use Rattle.fort_port.specs.Outside.{Holding, Untold, Absent, Held, Rose}
use Rattle.fort_cmd.specs.declared.command.Command.{Command}
use Rattle.fort_cmd.specs.declared.command.Command.TheVariants.{Check, Show, Run, Bench, Record, Audit, Link}
use Rattle.fort_cmd.specs.Words.{IsCommand, IsNoCommand, most_accounts}
use Rattle.fort_bench.specs.Bank.{bank}
use Rattle.fort_core.specs.declared.journal.Ending.{Ending}
use Rattle.fort_core.specs.declared.journal.Ending.TheVariants.{NotRun, Completed, Uncaught, OutOfFuel}
use Rattle.fort_core.specs.declared.journal.Journal.{Journal}
use Rattle.fort_core.specs.declared.program.Program.{Program}
use Rattle.fort_core.specs.declared.term.Term.{Term}
use Rattle.fort_machine.specs.Effects.{Effect}
use Rattle.fort_machine.specs.Journals.{Records}
use Rattle.fort_machine_law_attempts.specs.Attempts.{GoesInWhole, GiveBack}
use Rattle.fort_audit_record.specs.Text.{IsFormFault, IsRecordText}
use Rattle.fort_audit_record.specs.declared.reading.Record as a_record
use Rattle.fort_walk_turns.specs.Defined.{AlwaysOne}
use Rattle.fort_diag.specs.Notes.{usage, read_fault, too_large, out_of_fuel, uncaught, refusal}

-- A status, what is for standard output, what is for standard error, and the journal of a run.
pub record Reply : Type 0 where
  pub status : ℕ
  pub out : List ℕ
  pub note : List ℕ
  pub journal : Journal

-- The journal where there was no run.
abbrev pub no_run : Journal
no_run = record { fuel = 0; picks = []; ending = NotRun }

-- These are the bytes of the file, where the shelf tells them; a name that it hasn't has none.
abbrev pub IsFile : Holding → List ℕ → Type 0
IsFile Untold bytes = Unit {0}
IsFile Absent bytes = ⊥
IsFile (Held file) bytes = bytes ≡ file

-- a text as a line
abbrev pub line : List ℕ → List ℕ
line text = text ++ 10 ∷ []

-- the most bytes that a file may have
abbrev pub file_limit : ℕ
file_limit = 1048576

-- ---- run

-- The file is accepted: it keeps the rules of its tokens, and these keep all rules; and this is the
-- program of its component.
pub record IsAcceptedAs (file : List ℕ) (program : Program) : Type 0 where
  pub tokens : Tokens
  pub has : HasTokens file tokens
  pub accepted : IsAccepted tokens program

-- The file breaks this rule, at this place: a rule of its tokens; or it has tokens, and these break
-- one of the grammar, of grouping, of types, of members, of overloading or of typing.
pub data BreaksOne (file : List ℕ) (rule : Rule) (place : Place) : Type 0 where
  in_text : BreaksRule file rule place → BreaksOne file rule place
  behind : (tokens : Tokens) → HasTokens file tokens → Breaks tokens rule place
      → BreaksOne file rule place

-- What is written of a run: what it printed, or the record of that and of its journal.
pub data Writing : Type 0 where
  its_output : Writing
  its_record : Writing

-- That is written of a run with this journal, which printed this.
abbrev pub Writes : Writing → Journal → List ℕ → List ℕ → Type 0
Writes its_output journal output written = written ≡ output
Writes its_record journal output written = IsRecordText written journal output

-- The status and the note of a run's ending: 0 and none where it is completed; 5 and the exception
-- where one is uncaught; 6 and a note where it is out of fuel.
abbrev pub TellsEnding : Program → Ending → ℕ → List ℕ → Type 0
TellsEnding p NotRun status note = ⊥
TellsEnding p Completed status note = (status ≡ 0) × (note ≡ [])
TellsEnding p (Uncaught v) status note = (status ≡ 5) × (note ≡ uncaught p v)
TellsEnding p (OutOfFuel pick) status note = (status ≡ 6) × (note ≡ out_of_fuel)

-- The reply tells a run of a program with this fuel: its journal is the run's, what is written is
-- of that journal and what the run printed, and status and note tell how the run ended; in each of
-- its terms each call has its one declaration; each atomic form goes on by whole attempts of it
-- alone, each one pick; and each attempt in the journal, within others too, that fails or is
-- aborted gives back every location older than itself.
pub record TellsRun (writes : Writing) (p : Program) (fuel : ℕ) (reply : Reply) : Type 0 where
  pub term : Term
  pub effect : Effect
  pub records : Records p reply.journal term effect
  pub is_fuel : reply.journal.fuel ≡ fuel
  pub is_written : Writes writes reply.journal effect.output reply.out
  pub tells : TellsEnding p reply.journal.ending reply.status reply.note
  pub one : AlwaysOne p
  pub whole : GoesInWhole p
  pub gives_back : GiveBack records.is_run.runs

-- What is said of a file to run with this fuel.
pub data RunSays (writes : Writing) (name file : List ℕ) (fuel : ℕ) (reply : Reply) : Type 0 where
  -- The component is accepted: a run of its program.
  Runs : (p : Program) → IsAcceptedAs file p → TellsRun writes p fuel reply
      → RunSays writes name file fuel reply
  -- The component is refused: 1, and where and by which rule.
  Refuses : (rule : Rule) (place : Place) → BreaksOne file rule place
      → reply ≡ record { status = 1; out = []; note = refusal name rule place; journal = no_run }
      → RunSays writes name file fuel reply

-- ---- check

-- what standard output has of an accepted component
abbrev pub accepted : List ℕ
accepted = line (codes "accepted")

-- What is said of a file to check.
pub data CheckSays (name file : List ℕ) (reply : Reply) : Type 0 where
  -- The component is accepted: 0, and the word for it.
  Accepts : (program : Program) → IsAcceptedAs file program
      → reply ≡ record { status = 0; out = accepted; note = []; journal = no_run }
      → CheckSays name file reply
  -- The component is refused: 1, and where and by which rule.
  AcceptsNone : (rule : Rule) (place : Place) → BreaksOne file rule place
      → reply ≡ record { status = 1; out = []; note = refusal name rule place; journal = no_run }
      → CheckSays name file reply

-- ---- show

-- The file is shown as this text: it keeps the rules of its tokens and of the grammar, and the text
-- is the canonical one of its tokens.
pub record IsShownAs (file text : List ℕ) : Type 0 where
  pub tokens : Tokens
  pub has : HasTokens file tokens
  pub grammatical : IsGrammatical tokens
  pub shown : text ≡ canonical tokens

-- The file is no component, by this rule, at this place: a rule of its tokens that it breaks; or
-- one of the grammar that its tokens break.
pub data IsNoComponent (file : List ℕ) (rule : Rule) (place : Place) : Type 0 where
  in_tokens : BreaksRule file rule place → IsNoComponent file rule place
  in_grammar : (tokens : Tokens) → HasTokens file tokens → BreaksGrammar tokens rule place
      → IsNoComponent file rule place

-- What is said of a file to show.
pub data ShowSays (name file : List ℕ) (reply : Reply) : Type 0 where
  -- The file is a component: 0, and its canonical text.
  Shows : (text : List ℕ) → IsShownAs file text
      → reply ≡ record { status = 0; out = text; note = []; journal = no_run }
      → ShowSays name file reply
  -- It is none: 1, and where and by which rule.
  ShowsNone : (rule : Rule) (place : Place) → IsNoComponent file rule place
      → reply ≡ record { status = 1; out = []; note = refusal name rule place; journal = no_run }
      → ShowSays name file reply

-- ---- audit

-- the most bytes that a record may have
abbrev pub record_limit : ℕ
record_limit = 1073741824

-- A record is refused: 9, and why.
abbrev pub refused_record : Why → Reply
refused_record w = record { status = 9; out = []; note = note_of w; journal = no_run }

-- The reply to a record, by what its audit answers: 0, and the output that it records; or why it is
-- refused.
abbrev pub audited : a_record.Record → Audited → Reply
audited r Yes = record { status = 0; out = r.output; note = []; journal = no_run }
audited r (NotARun n) = refused_record (why.Pick n)
audited r (OtherOutput n) = refused_record (why.Output n)

-- What is said of the bytes of a record, for a program.
pub data RecordSays (p : Program) (bytes : List ℕ) (reply : Reply) : Type 0 where
  -- They are a record: what its audit answers.
  IsKept : (r : a_record.Record) (answer : Audited) → IsRecordText bytes r.journal r.output
      → Audits p r answer → reply ≡ audited r answer → RecordSays p bytes reply
  -- They are none: 9, and from which byte on.
  Formless : (at : ℕ) → IsFormFault bytes at → reply ≡ refused_record (why.Form at)
      → RecordSays p bytes reply

-- What is meant to say of a record, for a program, what the shelf tells of the record's name, and
-- its counts of faults before and after.
pub data RecordMeans (p : Program) (holding : Holding) (before after : ℕ)
    (reply : Reply) : Type 0 where
  -- It was read to its end.
  RecordRead : (bytes : List ℕ) → IsFile holding bytes → length bytes ≤ record_limit
      → after ≡ before → RecordSays p bytes reply → RecordMeans p holding before after reply
  -- The shelf's count of faults rose: 3.
  RecordUnread : Rose before after
      → reply ≡ record { status = 3; out = []; note = read_fault; journal = no_run }
      → RecordMeans p holding before after reply
  -- It goes on behind its limit: 8.
  RecordTooLarge : (bytes : List ℕ) → IsFile holding bytes → record_limit < length bytes
      → after ≡ before
      → reply ≡ record { status = 8; out = []; note = too_large; journal = no_run }
      → RecordMeans p holding before after reply

-- What is meant to say of a component's file, for what the shelf tells of the record's name.
pub data AuditMeans (name file : List ℕ) (holding : Holding) (before after : ℕ)
    (reply : Reply) : Type 0 where
  -- The component is accepted: what is said of the record, for its program.
  OfProgram : (p : Program) → IsAcceptedAs file p → RecordMeans p holding before after reply
      → AuditMeans name file holding before after reply
  -- It is refused, before the record is read: 1, and where and by which rule.
  OfNone : (rule : Rule) (place : Place) → BreaksOne file rule place → after ≡ before
      → reply ≡ record { status = 1; out = []; note = refusal name rule place; journal = no_run }
      → AuditMeans name file holding before after reply

-- ---- link

-- These are the bytes of the files of these names, one for each, where the shelf tells them.
abbrev pub AreFiles : (List ℕ → Holding) → List (List ℕ) → List (List ℕ) → Type 0
AreFiles holding [] [] = Unit {0}
AreFiles holding (name ∷ names) (file ∷ files) =
    IsFile (holding name) file × AreFiles holding names files
AreFiles holding names files = ⊥

-- how many bytes files have together
abbrev pub size_of : List (List ℕ) → ℕ
size_of files = sum (map length files)

-- Of these names the first have files that are larger together than one file may be.
pub record AreTooLarge (holding : List ℕ → Holding) (names : List (List ℕ)) : Type 0 where
  pub first : List (List ℕ)
  pub rest : List (List ℕ)
  pub parts : names ≡ first ++ rest
  pub files : List (List ℕ)
  pub are : AreFiles holding first files
  pub large : file_limit < size_of files

-- The files are accepted: linked, they are one component, which keeps all rules; and this is its
-- program.
pub record AreAcceptedAs (files : List (List ℕ)) (program : Program) : Type 0 where
  pub whole : Component
  pub linked : IsLinked files whole
  pub accepted : IsAcceptedComponent whole program

-- The files break this rule, at this place of one of them: a rule of lexing, of the grammar or of
-- linking; or, linked, they are a component that breaks one behind the grammar.
pub data BreakOne (files : List (List ℕ)) (rule : Rule) (spot : Spot) : Type 0 where
  in_linking : BreaksLink files rule spot → BreakOne files rule spot
  in_whole : (whole : Component) (place : Place) → IsLinked files whole
      → BreaksComponent whole rule place → StandsIn files place spot → BreakOne files rule spot

-- the note of a refusal at a place of one of the files, by that file's word
abbrev pub refusal_at : List (List ℕ) → Rule → Spot → List ℕ
refusal_at names rule spot = refusal (get_or names spot.file []) rule spot.place

-- What is said of files to link and run with this fuel.
pub data LinkSays (names files : List (List ℕ)) (fuel : ℕ) (reply : Reply) : Type 0 where
  -- They are accepted: a run of the whole's program.
  RunsWhole : (p : Program) → AreAcceptedAs files p → TellsRun its_output p fuel reply
      → LinkSays names files fuel reply
  -- They are refused: 1, and in which file, where and by which rule.
  RefusesWhole : (rule : Rule) (spot : Spot) → BreakOne files rule spot
      → reply ≡ record { status = 1; out = []; note = refusal_at names rule spot; journal = no_run }
      → LinkSays names files fuel reply

-- What is meant to say of the files of these names, to link and run with this fuel, for what the
-- shelf tells and its counts of faults before and after.
pub data LinkMeans (names : List (List ℕ)) (fuel : ℕ) (holding : List ℕ → Holding)
    (before after : ℕ) (reply : Reply) : Type 0 where
  -- They were read to their ends: what is said of them.
  FilesRead : (files : List (List ℕ)) → AreFiles holding names files
      → size_of files ≤ file_limit
      → after ≡ before → LinkSays names files fuel reply
      → LinkMeans names fuel holding before after reply
  -- The shelf's count of faults rose: 3.
  FilesUnread : Rose before after
      → reply ≡ record { status = 3; out = []; note = read_fault; journal = no_run }
      → LinkMeans names fuel holding before after reply
  -- Together they go on behind the limit: 8.
  FilesTooLarge : AreTooLarge holding names → after ≡ before
      → reply ≡ record { status = 8; out = []; note = too_large; journal = no_run }
      → LinkMeans names fuel holding before after reply

-- ---- all commands

-- the fuel of the bank, and the name that its notes call it by
abbrev pub bench_fuel : ℕ
bench_fuel = 20000000

abbrev pub bench_name : List ℕ
bench_name = codes "bench"

-- These are the bytes that a command is about: those of its component's file, where the shelf tells
-- them, or the bank's text. A link is about several files.
abbrev pub IsText : (List ℕ → Holding) → Command → List ℕ → Type 0
IsText holding (Check name) text = IsFile (holding name) text
IsText holding (Show name) text = IsFile (holding name) text
IsText holding (Run name workers fuel) text = IsFile (holding name) text
IsText holding (Bench accounts) text = text ≡ bank accounts (4 * accounts)
IsText holding (Record name workers fuel) text = IsFile (holding name) text
IsText holding (Audit name kept) text = IsFile (holding name) text
IsText holding (Link names workers fuel) text = ⊥

-- The number of accounts is one that words may give.
abbrev pub IsBounded : Command → Type 0
IsBounded (Check name) = Unit {0}
IsBounded (Show name) = Unit {0}
IsBounded (Run name workers fuel) = Unit {0}
IsBounded (Bench accounts) = accounts ≤ most_accounts
IsBounded (Record name workers fuel) = Unit {0}
IsBounded (Audit name kept) = Unit {0}
IsBounded (Link names workers fuel) = Unit {0}

-- A command that isn't a link is about a text, be it with another file.
abbrev pub IsOfText : Command → Type 0
IsOfText (Link names workers fuel) = ⊥
IsOfText other = Unit {0}

-- A command that is neither an audit nor a link is about one text alone.
abbrev pub IsOfOneFile : Command → Type 0
IsOfOneFile (Audit name kept) = ⊥
IsOfOneFile (Link names workers fuel) = ⊥
IsOfOneFile other = Unit {0}

-- What a command says of its text, once that is there; an audit and a link have further files, and
-- aren't here. How many workers there are is not asked.
abbrev pub CommandSays : Command → List ℕ → Reply → Type 0
CommandSays (Check name) text reply = CheckSays name text reply
CommandSays (Show name) text reply = ShowSays name text reply
CommandSays (Run name workers fuel) text reply = RunSays its_output name text fuel reply
CommandSays (Bench accounts) text reply = RunSays its_output bench_name text bench_fuel reply
CommandSays (Record name workers fuel) text reply = RunSays its_record name text fuel reply
CommandSays (Audit name kept) text reply = ⊥
CommandSays (Link names workers fuel) text reply = ⊥

-- What a call means to say, for its words, what the shelf tells, and its counts of faults before
-- and after.
pub data Means (words : List (List ℕ)) (holding : List ℕ → Holding) (before after : ℕ)
    (reply : Reply) : Type 0 where
  -- The text was read to its end: what the command says of it.
  Judged : (command : Command) (text : List ℕ) → IsCommand words command
      → IsText holding command text → length text ≤ file_limit
      → after ≡ before → CommandSays command text reply → Means words holding before after reply
  -- They ask for an audit, and the component's file was read to its end: what is meant to say of
  -- both files.
  JudgedBoth : (name kept file : List ℕ) → IsCommand words (Audit name kept)
      → IsFile (holding name) file → length file ≤ file_limit
      → AuditMeans name file (holding kept) before after reply
      → Means words holding before after reply
  -- They ask to link files: what is meant to say of these.
  JudgedAll : (names : List (List ℕ)) (workers fuel : ℕ)
      → IsCommand words (Link names workers fuel)
      → LinkMeans names fuel holding before after reply
      → Means words holding before after reply
  -- The words are no command: 2, and no file is asked for.
  NoCommand : IsNoCommand words → after ≡ before
      → reply ≡ record { status = 2; out = []; note = usage; journal = no_run }
      → Means words holding before after reply
  -- The shelf's count of faults rose: 3.
  Unread : (command : Command) → IsCommand words command → Rose before after
      → reply ≡ record { status = 3; out = []; note = read_fault; journal = no_run }
      → Means words holding before after reply
  -- The text goes on behind the limit: 8.
  TooLarge : (command : Command) (text : List ℕ) → IsCommand words command
      → IsText holding command text → file_limit < length text
      → after ≡ before → reply ≡ record { status = 8; out = []; note = too_large; journal = no_run }
      → Means words holding before after reply
