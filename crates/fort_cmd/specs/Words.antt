-- The words after the program's name. It restates the chapter "The command line" of
-- docs/LANGUAGE.md. The code takes words off the front and keeps what they give; here the words are
-- parts, one behind another.
use Rattle.std.specs.Prelude.{◌≡◌, ℕ, ◌≤◌, false, List, [], ◌∷◌, ◌++◌, length, ◌⊎◌, Option, Some, None, unwrap_or, codes, nat_eq}
use Rattle.std.specs.List.{starts_with}
use Rattle.std.specs.Str.Parse.{IsNumeral, digits_value, without_leading_plus}
use Rattle.fort_cmd.specs.declared.command.Command.{Command}
use Rattle.fort_cmd.specs.declared.command.Command.TheVariants.{Check, Show, Run, Bench, Record, Audit, Link}
use Rattle.fort_cmd.specs.declared.command.CmdFault.{CmdFault}
use Rattle.fort_cmd.specs.declared.command.CmdFault.TheVariants as a_fault

-- ---- numbers and options

-- A word is this number: one or more digits, perhaps behind a `+`, from 1 to the most.
pub record IsNumber (most : ℕ) (word : List ℕ) (n : ℕ) : Type 0 where
  pub digits : IsNumeral 10 (without_leading_plus word)
  pub value : n ≡ digits_value 10 (without_leading_plus word)
  pub some : 1 ≤ n
  pub within : n ≤ most

-- Words begin with an option of this name and number, and go on with the rest: the number is a word
-- of its own, or stands behind `=`.
pub data BeginsWith (name : List ℕ) (most : ℕ) (words : List (List ℕ)) (n : ℕ)
    (rest : List (List ℕ)) : Type 0 where
  InTwo : (number : List ℕ) → IsNumber most number n → words ≡ name ∷ number ∷ rest
      → BeginsWith name most words n rest
  InOne : (number : List ℕ) → IsNumber most number n → words ≡ (name ++ codes "=" ++ number) ∷ rest
      → BeginsWith name most words n rest

-- the options, their names, and the most that each may give
pub data Choice : Type 0 where
  Workers : Choice
  Fuel : Choice

abbrev pub name_of : Choice → List ℕ
name_of Workers = codes "--workers"
name_of Fuel = codes "--fuel"

abbrev pub most_of : Choice → ℕ
most_of Workers = 64
most_of Fuel = 20000000

-- A word that names a file: `-` alone, or one that doesn't begin with `-`.
abbrev pub NamesFile : List ℕ → Type 0
NamesFile word = (word ≡ codes "-") ⊎ (starts_with nat_eq word (codes "-") ≡ false)

-- ---- what words give

-- the files, in the order of the words, and the numbers of the options
pub record Given : Type 0 where
  pub files : List (List ℕ)
  pub workers : Option ℕ
  pub fuel : Option ℕ

abbrev pub nothing : Given
nothing = record { files = []; workers = None; fuel = None }

-- Files are given, behind those before.
abbrev pub AddsFiles : Given → List (List ℕ) → Given → Type 0
AddsFiles before files after = after ≡ record before { files = before.files ++ files }

-- The number of an option is given, and none before.
abbrev pub AddsNumber : Choice → Given → ℕ → Given → Type 0
AddsNumber Workers before n after = (before.workers ≡ None)
    × (after ≡ record before { workers = Some n })
AddsNumber Fuel before n after = (before.fuel ≡ None) × (after ≡ record before { fuel = Some n })

-- Words begin with a part, which adds to what is given before, and go on with the rest. Behind the
-- mark `--` every word is a file.
pub data Adds (words : List (List ℕ)) (before after : Given) (rest : List (List ℕ)) : Type 0 where
  AddsMarked : (files : List (List ℕ)) → words ≡ codes "--" ∷ files → rest ≡ []
      → AddsFiles before files after → Adds words before after rest
  AddsNamed : (file : List ℕ) → NamesFile file → words ≡ file ∷ rest
      → AddsFiles before (file ∷ []) after → Adds words before after rest
  AddsOption : (choice : Choice) (n : ℕ) → BeginsWith (name_of choice) (most_of choice) words n rest
      → AddsNumber choice before n after → Adds words before after rest

-- Words give what their parts add, one behind another.
pub data Gives : (words : List (List ℕ)) (before after : Given) → Type 0 where
  GivesNoMore : {words : List (List ℕ)} {before after : Given} → words ≡ [] → after ≡ before
      → Gives words before after
  GivesPart : {words : List (List ℕ)} {before after : Given} (more : Given) (rest : List (List ℕ))
      → Adds words before more rest → Gives rest more after
      → Gives words before after

-- ---- commands

-- the workers and the fuel of a run where no word gives them, the most accounts of the bank, and the
-- most files that may be linked
abbrev pub default_workers : ℕ
default_workers = 4

abbrev pub default_fuel : ℕ
default_fuel = 2000000

abbrev pub most_accounts : ℕ
most_accounts = 10000

abbrev pub most_files : ℕ
most_files = 64

-- these files, and no option
abbrev pub only : List (List ℕ) → Given
only files = record nothing { files = files }

-- Words ask for a run of this file, with so many workers and this fuel.
pub record AsksRun (words : List (List ℕ)) (file : List ℕ) (workers fuel : ℕ) : Type 0 where
  pub given : Given
  pub gives : Gives words nothing given
  pub files_are : given.files ≡ file ∷ []
  pub workers_are : workers ≡ unwrap_or given.workers default_workers
  pub fuel_is : fuel ≡ unwrap_or given.fuel default_fuel

-- Words ask for a run of these files, linked, from 1 to the most of them, with so many workers and
-- this fuel.
pub record AsksLink (words files : List (List ℕ)) (workers fuel : ℕ) : Type 0 where
  pub given : Given
  pub gives : Gives words nothing given
  pub files_are : given.files ≡ files
  pub some : 1 ≤ length files
  pub within : length files ≤ most_files
  pub workers_are : workers ≡ unwrap_or given.workers default_workers
  pub fuel_is : fuel ≡ unwrap_or given.fuel default_fuel

-- Words ask for the bank of so many accounts; their number stands where a file would.
pub record AsksBank (words : List (List ℕ)) (accounts : ℕ) : Type 0 where
  pub number : List ℕ
  pub gives : Gives words nothing (only (number ∷ []))
  pub is : IsNumber most_accounts number accounts

-- a command's own word
abbrev pub word_of : Command → List ℕ
word_of (Check file) = codes "check"
word_of (Show file) = codes "show"
word_of (Run file workers fuel) = codes "run"
word_of (Bench accounts) = codes "bench"
word_of (Record file workers fuel) = codes "record"
word_of (Audit file kept) = codes "audit"
word_of (Link files workers fuel) = codes "link"

-- The words behind a command's own ask for it.
abbrev pub Asks : List (List ℕ) → Command → Type 0
Asks words (Check file) = Gives words nothing (only (file ∷ []))
Asks words (Show file) = Gives words nothing (only (file ∷ []))
Asks words (Run file workers fuel) = AsksRun words file workers fuel
Asks words (Bench accounts) = AsksBank words accounts
Asks words (Record file workers fuel) = AsksRun words file workers fuel
Asks words (Audit file kept) = Gives words nothing (only (file ∷ kept ∷ []))
Asks words (Link files workers fuel) = AsksLink words files workers fuel

-- The words are this command: its own word, and behind it words that ask for it.
pub record IsCommand (words : List (List ℕ)) (command : Command) : Type 0 where
  pub behind : List (List ℕ)
  pub words_are : words ≡ word_of command ∷ behind
  pub asks : Asks behind command

-- the file of a command's component, if it reads just one
abbrev pub file_of : Command → Option (List ℕ)
file_of (Check file) = Some file
file_of (Show file) = Some file
file_of (Run file workers fuel) = Some file
file_of (Bench accounts) = None
file_of (Record file workers fuel) = Some file
file_of (Audit file kept) = Some file
file_of (Link files workers fuel) = None

-- The words are no command.
abbrev pub IsNoCommand : List (List ℕ) → Type 0
IsNoCommand words = (command : Command) → IsCommand words command → ⊥

-- Why there is no command: the words are none; want of memory needs no cause.
abbrev pub Explains : List (List ℕ) → CmdFault → Type 0
Explains words a_fault.NotACommand = IsNoCommand words
Explains words a_fault.Memory = Unit {0}

-- The words are one command at most.
abbrev pub OneCommand : Type 0
OneCommand = (words : List (List ℕ)) (a b : Command) → IsCommand words a → IsCommand words b → a ≡ b
