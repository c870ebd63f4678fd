-- The command line as the argument parser knows it, and what its matches give.
use Rattle.std.specs.Prelude.{◌≡◌, ℕ, ◌≤◌, List, [], ◌∷◌, length, slice_get, find, option_map, Option, Some, None, codes, true}
use Rattle.std.specs.Str.{bytes_eq}
use Rattle.clap.specs.Words.{App, Row, Rule, Text, new_app, new_rule, with_rule, with_subcommand}
use Rattle.clap.specs.declared.builder.action.ArgAction.TheVariants.{Append}
use Rattle.clap.specs.declared.builder.value_parser.ValueParser.TheVariants as parser
use Rattle.clap.specs.declared.builder.value_parser.Reading.TheVariants as reading
use Rattle.clap.specs.declared.parser.matches.ValueSource.TheVariants as source
use Rattle.fort_cmd.specs.Words.{Choice, Workers, Fuel, Given, Gives, IsNumber, most_of, nothing}

-- ---- the arguments

abbrev pub id_of : Choice → Text
id_of Workers = codes "workers"
id_of Fuel = codes "fuel"

-- an option, which takes a number
abbrev pub option_rule : Choice → Rule
option_rule choice =
    record (new_rule (id_of choice)) {
      long = Some (id_of choice);
      parser = Some (parser.Unsigned 1 (most_of choice));
    }

-- a word that has to stand there
abbrev pub word_rule : Text → Rule
word_rule id = record (new_rule id) { required = true }

-- words of which at least one has to stand there
abbrev pub words_rule : Text → Rule
words_rule id = record (word_rule id) { action = Some Append }

-- ---- the commands

-- what stands behind a command's own word: a file, or a number in its place; a file and options; a
-- file and a record; or files and options
pub data Kind : Type 0 where
  OfFile : Kind
  OfRun : Kind
  OfAudit : Kind
  OfLink : Kind

abbrev pub sub_of : Kind → Text → App
sub_of OfFile name = with_rule (new_app name) (word_rule (codes "file"))
sub_of OfRun name =
    with_rule (with_rule (with_rule (new_app name) (option_rule Workers)) (option_rule Fuel))
    (word_rule (codes "file"))
sub_of OfAudit name =
    with_rule (with_rule (new_app name) (word_rule (codes "file"))) (word_rule (codes "record"))
sub_of OfLink name =
    with_rule (with_rule (with_rule (new_app name) (option_rule Workers)) (option_rule Fuel))
    (words_rule (codes "file"))

-- The command of this name is of this kind.
pub data IsOf : Kind → Text → Type 0 where
  CheckIsOf : {name : Text} → name ≡ codes "check" → IsOf OfFile name
  ShowIsOf : {name : Text} → name ≡ codes "show" → IsOf OfFile name
  RunIsOf : {name : Text} → name ≡ codes "run" → IsOf OfRun name
  BenchIsOf : {name : Text} → name ≡ codes "bench" → IsOf OfFile name
  RecordIsOf : {name : Text} → name ≡ codes "record" → IsOf OfRun name
  AuditIsOf : {name : Text} → name ≡ codes "audit" → IsOf OfAudit name
  LinkIsOf : {name : Text} → name ≡ codes "link" → IsOf OfLink name

-- no help word, and no program's name in front
abbrev pub quiet : App → App
quiet a =
    record a {
      top =
          record a.top {
            no_binary_name = true;
            disable_help_flag = true;
            disable_help_subcommand = true;
          };
    }

abbrev pub with_sub : App → Kind → Text → App
with_sub a kind name = with_subcommand a (sub_of kind name).top

abbrev pub line : App
line = with_sub
    (with_sub
    (with_sub
    (with_sub
    (with_sub
    (with_sub (with_sub (quiet (new_app (codes "fortress"))) OfFile (codes "check")) OfFile
    (codes "show"))
    OfRun (codes "run")) OfFile (codes "bench")) OfRun (codes "record")) OfAudit (codes "audit"))
    OfLink (codes "link")

-- ---- what matches give

-- the values of an argument, one for each time that it was given
abbrev pub row_of_all : Text → List Text → Row
row_of_all id values =
    record {
      id = id;
      values = values;
      count = None;
      source = Some source.CommandLine;
      reading = reading.AsWritten;
    }

-- the value of an argument that was given once
abbrev pub row : Text → Text → Row
row id value = row_of_all id (value ∷ [])

abbrev pub row_of_id : Text → List Row → Option Row
row_of_id id rows = find (λ r. bytes_eq r.id id) rows

-- An option's number was found, if there is one.
abbrev pub FoundNumber : Choice → List Row → Option ℕ → Type 0
FoundNumber choice rows None = row_of_id (id_of choice) rows ≡ None
FoundNumber choice rows (Some n) = (value : Text)
    × (row_of_id (id_of choice) rows ≡ Some (row (id_of choice) value))
    × IsNumber (most_of choice) value n

-- the row of the first file; of a link, that of all its files
abbrev pub first_row : Kind → List Text → Option Row
first_row OfLink [] = None
first_row OfLink (file ∷ files) = Some (row_of_all (codes "file") (file ∷ files))
first_row _ files = option_map (row (codes "file")) (slice_get files 0)

-- the row of the second file; a link has none
abbrev pub second_row : Kind → List Text → Option Row
second_row OfLink files = None
second_row _ files = option_map (row (codes "record")) (slice_get files 1)

-- What words give a command of a kind was found.
pub record Found (kind : Kind) (rows : List Row) (g : Given) : Type 0 where
  pub workers : FoundNumber Workers rows g.workers
  pub fuel : FoundNumber Fuel rows g.fuel
  pub file : row_of_id (codes "file") rows ≡ first_row kind g.files
  pub kept : row_of_id (codes "record") rows ≡ second_row kind g.files

-- So many files are as many as a kind of command has.
abbrev pub AsMany : Kind → ℕ → Type 0
AsMany OfFile n = n ≡ 1
AsMany OfRun n = n ≡ 1
AsMany OfAudit n = n ≡ 2
AsMany OfLink n = 1 ≤ n

-- Only a run and a link take options.
abbrev pub TakesOptions : Kind → Given → Type 0
TakesOptions OfRun g = Unit {0}
TakesOptions OfLink g = Unit {0}
TakesOptions _ g = (g.workers ≡ None) × (g.fuel ≡ None)

-- Words behind a command's own give what the matches found, and it is what such a command takes.
pub record Reads (kind : Kind) (words : List Text) (rows : List Row) : Type 0 where
  pub given : Given
  pub gives : Gives words nothing given
  pub found : Found kind rows given
  pub files : AsMany kind (length given.files)
  pub options : TakesOptions kind given
