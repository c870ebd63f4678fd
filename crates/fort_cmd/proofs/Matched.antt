-- What the matches say is what the words ask for.
use Rattle.std.proofs.Common.{◌≡◌, ◌<◌, ◌≤◌, ◌^◌, ℕ, refl, ap, sym, ◌∙◌, subst, arith, List, [], ◌∷◌, length, Bor, Result, Ok, Err, IfErr}
use Rattle.std.specs.Prelude.{codes, option_map, slice_get, unwrap_or, Option, Some, None}
use Rattle.std.specs.Str.Parse.{ParsesUnsigned}
use Rattle.std.proofs.lemmas.List.{length-map}
use Rattle.clap.specs.Walk.{Row, Text, all_of, first_of, one_of, rows_of, texts}
use Rattle.clap.specs.Matches.{ReadsOne, matched_of, one_text, raw_values}
use Rattle.clap.specs.declared.parser.matches.Found.{Found}
use Rattle.clap.proofs.WalkLemmas.{one_text-rows, raw_values-rows}
use Rattle.fort_cmd.specs.declared.command.CmdFault.{CmdFault}
use Rattle.fort_cmd.specs.declared.command.CmdFault.TheVariants.{Memory}
use Rattle.fort_cmd.specs.declared.command.Command.{Command}
use Rattle.fort_cmd.specs.declared.command.Command.TheVariants.{Bench, Link}
use Rattle.fort_cmd.proofs.Commands.{too_many_files, unlike, without_number}
use Rattle.fort_cmd.specs.Words.{AsksLink, AsksRun, Choice, Explains, Gives, IsCommand, IsNoCommand, IsNumber, default_fuel, default_workers, most_accounts, most_files, most_of, nothing, only}
use Rattle.fort_cmd.specs.Line.{AuditIsOf, FoundNumber, IsOf, Kind, OfAudit, OfFile, OfRun, Reads, RecordIsOf, RunIsOf, CheckIsOf, ShowIsOf, BenchIsOf, LinkIsOf, OfLink, first_row, id_of, row, row_of_all, row_of_id}
use Rattle.fort_cmd.specs.Words.{Fuel, Workers}
use Rattle.fort_cmd.proofs.Rows.{some_injective, some_none}

pub first_is : (id word : Text) (rows : List Row) → row_of_id id rows ≡ Some (row id word)
    → first_of id rows ≡ Some word
first_is id word rows e = rw e refl

pub one_is : (id word : Text) (rows : List Row) → row_of_id id rows ≡ Some (row id word)
    → one_of id rows ≡ Some word
one_is id word rows e = rw e refl

pub one_none : (id : Text) (rows : List Row) → row_of_id id rows ≡ None → one_of id rows ≡ None
one_none id rows e = rw e refl

-- ---- a number

module _ (E : Type 0) (G : Text → Result ℕ E → Type 0) (bits most : ℕ)
    (only_unsigned : (word : Text) (r : Result ℕ E) → G word r → ParsesUnsigned bits 10 word r)
    (fits : most < 2 ^ bits) (word : Text) where
  pub number_read : (n : ℕ) (r : Option ℕ) → ReadsOne G word r → IsNumber most word n → r ≡ Some n
  number_read n (Some x) read is =
      let parsed = only_unsigned word (Ok x) read in ap Some (parsed.1 ∙ sym is.value)
  number_read n None read is =
      absurd (only_unsigned word (Err read.0) read.1 (
        is.digits,
        omega (arith, fits, is.within, is.value),
      ))

  pub read_number : (x : ℕ) → ReadsOne G word (Some x) → 1 ≤ x → x ≤ most → IsNumber most word x
  read_number x read some within =
      let parsed = only_unsigned word (Ok x) read
      in record { digits = parsed.0.0; value = parsed.1; some = some; within = within }

-- ---- files

one_file : (files : List Text) → length files ≡ 1 → (file : Text) × (files ≡ file ∷ [])
one_file [] e = absurd (omega (arith, e))
one_file (x ∷ []) e = (x, refl)
one_file (x ∷ y ∷ files) e = absurd (omega (arith, e))

two_files : (files : List Text) → length files ≡ 2
    → (file : Text) × (kept : Text) × (files ≡ file ∷ kept ∷ [])
two_files [] e = absurd (omega (arith, e))
two_files (x ∷ []) e = absurd (omega (arith, e))
two_files (x ∷ y ∷ []) e = (x, y, refl)
two_files (x ∷ y ∷ z ∷ files) e = absurd (omega (arith, e))

module _ (behind : List Text) (rows : List Row) where
  pub file_there : Reads OfFile behind rows
      → (file : Text) × (row_of_id (codes "file") rows ≡ Some (row (codes "file") file))
      × Gives behind nothing (only (file ∷ []))
  file_there r =
      let f = one_file r.given.files r.files in
      let same : r.given ≡ only (f.0 ∷ []) =
      (λ i. record { files = f.1 i; workers = r.options.0 i; fuel = r.options.1 i }) in (
        f.0,
        r.found.file
            ∙ ap (λ fs. option_map (row (codes "file")) (slice_get fs 0)) f.1,
        subst (Gives behind nothing) same r.gives,
      )

  pub files_there : Reads OfAudit behind rows
      → (file : Text) × (kept : Text)
      × (row_of_id (codes "file") rows ≡ Some (row (codes "file") file))
      × (row_of_id (codes "record") rows ≡ Some (row (codes "record") kept))
      × Gives behind nothing (only (file ∷ kept ∷ []))
  files_there r =
      let f = two_files r.given.files r.files in
      let same : r.given ≡ only (f.0 ∷ f.1 ∷ []) =
      (λ i. record { files = f.2 i; workers = r.options.0 i; fuel = r.options.1 i }) in (
        f.0,
        f.1,
        r.found.file ∙ ap (λ fs. option_map (row (codes "file")) (slice_get fs 0)) f.2,
        r.found.kept ∙ ap (λ fs. option_map (row (codes "record")) (slice_get fs 1)) f.2,
        subst (Gives behind nothing) same r.gives,
      )

  pub run_there : Reads OfRun behind rows
      → (file : Text) × (row_of_id (codes "file") rows ≡ Some (row (codes "file") file))
      × ((workers fuel : ℕ)
      → ((n : Option ℕ) → FoundNumber Workers rows n → workers ≡ unwrap_or n default_workers)
      → ((n : Option ℕ) → FoundNumber Fuel rows n → fuel ≡ unwrap_or n default_fuel)
      → AsksRun behind file workers fuel)
  run_there r =
      let f = one_file r.given.files r.files in (
        f.0,
        r.found.file ∙ ap (λ fs. option_map (row (codes "file")) (slice_get fs 0)) f.1,
        λ workers fuel w u. record {
          given = r.given;
          gives = r.gives;
          files_are = f.1;
          workers_are = w r.given.workers r.found.workers;
          fuel_is = u r.given.fuel r.found.fuel;
        },
      )

-- ---- the files of a link

-- The values of an argument that was given with these.
values_are : (id : Text) (values : List Text) (rows : List Row)
    → row_of_id id rows ≡ Some (row_of_all id values) → all_of id rows ≡ Some values
values_are id values rows e = rw e refl

-- The words that the parser has, if it has any.
pub words_found : (o : Option (Bor (List (Bor Text)))) (words : Bor (List (Bor Text)))
    (files : List Text) (values : Option (List Text))
    → o ≡ Some words → files ≡ texts words.now
    → option_map (λ (s : Bor (List (Bor Text))). texts s.now) o ≡ values
    → Some files ≡ values
words_found o words files values e f is =
    ap Some f ∙ sym (ap (option_map (λ (s : Bor (List (Bor Text))). texts s.now)) e) ∙ is

pub words_there : (o : Option (Bor (List (Bor Text)))) (files : List Text)
    → option_map (λ (s : Bor (List (Bor Text))). texts s.now) o ≡ Some files
    → (words : Bor (List (Bor Text))) × (o ≡ Some words) × (files ≡ texts words.now)
words_there None files e = absurd (some_none files (sym e))
words_there (Some words) files e = (words, refl, sym (some_injective (texts words.now) files e))

pub as_many_words : (words : List (Bor Text)) (files : List Text) → files ≡ texts words
    → length files ≡ length words
as_many_words words files e = ap length e ∙ length-map words (λ (s : Bor Text). s.now)

module _ (behind : List Text) (found : Found) (r : Reads OfLink behind (rows_of found)) where
  -- One file or more, and they were found.
  all_there : (1 ≤ length r.given.files)
      × (row_of_id (codes "file") (rows_of found) ≡ Some (row_of_all (codes "file") r.given.files))
  all_there = go r.given.files r.files r.found.file
    where
      go : (files : List Text) → 1 ≤ length files
          → row_of_id (codes "file") (rows_of found) ≡ first_row OfLink files
          → (1 ≤ length files)
          × (row_of_id (codes "file") (rows_of found) ≡ Some (row_of_all (codes "file") files))
      go [] l e = absurd (omega (arith, l))
      go (file ∷ files) l e = (l, e)

  -- What the parser answers of them.
  files_read : (o : Option (List Text))
      → o ≡ option_map raw_values (matched_of found (codes "file")) → o ≡ Some r.given.files
  files_read o e =
      e ∙ raw_values-rows found (codes "file")
      ∙ values_are (codes "file") r.given.files (rows_of found) all_there.1

  pub link_is : (files : List Text) (workers fuel : ℕ)
      → Some files ≡ option_map raw_values (matched_of found (codes "file"))
      → length files ≤ most_files
      → ((n : Option ℕ) → FoundNumber Workers (rows_of found) n
      → workers ≡ unwrap_or n default_workers)
      → ((n : Option ℕ) → FoundNumber Fuel (rows_of found) n → fuel ≡ unwrap_or n default_fuel)
      → IsCommand (codes "link" ∷ behind) (Link files workers fuel)
  link_is files workers fuel e l w u =
      let same : files ≡ r.given.files =
      some_injective files r.given.files (files_read (Some files) e) in
      record {
        behind = behind;
        words_are = refl;
        asks = record {
          given = r.given;
          gives = r.gives;
          files_are = sym same;
          some = subst (λ fs. 1 ≤ length fs) (sym same) all_there.0;
          within = l;
          workers_are = w r.given.workers r.found.workers;
          fuel_is = u r.given.fuel r.found.fuel;
        };
      }

  pub no_link : (o : Option (List Text))
      → o ≡ option_map raw_values (matched_of found (codes "file"))
      → ((files : List Text) → o ≡ Some files → length files ≤ most_files → ⊥)
      → IsNoCommand (codes "link" ∷ behind)
  no_link o e many =
      too_many_files behind r.given r.gives (many r.given.files (files_read o e))

-- ---- what a typed reading answers

module _ (E : Type 0) (G : Text → Result ℕ E → Type 0) (bits : ℕ)
    (only_unsigned : (word : Text) (r : Result ℕ E) → G word r → ParsesUnsigned bits 10 word r)
    (found : Found) (r : Option ℕ) where
  pub option_read : (choice : Choice) → most_of choice < 2 ^ bits
      → (one_text found (id_of choice) ≡ None → r ≡ None)
      → ((word : Text) → one_text found (id_of choice) ≡ Some word → ReadsOne G word r)
      → (n : Option ℕ) → FoundNumber choice (rows_of found) n → r ≡ n
  option_read choice fits none some None f =
      none (one_text-rows found (id_of choice) ∙ one_none (id_of choice) (rows_of found) f)
  option_read choice fits none some (Some n) f =
      number_read E G bits (most_of choice) only_unsigned fits f.0 n r
      (some f.0 (one_text-rows found (id_of choice)
      ∙ one_is (id_of choice) f.0 (rows_of found) f.1)) f.2

  module _ (behind : List Text) (reads : Reads OfFile behind (rows_of found))
      (some : (word : Text) → one_text found (codes "file") ≡ Some word → ReadsOne G word r) where
    number_there : ReadsOne G (file_there behind (rows_of found) reads).0 r
    number_there =
        let t = file_there behind (rows_of found) reads
        in some t.0 (one_text-rows found (codes "file")
        ∙ one_is (codes "file") t.0 (rows_of found) t.1)

    pub bank_is : most_accounts < 2 ^ bits → (n : ℕ) → r ≡ Some n → 1 ≤ n → n ≤ most_accounts
        → IsCommand (codes "bench" ∷ behind) (Bench n)
    bank_is fits n e least most =
        let t = file_there behind (rows_of found) reads in
        record {
          behind = behind;
          words_are = refl;
          asks = record {
            number = t.0;
            gives = t.2;
            is = read_number E G bits most_accounts only_unsigned fits t.0 n
                (subst (ReadsOne G t.0) e number_there) least most;
          };
        }

    pub no_bank : most_accounts < 2 ^ bits → ((n : ℕ) → r ≡ Some n → 1 ≤ n → n ≤ most_accounts → ⊥)
        → IsNoCommand (codes "bench" ∷ behind)
    no_bank fits not =
        let t = file_there behind (rows_of found) reads in
        without_number behind t.0 t.2
        (λ n is. not n
        (number_read E G bits most_accounts only_unsigned fits t.0 n r number_there is)
        is.some is.within)

-- ---- the commands

pub file_is : (behind : List Text) (rows : List Row) (file : Text) → Reads OfFile behind rows
    → ((word : Text) → row_of_id (codes "file") rows ≡ Some (row (codes "file") word) → file ≡ word)
    → Gives behind nothing (only (file ∷ []))
file_is behind rows file r is =
    let t = file_there behind rows r
    in subst (λ w. Gives behind nothing (only (w ∷ []))) (sym (is t.0 t.1)) t.2

pub files_are : (behind : List Text) (rows : List Row) (file kept : Text)
    → Reads OfAudit behind rows
    → ((word : Text) → row_of_id (codes "file") rows ≡ Some (row (codes "file") word) → file ≡ word)
    → ((word : Text) → row_of_id (codes "record") rows ≡ Some (row (codes "record") word)
    → kept ≡ word) → Gives behind nothing (only (file ∷ kept ∷ []))
files_are behind rows file kept r is was =
    let t = files_there behind rows r in
    subst (λ w. Gives behind nothing (only (w ∷ kept ∷ []))) (sym (is t.0 t.2))
    (subst (λ w. Gives behind nothing (only (t.0 ∷ w ∷ []))) (sym (was t.1 t.3)) t.4)

pub run_is : (behind : List Text) (rows : List Row) (file : Text) (workers fuel : ℕ)
    → Reads OfRun behind rows
    → ((word : Text) → row_of_id (codes "file") rows ≡ Some (row (codes "file") word) → file ≡ word)
    → ((n : Option ℕ) → FoundNumber Workers rows n → workers ≡ unwrap_or n default_workers)
    → ((n : Option ℕ) → FoundNumber Fuel rows n → fuel ≡ unwrap_or n default_fuel)
    → AsksRun behind file workers fuel
run_is behind rows file workers fuel r is w u =
    let t = run_there behind rows r
    in subst (λ f. AsksRun behind f workers fuel) (sym (is t.0 t.1)) (t.2 workers fuel w u)

pub explained : (r : Result Command CmdFault) (ws : List Text) → IfErr r (λ fault. fault ≡ Memory)
    → IfErr r (Explains ws)
explained (Ok c) ws h = tt
explained (Err fault) ws h = subst (Explains ws) (sym h) tt

-- ---- the kinds of the commands' names

pub kind_of_check : (kind : Kind) (name : Text) → IsOf kind name → name ≡ codes "check"
    → kind ≡ OfFile
kind_of_check OfFile name is e = refl
kind_of_check OfRun name (RunIsOf q) e =
    absurd (unlike (codes "run") (codes "check") refl (sym q ∙ e))
kind_of_check OfRun name (RecordIsOf q) e =
    absurd (unlike (codes "record") (codes "check") refl (sym q ∙ e))
kind_of_check OfAudit name (AuditIsOf q) e =
    absurd (unlike (codes "audit") (codes "check") refl (sym q ∙ e))
kind_of_check OfLink name (LinkIsOf q) e =
    absurd (unlike (codes "link") (codes "check") refl (sym q ∙ e))

pub kind_of_show : (kind : Kind) (name : Text) → IsOf kind name → name ≡ codes "show"
    → kind ≡ OfFile
kind_of_show OfFile name is e = refl
kind_of_show OfRun name (RunIsOf q) e =
    absurd (unlike (codes "run") (codes "show") refl (sym q ∙ e))
kind_of_show OfRun name (RecordIsOf q) e =
    absurd (unlike (codes "record") (codes "show") refl (sym q ∙ e))
kind_of_show OfAudit name (AuditIsOf q) e =
    absurd (unlike (codes "audit") (codes "show") refl (sym q ∙ e))
kind_of_show OfLink name (LinkIsOf q) e =
    absurd (unlike (codes "link") (codes "show") refl (sym q ∙ e))

pub kind_of_run : (kind : Kind) (name : Text) → IsOf kind name → name ≡ codes "run" → kind ≡ OfRun
kind_of_run OfFile name (CheckIsOf q) e =
    absurd (unlike (codes "check") (codes "run") refl (sym q ∙ e))
kind_of_run OfFile name (ShowIsOf q) e =
    absurd (unlike (codes "show") (codes "run") refl (sym q ∙ e))
kind_of_run OfFile name (BenchIsOf q) e =
    absurd (unlike (codes "bench") (codes "run") refl (sym q ∙ e))
kind_of_run OfRun name is e = refl
kind_of_run OfAudit name (AuditIsOf q) e =
    absurd (unlike (codes "audit") (codes "run") refl (sym q ∙ e))
kind_of_run OfLink name (LinkIsOf q) e =
    absurd (unlike (codes "link") (codes "run") refl (sym q ∙ e))

pub kind_of_bench : (kind : Kind) (name : Text) → IsOf kind name → name ≡ codes "bench"
    → kind ≡ OfFile
kind_of_bench OfFile name is e = refl
kind_of_bench OfRun name (RunIsOf q) e =
    absurd (unlike (codes "run") (codes "bench") refl (sym q ∙ e))
kind_of_bench OfRun name (RecordIsOf q) e =
    absurd (unlike (codes "record") (codes "bench") refl (sym q ∙ e))
kind_of_bench OfAudit name (AuditIsOf q) e =
    absurd (unlike (codes "audit") (codes "bench") refl (sym q ∙ e))
kind_of_bench OfLink name (LinkIsOf q) e =
    absurd (unlike (codes "link") (codes "bench") refl (sym q ∙ e))

pub kind_of_record : (kind : Kind) (name : Text) → IsOf kind name → name ≡ codes "record"
    → kind ≡ OfRun
kind_of_record OfFile name (CheckIsOf q) e =
    absurd (unlike (codes "check") (codes "record") refl (sym q ∙ e))
kind_of_record OfFile name (ShowIsOf q) e =
    absurd (unlike (codes "show") (codes "record") refl (sym q ∙ e))
kind_of_record OfFile name (BenchIsOf q) e =
    absurd (unlike (codes "bench") (codes "record") refl (sym q ∙ e))
kind_of_record OfRun name is e = refl
kind_of_record OfAudit name (AuditIsOf q) e =
    absurd (unlike (codes "audit") (codes "record") refl (sym q ∙ e))
kind_of_record OfLink name (LinkIsOf q) e =
    absurd (unlike (codes "link") (codes "record") refl (sym q ∙ e))

pub kind_of_audit : (kind : Kind) (name : Text) → IsOf kind name → name ≡ codes "audit"
    → kind ≡ OfAudit
kind_of_audit OfFile name (CheckIsOf q) e =
    absurd (unlike (codes "check") (codes "audit") refl (sym q ∙ e))
kind_of_audit OfFile name (ShowIsOf q) e =
    absurd (unlike (codes "show") (codes "audit") refl (sym q ∙ e))
kind_of_audit OfFile name (BenchIsOf q) e =
    absurd (unlike (codes "bench") (codes "audit") refl (sym q ∙ e))
kind_of_audit OfRun name (RunIsOf q) e =
    absurd (unlike (codes "run") (codes "audit") refl (sym q ∙ e))
kind_of_audit OfRun name (RecordIsOf q) e =
    absurd (unlike (codes "record") (codes "audit") refl (sym q ∙ e))
kind_of_audit OfAudit name is e = refl
kind_of_audit OfLink name (LinkIsOf q) e =
    absurd (unlike (codes "link") (codes "audit") refl (sym q ∙ e))

-- A name that is none of the others is that of the link.
pub kind_of_last : (kind : Kind) (name : Text) → IsOf kind name → (name ≡ codes "run" → ⊥)
    → (name ≡ codes "check" → ⊥) → (name ≡ codes "show" → ⊥) → (name ≡ codes "bench" → ⊥)
    → (name ≡ codes "record" → ⊥) → (name ≡ codes "audit" → ⊥)
    → (kind ≡ OfLink) × (name ≡ codes "link")
kind_of_last OfFile name (CheckIsOf e) no_run no_check no_show no_bench no_record no_audit =
    absurd (no_check e)
kind_of_last OfFile name (ShowIsOf e) no_run no_check no_show no_bench no_record no_audit =
    absurd (no_show e)
kind_of_last OfFile name (BenchIsOf e) no_run no_check no_show no_bench no_record no_audit =
    absurd (no_bench e)
kind_of_last OfRun name (RunIsOf e) no_run no_check no_show no_bench no_record no_audit =
    absurd (no_run e)
kind_of_last OfRun name (RecordIsOf e) no_run no_check no_show no_bench no_record no_audit =
    absurd (no_record e)
kind_of_last OfAudit name (AuditIsOf e) no_run no_check no_show no_bench no_record no_audit =
    absurd (no_audit e)
kind_of_last OfLink name (LinkIsOf e) no_run no_check no_show no_bench no_record no_audit =
    (refl, e)
