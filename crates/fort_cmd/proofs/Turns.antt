-- The parser's walk over one more word.
use Rattle.std.proofs.Common.{◌≡◌, ◌<◌, ◌≤◌, ◌+◌, ◌^◌, ◌&&◌, ◌||◌, ◌⊎◌, ℕ, zero, suc, Bool, true, false, refl, sym, ◌∙◌, arith, inl, inr, List, [], ◌∷◌, ◌++◌, length}
use Rattle.std.specs.Prelude.{codes, fold, min, Option, Some, None, slice_get}
use Rattle.std.specs.Str.{bytes_eq, chars}
use Rattle.std.specs.Str.Parse.{digits_value, without_leading_plus}
use Rattle.std.proofs.lemmas.Bool.{ne_eqb}
use Rattle.std.proofs.lemmas.Slice.Eq.{bytes_eq-Decides}
use Rattle.clap.specs.Lexer.{long_of, short_of}
use Rattle.clap.specs.Walk.{Held, Row, Rule, Text, Waiting, Walk, arg_by_id, arg_by_index, arg_by_long, arg_by_short, finished, has_row, idle, is_pending, option, option_word, positional_held, settled, settled_rows, subcommand_met, to_positional, used, value, walked, with_default, word_met}
use Rattle.clap.specs.Faults.{check_fault, default_fault, defaults_fault, flags_fault, positional_fault, repeat_fault, settle_fault, step_fault, turn_fault, use_fault, values_fault, walk_fault, word_fault}
use Rattle.clap.specs.Kinds.{Kinds, or_else}
use Rattle.clap.specs.declared.builder.value_parser.ValueParser.{ValueParser}
use Rattle.clap.specs.declared.builder.value_parser.ValueParser.TheVariants as parser
use Rattle.clap.specs.declared.error.kind.ErrorKind.TheVariants as kind
use Rattle.clap.specs.ValueTests.{accepts}
use Rattle.clap.proofs.ValueTestLemmas.{Accepts-accepts, accepts-Accepts}
use Rattle.fort_cmd.specs.Words.{Choice, Workers, Fuel, IsNumber, most_of}
use Rattle.fort_cmd.specs.Line.{AsMany, Found, Kind, OfFile, OfRun, OfAudit, OfLink, id_of, row, row_of_id}
use Rattle.fort_cmd.proofs.Leaves.{leaf, option_built, rules, word_built, words_built}
use Rattle.fort_cmd.proofs.Files.{HasOptions, HasRoom, Idle, Resting, Several, Within, behind_file, id_at, next_id, next_rule, place, rests}
use Rattle.fort_cmd.proofs.Looks.{IsPlain}
use Rattle.fort_cmd.proofs.Rows.{all, file_found, has_none, link_found, none_at, none_has, row_added}

-- ---- faults

pub left_none : (a b : Kinds) → or_else a b ≡ [] → a ≡ []
left_none [] b e = refl
left_none (k ∷ ks) b e = cc

pub right_none : (a b : Kinds) → or_else a b ≡ [] → b ≡ []
right_none [] b e = e
right_none (k ∷ ks) b e = cc

pub both_none : (a b : Kinds) → a ≡ [] → b ≡ [] → or_else a b ≡ []
both_none a b e q = rw (e, q) refl

or_else_assoc : (a b c : Kinds) → or_else (or_else a b) c ≡ or_else a (or_else b c)
or_else_assoc [] b c = refl
or_else_assoc (k ∷ ks) b c = refl

-- ---- where the walk stands

abbrev pub Pending : Type 0
Pending = Option (Text × List Text)

abbrev pub held : List Row → Pending → Held
held rows pending = record { rows = rows; pending = pending; skip = 0 }

abbrev pub at : List Row → Pending → Waiting → ℕ → Bool → Walk
at rows pending waiting position trailing =
    record {
      held = held rows pending;
      waiting = waiting;
      position = position;
      is_trailing = trailing;
      stopped = None;
    }

-- the rows with what is pending
abbrev pub after : Kind → List Row → Pending → List Row
after kind rows pending = settled_rows (rules kind) pending rows

-- the faults of what is pending
abbrev pub settles : Kind → List Row → Pending → Kinds
settles kind rows pending = settle_fault (rules kind) false (held rows pending)

abbrev pub last : Kind → Text → Held → Kinds
last kind name h =
    or_else (settle_fault (rules kind) false h)
    (or_else (defaults_fault (settled (rules kind) h).rows (rules kind))
    (check_fault (leaf kind name) (finished (rules kind) h) false))

-- the faults of the words from here on, and the rows at their end
abbrev pub whole : Kind → Text → Walk → List Text → Kinds
whole kind name w words =
    or_else (walk_fault (leaf kind name) [] w words)
    (last kind name (fold (walked (rules kind) []) w words).held)

abbrev pub finish : Kind → Walk → List Text → List Row
finish kind w words = finished (rules kind) (fold (walked (rules kind) []) w words).held

pub more : (kind : Kind) (name : Text) (w : Walk) (word : Text) (words : List Text)
    → whole kind name w (word ∷ words)
    ≡ or_else (turn_fault (leaf kind name) [] w word)
    (whole kind name (walked (rules kind) [] w word) words)
unfolding walk_fault
more kind name w word words =
    or_else_assoc (turn_fault (leaf kind name) [] w word)
    (walk_fault (leaf kind name) [] (walked (rules kind) [] w word) words)
    (last kind name (fold (walked (rules kind) []) (walked (rules kind) [] w word) words).held)

pub no_more : (kind : Kind) (name : Text) (w : Walk) → whole kind name w [] ≡ last kind name w.held
unfolding walk_fault
no_more kind name w = refl

-- ---- the arguments by their names and places

pub room : (kind : Kind) (n : ℕ) → HasRoom kind n
    → arg_by_index (rules kind) (place kind n) ≡ Some (next_rule kind n)
room OfFile zero l = refl
room OfFile (suc n) l = absurd (omega (arith, l))
room OfRun zero l = refl
room OfRun (suc n) l = absurd (omega (arith, l))
room OfAudit zero l = refl
room OfAudit (suc zero) l = refl
room OfAudit (suc (suc n)) l = absurd (omega (arith, l))
room OfLink n l = refl

-- There is room for one more file, or no argument takes it.
pub room_or_full : (kind : Kind) (n : ℕ)
    → HasRoom kind n ⊎ (arg_by_index (rules kind) (place kind n) ≡ None)
room_or_full OfFile zero = inl (omega arith)
room_or_full OfFile (suc n) = inr (rw (ne_eqb 1 (suc (suc n)) (λ e. omega (arith, e))) refl)
room_or_full OfRun zero = inl (omega arith)
room_or_full OfRun (suc n) = inr (rw (ne_eqb 1 (suc (suc n)) (λ e. omega (arith, e))) refl)
room_or_full OfAudit zero = inl (omega arith)
room_or_full OfAudit (suc zero) = inl (omega arith)
room_or_full OfAudit (suc (suc n)) =
    inr (rw (
      ne_eqb 1 (suc (suc (suc n))) (λ e. omega (arith, e)),
      ne_eqb 2 (suc (suc (suc n))) (λ e. omega (arith, e)),
    ) refl)
room_or_full OfLink n = inl tt

pub word_by_id : (kind : Kind) (n : ℕ) → HasRoom kind n
    → arg_by_id (rules kind) (next_id kind n) ≡ Some (next_rule kind n)
word_by_id OfFile zero l = refl
word_by_id OfFile (suc n) l = absurd (omega (arith, l))
word_by_id OfRun zero l = refl
word_by_id OfRun (suc n) l = absurd (omega (arith, l))
word_by_id OfAudit zero l = refl
word_by_id OfAudit (suc zero) l = refl
word_by_id OfAudit (suc (suc n)) l = absurd (omega (arith, l))
word_by_id OfLink n l = refl

pub option_by_id : (kind : Kind) → HasOptions kind → (choice : Choice)
    → arg_by_id (rules kind) (id_of choice) ≡ Some (option_built choice)
option_by_id OfRun o Workers = refl
option_by_id OfRun o Fuel = refl
option_by_id OfLink o Workers = refl
option_by_id OfLink o Fuel = refl
option_by_id OfFile o choice = absurd o
option_by_id OfAudit o choice = absurd o

pub option_by_long : (kind : Kind) → HasOptions kind → (choice : Choice)
    → arg_by_long (rules kind) (id_of choice) ≡ Some (option_built choice)
option_by_long OfRun o Workers = refl
option_by_long OfRun o Fuel = refl
option_by_long OfLink o Workers = refl
option_by_long OfLink o Fuel = refl
option_by_long OfFile o choice = absurd o
option_by_long OfAudit o choice = absurd o

pub none_by_short : (kind : Kind) (x : ℕ) → arg_by_short (rules kind) x ≡ None
none_by_short OfFile x = refl
none_by_short OfRun x = refl
none_by_short OfAudit x = refl
none_by_short OfLink x = refl

-- ---- a use of an argument

repeat_none : (id : Text) (rows : List Row) → row_of_id id rows ≡ None
    → repeat_fault false id rows ≡ []
repeat_none id rows e = rw (none_has id rows e) refl

repeat_means : (id : Text) (rows : List Row) → repeat_fault false id rows ≡ []
    → row_of_id id rows ≡ None
repeat_means id rows e = go (has_row id rows) refl
  where
    go : (b : Bool) → has_row id rows ≡ b → row_of_id id rows ≡ None
    go true q =
        let bad : repeat_fault false id rows ≡ kind.ArgumentConflict ∷ [] = rw q refl in
        let z : kind.ArgumentConflict ∷ [] ≡ [] = sym bad ∙ e in absurd cc
    go false q = has_none id rows q

pub word_fits : (id : Text) (i : ℕ) (word : Text) (rows : List Row) → row_of_id id rows ≡ None
    → use_fault false (word_built id i) (word ∷ []) rows ≡ []
word_fits id i word rows e = rw (repeat_none id rows e) refl

small : (choice : Choice) → most_of choice < 2 ^ 64
small Workers = omega arith
small Fuel = omega arith

abbrev parser_of : Choice → ValueParser
parser_of choice = parser.Unsigned 1 (most_of choice)

accepted : (choice : Choice) (word : Text) (n : ℕ) → IsNumber (most_of choice) word n
    → accepts false (parser_of choice) word ≡ true
accepted choice word n is =
    let v : n ≡ digits_value 10 (without_leading_plus word) = is.value in
    Accepts-accepts false (parser_of choice) word (
      is.digits,
      omega (arith, small choice, is.within, v),
      omega (arith, is.some, v),
      omega (arith, is.within, v),
    )

number_of : (choice : Choice) (word : Text) → accepts false (parser_of choice) word ≡ true
    → IsNumber (most_of choice) word (digits_value 10 (without_leading_plus word))
number_of choice word e =
    let a = accepts-Accepts false (parser_of choice) word e
    in record { digits = a.0; value = refl; some = a.2; within = a.3 }

pub option_fits : (choice : Choice) (word : Text) (n : ℕ) (rows : List Row)
    → row_of_id (id_of choice) rows ≡ None → IsNumber (most_of choice) word n
    → use_fault false (option_built choice) (word ∷ []) rows ≡ []
option_fits choice word n rows e is =
    rw (repeat_none (id_of choice) rows e, accepted choice word n is) refl

values_mean : (choice : Choice) (word : Text) → values_fault (option_built choice) (word ∷ []) ≡ []
    → IsNumber (most_of choice) word (digits_value 10 (without_leading_plus word))
values_mean choice word e = go (accepts false (parser_of choice) word) refl
  where
    go : (b : Bool) → accepts false (parser_of choice) word ≡ b
        → IsNumber (most_of choice) word (digits_value 10 (without_leading_plus word))
    go true q = number_of choice word q
    go false q =
        let bad : values_fault (option_built choice) (word ∷ []) ≡ kind.ValueValidation ∷ [] =
        rw q refl in
        let z : kind.ValueValidation ∷ [] ≡ [] = sym bad ∙ e in absurd cc

pub option_means : (choice : Choice) (word : Text) (rows : List Row)
    → use_fault false (option_built choice) (word ∷ []) rows ≡ []
    → (row_of_id (id_of choice) rows ≡ None)
    × IsNumber (most_of choice) word (digits_value 10 (without_leading_plus word))
option_means choice word rows e = (
  repeat_means (id_of choice) rows
      (left_none (repeat_fault false (id_of choice) rows)
      (values_fault (option_built choice) (word ∷ [])) e),
  values_mean choice word
      (right_none (repeat_fault false (id_of choice) rows)
      (values_fault (option_built choice) (word ∷ [])) e),
)

-- ---- what is pending

module _ (rows : List Row) (files : List Text) (workers fuel : Option ℕ) where
  pub word_settles : (kind : Kind) → HasRoom kind (length files)
      → Found kind rows (all files workers fuel) → (word : Text)
      → settles kind rows (Some (next_id kind (length files), word ∷ [])) ≡ []
  word_settles OfFile l f word =
      rw (word_by_id OfFile (length files) l)
      (word_fits (id_at (length files)) (suc (length files)) word rows
      (none_at OfFile tt files workers fuel rows l f))
  word_settles OfRun l f word =
      rw (word_by_id OfRun (length files) l)
      (word_fits (id_at (length files)) (suc (length files)) word rows
      (none_at OfRun tt files workers fuel rows l f))
  word_settles OfAudit l f word =
      rw (word_by_id OfAudit (length files) l)
      (word_fits (id_at (length files)) (suc (length files)) word rows
      (none_at OfAudit tt files workers fuel rows l f))
  word_settles OfLink l f word = refl

  -- The next file is found once it isn't pending any more.
  pub word_found : (kind : Kind) → HasRoom kind (length files)
      → Found kind rows (all files workers fuel) → (word : Text)
      → Found kind (after kind rows (Some (next_id kind (length files), word ∷ [])))
      (all (files ++ word ∷ []) workers fuel)
  word_found OfFile l f word =
      rw (
        word_by_id OfFile (length files) l,
        row_added (id_at (length files)) word rows (none_at OfFile tt files workers fuel rows l f),
      )
      (file_found OfFile tt files workers fuel rows l f word)
  word_found OfRun l f word =
      rw (
        word_by_id OfRun (length files) l,
        row_added (id_at (length files)) word rows (none_at OfRun tt files workers fuel rows l f),
      )
      (file_found OfRun tt files workers fuel rows l f word)
  word_found OfAudit l f word =
      rw (
        word_by_id OfAudit (length files) l,
        row_added (id_at (length files)) word rows (none_at OfAudit tt files workers fuel rows l f),
      )
      (file_found OfAudit tt files workers fuel rows l f word)
  word_found OfLink l f word = link_found files workers fuel rows f word

module _ (k : Kind) (o : HasOptions k) (choice : Choice) (rows : List Row) where
  pub option_waits : settles k rows (Some (id_of choice, [])) ≡ [] → ⊥
  option_waits e =
      let bad : settles k rows (Some (id_of choice, [])) ≡ kind.InvalidValue ∷ [] =
      rw (option_by_id k o choice) refl in
      let z : kind.InvalidValue ∷ [] ≡ [] = sym bad ∙ e in cc

  pub option_settles : (word : Text)
      → settles k rows (Some (id_of choice, word ∷ []))
      ≡ use_fault false (option_built choice) (word ∷ []) rows
  option_settles word = rw (option_by_id k o choice) refl

  pub option_after_two : (word : Text) → row_of_id (id_of choice) rows ≡ None
      → after k rows (Some (id_of choice, word ∷ [])) ≡ rows ++ row (id_of choice) word ∷ []
  option_after_two word none =
      rw (option_by_id k o choice) (row_added (id_of choice) word rows none)

pub option_after : (choice : Choice) (rows : List Row) (word : Text)
    → row_of_id (id_of choice) rows ≡ None
    → used (option_built choice) (word ∷ []) rows ≡ rows ++ row (id_of choice) word ∷ []
option_after choice rows word none = row_added (id_of choice) word rows none

-- ---- a word that is no flag

pub rests_none : (r : Resting) (word : Text) → subcommand_met [] (rests r) word ≡ None
rests_none Idle word = refl
rests_none Several word = refl

plain_met : (k : Kind) (r : Resting) (trailing : Bool) (position : ℕ) (word : Text) (h : Held)
    → (trailing ≡ false → IsPlain word)
    → word_met (rules k) [] trailing (rests r) position word h ≡ (h, value)
plain_met k r true position word h is = refl
plain_met k Idle false position word h is =
    let p = is refl in rw (p.no_mark, p.no_long, p.no_short) refl
plain_met k Several false position word h is =
    let p = is refl in rw (p.no_mark, p.no_long, p.no_short) refl

word_faultless : (k : Kind) (name : Text) (r : Resting) (trailing : Bool) (word : Text) (h : Held)
    → (trailing ≡ false → IsPlain word)
    → word_fault (leaf k name) [] trailing (rests r) word h ≡ []
word_faultless k name r true word h is = refl
word_faultless k name r false word h is =
    let p = is refl in rw (rests_none r word, p.no_mark, p.no_long, p.no_short) refl

pub plain_turn : (k : Kind) (name : Text) (rows : List Row) (pending : Pending) (r : Resting)
    (position : ℕ) (trailing : Bool) (word : Text) → (trailing ≡ false → IsPlain word)
    → turn_fault (leaf k name) [] (at rows pending (rests r) position trailing) word
    ≡ step_fault (leaf k name) position (held rows pending) value
plain_turn k name rows pending r position trailing word is =
    rw (
      plain_met k r trailing position word (held rows pending) is,
      word_faultless k name r trailing word (held rows pending) is,
    ) refl

-- ---- a word that goes to an argument without a name

and_false : (b : Bool) → (b && false) ≡ false
and_false true = refl
and_false false = refl

or_false : (b : Bool) → (b || false) ≡ b
or_false true = refl
or_false false = refl

word_fault_is : (k : Kind) (n : ℕ) (h : Held)
    → positional_fault (rules k) false (next_rule k n) h ≡ settle_fault (rules k) false h
word_fault_is OfFile n h =
    rw (and_false (is_pending (word_built (id_at n) (suc n)) h.pending)) refl
word_fault_is OfRun n h =
    rw (and_false (is_pending (word_built (id_at n) (suc n)) h.pending)) refl
word_fault_is OfAudit n h =
    rw (and_false (is_pending (word_built (id_at n) (suc n)) h.pending)) refl
word_fault_is OfLink n h =
    rw (and_false (is_pending (words_built (codes "file") 1) h.pending)) refl

pub roomy_step : (k : Kind) (name : Text) (n : ℕ) → HasRoom k n
    → (rows : List Row) (pending : Pending)
    → step_fault (leaf k name) (place k n) (held rows pending) value ≡ settles k rows pending
roomy_step k name n l rows pending = rw (room k n l) (word_fault_is k n (held rows pending))

pub full_step : (k : Kind) (name : Text) (n : ℕ) → arg_by_index (rules k) (place k n) ≡ None
    → (rows : List Row) (pending : Pending)
    → step_fault (leaf k name) (place k n) (held rows pending) value ≡ [] → ⊥
full_step k name n full rows pending e =
    let bad : step_fault (leaf k name) (place k n) (held rows pending) value
    ≡ kind.UnknownArgument ∷ [] = rw full refl in
    let z : kind.UnknownArgument ∷ [] ≡ [] = sym bad ∙ e in cc

next_place : (n : ℕ) → n < 2 → min (suc n + 1) 18446744073709551615 ≡ suc (suc n)
next_place zero l = refl
next_place (suc zero) l = refl
next_place (suc (suc n)) l = absurd (omega (arith, l))

held_is : (k : Kind) (n : ℕ) (rows : List Row) (pending : Pending) (word : Text)
    → positional_held (rules k) (next_rule k n) word (held rows pending)
    ≡ held (after k rows pending) (Some (next_id k n, word ∷ []))
held_is OfFile n rows pending word =
    rw (and_false (is_pending (word_built (id_at n) (suc n)) pending)) refl
held_is OfRun n rows pending word =
    rw (and_false (is_pending (word_built (id_at n) (suc n)) pending)) refl
held_is OfAudit n rows pending word =
    rw (and_false (is_pending (word_built (id_at n) (suc n)) pending)) refl
held_is OfLink n rows pending word =
    rw (and_false (is_pending (words_built (codes "file") 1) pending)) refl

-- where the walk stands behind a file
abbrev pub behind : Kind → ℕ → List Row → Pending → Bool → Text → Walk
behind k n rows pending trailing word =
    at (after k rows pending) (Some (next_id k n, word ∷ [])) (rests (behind_file k))
    (place k (suc n)) trailing

pub given_walked : (k : Kind) (n : ℕ) → HasRoom k n
    → (rows : List Row) (pending : Pending) (waiting : Waiting) (trailing : Bool) (word : Text)
    → to_positional (rules k) (arg_by_index (rules k) (place k n)) word
    (at rows pending waiting (place k n) trailing) (held rows pending)
    ≡ behind k n rows pending trailing word
given_walked OfFile n l rows pending waiting trailing word =
    rw (
      room OfFile n l,
      held_is OfFile n rows pending word,
      next_place n (omega (arith, l)),
      or_false trailing,
    ) refl
given_walked OfRun n l rows pending waiting trailing word =
    rw (
      room OfRun n l,
      held_is OfRun n rows pending word,
      next_place n (omega (arith, l)),
      or_false trailing,
    ) refl
given_walked OfAudit n l rows pending waiting trailing word =
    rw (
      room OfAudit n l,
      held_is OfAudit n rows pending word,
      next_place n l,
      or_false trailing,
    ) refl
given_walked OfLink n l rows pending waiting trailing word =
    rw (held_is OfLink n rows pending word, or_false trailing) refl

pub plain_walked : (k : Kind) (n : ℕ) → HasRoom k n
    → (rows : List Row) (pending : Pending) (r : Resting) (trailing : Bool) (word : Text)
    → (trailing ≡ false → IsPlain word)
    → walked (rules k) [] (at rows pending (rests r) (place k n) trailing) word
    ≡ behind k n rows pending trailing word
unfolding walked
plain_walked k n l rows pending r trailing word is =
    rw (plain_met k r trailing (place k n) word (held rows pending) is)
    (given_walked k n l rows pending (rests r) trailing word)

-- ---- behind the mark

pub mark_turn : (k : Kind) (name : Text) (rows : List Row) (pending : Pending) (r : Resting)
    (position : ℕ)
    → turn_fault (leaf k name) [] (at rows pending (rests r) position false) (codes "--") ≡ []
mark_turn k name rows pending r position = rw (rests_none r (codes "--")) refl

pub mark_walked : (k : Kind) (rows : List Row) (pending : Pending) (r : Resting) (position : ℕ)
    → walked (rules k) [] (at rows pending (rests r) position false) (codes "--")
    ≡ at rows pending (rests r) position true
unfolding walked
mark_walked k rows pending r position = rw (rests_none r (codes "--")) refl

pub mark_walked_option : (k : Kind) (rows : List Row) (pending : Pending) (id : Text) (position : ℕ)
    → walked (rules k) [] (at rows pending (option id) position false) (codes "--")
    ≡ at rows pending (option id) position true
unfolding walked
mark_walked_option k rows pending id position = refl

pub trailing_turn : (k : Kind) (name : Text) (rows : List Row) (pending : Pending)
    (waiting : Waiting) (position : ℕ) (word : Text)
    → turn_fault (leaf k name) [] (at rows pending waiting position true) word
    ≡ step_fault (leaf k name) position (held rows pending) value
trailing_turn k name rows pending waiting position word = refl

pub trailing_walked : (k : Kind) (n : ℕ) → HasRoom k n
    → (rows : List Row) (pending : Pending) (waiting : Waiting) (word : Text)
    → walked (rules k) [] (at rows pending waiting (place k n) true) word
    ≡ behind k n rows pending true word
unfolding walked
trailing_walked k n l rows pending waiting word = given_walked k n l rows pending waiting true word

-- ---- a short flag

pub short_turn : (k : Kind) (name : Text) (rows : List Row) (pending : Pending) (waiting : Waiting)
    (position : ℕ) (word : Text) (flag : ℕ) (flags : Text)
    → subcommand_met [] waiting word ≡ None → bytes_eq word (codes "--") ≡ false
    → long_of word ≡ None → short_of word ≡ Some (flag ∷ flags)
    → (slice_get (chars (flag ∷ flags)) 0 ≡ None → ⊥)
    → turn_fault (leaf k name) [] (at rows pending waiting position false) word ≡ [] → ⊥
unfolding flags_fault
short_turn k name rows pending waiting position word flag flags none no_mark no_long short there e =
    go (slice_get (chars (flag ∷ flags)) 0) refl
  where
    go : (o : Option ℕ) → slice_get (chars (flag ∷ flags)) 0 ≡ o → ⊥
    go None q = there q
    go (Some x) q =
        let bad : word_fault (leaf k name) [] false waiting word (held rows pending)
        ≡ kind.UnknownArgument ∷ [] =
        rw (none, no_mark, no_long, short, q, none_by_short k x) refl in
        let z : kind.UnknownArgument ∷ [] ≡ [] =
        sym bad ∙ left_none (word_fault (leaf k name) [] false waiting word (held rows pending)) _ e
        in cc

-- ---- a long flag

-- The argument of a long name.
pub data Named (k : Kind) (name : Text) : Type 0 where
  Unnamed : arg_by_long (rules k) name ≡ None → Named k name
  Optional : (choice : Choice) → HasOptions k → name ≡ id_of choice
      → arg_by_long (rules k) name ≡ Some (option_built choice) → Named k name

named_by : (choice : Choice) (name : Text) → bytes_eq (id_of choice) name ≡ true
    → name ≡ id_of choice
named_by choice name e = sym ((bytes_eq-Decides (id_of choice) name).0 e)

pub named : (k : Kind) (name : Text) → Named k name
named OfFile name = Unnamed refl
named OfAudit name = Unnamed refl
named OfRun name = go (bytes_eq (id_of Workers) name) (bytes_eq (id_of Fuel) name) refl refl
  where
    go : (a b : Bool) → bytes_eq (id_of Workers) name ≡ a → bytes_eq (id_of Fuel) name ≡ b
        → Named OfRun name
    go true b e q = Optional Workers tt (named_by Workers name e) (rw e refl)
    go false true e q = Optional Fuel tt (named_by Fuel name q) (rw (e, q) refl)
    go false false e q = Unnamed (rw (e, q) refl)
named OfLink name = go (bytes_eq (id_of Workers) name) (bytes_eq (id_of Fuel) name) refl refl
  where
    go : (a b : Bool) → bytes_eq (id_of Workers) name ≡ a → bytes_eq (id_of Fuel) name ≡ b
        → Named OfLink name
    go true b e q = Optional Workers tt (named_by Workers name e) (rw e refl)
    go false true e q = Optional Fuel tt (named_by Fuel name q) (rw (e, q) refl)
    go false false e q = Unnamed (rw (e, q) refl)

pub or_else_none : (a : Kinds) → or_else a [] ≡ a
or_else_none [] = refl
or_else_none (k ∷ ks) = refl

module _ (k : Kind) (name : Text) (rows : List Row) (pending : Pending) (waiting : Waiting)
    (position : ℕ) (word : Text)
    (none : subcommand_met [] waiting word ≡ None) (no_mark : bytes_eq word (codes "--") ≡ false)
    (flag : Text) where
  pub unnamed_turn : (v : Option Text) → long_of word ≡ Some (flag, v)
      → arg_by_long (rules k) flag ≡ None
      → turn_fault (leaf k name) [] (at rows pending waiting position false) word ≡ [] → ⊥
  unnamed_turn v long by e =
      let bad : word_fault (leaf k name) [] false waiting word (held rows pending)
      ≡ kind.UnknownArgument ∷ [] = rw (none, no_mark, long, by) refl in
      let z : kind.UnknownArgument ∷ [] ≡ [] =
      sym bad ∙ left_none (word_fault (leaf k name) [] false waiting word (held rows pending)) _ e
      in cc

  pub two_turn : (choice : Choice) → long_of word ≡ Some (flag, None)
      → arg_by_long (rules k) flag ≡ Some (option_built choice)
      → turn_fault (leaf k name) [] (at rows pending waiting position false) word
      ≡ settles k rows pending
  two_turn choice long by = rw (none, no_mark, long, by) (or_else_none (settles k rows pending))

  pub one_turn : (choice : Choice) (v : Text) → long_of word ≡ Some (flag, Some v)
      → arg_by_long (rules k) flag ≡ Some (option_built choice)
      → turn_fault (leaf k name) [] (at rows pending waiting position false) word
      ≡ or_else (settles k rows pending)
      (use_fault false (option_built choice) (v ∷ []) (after k rows pending))
  one_turn choice v long by =
      rw (none, no_mark, long, by)
      (or_else_none
      (or_else (settles k rows pending)
      (use_fault false (option_built choice) (v ∷ []) (after k rows pending))))

module _ (k : Kind) (rows : List Row) (pending : Pending) (r : Resting) (position : ℕ) (word : Text)
    (no_mark : bytes_eq word (codes "--") ≡ false) (flag : Text) (choice : Choice)
    (by : arg_by_long (rules k) flag ≡ Some (option_built choice)) where
  pub two_walked : long_of word ≡ Some (flag, None)
      → walked (rules k) [] (at rows pending (rests r) position false) word
      ≡ at (after k rows pending) (Some (id_of choice, [])) (option (id_of choice)) position false
  unfolding walked
  two_walked long = rw (rests_none r word, no_mark, long, by) refl

  pub one_walked : (v : Text) → long_of word ≡ Some (flag, Some v)
      → walked (rules k) [] (at rows pending (rests r) position false) word
      ≡ at (used (option_built choice) (v ∷ []) (after k rows pending)) None idle position false
  unfolding walked
  one_walked v long = rw (rests_none r word, no_mark, long, by) refl

-- ---- the number of an option, as a word of its own

pub number_turn : (k : Kind) (choice : Choice) (name : Text) (rows : List Row) (position : ℕ)
    (word : Text) → IsPlain word
    → turn_fault (leaf k name) []
    (at rows (Some (id_of choice, [])) (option (id_of choice)) position false) word ≡ []
number_turn k choice name rows position word p = rw (p.no_mark, p.no_long, p.no_short) refl

number_word : (k : Kind) → HasOptions k → (choice : Choice) (rows : List Row) (word : Text)
    → option_word (arg_by_id (rules k) (id_of choice)) (id_of choice) word
    (held rows (Some (id_of choice, [])))
    ≡ (held rows (Some (id_of choice, word ∷ [])), idle)
number_word k o Workers rows word = rw (option_by_id k o Workers) refl
number_word k o Fuel rows word = rw (option_by_id k o Fuel) refl

pub number_walked : (k : Kind) → HasOptions k → (choice : Choice) (rows : List Row) (position : ℕ)
    (word : Text) → IsPlain word
    → walked (rules k) []
    (at rows (Some (id_of choice, [])) (option (id_of choice)) position false) word
    ≡ at rows (Some (id_of choice, word ∷ [])) idle position false
unfolding walked
number_walked k o choice rows position word p =
    rw (p.no_mark, p.no_long, p.no_short, number_word k o choice rows word) refl

-- ---- the end

default_kept : (a : Rule) (rows : List Row) → a.defaults ≡ [] → with_default rows a ≡ rows
default_kept a rows e = go (has_row a.id rows) refl
  where
    go : (b : Bool) → has_row a.id rows ≡ b → with_default rows a ≡ rows
    go true q = rw q refl
    go false q = rw (q, e) refl

default_faultless : (a : Rule) (rows : List Row) → a.defaults ≡ [] → default_fault rows a ≡ []
default_faultless a rows e = go (has_row a.id rows) refl
  where
    go : (b : Bool) → has_row a.id rows ≡ b → default_fault rows a ≡ []
    go true q = rw q refl
    go false q = rw (q, e) refl

no_defaults : (k : Kind) (rows : List Row) → fold with_default rows (rules k) ≡ rows
no_defaults OfFile rows = default_kept (word_built (codes "file") 1) rows refl
no_defaults OfRun rows =
    default_kept (word_built (codes "file") 1)
    (with_default (with_default rows (option_built Workers)) (option_built Fuel)) refl
    ∙ default_kept (option_built Fuel) (with_default rows (option_built Workers)) refl
    ∙ default_kept (option_built Workers) rows refl
no_defaults OfLink rows =
    default_kept (words_built (codes "file") 1)
    (with_default (with_default rows (option_built Workers)) (option_built Fuel)) refl
    ∙ default_kept (option_built Fuel) (with_default rows (option_built Workers)) refl
    ∙ default_kept (option_built Workers) rows refl
no_defaults OfAudit rows =
    default_kept (word_built (codes "record") 2) (with_default rows (word_built (codes "file") 1))
    refl ∙ default_kept (word_built (codes "file") 1) rows refl

defaults_faultless : (k : Kind) (rows : List Row) → defaults_fault rows (rules k) ≡ []
unfolding defaults_fault
defaults_faultless OfFile rows =
    both_none _ _ (default_faultless (word_built (codes "file") 1) rows refl) refl
defaults_faultless OfRun rows =
    both_none (default_fault rows (option_built Workers)) _
    (default_faultless (option_built Workers) rows refl)
    (both_none (default_fault (with_default rows (option_built Workers)) (option_built Fuel)) _
    (default_faultless (option_built Fuel) (with_default rows (option_built Workers)) refl)
    (both_none
    (default_fault
    (with_default (with_default rows (option_built Workers)) (option_built Fuel))
    (word_built (codes "file") 1)) _
    (default_faultless (word_built (codes "file") 1)
    (with_default (with_default rows (option_built Workers)) (option_built Fuel)) refl)
    refl))
defaults_faultless OfLink rows =
    both_none (default_fault rows (option_built Workers)) _
    (default_faultless (option_built Workers) rows refl)
    (both_none (default_fault (with_default rows (option_built Workers)) (option_built Fuel)) _
    (default_faultless (option_built Fuel) (with_default rows (option_built Workers)) refl)
    (both_none
    (default_fault
    (with_default (with_default rows (option_built Workers)) (option_built Fuel))
    (words_built (codes "file") 1)) _
    (default_faultless (words_built (codes "file") 1)
    (with_default (with_default rows (option_built Workers)) (option_built Fuel)) refl)
    refl))
defaults_faultless OfAudit rows =
    both_none (default_fault rows (word_built (codes "file") 1)) _
    (default_faultless (word_built (codes "file") 1) rows refl)
    (both_none
    (default_fault (with_default rows (word_built (codes "file") 1))
    (word_built (codes "record") 2)) _
    (default_faultless (word_built (codes "record") 2)
    (with_default rows (word_built (codes "file") 1)) refl) refl)

pub finished_is : (k : Kind) (rows : List Row) (pending : Pending)
    → finished (rules k) (held rows pending) ≡ after k rows pending
finished_is k rows pending = no_defaults k (after k rows pending)

pub last_is : (k : Kind) (name : Text) (rows : List Row) (pending : Pending)
    → last k name (held rows pending)
    ≡ or_else (settles k rows pending) (check_fault (leaf k name) (after k rows pending) false)
last_is k name rows pending =
    rw (defaults_faultless k (after k rows pending), no_defaults k (after k rows pending)) refl

module _ (name : Text) (rows : List Row) (workers fuel : Option ℕ) where
  pub nothing_wanting : (k : Kind) (files : List Text) → Found k rows (all files workers fuel)
      → AsMany k (length files) → check_fault (leaf k name) rows false ≡ []
  nothing_wanting OfFile [] f l = absurd (omega (arith, l))
  nothing_wanting OfFile (x ∷ files) f l = rw (f.file) refl
  nothing_wanting OfRun [] f l = absurd (omega (arith, l))
  nothing_wanting OfRun (x ∷ files) f l = rw (f.file) refl
  nothing_wanting OfAudit [] f l = absurd (omega (arith, l))
  nothing_wanting OfAudit (x ∷ []) f l = absurd (omega (arith, l))
  nothing_wanting OfAudit (x ∷ y ∷ files) f l = rw (f.file, f.kept) refl
  nothing_wanting OfLink [] f l = absurd (omega (arith, l))
  nothing_wanting OfLink (x ∷ files) f l = rw (f.file) refl

  wanting : (k : Kind) → check_fault (leaf k name) rows false ≡ []
      → check_fault (leaf k name) rows false ≡ kind.MissingRequiredArgument ∷ [] → ⊥
  wanting k e bad = let z : kind.MissingRequiredArgument ∷ [] ≡ [] = sym bad ∙ e in cc

  pub all_there : (k : Kind) (files : List Text) → Found k rows (all files workers fuel)
      → Within k (length files) → check_fault (leaf k name) rows false ≡ []
      → AsMany k (length files)
  all_there OfFile [] f l e = absurd (wanting OfFile e (rw (f.file) refl))
  all_there OfFile (x ∷ files) f l e = omega (arith, l)
  all_there OfRun [] f l e = absurd (wanting OfRun e (rw (f.file) refl))
  all_there OfRun (x ∷ files) f l e = omega (arith, l)
  all_there OfAudit [] f l e = absurd (wanting OfAudit e (rw (f.file) refl))
  all_there OfAudit (x ∷ []) f l e = absurd (wanting OfAudit e (rw (f.file, f.kept) refl))
  all_there OfAudit (x ∷ y ∷ files) f l e = omega (arith, l)
  all_there OfLink [] f l e = absurd (wanting OfLink e (rw (f.file) refl))
  all_there OfLink (x ∷ files) f l e = omega arith
